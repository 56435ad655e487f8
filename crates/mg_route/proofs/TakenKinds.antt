-- Which packets a law refuses that hands packets on: at most that of the one port that has a kind of its own.
use Rattle.std.proofs.Common.{◌≡◌, ℕ, zero, suc, ◌+◌, ◌<◌, Bool, false, ◌||◌, ◌==◌, List, [], ◌∷◌, Option, Some, None, if◌then◌else◌, refl, sym, ap, ◌∙◌, arith}
use Rattle.std.proofs.lemmas.Bool.{eq-eqb, ne_eqb}
use Rattle.std.proofs.Math.Bool.{or-false}
use Rattle.std.specs.List.{list_any, enumerate_from}
use Rattle.mg_value.specs.Plain.{Plain}
use Rattle.mg_value.specs.Packet.{Stamped}
use Rattle.mg_value.specs.declared.kind.Kind.{Kind}
use Rattle.mg_value.specs.declared.kind.Kind.TheVariants.{Any, Flag, Int}
use Rattle.mg_calc.specs.declared.law.Law.{Law}
use Rattle.mg_calc.specs.declared.law.Law.TheVariants.{Pass, Gate, Mux, Cloner, Merge, Thin}
use Rattle.mg_calc.specs.Kinds.{is_wrong, has_wrong_kind}
use Rattle.mg_calc.specs.Shape.{input_kind, IsRouting}
use Rattle.mg_calc.specs.Values.{place_at}

-- A law whose inputs are of any kind refuses nothing.
none_wrong : (law : Law) → ((i : ℕ) → input_kind law i ≡ Any) → (i : ℕ) (places : List (Option (Stamped Plain)))
    → list_any (λ e. is_wrong (input_kind law e.0) e.1) (enumerate_from i places) ≡ false
none_wrong law any i [] = refl
none_wrong law any i (None ∷ places) = none_wrong law any (i + 1) places
none_wrong law any i (Some p ∷ places) =
    ap (λ (kind : Kind). is_wrong kind (Some p) || list_any (λ e. is_wrong (input_kind law e.0) e.1) (enumerate_from (i + 1) places)) (any i)
    ∙ none_wrong law any (i + 1) places

pub takes_any : (law : Law) → ((i : ℕ) → input_kind law i ≡ Any) → (set : List (Option (Stamped Plain))) → has_wrong_kind law set ≡ false
takes_any law any set = none_wrong law any 0 set

-- A law with one port of a kind of its own refuses what isn't of that kind there.
module _ (kind : Kind) (port : ℕ) where
  abbrev kind_at : ℕ → Kind
  kind_at i = if i == port then kind else Any

  abbrev some_wrong : ℕ → List (Option (Stamped Plain)) → Bool
  some_wrong i places = list_any (λ e. is_wrong (kind_at e.0) e.1) (enumerate_from i places)

  any_at : (i : ℕ) (place : Option (Stamped Plain)) → (i == port) ≡ false → is_wrong (kind_at i) place ≡ false
  any_at i None other = refl
  any_at i (Some p) other = ap (λ (is : Bool). is_wrong (if is then kind else Any) (Some p)) other

  behind : (i : ℕ) (places : List (Option (Stamped Plain))) → port < i → some_wrong i places ≡ false
  behind i [] above = refl
  behind i (place ∷ places) above =
      ap (λ (wrong : Bool). wrong || some_wrong (i + 1) places) (any_at i place (ne_eqb i port (λ same. omega (arith, above, same))))
      ∙ behind (i + 1) places (omega (arith, above))

  at_port : (i k : ℕ) (places : List (Option (Stamped Plain))) → i + k ≡ port → some_wrong i places ≡ is_wrong kind (place_at places k)
  at_port i k [] is = refl
  at_port i zero (place ∷ places) is =
      ap (λ (is : Bool). is_wrong (if is then kind else Any) place || some_wrong (i + 1) places) (eq-eqb i port (omega (arith, is)))
      ∙ ap (λ (rest : Bool). is_wrong kind place || rest) (behind (i + 1) places (omega (arith, is)))
      ∙ or-false (is_wrong kind place)
  at_port i (suc k) (place ∷ places) is =
      ap (λ (wrong : Bool). wrong || some_wrong (i + 1) places) (any_at i place (ne_eqb i port (λ same. omega (arith, is, same))))
      ∙ at_port (i + 1) k places (omega (arith, is))

pub gate_refuses : (lanes : ℕ) (disallow empty_as_allow : Bool) (set : List (Option (Stamped Plain)))
    → has_wrong_kind (Gate lanes disallow empty_as_allow) set ≡ is_wrong Flag (place_at set lanes)
gate_refuses lanes disallow empty_as_allow set = at_port Flag lanes 0 lanes set (omega arith)

pub mux_refuses : (lanes : ℕ) (set : List (Option (Stamped Plain))) → has_wrong_kind (Mux lanes) set ≡ is_wrong Int (place_at set lanes)
mux_refuses lanes set = at_port Int lanes 0 lanes set (omega arith)

-- the other laws that hand packets on refuse nothing
pub others_take : (law : Law) → IsRouting law → ((lanes : ℕ) (disallow empty_as_allow : Bool) → law ≡ Gate lanes disallow empty_as_allow → ⊥) → ((lanes : ℕ) → law ≡ Mux lanes → ⊥)
    → (set : List (Option (Stamped Plain))) → false ≡ has_wrong_kind law set
others_take Pass routing gate mux set = sym (takes_any Pass (λ i. refl) set)
others_take (Cloner lanes) routing gate mux set = sym (takes_any (Cloner lanes) (λ i. refl) set)
others_take (Merge lanes) routing gate mux set = sym (takes_any (Merge lanes) (λ i. refl) set)
others_take (Thin period) routing gate mux set = sym (takes_any (Thin period) (λ i. refl) set)
others_take (Gate lanes disallow empty_as_allow) routing gate mux set = absurd (gate lanes disallow empty_as_allow refl)
others_take (Mux lanes) routing gate mux set = absurd (mux lanes refl)
others_take law routing gate mux set = absurd routing
