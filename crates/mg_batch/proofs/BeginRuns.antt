-- What a BeginLoop gives of the batches that it is shown: the end of each, and their items at inner times.
use Rattle.std.proofs.Common.{◌≡◌, ℕ, zero, suc, pos, ◌+◌, ◌-◌, ◌^◌, nat_le, Bool, true, false, List, [], ◌∷◌, ◌++◌, map, length, Option, Some, None, option_map, unwrap_or, slice_get, Ok, Err, refl, sym, ap, ap₂, subst, ◌∙◌, if◌then◌else◌, arith}
use Rattle.std.specs.List.{filter_map, cons_option}
use Rattle.std.proofs.lemmas.Option.{slice_get-map}
use Rattle.std.proofs.lemmas.List.FromFn.{length-map-range_with_len}
use Rattle.mg_time.specs.Time.{raw_of}
use Rattle.mg_value.specs.Plain.{Plain, int}
use Rattle.mg_value.specs.Packet.{Stamped}
use Rattle.mg_settled.specs.Prefix.{StreamPrefix}
use Rattle.mg_settled.specs.Settled.{TimedSet, packet_at, set_at}
use Rattle.mg_calc.specs.declared.law.Law.TheVariants.{BeginLoop}
use Rattle.mg_calc.specs.declared.emission.Laid.{Laid}
use Rattle.mg_calc.specs.declared.cause.Cause.TheVariants.{WrongKind, Overflow}
use Rattle.mg_calc.specs.State.{state_of, count_in}
use Rattle.mg_calc.specs.Values.{place_at}
use Rattle.mg_calc.specs.Kinds.{has_wrong_kind}
use Rattle.mg_calc.specs.Batch.{inner_time, at_inner_times, last_inner, laid_up_to, copies, clones_laid, batch, batch_of, begun_batch}
use Rattle.mg_calc.specs.Law.{step}
use Rattle.mg_batch.proofs.Runs.{Runs, emitted}

-- a batch by what ITERABLE has at a time, if there is one: the time, and the items
abbrev pub batch_at : Bool → ℕ → Option (Stamped Plain) → Option (Stamped (List Plain))
batch_at always_end t o = option_map (λ list. record { at = t; value = list }) (batch_of always_end o)

-- the ends of batches whose inner times begin at a number, and the items
abbrev pub ends_from : ℕ → List (Stamped (List Plain)) → List (Stamped Plain)
ends_from c [] = []
ends_from c (b ∷ bs) =
    record { at = inner_time (last_inner c (length b.value)); value = int (raw_of b.at) } ∷ ends_from (last_inner c (length b.value) + 1) bs

abbrev pub items_from : ℕ → List (Stamped (List Plain)) → List (Stamped Plain)
items_from c [] = []
items_from c (b ∷ bs) = at_inner_times c b.value ++ items_from (last_inner c (length b.value) + 1) bs

-- what an answer leaves and emits for a list at a time, or for none
pub record Begun (clones : ℕ) (state : List Plain) (t : ℕ) (given : List Plain × List Laid) (list : List Plain) : Type 0 where
  pub next : count_in given.0 ≡ last_inner (count_in state) (length list) + 1
  pub end : emitted 0 given.1 ≡ record { at = inner_time (last_inner (count_in state) (length list)); value = int (raw_of t) } ∷ []
  pub items : emitted (clones + 1) given.1 ≡ at_inner_times (count_in state) list

abbrev Gives : ℕ → List Plain → ℕ → Option (List Plain) → List Plain × List Laid → Type 0
Gives clones state t None given = (given.0 ≡ state) × (given.1 ≡ [])
Gives clones state t (Some list) given = Begun clones state t given list

-- ITEM stands after the outputs CLONE
after_all : (xs : List Laid) (y : Laid) (n : ℕ) → length xs ≡ n → slice_get (xs ++ y ∷ []) n ≡ Some y
after_all [] y zero long = refl
after_all [] y (suc n) long = absurd (omega (arith, long))
after_all (x ∷ xs) y zero long = absurd (omega (arith, long))
after_all (x ∷ xs) y (suc n) long = after_all xs y n (omega (arith, long))

after_clones : (clones c last count : ℕ) (set : List (Option (Stamped Plain))) (first laid : Laid) → emitted (clones + 1) (first ∷ (clones_laid clones c last count set ++ laid ∷ [])) ≡ laid.packets
after_clones clones c last count set first laid =
    let next : clones + 1 ≡ suc clones = omega arith in
    ap (λ (n : ℕ). emitted n (first ∷ (clones_laid clones c last count set ++ laid ∷ []))) next
    ∙ ap (λ (o : Option Laid). unwrap_or (option_map (λ l. l.packets) o) [])
    (after_all (clones_laid clones c last count set) laid clones (length-map-range_with_len (λ i. laid_up_to last (copies c count (place_at set i))) 0 clones))

begun : (clones : ℕ) (state : List Plain) (t : ℕ) (list : List Plain) (set : List (Option (Stamped Plain))) (given : List Plain × List Laid) → begun_batch clones (count_in state) t list set ≡ Ok given → Begun clones state t given list
begun clones state t list set given is = by (nat_le (last_inner (count_in state) (length list) + 1) (2 ^ 63 - 4)) is
  where
    last : ℕ
    last = last_inner (count_in state) (length list)

    made : Begun clones state t (state_of (pos (last + 1)), batch clones (count_in state) last t list set) list
    made = record {
      next = refl;
      end = refl;
      items = after_clones clones (count_in state) last (length list) set (laid_up_to last (record { at = inner_time last; value = int (raw_of t) } ∷ [])) (laid_up_to last (at_inner_times (count_in state) list));
    }

    by : (b : Bool) → (if b then Ok (state_of (pos (last + 1)), batch clones (count_in state) last t list set) else Err Overflow) ≡ Ok given → Begun clones state t given list
    by true is = (
        let same : (state_of (pos (last + 1)), batch clones (count_in state) last t list set) ≡ given = cc in
        subst (λ (g : List Plain × List Laid). Begun clones state t g list) same made
        )
    by false is = absurd cc

step_gives : (clones : ℕ) (always_end : Bool) (state : List Plain) (t : ℕ) (set : List (Option (Stamped Plain))) (o : Option (Stamped Plain)) (given : List Plain × List Laid) → place_at set clones ≡ o
    → step (BeginLoop clones always_end) state t set ≡ Ok given → Gives clones state t (batch_of always_end o) given
step_gives clones always_end state t set o given at is = by_kind (has_wrong_kind (BeginLoop clones always_end) set) is
  where
    by_list : (q : Option (List Plain)) → unwrap_or (option_map (λ list. begun_batch clones (count_in state) t list set) q) (Ok (state, [])) ≡ Ok given → Gives clones state t q given
    by_list None is = (let same : (state, []) ≡ given = cc in (ap (λ (g : List Plain × List Laid). g.0) (sym same), ap (λ (g : List Plain × List Laid). g.1) (sym same)))
    by_list (Some list) is = begun clones state t list set given is

    by_kind : (b : Bool)
        → (if b then Err WrongKind else unwrap_or (option_map (λ list. begun_batch clones (count_in state) t list set) (batch_of always_end (place_at set clones))) (Ok (state, []))) ≡ Ok given
        → Gives clones state t (batch_of always_end o) given
    by_kind true is = absurd cc
    by_kind false is =
        subst (λ (q : Option (Stamped Plain)). Gives clones state t (batch_of always_end q) given) at (by_list (batch_of always_end (place_at set clones)) is)

-- what is at a port of the set at a time
pub port_place : (ss : List (StreamPrefix Plain)) (port t : ℕ) (s : StreamPrefix Plain) → slice_get ss port ≡ Some s → place_at (set_at t ss) port ≡ packet_at t s.packets
port_place ss port t s there =
    ap (λ (o : Option (Option (Stamped Plain))). unwrap_or o None) (slice_get-map (λ (x : StreamPrefix Plain). packet_at t x.packets) ss port ∙ ap (option_map (λ (x : StreamPrefix Plain). packet_at t x.packets)) there)

module _ (clones : ℕ) (always_end : Bool) (ss : List (StreamPrefix Plain)) (s : StreamPrefix Plain) (there : slice_get ss clones ≡ Some s) where
  abbrev pub at_times : List ℕ → List (TimedSet Plain)
  at_times us = map (λ t. record { at = t; set = set_at t ss }) us

  abbrev pub shown_batches : List ℕ → List (Stamped (List Plain))
  shown_batches us = filter_map (λ t. batch_at always_end t (packet_at t s.packets)) us

  ends_step : (state : List Plain) (u : ℕ) (rest : List (Stamped Plain)) (given : List Plain × List Laid) (bs : List (Stamped (List Plain))) (o : Option (List Plain)) → Gives clones state u o given
      → rest ≡ ends_from (count_in given.0) bs → emitted 0 given.1 ++ rest ≡ ends_from (count_in state) (cons_option (option_map (λ list. record { at = u; value = list }) o) bs)
  ends_step state u rest given bs None h is =
      ap₂ (λ (em : List Laid) (xs : List (Stamped Plain)). emitted 0 em ++ xs) h.1 (is ∙ ap (λ (st : List Plain). ends_from (count_in st) bs) h.0)
  ends_step state u rest given bs (Some list) h is =
      ap₂ (λ (xs ys : List (Stamped Plain)). xs ++ ys) h.end (is ∙ ap (λ (c : ℕ). ends_from c bs) h.next)

  items_step : (state : List Plain) (u : ℕ) (rest : List (Stamped Plain)) (given : List Plain × List Laid) (bs : List (Stamped (List Plain))) (o : Option (List Plain)) → Gives clones state u o given
      → rest ≡ items_from (count_in given.0) bs → emitted (clones + 1) given.1 ++ rest ≡ items_from (count_in state) (cons_option (option_map (λ list. record { at = u; value = list }) o) bs)
  items_step state u rest given bs None h is =
      ap₂ (λ (em : List Laid) (xs : List (Stamped Plain)). emitted (clones + 1) em ++ xs) h.1 (is ∙ ap (λ (st : List Plain). items_from (count_in st) bs) h.0)
  items_step state u rest given bs (Some list) h is =
      ap₂ (λ (xs ys : List (Stamped Plain)). xs ++ ys) h.items (is ∙ ap (λ (c : ℕ). items_from c bs) h.next)

  pub ends_run : (state : List Plain) (us : List ℕ) (ps : List (Stamped Plain)) → Runs (BeginLoop clones always_end) state (at_times us) 0 ps → ps ≡ ends_from (count_in state) (shown_batches us)
  ends_run state [] ps h = h
  ends_run state (u ∷ us) ps h =
      h.3 ∙ ends_step state u h.1 h.0 (shown_batches us) (batch_of always_end (packet_at u s.packets))
      (step_gives clones always_end state u (set_at u ss) (packet_at u s.packets) h.0 (port_place ss clones u s there) h.2) (ends_run h.0.0 us h.1 h.4)

  pub items_run : (state : List Plain) (us : List ℕ) (ps : List (Stamped Plain)) → Runs (BeginLoop clones always_end) state (at_times us) (clones + 1) ps → ps ≡ items_from (count_in state) (shown_batches us)
  items_run state [] ps h = h
  items_run state (u ∷ us) ps h =
      h.3 ∙ items_step state u h.1 h.0 (shown_batches us) (batch_of always_end (packet_at u s.packets))
      (step_gives clones always_end state u (set_at u ss) (packet_at u s.packets) h.0 (port_place ss clones u s there) h.2) (items_run h.0.0 us h.1 h.4)
