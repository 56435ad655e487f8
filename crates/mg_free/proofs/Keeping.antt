-- What is kept of a free node goes on as the free law says.
use Rattle.std.proofs.Common.{◌≡◌, ℕ, ◌-◌, max, Bool, true, false, not, ◌&&◌, ◌==◌, nat_lt, nat_le, List, [], ◌∷◌, ◌++◌, length, if◌then◌else◌, refl, sym, ap, ◌∙◌, arith, lt-ltb, le-ltb}
use Rattle.std.proofs.lemmas.List.{append_assoc}
use Rattle.mg_time.specs.Time.{post_stream, next}
use Rattle.mg_value.specs.Payload.{Plain}
use Rattle.mg_value.specs.Packet.{Stamped}
use Rattle.mg_settled.specs.Prefix.{raised}
use Rattle.mg_free.specs.declared.law.FreeLaw.{FreeLaw}
use Rattle.mg_free.specs.declared.law.FreeLaw.TheVariants.{FirstCome, Limiter}
use Rattle.mg_free.specs.Code.Room.{can_go_behind, lays_on, rest_laid, rest_passed, rest_arrived}
use Rattle.mg_free.specs.Free.{Arrival, Flow, FreeRest, IsRestOf, begun, nothing_laid, can_follow, is_laid, risen, with_laid, without_laid, arrived}

-- at first
pub nothing_gone : IsRestOf begun nothing_laid
nothing_gone = record { gone = []; packets = refl; count = refl; bound = refl; flight = refl }

-- Whether an arrival is laid.

-- nothing is gone, or something is
none_gone : (above post some : Bool) → ((above && not (post && some)) && not (post && false)) ≡ (above && not (post && some))
none_gone false false false = refl
none_gone false false true = refl
none_gone false true false = refl
none_gone false true true = refl
none_gone true false false = refl
none_gone true false true = refl
none_gone true true false = refl
none_gone true true true = refl

some_gone : (above post some : Bool) → ((above && not (post && some)) && not (post && true)) ≡ (above && not (post && true))
some_gone false false false = refl
some_gone false false true = refl
some_gone false true false = refl
some_gone false true true = refl
some_gone true false false = refl
some_gone true false true = refl
some_gone true true false = refl
some_gone true true true = refl

same_behind : (bound at handed : ℕ) (gone ps : List (Stamped Plain)) → handed ≡ length gone
    → ((nat_le bound at && not ((at == post_stream) && nat_lt 0 (length ps))) && not ((at == post_stream) && nat_lt 0 handed)) ≡ (nat_le bound at && not ((at == post_stream) && nat_lt 0 (length (gone ++ ps))))
same_behind bound at handed [] ps is =
    let none : nat_lt 0 handed ≡ false = le-ltb 0 handed (omega (arith, is)) in
    ap (λ (b : Bool). (nat_le bound at && not ((at == post_stream) && nat_lt 0 (length ps))) && not ((at == post_stream) && b)) none
    ∙ none_gone (nat_le bound at) (at == post_stream) (nat_lt 0 (length ps))
same_behind bound at handed (g ∷ gone) ps is =
    let some : nat_lt 0 handed ≡ true = lt-ltb 0 handed (omega (arith, is)) in
    let all : nat_lt 0 (length (g ∷ (gone ++ ps))) ≡ true = lt-ltb 0 (length (g ∷ (gone ++ ps))) (omega arith) in
    ap (λ (b : Bool). (nat_le bound at && not ((at == post_stream) && nat_lt 0 (length ps))) && not ((at == post_stream) && b)) some
    ∙ some_gone (nat_le bound at) (at == post_stream) (nat_lt 0 (length ps))
    ∙ ap (λ (b : Bool). nat_le bound at && not ((at == post_stream) && b)) (sym all)

can_same : (flow : Flow Plain) (rest : FreeRest) (at : ℕ) → IsRestOf flow rest → can_go_behind rest at ≡ can_follow flow.output at
can_same flow rest at h =
    same_behind rest.piece.bound at rest.handed h.gone rest.piece.packets h.count
    ∙ ap (λ (ps : List (Stamped Plain)). nat_le rest.piece.bound at && not ((at == post_stream) && nat_lt 0 (length ps))) (sym h.packets)
    ∙ ap (λ (b : ℕ). nat_le b at && not ((at == post_stream) && nat_lt 0 (length flow.output.packets))) (sym h.bound)

pub laid_same : (law : FreeLaw) (flow : Flow Plain) (rest : FreeRest) (a : Arrival Plain) → IsRestOf flow rest → lays_on law rest a ≡ is_laid law flow a
laid_same (FirstCome lanes) flow rest a h = can_same flow rest a.packet.at h
laid_same (Limiter most) flow rest a h = ap (λ (n : ℕ). (a.port == 0) && nat_lt n most) (sym h.flight)

-- What is kept then.

laid_on : (law : FreeLaw) (flow : Flow Plain) (rest : FreeRest) (p : Stamped Plain) → IsRestOf flow rest → IsRestOf (with_laid law flow p) (rest_laid law rest p)
laid_on law flow rest p h = record {
  gone = h.gone;
  packets = ap (λ (ps : List (Stamped Plain)). ps ++ p ∷ []) h.packets ∙ append_assoc h.gone rest.piece.packets (p ∷ []);
  count = h.count;
  bound = refl;
  flight = ap (λ (n : ℕ). risen law n) h.flight;
}

-- one of two, by one test
one_of : (x y : Bool) (f g : Flow Plain) (r s : FreeRest) → x ≡ y → IsRestOf f r → IsRestOf g s → IsRestOf (if y then f else g) (if x then r else s)
one_of true true f g r s e one two = one
one_of true false f g r s e one two = absurd cc
one_of false true f g r s e one two = absurd cc
one_of false false f g r s e one two = two

-- what a Limiter keeps of a packet that it drops, and of one of FINISHED
abbrev dropped : FreeRest → Arrival Plain → FreeRest
dropped rest a = record { piece = raised rest.piece (next a.packet.at); handed = rest.handed; in_flight = rest.in_flight }

abbrev finished : FreeRest → FreeRest
finished rest = record { piece = rest.piece; handed = rest.handed; in_flight = rest.in_flight - 1 }

passed_on : (law : FreeLaw) (flow : Flow Plain) (rest : FreeRest) (a : Arrival Plain) → IsRestOf flow rest → IsRestOf (without_laid law flow a) (rest_passed law rest a)
passed_on (FirstCome lanes) flow rest a h = h
passed_on (Limiter most) flow rest a h =
    one_of (a.port == 0) (a.port == 0) (record { output = raised flow.output (next a.packet.at); in_flight = flow.in_flight }) (record { output = flow.output; in_flight = flow.in_flight - 1 }) (dropped rest a) (finished rest) refl
    (record { gone = h.gone; packets = h.packets; count = h.count; bound = ap (λ (n : ℕ). max n (next a.packet.at)) h.bound; flight = h.flight })
    (record { gone = h.gone; packets = h.packets; count = h.count; bound = h.bound; flight = ap (λ (n : ℕ). n - 1) h.flight })

pub arrived_on : (law : FreeLaw) (flow : Flow Plain) (rest : FreeRest) (a : Arrival Plain) → IsRestOf flow rest → IsRestOf (arrived law flow a) (rest_arrived law rest a)
arrived_on law flow rest a h =
    one_of (lays_on law rest a) (is_laid law flow a) (with_laid law flow a.packet) (without_laid law flow a) (rest_laid law rest a.packet) (rest_passed law rest a) (laid_same law flow rest a h) (laid_on law flow rest a.packet h) (passed_on law flow rest a h)

-- An arrival hands on nothing.

same_handed : (x : Bool) (r s : FreeRest) (n : ℕ) → r.handed ≡ n → s.handed ≡ n → (if x then r else s).handed ≡ n
same_handed true r s n one two = one
same_handed false r s n one two = two

passed_handed : (law : FreeLaw) (rest : FreeRest) (a : Arrival Plain) → (rest_passed law rest a).handed ≡ rest.handed
passed_handed (FirstCome lanes) rest a = refl
passed_handed (Limiter most) rest a = same_handed (a.port == 0) (dropped rest a) (finished rest) rest.handed refl refl

pub handed_stays : (law : FreeLaw) (rest : FreeRest) (a : Arrival Plain) → (rest_arrived law rest a).handed ≡ rest.handed
handed_stays law rest a = same_handed (lays_on law rest a) (rest_laid law rest a.packet) (rest_passed law rest a) rest.handed refl (passed_handed law rest a)
