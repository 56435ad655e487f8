-- No line of an event has a line feed within. So the lines of events are found again in their text, and so are the events.
use Rattle.std.proofs.Common.{◌≡◌, ◌<◌, ◌^◌, ◌==◌, ◌||◌, ℕ, Bool, true, false, List, [], ◌∷◌, ◌++◌, All, get_or, codes, decimal, refl, sym, ap, ◌∙◌, arith, append_assoc}
use Rattle.std.specs.List.{AllByRecursion as Each}
use Rattle.std.specs.Str.Parse.{AllDigits}
use Rattle.std.proofs.lemmas.Bool.{false≢true}
use Rattle.std.proofs.lemmas.Fmt.{decimal_is_IsNumeral}
use Rattle.std.proofs.lemmas.List.{append_cancel_left}
use Rattle.std.proofs.lemmas.List.Elements.{recursion_from_All}
use Rattle.std.proofs.lemmas.Str.Parse.{digit_from_value}
use Rattle.mg_calc.specs.Plan.{IsValid}
use Rattle.mg_calc.specs.declared.event.Event.{Event}
use Rattle.mg_calc.specs.declared.event.Event.TheVariants.{Deliver, Advance, Claim, Perform, Commit, Relax}
use Rattle.mg_calc.specs.declared.inputs.Inputs.{Inputs}
use Rattle.mg_calc.specs.declared.plan.Plan.{Plan}
use Rattle.mg_trace.specs.Event.{IsEventOf, event_line, event_text}
use Rattle.mg_trace.specs.Job.{job_text}
use Rattle.mg_trace.specs.Trace.{events_text, trace_text}
use Rattle.mg_trace.proofs.Reading.{one_event}

-- Line feeds --

abbrev pub has_feed : List ℕ → Bool
has_feed [] = false
has_feed (b ∷ bs) = (b == 10) || has_feed bs

pub both_not : (a b : Bool) → (a || b) ≡ false → (a ≡ false) × (b ≡ false)
both_not false b none = (refl, none)
both_not true b none = absurd (false≢true (sym none))

neither : (a b : Bool) → a ≡ false → b ≡ false → (a || b) ≡ false
neither false b one two = two
neither true b one two = absurd (false≢true (sym one))

feed_append : (xs ys : List ℕ) → has_feed xs ≡ false → has_feed ys ≡ false → has_feed (xs ++ ys) ≡ false
feed_append [] ys none more = more
feed_append (x ∷ xs) ys none more = (let h = both_not (x == 10) (has_feed xs) none in neither (x == 10) (has_feed (xs ++ ys)) h.0 (feed_append xs ys h.1 more))

feed_digits : (ds : List ℕ) → AllDigits 10 ds → has_feed ds ≡ false
feed_digits [] all = refl
feed_digits (d ∷ ds) all = neither (d == 10) (has_feed ds) (let r = digit_from_value d all.0 in grind (arith, r)) (feed_digits ds all.1)

pub feed_decimal : (n : ℕ) → n < 2 ^ 64 → has_feed (decimal n) ≡ false
feed_decimal n fits = feed_digits (decimal n) (decimal_is_IsNumeral n fits).0.1

feed_pair : (word : List ℕ) (n k : ℕ) → has_feed word ≡ false → n < 2 ^ 64 → k < 2 ^ 64 → has_feed (word ++ (decimal n ++ (codes " " ++ decimal k))) ≡ false
feed_pair word n k none fits fit = feed_append word (decimal n ++ (codes " " ++ decimal k)) none (feed_append (decimal n) (codes " " ++ decimal k) (feed_decimal n fits) (feed_append (codes " ") (decimal k) refl (feed_decimal k fit)))

pub feed_line : (plan : Plan) (event : Event) → IsValid plan → IsEventOf plan event → has_feed (event_line event) ≡ false
feed_line plan (Deliver n) valid of = feed_append (codes "deliver ") (decimal n) refl (feed_decimal n (let r = valid.ranges.edges in omega (arith, of, r)))
feed_line plan (Advance n) valid of = feed_append (codes "advance ") (decimal n) refl (feed_decimal n (let r = valid.ranges.nodes in omega (arith, of, r)))
feed_line plan (Claim n) valid of = feed_append (codes "claim ") (decimal n) refl (feed_decimal n (let r = valid.ranges.nodes in omega (arith, of, r)))
feed_line plan (Perform n k) valid of = feed_pair (codes "perform ") n k refl (let r = valid.ranges.nodes in let there = of.0 in omega (arith, there, r)) of.1
feed_line plan (Commit n k) valid of = feed_pair (codes "commit ") n k refl (let r = valid.ranges.nodes in let there = of.0 in omega (arith, there, r)) of.1
feed_line plan Relax valid of = refl

-- Lines --

not_ten : (y : ℕ) → 10 ≡ y → (y == 10) ≡ false → ⊥
not_ten y is isnt = false≢true (sym isnt ∙ ap (λ (n : ℕ). n == 10) (sym is))

lines_apart : (xs ys rest more : List ℕ) → has_feed xs ≡ false → has_feed ys ≡ false → xs ++ 10 ∷ rest ≡ ys ++ 10 ∷ more → (xs ≡ ys) × (rest ≡ more)
lines_apart [] [] rest more none isnt same = (refl, (let r : rest ≡ more = cc in r))
lines_apart [] (y ∷ ys) rest more none isnt same = (let first : 10 ≡ y = cc in absurd (not_ten y first (both_not (y == 10) (has_feed ys) isnt).0))
lines_apart (x ∷ xs) [] rest more none isnt same = (let first : 10 ≡ x = cc in absurd (not_ten x first (both_not (x == 10) (has_feed xs) none).0))
lines_apart (x ∷ xs) (y ∷ ys) rest more none isnt same =
    let first : x ≡ y = cc in
    let behind : xs ++ 10 ∷ rest ≡ ys ++ 10 ∷ more = cc in
    let r = lines_apart xs ys rest more (both_not (x == 10) (has_feed xs) none).1 (both_not (y == 10) (has_feed ys) isnt).1 behind in
    (λ i. first i ∷ r.0 i, r.1)

pub not_end : (event : Event) → codes "end" ≡ event_line event → ⊥
not_end (Deliver n) same = let head : 101 ≡ 100 = ap (λ (l : List ℕ). get_or l 0 0) same in absurd (omega (arith, head))
not_end (Advance n) same = let head : 101 ≡ 97 = ap (λ (l : List ℕ). get_or l 0 0) same in absurd (omega (arith, head))
not_end (Claim n) same = let head : 101 ≡ 99 = ap (λ (l : List ℕ). get_or l 0 0) same in absurd (omega (arith, head))
not_end (Perform n k) same = let head : 101 ≡ 112 = ap (λ (l : List ℕ). get_or l 0 0) same in absurd (omega (arith, head))
not_end (Commit n k) same = let head : 101 ≡ 99 = ap (λ (l : List ℕ). get_or l 0 0) same in absurd (omega (arith, head))
not_end Relax same = let head : 101 ≡ 114 = ap (λ (l : List ℕ). get_or l 0 0) same in absurd (omega (arith, head))

-- Events --

abbrev ended : List Event → List ℕ
ended events = events_text events ++ codes "end\n"

-- an event's line, and what follows
split_off : (event : Event) (events : List Event) → ended (event ∷ events) ≡ event_line event ++ 10 ∷ ended events
split_off event events =
    append_assoc (event_text event) (events_text events) (codes "end\n") ∙ append_assoc (event_line event) (codes "\n") (ended events)

events_apart : (plan : Plan) (one other : List Event) → IsValid plan → Each (IsEventOf plan) one → Each (IsEventOf plan) other → ended one ≡ ended other → one ≡ other
events_apart plan [] [] valid of_one of_other same = refl
events_apart plan [] (f ∷ fs) valid of_one of_other same =
    absurd (not_end f (lines_apart (codes "end") (event_line f) [] (ended fs) refl (feed_line plan f valid of_other.0) (same ∙ split_off f fs)).0)
events_apart plan (e ∷ es) [] valid of_one of_other same =
    absurd (not_end e (lines_apart (codes "end") (event_line e) [] (ended es) refl (feed_line plan e valid of_one.0) (sym same ∙ split_off e es)).0)
events_apart plan (e ∷ es) (f ∷ fs) valid of_one of_other same =
    let r = lines_apart (event_line e) (event_line f) (ended es) (ended fs) (feed_line plan e valid of_one.0) (feed_line plan f valid of_other.0)
    (sym (split_off e es) ∙ same ∙ split_off f fs) in
    let first : e ≡ f = one_event plan e f valid of_one.0 of_other.0 (ap (λ (l : List ℕ). l ++ codes "\n") r.0) in
    let rest : es ≡ fs = events_apart plan es fs valid of_one.1 of_other.1 r.1 in
    λ i. first i ∷ rest i

pub one_trace : (plan : Plan) (inputs : Inputs) (one other : List Event) → IsValid plan → All (IsEventOf plan) one → All (IsEventOf plan) other
    → trace_text plan inputs one ≡ trace_text plan inputs other → one ≡ other
one_trace plan inputs one other valid of_one of_other same =
    events_apart plan one other valid (recursion_from_All (IsEventOf plan) one of_one) (recursion_from_All (IsEventOf plan) other of_other)
    (append_cancel_left (job_text plan inputs) (ended one) (ended other) same)
