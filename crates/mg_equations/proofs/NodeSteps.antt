-- If a node is shown its further sets, its outcome is that of all its sets.
use Rattle.std.proofs.Common.{◌≡◌, ℕ, ℤ, ◌+◌, ◌<◌, ◌≤◌, ◌^◌, ◌==◌, max, Bool, true, false, List, [], ◌∷◌, ◌++◌, map, drop, length, All, Option, Some, None, Result, Ok, Err, refl, sym, ap, ap₂, ◌∙◌, take-append-drop, arith, inl, inr, ◌⊎◌, if◌then◌else◌}
use Rattle.std.specs.List.{AllByRecursion, fold}
use Rattle.std.proofs.lemmas.List.Sums.{fold-append}
use Rattle.std.proofs.lemmas.List.Elements.{recursion_from_All}
use Rattle.mg_time.specs.Time.{done, shift}
use Rattle.mg_value.specs.Payload.{Plain}
use Rattle.mg_value.specs.declared.policy.Policy.{Policy}
use Rattle.mg_settled.specs.Prefix.{StreamPrefix, IsPrefix, raised}
use Rattle.mg_settled.specs.Extension.{AreExtendedBy}
use Rattle.mg_settled.specs.Settled.{TimedSet, settled_sets, reach}
use Rattle.mg_settled.proofs.Lemmas.{Rises, times-rise, below-reach, reach-most, reach-rises, sets-stay, sets-further, sets-end}
use Rattle.mg_calc.specs.declared.cause.Cause.{Cause}
use Rattle.mg_calc.specs.declared.node_fault.Phase.TheVariants.{Open, Process, Close}
use Rattle.mg_calc.specs.Answer.{Answer}
use Rattle.mg_calc.specs.Laying.{laid_behind, all_raised}
use Rattle.mg_calc.specs.Outcome.{Failure, Outcome, after_call, unopened, opened, unless_failed, shown, shown_all, after_close, closed_with, finished, with_reach, ended, node_outcome}
use Rattle.mg_calc.proofs.LaidBehind.{shift_order}
use Rattle.mg_calc.proofs.Outcomes.{goes_on, stays}
use Rattle.mg_equations.proofs.OutcomeSteps.{call_counts, shown_counts}
use Rattle.mg_calc.specs.Rules.{Rules}

-- raised twice is raised to the higher bound
raised_twice : (s : StreamPrefix Plain) (low high : ℕ) → low ≤ high → raised (raised s low) high ≡ raised s high
raised_twice s low high le = ap (λ (b : ℕ). (let it : StreamPrefix Plain = record { packets = s.packets; bound = b } in it)) (let e : max (max s.bound low) high ≡ max s.bound high = omega (arith, le) in e)

all_raised_twice : (offset : Option ℤ) (low high : ℕ) (outputs : List (StreamPrefix Plain)) → low ≤ high → all_raised offset high (all_raised offset low outputs) ≡ all_raised offset high outputs
all_raised_twice None low high outputs le = refl
all_raised_twice (Some o) low high outputs le = each outputs
  where
    each : (ss : List (StreamPrefix Plain)) → map (λ s. raised s (shift high o)) (map (λ s. raised s (shift low o)) ss) ≡ map (λ s. raised s (shift high o)) ss
    each [] = refl
    each (s ∷ ss) = ap₂ (λ (first : StreamPrefix Plain) (rest : List (StreamPrefix Plain)). first ∷ rest) (raised_twice s (shift low o) (shift high o) (shift_order low high o le)) (each ss)

-- an outcome whose outputs are raised
abbrev raised_to : Option ℤ → ℕ → Outcome → Outcome
raised_to offset low outcome = record outcome { outputs = all_raised offset low outcome.outputs }

shown_raised : (rules : Rules) (offset : Option ℤ) (low : ℕ) (outcome : Outcome) (set : TimedSet Plain) → outcome.fault ≡ None → low ≤ set.at → shown rules offset (raised_to offset low outcome) set ≡ shown rules offset outcome set
shown_raised rules offset low outcome set h le =
    goes_on outcome.fault (raised_to offset low outcome) _ h
    ∙ ap (λ (outputs : List (StreamPrefix Plain)). after_call offset (Process set.at) (record outcome { outputs = outputs; taken = outcome.taken + 1 }) (rules.step outcome.state set.at set.set)) (all_raised_twice offset low set.at outcome.outputs le)
    ∙ sym (goes_on outcome.fault outcome _ h)

ended_raised : (rules : Rules) (offset : Option ℤ) (low high : ℕ) (outcome : Outcome) → outcome.fault ≡ None → low ≤ high → ended rules offset high (raised_to offset low outcome) ≡ ended rules offset high outcome
ended_raised rules offset low high outcome h le =
    goes_on outcome.fault (raised_to offset low outcome) _ h
    ∙ ap (λ (outputs : List (StreamPrefix Plain)). (let at_end : Outcome = record outcome { outputs = outputs } in if high == done then finished rules offset at_end else at_end)) (all_raised_twice offset low high outcome.outputs le)
    ∙ sym (goes_on outcome.fault outcome (with_reach rules offset high outcome) h)

fault_cases : (fault : Option Failure) → (fault ≡ None) ⊎ ((failure : Failure) × (fault ≡ Some failure))
fault_cases None = inl refl
fault_cases (Some failure) = inr (failure, refl)

not_done : (rules : Rules) (offset : Option ℤ) (reached : ℕ) (outcome : Outcome) → (reached == done) ≡ false → with_reach rules offset reached outcome ≡ raised_to offset reached outcome
not_done rules offset reached outcome h = rw h refl

raised_goes_on : (rules : Rules) (offset : Option ℤ) (low high : ℕ) (outcome : Outcome) (sets : List (TimedSet Plain)) → outcome.fault ≡ None → low ≤ high → AllByRecursion (λ set. low ≤ set.at) sets
    → ended rules offset high (fold (shown rules offset) (raised_to offset low outcome) sets) ≡ ended rules offset high (fold (shown rules offset) outcome sets)
raised_goes_on rules offset low high outcome [] h le above = ended_raised rules offset low high outcome h le
raised_goes_on rules offset low high outcome (set ∷ sets) h le above = ap (λ (o : Outcome). ended rules offset high (fold (shown rules offset) o sets)) (shown_raised rules offset low outcome set h above.0)

resumed : (rules : Rules) (offset : Option ℤ) (low high : ℕ) (outcome : Outcome) (sets : List (TimedSet Plain)) → (low == done) ≡ false → low ≤ high → AllByRecursion (λ set. low ≤ set.at) sets
    → ended rules offset high (fold (shown rules offset) (ended rules offset low outcome) sets) ≡ ended rules offset high (fold (shown rules offset) outcome sets)
resumed rules offset low high outcome sets test le above = elim (fault_cases outcome.fault) [
  | inl h ↦
      (ap (λ (o : Outcome). ended rules offset high (fold (shown rules offset) o sets)) (goes_on outcome.fault outcome (with_reach rules offset low outcome) h ∙ not_done rules offset low outcome test)
      ∙ raised_goes_on rules offset low high outcome sets h le above)
  | inr (failure, h) ↦ ap (λ (o : Outcome). ended rules offset high (fold (shown rules offset) o sets)) (stays outcome.fault outcome (with_reach rules offset low outcome) failure h)
]

more_sets : (policy : Policy) (ss tt : List (StreamPrefix Plain)) → AreExtendedBy ss tt → settled_sets policy tt ≡ settled_sets policy ss ++ drop (length (settled_sets policy ss)) (settled_sets policy tt)
more_sets policy ss tt e =
    sym (take-append-drop (length (settled_sets policy ss)) (settled_sets policy tt))
    ∙ ap (λ (first : List (TimedSet Plain)). first ++ drop (length (settled_sets policy ss)) (settled_sets policy tt)) (sets-stay policy ss tt e)

pub node_resumed : (rules : Rules) (offset : Option ℤ) (policy : Policy) (outputs : ℕ) (sides : List (Option Plain)) (ss tt : List (StreamPrefix Plain)) → All IsPrefix tt → AreExtendedBy ss tt → (reach policy ss == done) ≡ false
    → ended rules offset (reach policy tt) (fold (shown rules offset) (node_outcome rules offset policy outputs sides ss) (drop (length (settled_sets policy ss)) (settled_sets policy tt))) ≡ node_outcome rules offset policy outputs sides tt
node_resumed rules offset policy outputs sides ss tt h e test =
    let begun = opened rules offset outputs sides in
    let more = drop (length (settled_sets policy ss)) (settled_sets policy tt) in
    resumed rules offset (reach policy ss) (reach policy tt) (shown_all rules offset outputs sides (settled_sets policy ss)) more test (reach-rises policy ss tt h e)
    (recursion_from_All (λ (set : TimedSet Plain). reach policy ss ≤ set.at) more (sets-further policy ss tt h e))
    ∙ ap (ended rules offset (reach policy tt)) (sym (fold-append (shown rules offset) begun (settled_sets policy ss) more) ∙ ap (λ (sets : List (TimedSet Plain)). fold (shown rules offset) begun sets) (sym (more_sets policy ss tt e)))

pub reach_same : (policy : Policy) (ss tt : List (StreamPrefix Plain)) → All IsPrefix tt → AreExtendedBy ss tt → reach policy ss ≡ done → reach policy tt ≡ reach policy ss
reach_same policy ss tt h e over = (let up = reach-rises policy ss tt h e in let most = reach-most policy tt h in omega (arith, up, most, over))

-- once the sets have reached the end of all times, nothing changes
pub node_over : (rules : Rules) (offset : Option ℤ) (policy : Policy) (outputs : ℕ) (sides : List (Option Plain)) (ss tt : List (StreamPrefix Plain)) → All IsPrefix tt → AreExtendedBy ss tt → reach policy ss ≡ done
    → node_outcome rules offset policy outputs sides ss ≡ node_outcome rules offset policy outputs sides tt
node_over rules offset policy outputs sides ss tt h e over =
    ap₂ (λ (r : ℕ) (sets : List (TimedSet Plain)). ended rules offset r (shown_all rules offset outputs sides sets)) (sym (reach_same policy ss tt h e over)) (sym (sets-end policy ss tt h e over))

-- Counts fit: the times of settled sets ascend up to the end of all times.
few_times : (a b : ℕ) (sets : List (TimedSet Plain)) → a ≤ b → Rises a (map (λ e. e.at) sets) → AllByRecursion (λ e. e.at < b) sets → length sets + a ≤ b
few_times a b [] le rises below = omega (arith, le)
few_times a b (set ∷ sets) le rises below =
    let rest = few_times (set.at + 1) b sets (let lt = below.0 in omega (arith, lt)) rises.1 below.1 in
    let first = rises.0 in
    omega (arith, rest, first)

pub few_sets : (policy : Policy) (ss : List (StreamPrefix Plain)) → All IsPrefix ss → length (settled_sets policy ss) < 2 ^ 64
few_sets policy ss h =
    let most : reach policy ss ≤ 18446744073709551615 = reach-most policy ss h in
    let few = few_times 0 (reach policy ss) (settled_sets policy ss) (omega arith) (times-rise policy ss h) (recursion_from_All (λ (e : TimedSet Plain). e.at < reach policy ss) (settled_sets policy ss) (below-reach policy ss h)) in
    omega (arith, few, most)

unless_same : (fault : Option Failure) (outcome next : Outcome) → next.taken ≡ outcome.taken → (unless_failed fault outcome next).taken ≡ outcome.taken
unless_same (Some failure) outcome next e = refl
unless_same None outcome next e = e

close_counts : (outcome : Outcome) (answer : Result (List (StreamPrefix Plain)) Cause) → (after_close outcome answer).taken ≡ outcome.taken
close_counts outcome (Ok outputs) = refl
close_counts outcome (Err cause) = refl

closing_counts : (offset : Option ℤ) (outcome : Outcome) (answer : Answer) → (closed_with offset outcome answer).taken ≡ outcome.taken
closing_counts offset outcome (Err cause) = refl
closing_counts offset outcome (Ok given) = close_counts (record outcome { state = given.0 }) (laid_behind offset Close outcome.outputs given.1)

if_counts : (test : Bool) (a b : Outcome) (n : ℕ) → a.taken ≡ n → b.taken ≡ n → (if test then a else b).taken ≡ n
if_counts true a b n e f = e
if_counts false a b n e f = f

ended_counts : (rules : Rules) (offset : Option ℤ) (reached : ℕ) (outcome : Outcome) → (ended rules offset reached outcome).taken ≡ outcome.taken
ended_counts rules offset reached outcome =
    let before = raised_to offset reached outcome in
    unless_same outcome.fault outcome (with_reach rules offset reached outcome)
    (if_counts (reached == done) (finished rules offset before) before outcome.taken (closing_counts offset before (rules.finish before.state)) refl)

fold_counts : (rules : Rules) (offset : Option ℤ) (outcome : Outcome) (sets : List (TimedSet Plain)) → (fold (shown rules offset) outcome sets).taken ≤ outcome.taken + length sets
fold_counts rules offset outcome [] = omega arith
fold_counts rules offset outcome (set ∷ sets) =
    let rest = fold_counts rules offset (shown rules offset outcome set) sets in
    let one = shown_counts rules offset outcome set in
    omega (arith, rest, one)

pub opened_counts : (rules : Rules) (offset : Option ℤ) (outputs : ℕ) (sides : List (Option Plain)) → (opened rules offset outputs sides).taken ≡ 0
opened_counts rules offset outputs sides = call_counts offset Open (unopened outputs) (rules.opening sides)

pub node_counts : (rules : Rules) (offset : Option ℤ) (policy : Policy) (outputs : ℕ) (sides : List (Option Plain)) (ss : List (StreamPrefix Plain)) → (node_outcome rules offset policy outputs sides ss).taken ≤ length (settled_sets policy ss)
node_counts rules offset policy outputs sides ss =
    let begun = opened rules offset outputs sides in
    let all = fold_counts rules offset begun (settled_sets policy ss) in
    let none = opened_counts rules offset outputs sides in
    let same = ended_counts rules offset (reach policy ss) (shown_all rules offset outputs sides (settled_sets policy ss)) in
    omega (arith, all, none, same)
