-- What becomes of a node: further sets extend its outputs, and all that it lays are prefixes.
use Rattle.std.proofs.Common.{◌≡◌, ℕ, zero, suc, ℤ, ◌+◌, ◌≤◌, ◌==◌, Bool, true, false, replicate, List, [], ◌∷◌, map, Option, Some, None, Result, Ok, Err, refl, sym, ap, subst, ◌∙◌, arith, inl, inr, ◌⊎◌, if◌then◌else◌}
use Rattle.std.specs.List.{AllByRecursion, fold, range_with_len}
use Rattle.std.proofs.lemmas.Bool.Decides.{eqb_tells}
use Rattle.mg_time.specs.Time.{done}
use Rattle.mg_value.specs.Payload.{Plain}
use Rattle.mg_settled.specs.Prefix.{StreamPrefix, IsPrefix, empty_prefix, closed}
use Rattle.mg_settled.specs.Settled.{TimedSet}
use Rattle.mg_settled.specs.Extension.{AreExtendedBy}
use Rattle.mg_settled.proofs.Lemmas.{all_by_themselves, all_further}
use Rattle.mg_settled.proofs.Lemmas.{empty_is_prefix}
use Rattle.mg_calc.specs.declared.cause.Cause.{Cause}
use Rattle.mg_calc.specs.declared.law.Law.{Law}
use Rattle.mg_calc.specs.declared.node_fault.Phase.{Phase}
use Rattle.mg_calc.specs.declared.node_fault.Phase.TheVariants.{Open, Call, Process, Close}
use Rattle.mg_calc.specs.Answer.{Answer}
use Rattle.mg_calc.specs.Rules.{Rules}
use Rattle.mg_calc.specs.Law.{call}
use Rattle.mg_calc.specs.Laying.{laid_behind, all_raised}
use Rattle.mg_calc.specs.Outcome.{Failure, Outcome, after_laying, after_call, unopened, opened, unless_failed, shown, shown_all, after_close, closed_with, finished, with_reach, ended, called, source_outcome}
use Rattle.mg_calc.proofs.LaidBehind.{emission_extends, emission_keeps, raise_extends, raise_higher, raise_keeps, close_extends, close_keeps}

-- a call extends the outputs
laying_extends : (phase : Phase) (outcome : Outcome) (answer : Result (List (StreamPrefix Plain)) Cause)
    → ((outputs : List (StreamPrefix Plain)) → answer ≡ Ok outputs → AreExtendedBy outcome.outputs outputs)
    → AreExtendedBy outcome.outputs (after_laying phase outcome answer).outputs
laying_extends phase outcome (Ok outputs) e = e outputs refl
laying_extends phase outcome (Err cause) e = all_by_themselves outcome.outputs

pub call_extends : (offset : Option ℤ) (phase : Phase) (outcome : Outcome) (answer : Answer) → AreExtendedBy outcome.outputs (after_call offset phase outcome answer).outputs
call_extends offset phase outcome (Err cause) = all_by_themselves outcome.outputs
call_extends offset phase outcome (Ok given) =
    laying_extends phase (record outcome { state = given.0 }) (laid_behind offset phase outcome.outputs given.1)
    (λ outputs h. emission_extends offset phase outcome.outputs outputs given.1 h)

unless_extends : (fault : Option Failure) (outcome next : Outcome) → AreExtendedBy outcome.outputs next.outputs → AreExtendedBy outcome.outputs (unless_failed fault outcome next).outputs
unless_extends (Some failure) outcome next e = all_by_themselves outcome.outputs
unless_extends None outcome next e = e

-- if nothing failed, what comes next
pub goes_on : (fault : Option Failure) (outcome next : Outcome) → fault ≡ None → unless_failed fault outcome next ≡ next
goes_on (Some failure) outcome next h = absurd cc
goes_on None outcome next h = refl

pub stays : (fault : Option Failure) (outcome next : Outcome) (failure : Failure) → fault ≡ Some failure → unless_failed fault outcome next ≡ outcome
stays (Some other) outcome next failure h = refl
stays None outcome next failure h = absurd cc

-- a node that is about to be shown a set
abbrev before_set : Option ℤ → Outcome → ℕ → Outcome
before_set offset outcome at = record outcome { outputs = all_raised offset at outcome.outputs; taken = outcome.taken + 1 }

-- a set extends the outputs, and, if the node hasn't failed, also the outputs that are raised for the set
pub set_extends : (rules : Rules) (offset : Option ℤ) (outcome : Outcome) (set : TimedSet Plain) → AreExtendedBy outcome.outputs (shown rules offset outcome set).outputs
set_extends rules offset outcome set =
    unless_extends outcome.fault outcome (after_call offset (Process set.at) (before_set offset outcome set.at) (rules.step outcome.state set.at set.set))
    (all_further outcome.outputs (all_raised offset set.at outcome.outputs) _ (raise_extends offset set.at outcome.outputs)
    (call_extends offset (Process set.at) (before_set offset outcome set.at) (rules.step outcome.state set.at set.set)))

set_extends_raised : (rules : Rules) (offset : Option ℤ) (outcome : Outcome) (set : TimedSet Plain) → outcome.fault ≡ None → AreExtendedBy (all_raised offset set.at outcome.outputs) (shown rules offset outcome set).outputs
set_extends_raised rules offset outcome set h =
    let next = after_call offset (Process set.at) (before_set offset outcome set.at) (rules.step outcome.state set.at set.set) in
    subst (λ (o : Outcome). AreExtendedBy (all_raised offset set.at outcome.outputs) o.outputs) (sym (goes_on outcome.fault outcome next h))
    (call_extends offset (Process set.at) (before_set offset outcome set.at) (rules.step outcome.state set.at set.set))

-- so do all further sets
pub sets_extend : (rules : Rules) (offset : Option ℤ) (outcome : Outcome) (sets : List (TimedSet Plain)) → AreExtendedBy outcome.outputs (fold (shown rules offset) outcome sets).outputs
sets_extend rules offset outcome [] = all_by_themselves outcome.outputs
sets_extend rules offset outcome (set ∷ sets) =
    all_further outcome.outputs (shown rules offset outcome set).outputs _ (set_extends rules offset outcome set) (sets_extend rules offset (shown rules offset outcome set) sets)

-- a node that has failed stays as it is
pub failed_stays : (rules : Rules) (offset : Option ℤ) (outcome : Outcome) (failure : Failure) (sets : List (TimedSet Plain)) → outcome.fault ≡ Some failure → fold (shown rules offset) outcome sets ≡ outcome
failed_stays rules offset outcome failure [] h = refl
failed_stays rules offset outcome failure (set ∷ sets) h =
    let same : shown rules offset outcome set ≡ outcome = stays outcome.fault outcome _ failure h in
    ap (λ o. fold (shown rules offset) o sets) same ∙ failed_stays rules offset outcome failure sets h

-- sets from a time on extend the outputs that are raised to it
sets_extend_raised : (rules : Rules) (offset : Option ℤ) (outcome : Outcome) (bound : ℕ) (set : TimedSet Plain) (sets : List (TimedSet Plain)) → outcome.fault ≡ None → bound ≤ set.at
    → AreExtendedBy (all_raised offset bound outcome.outputs) (fold (shown rules offset) outcome (set ∷ sets)).outputs
sets_extend_raised rules offset outcome bound set sets h le =
    all_further (all_raised offset bound outcome.outputs) (all_raised offset set.at outcome.outputs) _ (raise_higher offset bound set.at outcome.outputs le)
    (all_further (all_raised offset set.at outcome.outputs) (shown rules offset outcome set).outputs _ (set_extends_raised rules offset outcome set h)
    (sets_extend rules offset (shown rules offset outcome set) sets))

-- all that a node lays are prefixes
laying_keeps : (phase : Phase) (outcome : Outcome) (answer : Result (List (StreamPrefix Plain)) Cause) → AllByRecursion IsPrefix outcome.outputs
    → ((outputs : List (StreamPrefix Plain)) → answer ≡ Ok outputs → AllByRecursion IsPrefix outputs)
    → AllByRecursion IsPrefix (after_laying phase outcome answer).outputs
laying_keeps phase outcome (Ok outputs) k e = e outputs refl
laying_keeps phase outcome (Err cause) k e = k

call_keeps : (offset : Option ℤ) (phase : Phase) (outcome : Outcome) (answer : Answer) → AllByRecursion IsPrefix outcome.outputs → AllByRecursion IsPrefix (after_call offset phase outcome answer).outputs
call_keeps offset phase outcome (Err cause) k = k
call_keeps offset phase outcome (Ok given) k =
    laying_keeps phase (record outcome { state = given.0 }) (laid_behind offset phase outcome.outputs given.1) k
    (λ outputs h. emission_keeps offset phase outcome.outputs outputs given.1 h k)

empties_are_prefixes : (n : ℕ) → AllByRecursion IsPrefix (replicate n (empty_prefix {X = Plain}))
empties_are_prefixes zero = tt
empties_are_prefixes (suc n) = (empty_is_prefix, empties_are_prefixes n)

pub opened_keeps : (rules : Rules) (offset : Option ℤ) (outputs : ℕ) (sides : List (Option Plain)) → AllByRecursion IsPrefix (opened rules offset outputs sides).outputs
opened_keeps rules offset outputs sides = call_keeps offset Open (unopened outputs) (rules.opening sides) (empties_are_prefixes outputs)

unless_keeps : (fault : Option Failure) (outcome next : Outcome) → AllByRecursion IsPrefix outcome.outputs → AllByRecursion IsPrefix next.outputs → AllByRecursion IsPrefix (unless_failed fault outcome next).outputs
unless_keeps (Some failure) outcome next k e = k
unless_keeps None outcome next k e = e

set_keeps : (rules : Rules) (offset : Option ℤ) (outcome : Outcome) (set : TimedSet Plain) → set.at ≤ done → AllByRecursion IsPrefix outcome.outputs → AllByRecursion IsPrefix (shown rules offset outcome set).outputs
set_keeps rules offset outcome set le k =
    unless_keeps outcome.fault outcome _ k
    (call_keeps offset (Process set.at) (before_set offset outcome set.at) (rules.step outcome.state set.at set.set) (raise_keeps offset set.at outcome.outputs le k))

pub sets_keep : (rules : Rules) (offset : Option ℤ) (outcome : Outcome) (sets : List (TimedSet Plain)) → AllByRecursion (λ set. set.at ≤ done) sets → AllByRecursion IsPrefix outcome.outputs → AllByRecursion IsPrefix (fold (shown rules offset) outcome sets).outputs
sets_keep rules offset outcome [] le k = k
sets_keep rules offset outcome (set ∷ sets) le k =
    sets_keep rules offset (shown rules offset outcome set) sets le.1 (set_keeps rules offset outcome set le.0 k)

-- Close extends the outputs, and keeps prefixes
close_answer_extends : (outcome : Outcome) (answer : Result (List (StreamPrefix Plain)) Cause)
    → ((outputs : List (StreamPrefix Plain)) → answer ≡ Ok outputs → AreExtendedBy outcome.outputs outputs × AllByRecursion IsPrefix outputs)
    → AreExtendedBy outcome.outputs (after_close outcome answer).outputs
close_answer_extends outcome (Ok outputs) e = all_further outcome.outputs outputs (map closed outputs) (e outputs refl).0 (close_extends outputs (e outputs refl).1)
close_answer_extends outcome (Err cause) e = all_by_themselves outcome.outputs

close_answer_keeps : (outcome : Outcome) (answer : Result (List (StreamPrefix Plain)) Cause) → AllByRecursion IsPrefix outcome.outputs
    → ((outputs : List (StreamPrefix Plain)) → answer ≡ Ok outputs → AllByRecursion IsPrefix outputs)
    → AllByRecursion IsPrefix (after_close outcome answer).outputs
close_answer_keeps outcome (Ok outputs) k e = close_keeps outputs (e outputs refl)
close_answer_keeps outcome (Err cause) k e = k

closing_extends : (offset : Option ℤ) (outcome : Outcome) (answer : Answer) → AllByRecursion IsPrefix outcome.outputs → AreExtendedBy outcome.outputs (closed_with offset outcome answer).outputs
closing_extends offset outcome (Err cause) k = all_by_themselves outcome.outputs
closing_extends offset outcome (Ok given) k =
    close_answer_extends (record outcome { state = given.0 }) (laid_behind offset Close outcome.outputs given.1)
    (λ outputs h. (emission_extends offset Close outcome.outputs outputs given.1 h, emission_keeps offset Close outcome.outputs outputs given.1 h k))

closing_keeps : (offset : Option ℤ) (outcome : Outcome) (answer : Answer) → AllByRecursion IsPrefix outcome.outputs → AllByRecursion IsPrefix (closed_with offset outcome answer).outputs
closing_keeps offset outcome (Err cause) k = k
closing_keeps offset outcome (Ok given) k =
    close_answer_keeps (record outcome { state = given.0 }) (laid_behind offset Close outcome.outputs given.1) k
    (λ outputs h. emission_keeps offset Close outcome.outputs outputs given.1 h k)

-- a node that is about to end
abbrev before_end : Option ℤ → ℕ → Outcome → Outcome
before_end offset reached outcome = record outcome { outputs = all_raised offset reached outcome.outputs }

if_extends : (test : Bool) (outputs : List (StreamPrefix Plain)) (a b : Outcome) → AreExtendedBy outputs a.outputs → AreExtendedBy outputs b.outputs → AreExtendedBy outputs (if test then a else b).outputs
if_extends true outputs a b e f = e
if_extends false outputs a b e f = f

if_keeps : (test : Bool) (a b : Outcome) → AllByRecursion IsPrefix a.outputs → AllByRecursion IsPrefix b.outputs → AllByRecursion IsPrefix (if test then a else b).outputs
if_keeps true a b e f = e
if_keeps false a b e f = f

-- the end of a node that hasn't failed
reach_extends : (rules : Rules) (offset : Option ℤ) (reached : ℕ) (outcome : Outcome) → reached ≤ done → AllByRecursion IsPrefix outcome.outputs → outcome.fault ≡ None
    → AreExtendedBy (all_raised offset reached outcome.outputs) (with_reach rules offset reached outcome).outputs
reach_extends rules offset reached outcome le k h =
    let before = before_end offset reached outcome in
    let kept = raise_keeps offset reached outcome.outputs le k in
    if_extends (reached == done) before.outputs (finished rules offset before) before
    (closing_extends offset before (rules.finish outcome.state) kept)
    (all_by_themselves before.outputs)

reach_keeps : (rules : Rules) (offset : Option ℤ) (reached : ℕ) (outcome : Outcome) → reached ≤ done → AllByRecursion IsPrefix outcome.outputs → outcome.fault ≡ None
    → AllByRecursion IsPrefix (with_reach rules offset reached outcome).outputs
reach_keeps rules offset reached outcome le k h =
    let before = before_end offset reached outcome in
    let kept = raise_keeps offset reached outcome.outputs le k in
    if_keeps (reached == done) (finished rules offset before) before
    (closing_keeps offset before (rules.finish outcome.state) kept)
    kept

fault_cases : (fault : Option Failure) → (fault ≡ None) ⊎ ((failure : Failure) × (fault ≡ Some failure))
fault_cases None = inl refl
fault_cases (Some failure) = inr (failure, refl)

pub end_keeps : (rules : Rules) (offset : Option ℤ) (reached : ℕ) (outcome : Outcome) → reached ≤ done → AllByRecursion IsPrefix outcome.outputs
    → AllByRecursion IsPrefix (ended rules offset reached outcome).outputs
end_keeps rules offset reached outcome le k =
    elim (fault_cases outcome.fault) [
      | inl h ↦ subst (λ (o : Outcome). AllByRecursion IsPrefix o.outputs) (sym (goes_on outcome.fault outcome (with_reach rules offset reached outcome) h)) (reach_keeps rules offset reached outcome le k h)
      | inr (failure, h) ↦ subst (λ (o : Outcome). AllByRecursion IsPrefix o.outputs) (sym (stays outcome.fault outcome (with_reach rules offset reached outcome) failure h)) k
    ]

pub end_extends : (rules : Rules) (offset : Option ℤ) (reached : ℕ) (outcome : Outcome) → reached ≤ done → AllByRecursion IsPrefix outcome.outputs
    → AreExtendedBy outcome.outputs (ended rules offset reached outcome).outputs
end_extends rules offset reached outcome le k =
    elim (fault_cases outcome.fault) [
      | inl h ↦ subst (λ (o : Outcome). AreExtendedBy outcome.outputs o.outputs) (sym (goes_on outcome.fault outcome (with_reach rules offset reached outcome) h))
          (all_further outcome.outputs (all_raised offset reached outcome.outputs) _ (raise_extends offset reached outcome.outputs) (reach_extends rules offset reached outcome le k h))
      | inr (failure, h) ↦ subst (λ (o : Outcome). AreExtendedBy outcome.outputs o.outputs) (sym (stays outcome.fault outcome (with_reach rules offset reached outcome) failure h)) (all_by_themselves outcome.outputs)
    ]

-- The end after some sets is extended by the end after more of them, which come at the reach or above. Where the reach is
-- the end of all times, nothing more comes.
pub record Further (low high : ℕ) (sets : List (TimedSet Plain)) : Type 0 where
  pub rises : low ≤ high
  pub within : high ≤ done
  pub above : AllByRecursion (λ set. low ≤ set.at) sets
  pub none : low ≡ done → sets ≡ []

not_done : (rules : Rules) (offset : Option ℤ) (reached : ℕ) (outcome : Outcome) → (reached == done) ≡ false → with_reach rules offset reached outcome ≡ before_end offset reached outcome
not_done rules offset reached outcome h = rw h refl

pub raised_extends_end : (rules : Rules) (offset : Option ℤ) (low high : ℕ) (outcome : Outcome) (sets : List (TimedSet Plain)) → Further low high sets
    → AllByRecursion IsPrefix outcome.outputs → AllByRecursion IsPrefix (fold (shown rules offset) outcome sets).outputs → outcome.fault ≡ None
    → AreExtendedBy (all_raised offset low outcome.outputs) (ended rules offset high (fold (shown rules offset) outcome sets)).outputs
raised_extends_end rules offset low high outcome [] f k l h =
    all_further (all_raised offset low outcome.outputs) (all_raised offset high outcome.outputs) _ (raise_higher offset low high outcome.outputs f.rises)
    (subst (λ (o : Outcome). AreExtendedBy (all_raised offset high outcome.outputs) o.outputs) (sym (goes_on outcome.fault outcome (with_reach rules offset high outcome) h))
    (reach_extends rules offset high outcome f.within k h))
raised_extends_end rules offset low high outcome (set ∷ sets) f k l h =
    all_further (all_raised offset low outcome.outputs) (fold (shown rules offset) outcome (set ∷ sets)).outputs _
    (sets_extend_raised rules offset outcome low set sets h f.above.0)
    (end_extends rules offset high (fold (shown rules offset) outcome (set ∷ sets)) f.within l)

-- with nothing further all stays
end_same : (rules : Rules) (offset : Option ℤ) (low high : ℕ) (outcome : Outcome) (sets : List (TimedSet Plain)) → sets ≡ [] → high ≡ low
    → AreExtendedBy (ended rules offset low outcome).outputs (ended rules offset high (fold (shown rules offset) outcome sets)).outputs
end_same rules offset low high outcome sets none same =
    subst (λ (n : ℕ). AreExtendedBy (ended rules offset low outcome).outputs (ended rules offset n (fold (shown rules offset) outcome sets)).outputs) (sym same)
    (subst (λ (ss : List (TimedSet Plain)). AreExtendedBy (ended rules offset low outcome).outputs (ended rules offset low (fold (shown rules offset) outcome ss)).outputs) (sym none)
    (all_by_themselves (ended rules offset low outcome).outputs))

-- a node that has failed shows the same outputs
end_failed : (rules : Rules) (offset : Option ℤ) (low high : ℕ) (outcome : Outcome) (sets : List (TimedSet Plain)) (failure : Failure) → outcome.fault ≡ Some failure
    → AreExtendedBy (ended rules offset low outcome).outputs (ended rules offset high (fold (shown rules offset) outcome sets)).outputs
end_failed rules offset low high outcome sets failure h =
    let before : ended rules offset low outcome ≡ outcome = stays outcome.fault outcome (with_reach rules offset low outcome) failure h in
    let after : ended rules offset high (fold (shown rules offset) outcome sets) ≡ outcome =
    ap (λ o. ended rules offset high o) (failed_stays rules offset outcome failure sets h) ∙ stays outcome.fault outcome (with_reach rules offset high outcome) failure h in
    subst (λ (o : Outcome). AreExtendedBy o.outputs (ended rules offset high (fold (shown rules offset) outcome sets)).outputs) (sym before)
    (subst (λ (o : Outcome). AreExtendedBy outcome.outputs o.outputs) (sym after) (all_by_themselves outcome.outputs))

pub end_grows : (rules : Rules) (offset : Option ℤ) (low high : ℕ) (outcome : Outcome) (sets : List (TimedSet Plain)) → Further low high sets
    → AllByRecursion IsPrefix outcome.outputs → AllByRecursion IsPrefix (fold (shown rules offset) outcome sets).outputs
    → AreExtendedBy (ended rules offset low outcome).outputs (ended rules offset high (fold (shown rules offset) outcome sets)).outputs
end_grows rules offset low high outcome sets f k l =
    elim (fault_cases outcome.fault) [
      | inr (failure, h) ↦ end_failed rules offset low high outcome sets failure h
      | inl h ↦ elim (eqb_tells low done) [
        | inl (test, e) ↦ end_same rules offset low high outcome sets (f.none e) (let up = f.rises in let top = f.within in omega (arith, up, top, e))
        | inr (test, ne) ↦ subst (λ (o : Outcome). AreExtendedBy o.outputs (ended rules offset high (fold (shown rules offset) outcome sets)).outputs)
            (sym (goes_on outcome.fault outcome (with_reach rules offset low outcome) h ∙ not_done rules offset low outcome test))
            (raised_extends_end rules offset low high outcome sets f k l h)
      ]
    ]

-- Sources.
call_by_number_keeps : (law : Law) (outcome : Outcome) (number : ℕ) → AllByRecursion IsPrefix outcome.outputs → AllByRecursion IsPrefix (called law outcome number).outputs
call_by_number_keeps law outcome number k =
    unless_keeps outcome.fault outcome _ k (call_keeps None (Call number) (record outcome { taken = outcome.taken + 1 }) (call law outcome.state number) k)

pub calls_keep : (law : Law) (outcome : Outcome) (numbers : List ℕ) → AllByRecursion IsPrefix outcome.outputs → AllByRecursion IsPrefix (fold (called law) outcome numbers).outputs
calls_keep law outcome [] k = k
calls_keep law outcome (number ∷ numbers) k = calls_keep law (called law outcome number) numbers (call_by_number_keeps law outcome number k)

last_call_keeps : (fault : Option Failure) (outcome : Outcome) → AllByRecursion IsPrefix outcome.outputs → AllByRecursion IsPrefix (unless_failed fault outcome (record outcome { outputs = map closed outcome.outputs })).outputs
last_call_keeps (Some failure) outcome k = k
last_call_keeps None outcome k = close_keeps outcome.outputs k

pub source_keeps : (rules : Rules) (law : Law) (calls outputs : ℕ) (sides : List (Option Plain)) → AllByRecursion IsPrefix (source_outcome rules law calls outputs sides).outputs
source_keeps rules law calls outputs sides =
    let made = fold (called law) (opened rules None outputs sides) (range_with_len 0 calls) in
    last_call_keeps made.fault made (calls_keep law (opened rules None outputs sides) (range_with_len 0 calls) (opened_keeps rules None outputs sides))

-- No outputs are lost: the outputs extend as many empty prefixes.
opened_extends : (rules : Rules) (offset : Option ℤ) (outputs : ℕ) (sides : List (Option Plain)) → AreExtendedBy (replicate outputs empty_prefix) (opened rules offset outputs sides).outputs
opened_extends rules offset outputs sides = call_extends offset Open (unopened outputs) (rules.opening sides)

pub calls_extend : (law : Law) (outcome : Outcome) (numbers : List ℕ) → AreExtendedBy outcome.outputs (fold (called law) outcome numbers).outputs
calls_extend law outcome [] = all_by_themselves outcome.outputs
calls_extend law outcome (number ∷ numbers) =
    all_further outcome.outputs (called law outcome number).outputs _
    (unless_extends outcome.fault outcome (after_call None (Call number) (record outcome { taken = outcome.taken + 1 }) (call law outcome.state number))
    (call_extends None (Call number) (record outcome { taken = outcome.taken + 1 }) (call law outcome.state number)))
    (calls_extend law (called law outcome number) numbers)

pub last_call_extends : (fault : Option Failure) (outcome : Outcome) → AllByRecursion IsPrefix outcome.outputs → AreExtendedBy outcome.outputs (unless_failed fault outcome (record outcome { outputs = map closed outcome.outputs })).outputs
last_call_extends (Some failure) outcome k = all_by_themselves outcome.outputs
last_call_extends None outcome k = close_extends outcome.outputs k

pub source_outputs : (rules : Rules) (law : Law) (calls outputs : ℕ) (sides : List (Option Plain)) → AreExtendedBy (replicate outputs empty_prefix) (source_outcome rules law calls outputs sides).outputs
source_outputs rules law calls outputs sides =
    let begun = opened rules None outputs sides in
    let made = fold (called law) begun (range_with_len 0 calls) in
    all_further (replicate outputs empty_prefix) begun.outputs _ (opened_extends rules None outputs sides)
    (all_further begun.outputs made.outputs _ (calls_extend law begun (range_with_len 0 calls))
    (last_call_extends made.fault made (calls_keep law begun (range_with_len 0 calls) (opened_keeps rules None outputs sides))))

pub node_outputs : (rules : Rules) (offset : Option ℤ) (reached outputs : ℕ) (sides : List (Option Plain)) (sets : List (TimedSet Plain)) → reached ≤ done
    → AllByRecursion IsPrefix (shown_all rules offset outputs sides sets).outputs → AreExtendedBy (replicate outputs empty_prefix) (ended rules offset reached (shown_all rules offset outputs sides sets)).outputs
node_outputs rules offset reached outputs sides sets le k =
    let begun = opened rules offset outputs sides in
    all_further (replicate outputs empty_prefix) begun.outputs _ (opened_extends rules offset outputs sides)
    (all_further begun.outputs (shown_all rules offset outputs sides sets).outputs _ (sets_extend rules offset begun sets)
    (end_extends rules offset reached (shown_all rules offset outputs sides sets) le k))
