-- Where a batch ends, the output of an EndLoop is settled: its bound is above the time that the batch's end tells.
use Rattle.std.proofs.Common.{◌≡◌, ◌==◌, ℕ, zero, suc, ◌+◌, ◌<◌, ◌≤◌, min, max, ℤ, Bool, true, false, List, [], ◌∷◌, map, length, replicate, get_or, Option, Some, None, slice_get, Result, Ok, Err, refl, sym, ap, ap₂, subst, ◌∙◌, arith, if◌then◌else◌}
use Rattle.std.specs.List.{fold, AllZip}
use Rattle.std.proofs.lemmas.List.{length-map, length-replicate}
use Rattle.std.proofs.lemmas.List.Elements.{AllZip-get_or, length_all_zip}
use Rattle.mg_time.specs.Time.{done, IsAllowed, place_of, next}
use Rattle.mg_value.specs.Plain.{Plain, items, items_of}
use Rattle.mg_value.specs.Packet.{Stamped}
use Rattle.mg_settled.specs.Prefix.{StreamPrefix, empty_prefix, appended, raised, closed}
use Rattle.mg_settled.specs.Extension.{IsExtendedBy, AreExtendedBy}
use Rattle.mg_settled.specs.Settled.{TimedSet, settled_sets, reach}
use Rattle.mg_settled.proofs.PrefixSteps.{next_above}
use Rattle.mg_calc.specs.declared.law.Law.TheVariants.{EndLoop}
use Rattle.mg_calc.specs.declared.emission.Laid.{Laid}
use Rattle.mg_calc.specs.declared.cause.Cause.{Cause}
use Rattle.mg_calc.specs.declared.cause.Cause.TheVariants.{WrongKind}
use Rattle.mg_calc.specs.declared.node_fault.Phase.{Phase}
use Rattle.mg_calc.specs.declared.node_fault.Phase.TheVariants.{Process}
use Rattle.mg_calc.specs.Answer.{Answer, emission_of}
use Rattle.mg_calc.specs.Values.{place_at, number_of}
use Rattle.mg_calc.specs.State.{kept_list}
use Rattle.mg_calc.specs.Kinds.{has_wrong_kind}
use Rattle.mg_calc.specs.Batch.{with_item, list_or_bound, gathered}
use Rattle.mg_calc.specs.Law.{step, table_rules}
use Rattle.mg_calc.specs.Laying.{laying_fault, with_packets, raised_to, with_laid, laid_behind, after, all_raised}
use Rattle.mg_calc.specs.Outcome.{Failure, Outcome, after_laying, after_call, unless_failed, unopened, shown, finished, with_reach, ended, node_outcome}
use Rattle.mg_calc.proofs.LaidBehind.{after_good, unless_good, raise_extends}
use Rattle.mg_calc.proofs.Outcomes.{failed_stays, set_extends, sets_extend}

abbrev pub first_bound : List (StreamPrefix Plain) → ℕ
first_bound outputs = (get_or outputs 0 empty_prefix).bound

-- a longer output has a higher bound
rises : (outputs longer : List (StreamPrefix Plain)) → 0 < length outputs → AreExtendedBy outputs longer → first_bound outputs ≤ first_bound longer
rises outputs longer some more = (AllZip-get_or IsExtendedBy outputs longer 0 empty_prefix empty_prefix more some).bound

-- a list settles its time, and so does a bound
one_settles : (b : Bool) (offset : Option ℤ) (phase : Phase) (outputs longer : List (StreamPrefix Plain)) (t : ℕ) (list : List Plain) → IsAllowed t → 0 < length outputs
    → laid_behind offset phase outputs (if b then record { packets = []; bound = Some (next t) } ∷ [] else emission_of (Some (record { at = t; value = items (items_of list) }) ∷ [])) ≡ Ok longer → t < first_bound longer
one_settles b offset phase [] longer t list allowed some is = absurd (omega (arith, some))
one_settles true offset phase (output ∷ outputs) longer t list allowed some is = (
    let same : raised output (min (next t) done) ∷ outputs ≡ longer = cc in
    let above = next_above t allowed in
    let high : t < max output.bound (min (next t) done) = omega (arith, above, allowed.1) in
    subst (λ (l : List (StreamPrefix Plain)). t < first_bound l) same high
    )
one_settles false offset phase (output ∷ outputs) longer t list allowed some is =
    let p : Stamped Plain = record { at = t; value = items (items_of list) } in
    let laid : Laid = record { packets = p ∷ []; bound = None } in
    let here = after_good (with_laid offset phase output laid) (λ l. after (laid_behind offset phase outputs []) (λ others. Ok (l ∷ others))) longer is in
    let put = after_good (with_packets offset phase output (p ∷ [])) (λ l. Ok (raised_to None l)) here.0 here.1 in
    let free = unless_good (laying_fault offset phase output p) (Ok (appended output p)) put.0 put.1 in
    by_same put.0 here.0 free.1 put.2 here.2
  where
    by_same : (x y : StreamPrefix Plain) → (let r : Result (StreamPrefix Plain) Cause = Ok (appended output (record { at = t; value = items (items_of list) })) in r) ≡ Ok x → (let r : Result (StreamPrefix Plain) Cause = Ok x in r) ≡ Ok y
        → (let r : Result (List (StreamPrefix Plain)) Cause = Ok (y ∷ outputs) in r) ≡ Ok longer → t < first_bound longer
    by_same x y first second third = (
        let a : appended output (record { at = t; value = items (items_of list) }) ≡ x = cc in
        let b : x ≡ y = cc in
        let c : y ∷ outputs ≡ longer = cc in
        subst (λ (l : List (StreamPrefix Plain)). t < first_bound l) c (subst (λ (s : StreamPrefix Plain). t < s.bound) (a ∙ b) (next_above t allowed))
        )

-- what an EndLoop lays at the end of a batch
laid_end : (form : Bool) (state : List Plain) (t : ℕ) (set : List (Option (Stamped Plain))) (end : Stamped Plain) (given : List Plain × List Laid) → place_at set 0 ≡ Some end → step (EndLoop form) state t set ≡ Ok given
    → (list : List Plain) × (given.1 ≡ list_or_bound form (place_of (number_of end.value)) list)
laid_end form state t set end given at is = by_kind (has_wrong_kind (EndLoop form) set) is
  where
    by_list : (r : Result (List Plain) Cause) → gathered form (Some end) r ≡ Ok given → (list : List Plain) × (given.1 ≡ list_or_bound form (place_of (number_of end.value)) list)
    by_list (Err cause) is = absurd cc
    by_list (Ok list) is = (let same : ([], list_or_bound form (place_of (number_of end.value)) list) ≡ given = cc in (list, ap (λ (g : List Plain × List Laid). g.1) (sym same)))

    by_kind : (b : Bool) → (if b then Err WrongKind else gathered form (place_at set 0) (with_item (kept_list state) (place_at set 1))) ≡ Ok given
        → (list : List Plain) × (given.1 ≡ list_or_bound form (place_of (number_of end.value)) list)
    by_kind true is = absurd cc
    by_kind false is =
        by_list (with_item (kept_list state) (place_at set 1)) (ap (λ (o : Option (Stamped Plain)). gathered form o (with_item (kept_list state) (place_at set 1))) (sym at) ∙ is)

-- the set at which a batch ends
module _ (form : Bool) (offset : Option ℤ) (set : TimedSet Plain) (end : Stamped Plain) (at : place_at set.set 0 ≡ Some end) (allowed : IsAllowed (place_of (number_of end.value))) where
  abbrev told : ℕ
  told = place_of (number_of end.value)

  call_settles : (before : Outcome) (answer : Answer) → 0 < length before.outputs → step (EndLoop form) before.state set.at set.set ≡ answer
      → (after_call offset (Process set.at) (record before { outputs = all_raised offset set.at before.outputs; taken = before.taken + 1 }) answer).fault ≡ None
      → told < first_bound (after_call offset (Process set.at) (record before { outputs = all_raised offset set.at before.outputs; taken = before.taken + 1 }) answer).outputs
  call_settles before (Err cause) some is none = absurd cc
  call_settles before (Ok given) some is none =
      let raise = length_all_zip IsExtendedBy before.outputs (all_raised offset set.at before.outputs) (raise_extends offset set.at before.outputs) in
      by (laid_behind offset (Process set.at) (all_raised offset set.at before.outputs) given.1) refl none (omega (arith, some, raise))
    where
      laid : (list : List Plain) × (given.1 ≡ list_or_bound form told list)
      laid = laid_end form before.state set.at set.set end given at is

      by : (r : Result (List (StreamPrefix Plain)) Cause) → laid_behind offset (Process set.at) (all_raised offset set.at before.outputs) given.1 ≡ r
          → (after_laying (Process set.at) (record before { state = given.0; outputs = all_raised offset set.at before.outputs; taken = before.taken + 1 }) r).fault ≡ None → 0 < length (all_raised offset set.at before.outputs)
          → told < first_bound (after_laying (Process set.at) (record before { state = given.0; outputs = all_raised offset set.at before.outputs; taken = before.taken + 1 }) r).outputs
      by (Err cause) put none some = absurd cc
      by (Ok longer) put none some =
          one_settles _ offset (Process set.at) (all_raised offset set.at before.outputs) longer told laid.0 allowed some (ap (laid_behind offset (Process set.at) (all_raised offset set.at before.outputs)) (sym laid.1) ∙ put)

  set_settles : (before : Outcome) → 0 < length before.outputs → (shown (table_rules (EndLoop form)) offset before set).fault ≡ None → told < first_bound (shown (table_rules (EndLoop form)) offset before set).outputs
  set_settles before some none = by before.fault refl none
    where
      next : Outcome
      next = after_call offset (Process set.at) (record before { outputs = all_raised offset set.at before.outputs; taken = before.taken + 1 }) (step (EndLoop form) before.state set.at set.set)

      by : (f : Option Failure) → before.fault ≡ f → (unless_failed f before next).fault ≡ None → told < first_bound (unless_failed f before next).outputs
      by (Some failure) is none = absurd cc
      by None is none = call_settles before (step (EndLoop form) before.state set.at set.set) some refl none

  -- and it stays so
  sets_settle : (before : Outcome) (sets : List (TimedSet Plain)) (k : ℕ) → slice_get sets k ≡ Some set → 0 < length before.outputs → (fold (shown (table_rules (EndLoop form)) offset) before sets).fault ≡ None
      → told < first_bound (fold (shown (table_rules (EndLoop form)) offset) before sets).outputs
  sets_settle before [] k there some none = absurd cc
  sets_settle before (first ∷ sets) k there some none =
      by (shown (table_rules (EndLoop form)) offset before first).fault refl k there (λ j longer later. sets_settle (shown (table_rules (EndLoop form)) offset before first) sets j later longer none)
    where
      next : Outcome
      next = shown (table_rules (EndLoop form)) offset before first

      longer : 0 < length next.outputs
      longer = let same = length_all_zip IsExtendedBy before.outputs next.outputs (set_extends (table_rules (EndLoop form)) offset before first) in omega (arith, some, same)

      here : next.fault ≡ None → first ≡ set → told < first_bound (fold (shown (table_rules (EndLoop form)) offset) next sets).outputs
      here good same =
          let now : told < first_bound next.outputs =
          subst (λ (s : TimedSet Plain). told < first_bound (shown (table_rules (EndLoop form)) offset before s).outputs) (sym same)
          (set_settles before some (ap (λ (s : TimedSet Plain). (shown (table_rules (EndLoop form)) offset before s).fault) (sym same) ∙ good)) in
          let up = rises next.outputs (fold (shown (table_rules (EndLoop form)) offset) next sets).outputs longer (sets_extend (table_rules (EndLoop form)) offset next sets) in
          omega (arith, now, up)

      by : (f : Option Failure) → next.fault ≡ f → (k : ℕ) → slice_get (first ∷ sets) k ≡ Some set
          → ((j : ℕ) → 0 < length next.outputs → slice_get sets j ≡ Some set → told < first_bound (fold (shown (table_rules (EndLoop form)) offset) next sets).outputs)
          → told < first_bound (fold (shown (table_rules (EndLoop form)) offset) next sets).outputs
      by (Some failure) is k there rest = (let stays = ap (λ (o : Outcome). o.fault) (failed_stays (table_rules (EndLoop form)) offset next failure sets is) in absurd cc)
      by None is zero there rest = (let same : first ≡ set = cc in here is same)
      by None is (suc k) there rest = rest k longer there

-- the end of the sets changes nothing of it
first_closed : (outputs : List (StreamPrefix Plain)) → 0 < length outputs → first_bound (map closed outputs) ≡ done
first_closed [] some = absurd (omega (arith, some))
first_closed (output ∷ outputs) some = refl

end_settles : (form : Bool) (offset : Option ℤ) (reached t : ℕ) (o : Outcome) → 0 < length o.outputs → t < first_bound o.outputs → t < done → o.fault ≡ None
    → t < first_bound (ended (table_rules (EndLoop form)) offset reached o).outputs
end_settles form offset reached t o some below allowed none = by o.fault none
  where
    outs : List (StreamPrefix Plain)
    outs = all_raised offset reached o.outputs

    raise : AreExtendedBy o.outputs outs
    raise = raise_extends offset reached o.outputs

    by_end : (b : Bool) → t < first_bound (if b then finished (table_rules (EndLoop form)) offset (record o { outputs = outs }) else record o { outputs = outs }).outputs
    by_end true = (
        let long = length_all_zip IsExtendedBy o.outputs outs raise in
        subst (λ (n : ℕ). t < n) (sym (first_closed outs (omega (arith, some, long)))) allowed
        )
    by_end false = (let up = rises o.outputs outs some raise in omega (arith, below, up))

    by : (f : Option Failure) → f ≡ None → t < first_bound (unless_failed f o (with_reach (table_rules (EndLoop form)) offset reached o)).outputs
    by (Some failure) is = absurd cc
    by None is = by_end (reached == done)

pub node_settles : (form : Bool) (offset : Option ℤ) (outputs : ℕ) (sets : List (TimedSet Plain)) (reached k : ℕ) (set : TimedSet Plain) (end : Stamped Plain) → 0 < outputs → slice_get sets k ≡ Some set → place_at set.set 0 ≡ Some end
    → IsAllowed (place_of (number_of end.value)) → (ended (table_rules (EndLoop form)) offset reached (fold (shown (table_rules (EndLoop form)) offset) (unopened outputs) sets)).fault ≡ None
    → place_of (number_of end.value) < first_bound (ended (table_rules (EndLoop form)) offset reached (fold (shown (table_rules (EndLoop form)) offset) (unopened outputs) sets)).outputs
node_settles form offset outputs sets reached k set end some there at allowed none = by folded.fault refl none
  where
    folded : Outcome
    folded = fold (shown (table_rules (EndLoop form)) offset) (unopened outputs) sets

    begun : 0 < length (unopened outputs).outputs
    begun = let long = length-replicate outputs (empty_prefix {X = Plain}) in omega (arith, some, long)

    by : (f : Option Failure) → folded.fault ≡ f → (unless_failed f folded (with_reach (table_rules (EndLoop form)) offset reached folded)).fault ≡ None
        → place_of (number_of end.value) < first_bound (ended (table_rules (EndLoop form)) offset reached folded).outputs
    by (Some failure) is none = absurd cc
    by None is none = (
        let long = length_all_zip IsExtendedBy (unopened outputs).outputs folded.outputs (sets_extend (table_rules (EndLoop form)) offset (unopened outputs) sets) in
        end_settles form offset reached (place_of (number_of end.value)) folded (omega (arith, begun, long)) (sets_settle form offset set end at allowed (unopened outputs) sets k there begun is) (omega (arith, allowed.1)) is
        )
