-- What becomes of a node, step by step.
use Rattle.std.proofs.Common.{◌≡◌, ℕ, zero, suc, option_map, ℤ, ◌+◌, ◌-◌, ◌<◌, ◌≤◌, List, [], ◌∷◌, map, All, drop, get_or, length, Option, Some, None, Result, Ok, Err, refl, sym, ap, ap₂, ◌∙◌, arith}
use Rattle.std.specs.List.{AllByRecursion, fold, range_with_len}
use Rattle.std.proofs.lemmas.List.{get_or_default}
use Rattle.std.proofs.lemmas.List.Elements.{recursion_from_All}
use Rattle.mg_value.specs.Payload.{Plain}
use Rattle.mg_value.specs.Packet.{Stamped}
use Rattle.mg_settled.specs.Prefix.{StreamPrefix, closed, empty_prefix}
use Rattle.mg_settled.specs.Loopback.{last_of}
use Rattle.mg_calc.specs.declared.cause.Cause.{Cause}
use Rattle.mg_calc.specs.declared.node_fault.Phase.{Phase}
use Rattle.mg_calc.specs.declared.node_fault.Phase.TheVariants.{Call, Process}
use Rattle.mg_calc.specs.declared.law.Law.{Law}
use Rattle.mg_calc.specs.declared.law.Law.TheVariants.{Count, SideOnce, Constants, Loopback}
use Rattle.mg_calc.specs.Answer.{Answer}
use Rattle.mg_calc.specs.Law.{call, table_rules}
use Rattle.mg_calc.specs.Laying.{laid_behind, all_raised}
use Rattle.mg_calc.specs.Shape.{IsOuter}
use Rattle.mg_settled.specs.Settled.{TimedSet, inputs_of as inputs_at}
use Rattle.mg_calc.specs.Outcome.{Outcome, Failure, after_laying, after_call, unless_failed, shown, called, node_outcome}
use Rattle.mg_calc.specs.declared.plan_node.PlanNode.{PlanNode}
use Rattle.mg_calc.specs.Equations.{Job, rules_at, sides_of, stream_of, inputs_of, outcome_by}
use Rattle.mg_route.proofs.LayingLemmas.{from_here}
use Rattle.mg_calc.specs.Rules.{Rules}

-- what is laid
pub laid_well : (phase : Phase) (outcome : Outcome) (answer : Result (List (StreamPrefix Plain)) Cause) (outputs now : List (StreamPrefix Plain)) → answer ≡ Ok outputs → now ≡ outputs
    → (let after : Outcome = record { state = outcome.state; outputs = now; taken = outcome.taken; fault = outcome.fault } in after) ≡ after_laying phase outcome answer
laid_well phase outcome answer outputs now good same =
    ap (λ (o : List (StreamPrefix Plain)). let after : Outcome = record { state = outcome.state; outputs = o; taken = outcome.taken; fault = outcome.fault } in after) same
    ∙ sym (ap (after_laying phase outcome) good)

-- Counts.
laying_counts : (phase : Phase) (outcome : Outcome) (answer : Result (List (StreamPrefix Plain)) Cause) → (after_laying phase outcome answer).taken ≡ outcome.taken
laying_counts phase outcome (Ok outputs) = refl
laying_counts phase outcome (Err cause) = refl

pub call_counts : (offset : Option ℤ) (phase : Phase) (outcome : Outcome) (answer : Answer) → (after_call offset phase outcome answer).taken ≡ outcome.taken
call_counts offset phase outcome (Err cause) = refl
call_counts offset phase outcome (Ok given) = laying_counts phase (record outcome { state = given.0 }) (laid_behind offset phase outcome.outputs given.1)

unless_counts : (fault : Option Failure) (outcome next : Outcome) → next.taken ≡ outcome.taken + 1 → (unless_failed fault outcome next).taken ≤ outcome.taken + 1
unless_counts (Some failure) outcome next e = omega arith
unless_counts None outcome next e = omega (arith, e)

pub shown_counts : (rules : Rules) (offset : Option ℤ) (outcome : Outcome) (set : TimedSet Plain) → (shown rules offset outcome set).taken ≤ outcome.taken + 1
shown_counts rules offset outcome set =
    let before : Outcome = record outcome { outputs = all_raised offset set.at outcome.outputs; taken = outcome.taken + 1 } in
    unless_counts outcome.fault outcome (after_call offset (Process set.at) before (rules.step outcome.state set.at set.set)) (call_counts offset (Process set.at) before (rules.step outcome.state set.at set.set))

called_counts : (law : Law) (outcome : Outcome) (number : ℕ) → (called law outcome number).taken ≤ outcome.taken + 1
called_counts law outcome number =
    let before : Outcome = record outcome { taken = outcome.taken + 1 } in
    unless_counts outcome.fault outcome (after_call None (Call number) before (call law outcome.state number)) (call_counts None (Call number) before (call law outcome.state number))

-- A node was shown the sets so far: with the sets that are left its outcome is that of all sets.
pub record IsShown (law : Law) (offset : Option ℤ) (begun outcome : Outcome) (sets : List (TimedSet Plain)) (i : ℕ) : Type 0 where
  pub same : fold (shown (table_rules law) offset) outcome (drop i sets) ≡ fold (shown (table_rules law) offset) begun sets
  pub counted : outcome.taken ≤ begun.taken + i

pub shown_further : (law : Law) (offset : Option ℤ) (begun outcome next : Outcome) (sets : List (TimedSet Plain)) (i : ℕ) (set : TimedSet Plain) → IsShown law offset begun outcome sets i → i < length sets → set ≡ get_or sets i set
    → next ≡ shown (table_rules law) offset outcome set → IsShown law offset begun next sets (i + 1)
shown_further law offset begun outcome next sets i set so_far below is next_is = record {
  same = ap (λ (o : Outcome). fold (shown (table_rules law) offset) o (drop (i + 1) sets)) next_is
      ∙ (ap (fold (shown (table_rules law) offset) outcome) (sym (from_here sets i set below is)) ∙ so_far.same);
  counted = (let one = shown_counts (table_rules law) offset outcome set in let same = ap (λ (o : Outcome). o.taken) next_is in let few = so_far.counted in omega (arith, one, same, few));
}

-- A source that was called so often.
pub record IsCalled (law : Law) (begun outcome : Outcome) (calls i : ℕ) : Type 0 where
  pub same : fold (called law) outcome (range_with_len i (calls - i)) ≡ fold (called law) begun (range_with_len 0 calls)
  pub counted : outcome.taken ≤ i

pub called_further : (law : Law) (begun outcome next : Outcome) (calls i : ℕ) → IsCalled law begun outcome calls i → i < calls → next ≡ called law outcome i → IsCalled law begun next calls (i + 1)
called_further law begun outcome next calls i so_far below next_is = record {
  same = ap (λ (o : Outcome). fold (called law) o (range_with_len (i + 1) (calls - (i + 1)))) next_is
      ∙ (sym (ap (λ (n : ℕ). fold (called law) outcome (range_with_len i n)) (let e : calls - i ≡ suc (calls - (i + 1)) = omega (arith, below) in e)) ∙ so_far.same);
  counted = (let one = called_counts law outcome i in let same = ap (λ (o : Outcome). o.taken) next_is in let few = so_far.counted in omega (arith, one, same, few));
}

-- The input streams of a node: all of them are there.
inputs_by_recursion : (streams : List (StreamPrefix Plain)) (ports : List ℕ) → AllByRecursion (λ i. i < length streams) ports → inputs_at streams ports ≡ map (stream_of streams) ports
inputs_by_recursion streams [] there = refl
inputs_by_recursion streams (port ∷ ports) there =
    ap₂ (λ (s : StreamPrefix Plain) (ss : List (StreamPrefix Plain)). s ∷ ss) (get_or_default streams port (closed empty_prefix) empty_prefix there.0) (inputs_by_recursion streams ports there.1)

pub inputs_are : (streams : List (StreamPrefix Plain)) (ports : List ℕ) → All (λ i. i < length streams) ports → inputs_at streams ports ≡ map (stream_of streams) ports
inputs_are streams ports there = inputs_by_recursion streams ports (recursion_from_All (λ (i : ℕ). i < length streams) ports there)

-- what becomes of a node that is shown sets, by its law
outer_by : (law : Law) (job : Job) (streams : List (StreamPrefix Plain)) (node : PlanNode) → IsOuter law
    → outcome_by law job streams node ≡ node_outcome (rules_at job node) node.shape.offset node.policy (length node.outputs) (sides_of job node) (inputs_of streams node)
outer_by (Count count start apart) job streams node outer = absurd outer
outer_by (SideOnce at) job streams node outer = absurd outer
outer_by Constants job streams node outer = absurd outer
outer_by Loopback job streams node outer = absurd outer
outer_by law job streams node outer = refl

pub outer_outcome : (law : Law) (job : Job) (streams : List (StreamPrefix Plain)) (node : PlanNode) (sides : List (Option Plain)) → IsOuter law → All (λ i. i < length streams) node.inputs → sides ≡ sides_of job node
    → node_outcome (rules_at job node) node.shape.offset node.policy (length node.outputs) sides (inputs_at streams node.inputs) ≡ outcome_by law job streams node
outer_outcome law job streams node sides outer there same =
    ap₂ (λ (s : List (Option Plain)) (inputs : List (StreamPrefix Plain)). node_outcome (rules_at job node) node.shape.offset node.policy (length node.outputs) s inputs) same (inputs_are streams node.inputs there)
    ∙ sym (outer_by law job streams node outer)

-- the time of the last packet of those that are read
last_is : (m : ℕ) (o : Option (Stamped Plain)) (ps : List (Stamped Plain)) (d : Stamped Plain) → m < length ps → last_of o (suc m) ps ≡ Some (get_or ps m d)
last_is m o [] d below = absurd (omega (arith, below))
last_is zero o (p ∷ ps) d below = refl
last_is (suc m) o (p ∷ ps) d below = last_is m (Some p) ps d (omega (arith, below))

pub last_time_is : (n t : ℕ) (ps : List (Stamped Plain)) (p : Stamped Plain) → 0 < n → n ≤ length ps → p ≡ get_or ps (n - 1) p → t ≡ p.at → Some t ≡ option_map (λ q. q.at) (last_of None n ps)
last_time_is n t ps p some few is time =
    let more : n ≡ suc (n - 1) = omega (arith, some) in
    ap (λ (u : ℕ). Some u) time
    ∙ ap (λ (q : Stamped Plain). option_map (λ r. r.at) (Some q)) is
    ∙ ap (option_map (λ (q : Stamped Plain). q.at)) (sym (ap (λ (k : ℕ). last_of None k ps) more ∙ last_is (n - 1) None ps p (omega (arith, some, few))))
