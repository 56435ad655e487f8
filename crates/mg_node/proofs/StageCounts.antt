-- How many works of a node are counted: as long as it hasn't failed all that came, and each further one once more.
use Rattle.std.proofs.Common.{◌≡◌, ℕ, ℤ, ◌+◌, ◌-◌, ◌<◌, ◌≤◌, List, [], ◌∷◌, map, length, length-drop, take, drop, Option, Some, None, ap, sym, refl, subst, ◌∙◌, arith, inl, inr}
use Rattle.std.specs.List.{fold, range_with_len}
use Rattle.std.proofs.lemmas.List.{length-take}
use Rattle.std.proofs.lemmas.List.FromFn.{length-range_with_len}
use Rattle.mg_value.specs.Payload.{Plain}
use Rattle.mg_settled.specs.Prefix.{StreamPrefix, closed}
use Rattle.mg_settled.specs.Settled.{TimedSet, reach}
use Rattle.mg_calc.specs.declared.law.Law.{Law}
use Rattle.mg_calc.specs.declared.law.Law.TheVariants.{Loopback}
use Rattle.mg_calc.specs.declared.node_fault.Phase.TheVariants.{Open, Call as SourceCall, Process}
use Rattle.mg_calc.specs.declared.plan_node.PlanNode.{PlanNode}
use Rattle.mg_calc.specs.Law.{opening, step, call}
use Rattle.mg_calc.specs.Laying.{all_raised}
use Rattle.mg_calc.specs.Outcome.{Failure, Outcome, after_call, unopened, opened, shown, shown_all, called}
use Rattle.mg_calc.specs.Shape.{IsOuter, calls_of}
use Rattle.mg_calc.specs.Equations.{Job, inputs_of, sides_of, outcome_by, rules_at}
use Rattle.mg_calc.specs.Meaning.{count_of}
use Rattle.mg_calc.proofs.Outcomes.{goes_on, failed_stays}
use Rattle.mg_calc.proofs.Counting.{call_counts, end_counts, end_counts_by}
use Rattle.mg_node.specs.Job.{sets_of, count_by, count_of_all, stage}
use Rattle.mg_node.proofs.Stages.{kind_of, IsCalled, calls_made, outer_stage, outer_outcome, outer_count, called_stage, called_outcome, called_count, calls_stay, sets_in_parts, calls_in_parts}
use Rattle.mg_calc.specs.Rules.{Rules}

-- Steps that count one, unless the node has failed.
module _ {X : Type 0} (go : Outcome → X → Outcome) (stay : (o : Outcome) (f : Failure) (xs : List X) → o.fault ≡ Some f → fold go o xs ≡ o) (count : (o : Outcome) (x : X) → o.fault ≡ None → (go o x).taken ≡ o.taken + 1) where
  not_fewer : (o : Outcome) (x : X) → o.taken ≤ (go o x).taken
  not_fewer o x = by_fault o.fault refl
    where
      by_fault : (fault : Option Failure) → o.fault ≡ fault → o.taken ≤ (go o x).taken
      by_fault (Some f) h = (let same = ap (λ (p : Outcome). p.taken) (stay o f (x ∷ []) h) in omega (arith, same))
      by_fault None h = (let one = count o x h in omega (arith, one))

  never_fewer : (o : Outcome) (xs : List X) → o.taken ≤ (fold go o xs).taken
  never_fewer o [] = omega arith
  never_fewer o (x ∷ xs) = (let one = not_fewer o x in let more = never_fewer (go o x) xs in omega (arith, one, more))

  -- a further one
  one_further : (o : Outcome) (xs : List X) → o.fault ≡ None → 0 < length xs → o.taken + 1 ≤ (fold go o xs).taken
  one_further o [] good some = absurd (omega (arith, some))
  one_further o (x ∷ xs) good some = (let one = count o x good in let more = never_fewer (go o x) xs in omega (arith, one, more))

  -- all of them
  all_counted : (o : Outcome) (xs : List X) → (fold go o xs).fault ≡ None → (fold go o xs).taken ≡ o.taken + length xs
  all_counted o [] good = omega arith
  all_counted o (x ∷ xs) good = by_fault o.fault refl (all_counted (go o x) xs good)
    where
      by_fault : (fault : Option Failure) → o.fault ≡ fault → (fold go (go o x) xs).taken ≡ (go o x).taken + length xs → (fold go (go o x) xs).taken ≡ o.taken + length (x ∷ xs)
      by_fault (Some f) h more = absurd (let same : (fold go (go o x) xs).fault ≡ o.fault = ap (λ (p : Outcome). p.fault) (stay o f (x ∷ xs) h) in cc)
      by_fault None h more = (let one = count o x h in omega (arith, one, more))

set_counts : (rules : Rules) (offset : Option ℤ) (o : Outcome) (set : TimedSet Plain) → o.fault ≡ None → (shown rules offset o set).taken ≡ o.taken + 1
set_counts rules offset o set h =
    let before : Outcome = record o { outputs = all_raised offset set.at o.outputs; taken = o.taken + 1 } in
    ap (λ (p : Outcome). p.taken) (goes_on o.fault o (after_call offset (Process set.at) before (rules.step o.state set.at set.set)) h) ∙ call_counts offset (Process set.at) before (rules.step o.state set.at set.set)

one_called : (law : Law) (o : Outcome) (number : ℕ) → o.fault ≡ None → (called law o number).taken ≡ o.taken + 1
one_called law o number h =
    let before : Outcome = record o { taken = o.taken + 1 } in
    ap (λ (p : Outcome). p.taken) (goes_on o.fault o (after_call None (SourceCall number) before (call law o.state number)) h) ∙ call_counts None (SourceCall number) before (call law o.state number)

none_opened : (rules : Rules) (offset : Option ℤ) (outputs : ℕ) (sides : List (Option Plain)) → (opened rules offset outputs sides).taken ≡ 0
none_opened rules offset outputs sides = call_counts offset Open (unopened outputs) (rules.opening sides)

-- A stage of a node that hasn't failed has taken all works before it.
outer_taken : (job : Job) (streams : List (StreamPrefix Plain)) (node : PlanNode) (n : ℕ) → IsOuter node.law → n ≤ count_of_all streams node → (stage job streams node n).fault ≡ None → (stage job streams node n).taken ≡ n
outer_taken job streams node n is le good =
    let at = outer_stage node.law job streams node n is in
    let begun = opened (rules_at job node) node.shape.offset (length node.outputs) (sides_of job node) in
    let go = shown (rules_at job node) node.shape.offset in
    let all = all_counted go (failed_stays (rules_at job node) node.shape.offset) (set_counts (rules_at job node) node.shape.offset) begun (take n (sets_of streams node)) (ap (λ (o : Outcome). o.fault) (sym at) ∙ good) in
    let none = none_opened (rules_at job node) node.shape.offset (length node.outputs) (sides_of job node) in
    let many = length-take n (sets_of streams node) in
    let count = outer_count node.law streams node is in
    ap (λ (o : Outcome). o.taken) at ∙ omega (arith, all, none, many, count, le)

called_taken : (job : Job) (streams : List (StreamPrefix Plain)) (node : PlanNode) (n : ℕ) → IsCalled node.law → (stage job streams node n).fault ≡ None → (stage job streams node n).taken ≡ n
called_taken job streams node n is good =
    let at = called_stage node.law job streams node n is in
    let begun = opened (rules_at job node) None (length node.outputs) (sides_of job node) in
    let all = all_counted (called node.law) (calls_stay node.law) (one_called node.law) begun (range_with_len 0 n) (ap (λ (o : Outcome). o.fault) (sym at) ∙ good) in
    let none = none_opened (rules_at job node) None (length node.outputs) (sides_of job node) in
    let many = length-range_with_len 0 n in
    ap (λ (o : Outcome). o.taken) at ∙ omega (arith, all, none, many)

-- A further work of such a node is counted.
outer_further : (job : Job) (streams : List (StreamPrefix Plain)) (node : PlanNode) (n : ℕ) → IsOuter node.law → n < count_of_all streams node → (stage job streams node n).fault ≡ None → n + 1 ≤ count_of job streams node
outer_further job streams node n is less good =
    let offset = node.shape.offset in
    let sets = sets_of streams node in
    let at = outer_stage node.law job streams node n is in
    let first = shown_all (rules_at job node) offset (length node.outputs) (sides_of job node) (take n sets) in
    let whole = shown_all (rules_at job node) offset (length node.outputs) (sides_of job node) sets in
    let count = outer_count node.law streams node is in
    let taken = outer_taken job streams node n is (omega (arith, less)) good in
    let here = ap (λ (o : Outcome). o.taken) at in
    let many = length-drop n sets in
    let more = one_further (shown (rules_at job node) offset) (failed_stays (rules_at job node) offset) (set_counts (rules_at job node) offset) first (drop n sets) (ap (λ (o : Outcome). o.fault) (sym at) ∙ good) (omega (arith, many, less, count)) in
    let parts = ap (λ (o : Outcome). o.taken) (sets_in_parts (rules_at job node) offset (length node.outputs) (sides_of job node) sets n) in
    let end = ap (λ (o : Outcome). o.taken) (outer_outcome node.law job streams node is) ∙ end_counts (rules_at job node) offset (reach node.policy (inputs_of streams node)) whole in
    omega (arith, taken, here, more, parts, end)

called_further : (job : Job) (streams : List (StreamPrefix Plain)) (node : PlanNode) (n : ℕ) → IsCalled node.law → n < count_of_all streams node → (stage job streams node n).fault ≡ None → n + 1 ≤ count_of job streams node
called_further job streams node n is less good =
    let calls = calls_of node.law in
    let at = called_stage node.law job streams node n is in
    let first = calls_made job node n in
    let whole = calls_made job node calls in
    let count = called_count node.law streams node is in
    let taken = called_taken job streams node n is good in
    let here = ap (λ (o : Outcome). o.taken) at in
    let many = length-range_with_len n (calls - n) in
    let more = one_further (called node.law) (calls_stay node.law) (one_called node.law) first (range_with_len n (calls - n)) (ap (λ (o : Outcome). o.fault) (sym at) ∙ good) (omega (arith, many, less, count)) in
    let parts = ap (λ (o : Outcome). o.taken) (calls_in_parts job node n calls (omega (arith, less, count))) in
    let end = ap (λ (o : Outcome). o.taken) (called_outcome node.law job streams node is) ∙ end_counts_by whole.fault whole (record whole { outputs = map closed whole.outputs }) refl in
    omega (arith, taken, here, more, parts, end)

loop_further : (law : Law) (job : Job) (streams : List (StreamPrefix Plain)) (node : PlanNode) (n : ℕ) → law ≡ Loopback → n < count_by law streams node → n + 1 ≤ (outcome_by law job streams node).taken
loop_further law job streams node n is = subst (λ (l : Law). n < count_by l streams node → n + 1 ≤ (outcome_by l job streams node).taken) (sym is) (λ less. omega (arith, less))

pub one_more_counted : (job : Job) (streams : List (StreamPrefix Plain)) (node : PlanNode) (n : ℕ) → n < count_of_all streams node → (stage job streams node n).fault ≡ None → n + 1 ≤ count_of job streams node
one_more_counted job streams node n less good = elim (kind_of node.law) [
  | inl is ↦ outer_further job streams node n is less good
  | inr (inl is) ↦ called_further job streams node n is less good
  | inr (inr is) ↦ loop_further node.law job streams node n is less
]
