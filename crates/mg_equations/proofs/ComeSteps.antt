-- Nodes go on, by their laws.
use Rattle.std.proofs.Common.{◌≡◌, ℕ, zero, suc, ◌<◌, ◌≤◌, ◌==◌, Bool, true, false, replicate, List, [], ◌∷◌, map, get_or, length, length-drop, All, Option, None, Some, slice_get, refl, sym, ap, ap₂, subst, ◌∙◌, arith, inl, inr}
use Rattle.std.proofs.lemmas.Option.{slice_get_within, slice_get-get_or, get_or_from_slice_get}
use Rattle.std.proofs.lemmas.List.{length-replicate, get_or_default}
use Rattle.std.specs.List.{AllByRecursion}
use Rattle.std.proofs.lemmas.List.Elements.{All-weaker, Contains-get_or, recursion_from_All}
use Rattle.mg_time.specs.Time.{pre_stream, done, IsAllowed}
use Rattle.mg_value.specs.Payload.{Plain}
use Rattle.mg_value.specs.Packet.{Stamped}
use Rattle.mg_settled.specs.Prefix.{StreamPrefix, IsPrefix, empty_prefix, closed}
use Rattle.mg_settled.specs.Extension.{IsExtendedBy, AreExtendedBy}
use Rattle.mg_settled.specs.Settled.{settled_sets, port_of, inputs_of as inputs_at}
use Rattle.mg_settled.specs.Left.{AreGone}
use Rattle.mg_settled.specs.Loopback.{IsPast}
use Rattle.mg_settled.proofs.Lemmas.{all_inputs, inputs-extended, port-prefix, port-extended, sets-gone, gone-extended, none-gone}
use Rattle.mg_calc.specs.declared.law.Law.{Law}
use Rattle.mg_calc.specs.declared.law.Law.TheVariants.{Count, SideOnce, Constants, Loopback}
use Rattle.mg_calc.specs.declared.plan_node.PlanNode.{PlanNode}
use Rattle.mg_calc.specs.declared.port_kind.PortKind.{PortKind}
use Rattle.mg_calc.specs.Shape.{IsOuter, IsShapeOf, IsStated, HasInputs, calls_of}
use Rattle.mg_calc.specs.Plan.{HasNumbers}
use Rattle.mg_calc.specs.Outcome.{Outcome, opened, node_outcome, source_outcome, loopback_outcome}
use Rattle.mg_calc.specs.Equations.{Job, IsJob, rules_at, sides_of, stream_of, inputs_of, outcome_by, outcome_of}
use Rattle.mg_equations.specs.declared.outcome.Outcome.{Outcome as CodeOutcome}
use Rattle.mg_equations.specs.declared.progress.Progress.{Progress}
use Rattle.mg_equations.specs.Code.Begun.{begun_by}
use Rattle.mg_equations.specs.Code.Seen.{seen}
use Rattle.mg_equations.specs.Code.Growing.{AreChanged}
use Rattle.mg_equations.specs.Code.Progress.{AreWithin, HasRead, LoopbackHasAnswered, HasCome, HaveCome, CanGoOn, ShowsMore, AnswersMore, NodeGoesOn}
use Rattle.mg_equations.specs.Code.RoundNodes.{GoesOnIf, HaveGoneOn}
use Rattle.mg_equations.proofs.NodeSteps.{few_sets, node_counts, opened_counts}
use Rattle.mg_equations.proofs.OutcomeSteps.{outer_outcome, inputs_are}
use Rattle.mg_equations.proofs.PortSteps.{inputs_long}
use Rattle.mg_equations.proofs.RoundSteps.{node_at}
use Rattle.mg_calc.proofs.Earlier.{at_place}
use Rattle.mg_calc.proofs.Settling.{outcome_of_inputs_by}
use Rattle.mg_calc.proofs.TableRules.{by_table}
use Rattle.mg_equations.proofs.ProgressSteps.{shown_more, shown_first, answered_more, within_later, within_gone}
use Rattle.mg_calc.specs.Rules.{Rules}
use Rattle.mg_calc.specs.Law.{table_rules}

-- the streams of a loopback, by port
two_ports : (law : Law) (ps : List PortKind) → HasInputs law ps → law ≡ Loopback → length ps ≡ 2
two_ports law ps has e = (let same = subst (λ (l : Law). HasInputs l ps) e has in ap length same)

pub loop_ports : (node : PlanNode) → HasNumbers node → IsShapeOf node.law node.shape → node.law ≡ Loopback → length node.inputs ≡ 2
loop_ports node numbers shape e = numbers.inputs ∙ two_ports node.law node.shape.inputs shape.inputs e

loop_outcome : (job : Job) (streams : List (StreamPrefix Plain)) (node : PlanNode) → All (λ i. i < length streams) node.inputs → length node.inputs ≡ 2 → node.law ≡ Loopback
    → outcome_of job streams node ≡ loopback_outcome (port_of (inputs_at streams node.inputs) 1) (port_of (inputs_at streams node.inputs) 0)
loop_outcome job streams node known two e =
    let long : length (inputs_of streams node) ≡ 2 = ap length (sym (inputs_are streams node.inputs known)) ∙ inputs_long streams node.inputs ∙ two in
    ap (λ (law : Law). outcome_by law job streams node) e
    ∙ ap₂ loopback_outcome (get_or_default (inputs_of streams node) 1 empty_prefix (closed empty_prefix) (omega (arith, long))) (get_or_default (inputs_of streams node) 0 empty_prefix (closed empty_prefix) (omega (arith, long)))
    ∙ ap (λ (ss : List (StreamPrefix Plain)). loopback_outcome (port_of ss 1) (port_of ss 0)) (sym (inputs_are streams node.inputs known))

outer_is : (job : Job) (streams : List (StreamPrefix Plain)) (node : PlanNode) → All (λ i. i < length streams) node.inputs → IsOuter node.law → rules_at job node ≡ table_rules node.law
    → outcome_of job streams node ≡ node_outcome (table_rules node.law) node.shape.offset node.policy (length node.outputs) (sides_of job node) (inputs_at streams node.inputs)
outer_is job streams node known outer rules =
    sym (outer_outcome node.law job streams node (sides_of job node) outer known refl)
    ∙ ap (λ (r : Rules). node_outcome r node.shape.offset node.policy (length node.outputs) (sides_of job node) (inputs_at streams node.inputs)) rules

-- What a node of a job has if its streams have grown.
pub record MayGoOn (job : Job) (before streams : List (StreamPrefix Plain)) (node : PlanNode) : Type 0 where
  pub was_known : All (λ i. i < length before) node.inputs
  pub known : All (λ i. i < length streams) node.inputs
  pub prefixes : All IsPrefix before
  pub grown : All IsPrefix streams
  pub extended : AreExtendedBy before streams
  pub numbers : HasNumbers node
  pub shape : IsShapeOf node.law node.shape
  pub rules : rules_at job node ≡ table_rules node.law

come_source : (job : Job) (before streams : List (StreamPrefix Plain)) (node : PlanNode) (first then : Progress) (law : Law) → (IsOuter law → ⊥) → (law ≡ Loopback → ⊥) → outcome_by law job before node ≡ outcome_by law job streams node → law ≡ node.law
    → MayGoOn job before streams node → HasCome job before node first → then ≡ first → HasCome job streams node then
come_source job before streams node first then law not_outer not_loop same is may come stays = record {
  outcome = ap (λ (p : Progress). seen p.outcome) stays ∙ come.outcome ∙ subst (λ (l : Law). outcome_by l job before node ≡ outcome_by l job streams node) is same;
  within = subst (λ (p : Progress). AreWithin p.read.items (inputs_at streams node.inputs)) (sym stays) (within_later first.read.items (inputs_at before node.inputs) (inputs_at streams node.inputs) (inputs-extended before streams node.inputs may.extended) come.within);
  sets = λ outer. absurd (not_outer (subst IsOuter (sym is) outer));
  turns = λ loop. absurd (not_loop (is ∙ loop));
}

come_outer : (job : Job) (before streams : List (StreamPrefix Plain)) (node : PlanNode) (first then : Progress) (not_loop : node.law ≡ Loopback → ⊥) (outer : IsOuter node.law)
    → MayGoOn job before streams node → HasCome job before node first → ShowsMore (first.reached == done) node (inputs_at streams node.inputs) first then → HasCome job streams node then
come_outer job before streams node first then not_loop outer may come more =
    let ss = inputs_at before node.inputs in
    let tt = inputs_at streams node.inputs in
    let ht = all_inputs streams node.inputs may.grown in
    let e = inputs-extended before streams node.inputs may.extended in
    let now = shown_more node (length node.outputs) (sides_of job node) ss tt first then (all_inputs before node.inputs may.prefixes) ht e (come.sets outer) (come.outcome ∙ outer_is job before node may.was_known outer may.rules) more in
    record {
      outcome = now.0 ∙ sym (outer_is job streams node may.known outer may.rules);
      within = within_gone node.policy (length (settled_sets node.policy tt)) tt then.read.items now.1.gone;
      sets = λ also. now.1;
      turns = λ loop. absurd (not_loop loop);
    }

loop_within : (ss : List (StreamPrefix Plain)) (then : Progress) (a b : ℕ) → length ss ≡ 2 → then.read.items ≡ a ∷ b ∷ [] → a ≤ length (port_of ss 0).packets → b ≤ length (port_of ss 1).packets → AreWithin then.read.items ss
loop_within ss then a b two is first second = subst (λ (ns : List ℕ). AreWithin ns ss) (sym is) (record {
  ports = sym two;
  each = by;
})
  where
    by : (i : ℕ) → i < length ss → get_or (a ∷ b ∷ []) i 0 ≤ length (port_of ss i).packets
    by zero there = first
    by (suc zero) there = second
    by (suc (suc i)) there = absurd (omega (arith, there, two))

come_loop : (job : Job) (before streams : List (StreamPrefix Plain)) (node : PlanNode) (first then : Progress) → node.law ≡ Loopback
    → MayGoOn job before streams node → HasCome job before node first → AnswersMore (port_of (inputs_at streams node.inputs) 1) (port_of (inputs_at streams node.inputs) 0) first then → HasCome job streams node then
come_loop job before streams node first then loop may come made =
    let ss = inputs_at before node.inputs in
    let tt = inputs_at streams node.inputs in
    let two = loop_ports node may.numbers may.shape loop in
    let e = inputs-extended before streams node.inputs may.extended in
    let not_outer : IsOuter node.law → ⊥ = λ outer. (let bad : IsOuter Loopback = subst IsOuter loop outer in bad) in
    let now = answered_more (port_of ss 1) (port_of tt 1) (port_of ss 0) (port_of tt 0) first then (port-prefix tt (all_inputs streams node.inputs may.grown) 1) (port-extended ss tt e 1) (port-extended ss tt e 0)
    (come.turns loop) (come.outcome ∙ loop_outcome job before node may.was_known two loop) made in
    record {
      outcome = now.0 ∙ sym (loop_outcome job streams node may.known two loop);
      within = loop_within tt then _ _ (inputs_long streams node.inputs ∙ two) made.read (omega arith) (omega arith);
      sets = λ outer. absurd (not_outer outer);
      turns = λ also. now.1;
    }

come_by : (law : Law) (job : Job) (before streams : List (StreamPrefix Plain)) (node : PlanNode) (first then : Progress) → law ≡ node.law → MayGoOn job before streams node → HasCome job before node first
    → NodeGoesOn law node (inputs_at streams node.inputs) first then → HasCome job streams node then
come_by (Count count start step) job before streams node first then is may come goes = come_source job before streams node first then (Count count start step) (λ o. o) (λ e. absurd cc) refl is may come goes
come_by (SideOnce at) job before streams node first then is may come goes = come_source job before streams node first then (SideOnce at) (λ o. o) (λ e. absurd cc) refl is may come goes
come_by Constants job before streams node first then is may come goes = come_source job before streams node first then Constants (λ o. o) (λ e. absurd cc) refl is may come goes
come_by Loopback job before streams node first then is may come goes = come_loop job before streams node first then (sym is) may come goes
come_by law job before streams node first then is may come goes = come_outer job before streams node first then (λ e. (let bad = is ∙ e in absurd cc)) (subst IsOuter is tt) may come goes

pub goes_further : (job : Job) (before streams : List (StreamPrefix Plain)) (node : PlanNode) (first then : Progress) → MayGoOn job before streams node → HasCome job before node first
    → NodeGoesOn node.law node (inputs_at streams node.inputs) first then → HasCome job streams node then
goes_further job before streams node first then may come goes = come_by node.law job before streams node first then refl may come goes

-- A node that has begun.
pub record HasBegun (job : Job) (node : PlanNode) (progress : Progress) : Type 0 where
  pub outcome : seen progress.outcome ≡ begun_by node.law (sides_of job node) node
  pub rules : rules_at job node ≡ table_rules node.law
  pub read : progress.read.items ≡ replicate (length node.inputs) 0
  pub reached : progress.reached ≡ pre_stream

pub has_begun : (job : Job) (node : PlanNode) (outcome : CodeOutcome) (progress : Progress) → rules_at job node ≡ table_rules node.law → seen outcome ≡ begun_by node.law (sides_of job node) node → progress.outcome ≡ outcome → progress.read.items ≡ replicate (length node.inputs) 0 → progress.reached ≡ pre_stream → HasBegun job node progress
has_begun job node outcome progress rules is same read reached = record { outcome = ap seen same ∙ is; rules = rules; read = read; reached = reached }

begun_outer : (law : Law) (sides : List (Option Plain)) (node : PlanNode) → IsOuter law → begun_by law sides node ≡ opened (table_rules node.law) node.shape.offset (length node.outputs) sides
begun_outer (Count count start step) sides node outer = absurd outer
begun_outer (SideOnce at) sides node outer = absurd outer
begun_outer Constants sides node outer = absurd outer
begun_outer Loopback sides node outer = absurd outer
begun_outer law sides node outer = refl

abbrev zeros : ℕ → List ℕ
zeros n = replicate n 0

zero_read : (n i : ℕ) → get_or (zeros n) i 0 ≡ 0
zero_read zero i = refl
zero_read (suc n) zero = refl
zero_read (suc n) (suc i) = zero_read n i

none_within : (count : ℕ) (ss : List (StreamPrefix Plain)) (read : List ℕ) → read ≡ replicate count 0 → count ≡ length ss → AreWithin read ss
none_within count ss read is long = subst (λ (ns : List ℕ). AreWithin ns ss) (sym is) (record {
  ports = length-replicate count 0 ∙ long;
  each = λ i there. (let none = zero_read count i in omega (arith, none));
})

begun_within : (job : Job) (streams : List (StreamPrefix Plain)) (node : PlanNode) (progress : Progress) → HasBegun job node progress → AreWithin progress.read.items (inputs_at streams node.inputs)
begun_within job streams node progress begun = none_within (length node.inputs) (inputs_at streams node.inputs) progress.read.items begun.read (sym (inputs_long streams node.inputs))

first_source : (job : Job) (streams : List (StreamPrefix Plain)) (node : PlanNode) (first then : Progress) (law : Law) → (IsOuter law → ⊥) → (law ≡ Loopback → ⊥) → begun_by law (sides_of job node) node ≡ outcome_by law job streams node → law ≡ node.law
    → HasBegun job node first → then ≡ first → HasCome job streams node then
first_source job streams node first then law not_outer not_loop same is begun stays = record {
  outcome = ap (λ (p : Progress). seen p.outcome) stays ∙ begun.outcome ∙ subst (λ (l : Law). begun_by l (sides_of job node) node ≡ outcome_by l job streams node) is same;
  within = subst (λ (p : Progress). AreWithin p.read.items (inputs_at streams node.inputs)) (sym stays) (begun_within job streams node first begun);
  sets = λ outer. absurd (not_outer (subst IsOuter (sym is) outer));
  turns = λ loop. absurd (not_loop (is ∙ loop));
}

first_outer : (job : Job) (streams : List (StreamPrefix Plain)) (node : PlanNode) (first then : Progress) → (node.law ≡ Loopback → ⊥) → IsOuter node.law → All (λ i. i < length streams) node.inputs → All IsPrefix streams
    → HasBegun job node first → ShowsMore (first.reached == done) node (inputs_at streams node.inputs) first then → HasCome job streams node then
first_outer job streams node first then not_loop outer known h begun more =
    let tt = inputs_at streams node.inputs in
    let none : first.read.items ≡ replicate (length tt) 0 = begun.read ∙ ap (λ (n : ℕ). replicate n 0) (sym (inputs_long streams node.inputs)) in
    let now = shown_first node (length node.outputs) (sides_of job node) tt first then (all_inputs streams node.inputs h) none begun.reached (begun.outcome ∙ begun_outer node.law (sides_of job node) node outer) more in
    record {
      outcome = now.0 ∙ sym (outer_is job streams node known outer begun.rules);
      within = within_gone node.policy (length (settled_sets node.policy tt)) tt then.read.items now.1.gone;
      sets = λ also. now.1;
      turns = λ loop. absurd (not_loop loop);
    }

from_empty : (s : StreamPrefix Plain) → IsPrefix s → IsExtendedBy empty_prefix s
from_empty s h = record { further = s.packets; packets = refl; bound = h.opened; above = All-weaker (λ (p : Stamped Plain). IsAllowed p.at) (λ (p : Stamped Plain). pre_stream ≤ p.at) (λ p a. a.0) s.packets h.allowed }

first_loop : (job : Job) (streams : List (StreamPrefix Plain)) (node : PlanNode) (first then : Progress) → node.law ≡ Loopback → All (λ i. i < length streams) node.inputs → All IsPrefix streams → HasNumbers node → IsShapeOf node.law node.shape
    → HasBegun job node first → AnswersMore (port_of (inputs_at streams node.inputs) 1) (port_of (inputs_at streams node.inputs) 0) first then → HasCome job streams node then
first_loop job streams node first then loop known h numbers shape begun made =
    let tt = inputs_at streams node.inputs in
    let two = loop_ports node numbers shape loop in
    let ht = all_inputs streams node.inputs h in
    let not_outer : IsOuter node.law → ⊥ = λ outer. (let bad : IsOuter Loopback = subst IsOuter loop outer in bad) in
    let none : (i : ℕ) → get_or first.read.items i 0 ≡ 0 = λ i. ap (λ (ns : List ℕ). get_or ns i 0) begun.read ∙ zero_read (length node.inputs) i in
    let answered : LoopbackHasAnswered empty_prefix empty_prefix first = record { turns = none 1; past = subst (IsPast None empty_prefix) (sym (none 0)) (record { within = omega arith; past = refl }) } in
    let is : seen first.outcome ≡ loopback_outcome empty_prefix empty_prefix = begun.outcome ∙ ap (λ (law : Law). begun_by law (sides_of job node) node) loop in
    let now = answered_more empty_prefix (port_of tt 1) empty_prefix (port_of tt 0) first then (port-prefix tt ht 1) (from_empty (port_of tt 1) (port-prefix tt ht 1)) (from_empty (port_of tt 0) (port-prefix tt ht 0)) answered is made in
    record {
      outcome = now.0 ∙ sym (loop_outcome job streams node known two loop);
      within = loop_within tt then _ _ (inputs_long streams node.inputs ∙ two) made.read (omega arith) (omega arith);
      sets = λ outer. absurd (not_outer outer);
      turns = λ also. now.1;
    }

source_same : (job : Job) (node : PlanNode) → rules_at job node ≡ table_rules node.law
    → source_outcome (table_rules node.law) node.law (calls_of node.law) (length node.outputs) (sides_of job node) ≡ source_outcome (rules_at job node) node.law (calls_of node.law) (length node.outputs) (sides_of job node)
source_same job node rules = ap (λ (r : Rules). source_outcome r node.law (calls_of node.law) (length node.outputs) (sides_of job node)) (sym rules)

first_by : (law : Law) (job : Job) (streams : List (StreamPrefix Plain)) (node : PlanNode) (first then : Progress) → law ≡ node.law → All (λ i. i < length streams) node.inputs → All IsPrefix streams → HasNumbers node → IsShapeOf node.law node.shape
    → HasBegun job node first → NodeGoesOn law node (inputs_at streams node.inputs) first then → HasCome job streams node then
first_by (Count count start step) job streams node first then is known h numbers shape begun goes = first_source job streams node first then (Count count start step) (λ o. o) (λ e. absurd cc) (source_same job node begun.rules) is begun goes
first_by (SideOnce at) job streams node first then is known h numbers shape begun goes = first_source job streams node first then (SideOnce at) (λ o. o) (λ e. absurd cc) (source_same job node begun.rules) is begun goes
first_by Constants job streams node first then is known h numbers shape begun goes = first_source job streams node first then Constants (λ o. o) (λ e. absurd cc) (source_same job node begun.rules) is begun goes
first_by Loopback job streams node first then is known h numbers shape begun goes = first_loop job streams node first then (sym is) known h numbers shape begun goes
first_by law job streams node first then is known h numbers shape begun goes = first_outer job streams node first then (λ e. (let bad = is ∙ e in absurd cc)) (subst IsOuter is tt) known h begun goes

pub goes_first : (job : Job) (streams : List (StreamPrefix Plain)) (node : PlanNode) (first then : Progress) → All (λ i. i < length streams) node.inputs → All IsPrefix streams → HasNumbers node → IsShapeOf node.law node.shape
    → HasBegun job node first → NodeGoesOn node.law node (inputs_at streams node.inputs) first then → HasCome job streams node then
goes_first job streams node first then known h numbers shape begun goes = first_by node.law job streams node first then refl known h numbers shape begun goes

-- Each can go on.
pub begun_can : (job : Job) (streams : List (StreamPrefix Plain)) (node : PlanNode) (progress : Progress) → All IsPrefix streams → HasBegun job node progress → CanGoOn node (inputs_at streams node.inputs) progress
begun_can job streams node progress h begun =
    let tt = inputs_at streams node.inputs in
    let none : progress.read.items ≡ replicate (length tt) 0 = begun.read ∙ ap (λ (n : ℕ). replicate n 0) (sym (inputs_long streams node.inputs)) in
    record {
      within = begun_within job streams node progress begun;
      room = λ outer. (
          let ht = all_inputs streams node.inputs h in
          let left = sets-gone node.policy 0 tt progress.read.items ht (subst (λ (ns : List ℕ). AreGone node.policy 0 tt ns) (sym none) (none-gone node.policy tt)) in
          let zero_taken = ap (λ (o : Outcome). o.taken) (begun.outcome ∙ begun_outer node.law (sides_of job node) node outer) ∙ opened_counts (table_rules node.law) node.shape.offset (length node.outputs) (sides_of job node) in
          omega (arith, few_sets node.policy tt ht, zero_taken, ap length left));
      output = λ loop. ap (λ (o : Outcome). length o.outputs) (begun.outcome ∙ ap (λ (law : Law). begun_by law (sides_of job node) node) loop);
    }

pub come_can : (job : Job) (before streams : List (StreamPrefix Plain)) (node : PlanNode) (progress : Progress) → MayGoOn job before streams node → HasCome job before node progress → CanGoOn node (inputs_at streams node.inputs) progress
come_can job before streams node progress may come =
    let ss = inputs_at before node.inputs in
    let tt = inputs_at streams node.inputs in
    let e = inputs-extended before streams node.inputs may.extended in
    record {
      within = within_later progress.read.items ss tt e come.within;
      room = λ outer. (
          let policy = node.policy in
          let k = length (settled_sets policy ss) in
          let ht = all_inputs streams node.inputs may.grown in
          let gone = gone-extended policy k ss tt progress.read.items (all_inputs before node.inputs may.prefixes) e (come.sets outer).gone in
          let claimed = gone.claimed in
          let left = sets-gone policy k tt progress.read.items ht gone in
          let taken = ap (λ (o : Outcome). o.taken) (come.outcome ∙ outer_is job before node may.was_known outer may.rules) in
          let few = node_counts (table_rules node.law) node.shape.offset policy (length node.outputs) (sides_of job node) ss in
          omega (arith, few_sets policy tt ht, claimed, ap length left, length-drop k (settled_sets policy tt), taken, few));
      output = λ loop. ap (λ (o : Outcome). length o.outputs) (come.outcome ∙ loop_outcome job before node may.was_known (loop_ports node may.numbers may.shape loop) loop);
    }

-- a node that reads no changed stream stays
come_same : (job : Job) (before streams : List (StreamPrefix Plain)) (node : PlanNode) (progress : Progress) → inputs_at before node.inputs ≡ inputs_at streams node.inputs → outcome_of job before node ≡ outcome_of job streams node → HasCome job before node progress → HasCome job streams node progress
come_same job before streams node progress same outcome come = record {
  outcome = come.outcome ∙ outcome;
  within = subst (AreWithin progress.read.items) same come.within;
  sets = λ outer. subst (λ (ss : List (StreamPrefix Plain)). HasRead node ss progress) same (come.sets outer);
  turns = λ loop. subst (λ (ss : List (StreamPrefix Plain)). LoopbackHasAnswered (port_of ss 1) (port_of ss 0) progress) same (come.turns loop);
}

goes_if : (gone : Bool) (job : Job) (before streams : List (StreamPrefix Plain)) (node : PlanNode) (first then : Progress) → MayGoOn job before streams node → HasCome job before node first
    → (gone ≡ false → inputs_of before node ≡ inputs_of streams node) → GoesOnIf gone node streams first then → HasCome job streams node then
goes_if true job before streams node first then may come stays goes = goes_further job before streams node first then may come goes
goes_if false job before streams node first then may come stays goes =
    let same : inputs_of before node ≡ inputs_of streams node = stays refl in
    subst (HasCome job streams node) (sym goes)
    (come_same job before streams node first (inputs_are before node.inputs may.was_known ∙ same ∙ sym (inputs_are streams node.inputs may.known)) (outcome_of_inputs_by node.law job node before streams same) come)

-- all nodes

-- no node has a law that its author states
abbrev pub AreUnstated : List PlanNode → Type 0
AreUnstated nodes = All (λ node. IsStated node.law → ⊥) nodes

-- so each has the rules of the table
table_at : (job : Job) (k : ℕ) (node : PlanNode) → AreUnstated job.plan.nodes → slice_get job.plan.nodes k ≡ Some node → rules_at job node ≡ table_rules node.law
table_at job k node unstated at =
    by_table job.laws node.law (at_place (λ (n : PlanNode). IsStated n.law → ⊥) job.plan.nodes k node (recursion_from_All (λ (n : PlanNode). IsStated n.law → ⊥) job.plan.nodes unstated) at)

node_may : (job : Job) (before streams : List (StreamPrefix Plain)) (k : ℕ) (node : PlanNode) → IsJob job → AreUnstated job.plan.nodes → length before ≡ length job.plan.streams → length streams ≡ length job.plan.streams → All IsPrefix before → All IsPrefix streams → AreExtendedBy before streams → slice_get job.plan.nodes k ≡ Some node
    → MayGoOn job before streams node
node_may job before streams k node is unstated was_many many prefixes grown extended at =
    let below = slice_get_within job.plan.nodes k node at in
    let same : node ≡ get_or job.plan.nodes k node = sym (get_or_from_slice_get job.plan.nodes k node node at) in
    let was = node_at job before k node is was_many below same in
    let now = node_at job streams k node is many below same in
    record { was_known = was.known; known = now.known; prefixes = prefixes; grown = grown; extended = extended; numbers = now.ports; shape = now.shape; rules = table_at job k node unstated at }

-- streams that are grown to the next round's
pub record AreGrownTo (job : Job) (before streams : List (StreamPrefix Plain)) : Type 0 where
  pub is : IsJob job
  pub unstated : AreUnstated job.plan.nodes
  pub was_many : length before ≡ length job.plan.streams
  pub many : length streams ≡ length job.plan.streams
  pub prefixes : All IsPrefix before
  pub grown : All IsPrefix streams
  pub extended : AreExtendedBy before streams

pub all_can : (job : Job) (before streams : List (StreamPrefix Plain)) (nodes : List Progress) → AreGrownTo job before streams → HaveCome job before nodes → (k : ℕ) (node : PlanNode) (progress : Progress) → slice_get job.plan.nodes k ≡ Some node → slice_get nodes k ≡ Some progress
    → CanGoOn node (inputs_at streams node.inputs) progress
all_can job before streams nodes g come k node progress at there = come_can job before streams node progress (node_may job before streams k node g.is g.unstated g.was_many g.many g.prefixes g.grown g.extended at) (come.each k node progress at there)

-- a node that hasn't gone on reads no other streams than before
same_inputs : (xs ys : List (StreamPrefix Plain)) (ports : List ℕ) → AllByRecursion (λ s. stream_of xs s ≡ stream_of ys s) ports → map (stream_of xs) ports ≡ map (stream_of ys) ports
same_inputs xs ys [] all = refl
same_inputs xs ys (port ∷ ports) all = ap₂ (λ (s : StreamPrefix Plain) (ss : List (StreamPrefix Plain)). s ∷ ss) all.0 (same_inputs xs ys ports all.1)

pub stays_at : (job : Job) (before streams : List (StreamPrefix Plain)) (changed due : List ℕ) (nodes now : List Progress) (k : ℕ) (node : PlanNode) → IsJob job → length before ≡ length job.plan.streams → AreChanged changed before streams
    → (gone_on : HaveGoneOn job.plan streams changed nodes now due) → slice_get job.plan.nodes k ≡ Some node → gone_on.gone k ≡ false → inputs_of before node ≡ inputs_of streams node
stays_at job before streams changed due nodes now k node is long change gone_on at not =
    let below = slice_get_within job.plan.nodes k node at in
    let known = (node_at job before k node is long below (sym (get_or_from_slice_get job.plan.nodes k node node at))).known in
    same_inputs before streams node.inputs (recursion_from_All (λ (s : ℕ). stream_of before s ≡ stream_of streams s) node.inputs (λ port d there. elim (change.all (get_or node.inputs port d) (known port d there)) [
      | inl same ↦ same
      | inr c ↦ absurd (gone_on.stays k node (get_or node.inputs port d) at not (Contains-get_or node.inputs port d there) c)
    ]))

pub all_come : (job : Job) (before streams : List (StreamPrefix Plain)) (changed due : List ℕ) (nodes now : List Progress) → AreGrownTo job before streams → HaveCome job before nodes → AreChanged changed before streams → HaveGoneOn job.plan streams changed nodes now due
    → HaveCome job streams now
all_come job before streams changed due nodes now g come change gone_on = record {
  many = gone_on.many ∙ come.many;
  each = λ k node progress at there. (
      let below : k < length nodes = (let within = slice_get_within now k progress there in let many = gone_on.many in omega (arith, within, many)) in
      let first = get_or nodes k progress in
      let was : slice_get nodes k ≡ Some first = slice_get-get_or nodes k progress below in
      goes_if (gone_on.gone k) job before streams node first progress (node_may job before streams k node g.is g.unstated g.was_many g.many g.prefixes g.grown g.extended at) (come.each k node first at was)
      (λ not. stays_at job before streams changed due nodes now k node g.is g.was_many change gone_on at not) (gone_on.each k node first progress at was there));
}
