-- An engine that is begun is lawful, for every job that has its calculator.
use Rattle.std.proofs.Common.{◌≡◌, ℕ, zero, suc, ℤ, ◌+◌, ◌-◌, ◌<◌, false, List, [], ◌∷◌, ◌++◌, length, length-append, map, replicate, get_or, Option, Some, None, option_map, is_some, slice_get, inl, inr, refl, ap, ap₂, sym, subst, ◌∙◌, arith}
use Rattle.std.specs.List.{AllByRecursion, AllZip, range_with_len, flat_map}
use Rattle.std.proofs.lemmas.List.{length-replicate}
use Rattle.std.proofs.lemmas.List.Concat.{flat_map-cons}
use Rattle.std.proofs.lemmas.List.Elements.{All-from_recursion, All-push}
use Rattle.std.proofs.lemmas.List.FromFn.{length-range_with_len}
use Rattle.mg_value.specs.Payload.{Plain}
use Rattle.mg_value.specs.Packet.{Stamped}
use Rattle.mg_settled.specs.Prefix.{StreamPrefix, IsPrefix}
use Rattle.mg_calc.specs.declared.call.Call.{Call}
use Rattle.mg_calc.specs.declared.call.Call.TheVariants.{Begun}
use Rattle.mg_calc.specs.declared.law.Law.{Law}
use Rattle.mg_calc.specs.declared.law.Law.TheVariants.{Loopback}
use Rattle.mg_calc.specs.declared.plan.Plan.{Plan}
use Rattle.mg_calc.specs.declared.plan_node.PlanNode.{PlanNode}
use Rattle.mg_calc.specs.Plan.{IsValid, FlightFits}
use Rattle.mg_calc.specs.Shape.{IsShapeOf}
use Rattle.mg_calc.specs.Equations.{Job, sides_of, rules_at}
use Rattle.mg_calc.specs.Outcome.{Outcome, opened}
use Rattle.mg_calc.specs.Told.{with_call}
use Rattle.mg_route.specs.HolderView.{HolderView, held_rules}
use Rattle.mg_calc.proofs.Jobs.{job_known}
use Rattle.mg_calc.proofs.Outcomes.{opened_keeps}
use Rattle.mg_node.specs.Views.{ContextView, EngineView}
use Rattle.mg_settled.specs.Extension.{AreExtendedBy}
use Rattle.mg_calc.specs.declared.node_fault.NodeFault.{NodeFault}
use Rattle.mg_node.specs.Job.{LoggedJob, Solves, streams_at, stage_by, stage, first_log, calls_before_by, calls_before}
use Rattle.mg_node.specs.Lawful.{of_node, StandForAll, IsRaised, IsIdle, IsEngineOf, LawfulEngine}
use Rattle.mg_node.specs.Outputs.{kept_whole}
use Rattle.mg_node.specs.Fresh.{own_told, context_of}
use Rattle.mg_node.specs.Begun.{own_contexts, opened_node, HasOpened, IsUnbegun, HasBegun, IsHanded, LawfulUnbegun, IsNew}
use Rattle.mg_node.proofs.Making.{some_same}
use Rattle.mg_node.proofs.HeldRules.{of_node as at_node, rules_fit}
use Rattle.mg_node.proofs.Stages.{kind_of, outer_stage, called_stage, called_offset}
use Rattle.mg_node.proofs.StageStreams.{node_known, stage_extended}
use Rattle.mg_node.proofs.Stateless.{KeepsNothing, several_keep_nothing, stage_empty}
use Rattle.mg_calc.specs.Law.{rules_of}
use Rattle.mg_calc.specs.Rules.{Laws, Rules}

-- The outputs of a node have numbers that follow each other.

parts_of_range : (xs ys : List ℕ) (a n : ℕ) → xs ++ ys ≡ range_with_len a n → (xs ≡ range_with_len a (length xs)) × (ys ≡ range_with_len (a + length xs) (length ys))
parts_of_range [] ys a n is =
    let long : n ≡ length ys = sym (length-range_with_len a n) ∙ sym (ap length is) in
    (refl, is ∙ ap₂ (λ (b k : ℕ). range_with_len b k) (let e : a ≡ a + 0 = omega arith in e) long)
parts_of_range (x ∷ xs) ys a zero is = absurd cc
parts_of_range (x ∷ xs) ys a (suc n) is =
    let head : x ≡ a = cc in
    let rest : xs ++ ys ≡ range_with_len (a + 1) n = cc in
    let later = parts_of_range xs ys (a + 1) n rest in
    (ap₂ (λ (y : ℕ) (zs : List ℕ). y ∷ zs) head later.0, later.1 ∙ ap (λ (b : ℕ). range_with_len b (length ys)) (let e : a + 1 + length xs ≡ a + suc (length xs) = omega arith in e))

outputs_in : (nodes : List PlanNode) (i : ℕ) (node : PlanNode) (a n : ℕ) → flat_map (λ m. m.outputs) nodes ≡ range_with_len a n → slice_get nodes i ≡ Some node → (b : ℕ) × (node.outputs ≡ range_with_len b (length node.outputs))
outputs_in [] i node a n is there = absurd cc
outputs_in (m ∷ nodes) zero node a n is there =
    let same : m ≡ node = cc in
    let parts = parts_of_range m.outputs (flat_map (λ k. k.outputs) nodes) a n (sym (flat_map-cons (λ k. k.outputs) m nodes) ∙ is) in
    subst (λ (k : PlanNode). (b : ℕ) × (k.outputs ≡ range_with_len b (length k.outputs))) same (a, parts.0)
outputs_in (m ∷ nodes) (suc i) node a n is there =
    let parts = parts_of_range m.outputs (flat_map (λ k. k.outputs) nodes) a n (sym (flat_map-cons (λ k. k.outputs) m nodes) ∙ is) in
    outputs_in nodes i node (a + length m.outputs) (length (flat_map (λ k. k.outputs) nodes)) parts.1 there

from_first : (ns : List ℕ) (b : ℕ) → ns ≡ range_with_len b (length ns) → ns ≡ range_with_len (get_or ns 0 0) (length ns)
from_first [] b is = refl
from_first (n ∷ ns) b is = (let head : b ≡ n = (let e = is in cc) in is ∙ ap (λ (c : ℕ). range_with_len c (length (n ∷ ns))) head)

first_outputs : (plan : Plan) (number : ℕ) (node : PlanNode) → IsValid plan → slice_get plan.nodes number ≡ Some node → node.outputs ≡ range_with_len (get_or node.outputs 0 0) (length node.outputs)
first_outputs plan number node valid there =
    let all = parts_of_range plan.inputs (flat_map (λ n. n.outputs) plan.nodes) 0 (length plan.streams) valid.streams in
    let own = outputs_in plan.nodes number node (0 + length plan.inputs) (length (flat_map (λ n. n.outputs) plan.nodes)) all.1 there in
    from_first node.outputs own.0 own.1

-- The outcome of an opened node is its first stage.

loop_zero : (law : Law) (job : Job) (streams : List (StreamPrefix Plain)) (node : PlanNode) (offset : Option ℤ) (outputs : ℕ) (sides : List (Option Plain)) → law ≡ Loopback → outputs ≡ 1 → stage_by law job streams node 0 ≡ opened (rules_of job.laws law) offset outputs sides
loop_zero law job streams node offset outputs sides is one =
    subst (λ (l : Law). stage_by l job streams node 0 ≡ opened (rules_of job.laws l) offset outputs sides) (sym is)
    (subst (λ (k : ℕ). stage_by Loopback job streams node 0 ≡ opened (rules_of job.laws Loopback) offset k sides) (sym one) refl)

zero_opened : {laws : Laws} (job : LoggedJob laws) (streams : List (StreamPrefix Plain)) (number : ℕ) (node : PlanNode) → Solves job streams → slice_get job.job.plan.nodes number ≡ Some node
    → stage job.job streams node 0 ≡ opened (rules_at job.job node) node.shape.offset (length node.outputs) (sides_of job.job node)
zero_opened {laws} job streams number node solves there = elim (kind_of node.law) [
  | inl is ↦ outer_stage node.law job.job streams node 0 is
  | inr (inl is) ↦
      (let shape : IsShapeOf node.law node.shape = at_node (λ (m : PlanNode). IsShapeOf m.law m.shape) job.job.plan.nodes number node solves.is_job.plan.shapes there in
      let offset : node.shape.offset ≡ None = shape.offset ∙ called_offset node.law is in
      called_stage node.law job.job streams node 0 is ∙ ap (λ (o : Option ℤ). opened (rules_at job.job node) o (length node.outputs) (sides_of job.job node)) (sym offset))
  | inr (inr is) ↦
      (let one = at_node (λ (m : PlanNode). m.law ≡ Loopback → length m.outputs ≡ 1) job.job.plan.nodes number node
      (All-from_recursion (λ (m : PlanNode). m.law ≡ Loopback → length m.outputs ≡ 1) job.job.plan.nodes (job_known job.job solves.is_job).loops) there in
      loop_zero node.law job.job streams node node.shape.offset (length node.outputs) (sides_of job.job node) is (one is))
]

zero_stage : {laws : Laws} (job : LoggedJob laws) (streams : List (StreamPrefix Plain)) (number : ℕ) (node : PlanNode) (told : HolderView) → Solves job streams → IsHanded job number node told
    → stage job.job streams node 0 ≡ opened_node (held_rules laws told) node (sides_of job.job node)
zero_stage {laws} job streams number node told solves handed =
    zero_opened job streams number node solves handed.there
    ∙ ap (λ (r : Rules). opened r node.shape.offset (length node.outputs) (sides_of job.job node)) (sym (rules_fit job number node told solves.is_job.plan handed.there handed.fits))

zero_calls : (law : Law) (streams : List (StreamPrefix Plain)) (node : PlanNode) → calls_before_by law streams node 0 ≡ Begun ∷ []
zero_calls Loopback streams node = refl
zero_calls law streams node = refl

-- The parts of the engine.

kept_stand : (ss : List (StreamPrefix Plain)) → AllByRecursion IsPrefix ss → StandForAll (map kept_whole ss) ss
kept_stand [] is = tt
kept_stand (s ∷ ss) is = (record { prefix = is.0; gone = omega arith; waiting = refl; bound = refl }, kept_stand ss is.1)

raised_itself : (ss : List (StreamPrefix Plain)) → AllZip IsRaised ss ss
raised_itself [] = tt
raised_itself (s ∷ ss) = (record { packets = refl; bound = omega arith }, raised_itself ss)

all_replicate : {X : Type 0} (P : X → Type 0) (n : ℕ) (x : X) → (0 < n → P x) → AllByRecursion P (replicate n x)
all_replicate P zero x is = tt
all_replicate P (suc n) x is = (is (omega arith), all_replicate P n x (λ le. is (omega arith)))

own_idle : {laws : Laws} (job : LoggedJob laws) (streams : List (StreamPrefix Plain)) (number : ℕ) (node : PlanNode) → Solves job streams → slice_get job.job.plan.nodes number ≡ Some node → 1 < node.in_flight → IsIdle job streams node 0 false (context_of node (own_told node))
own_idle {laws} job streams number node solves there several =
    let nothing : KeepsNothing job node = several_keep_nothing job number node solves.is_job there several in
    let none : Option (Stamped Plain) = None in
    record {
      fits = record { same_law = refl; same_shape = refl; same_handed = ap is_some (sym nothing.unboxed) };
      places = length-replicate (length node.inputs) none;
      state = sym (stage_empty job streams number node 0 solves there nothing.stateless);
      log = sym (ap (option_map (λ before. before ++ (calls_before streams node 0 ++ []))) nothing.unlogged);
    }

begun_idle : {laws : Laws} (job : LoggedJob laws) (streams : List (StreamPrefix Plain)) (number : ℕ) (node : PlanNode) (told now : HolderView) → Solves job streams → IsHanded job number node told → now.state ≡ (opened_node (held_rules laws told) node (sides_of job.job node)).state
    → now.log ≡ with_call told.log Begun → now.law ≡ told.law → now.shape ≡ told.shape → now.handed ≡ told.handed → IsIdle job streams node 0 false (context_of node now)
begun_idle {laws} job streams number node told now solves handed state log law shape same =
    let none : Option (Stamped Plain) = None in
    record {
      fits = record { same_law = law ∙ handed.fits.same_law; same_shape = shape ∙ handed.fits.same_shape; same_handed = same ∙ handed.fits.same_handed };
      places = length-replicate (length node.inputs) none;
      state = state ∙ sym (ap (λ (o : Outcome). o.state) (zero_stage job streams number node told solves handed));
      log = log ∙ ap (λ (l : Option (List Call)). with_call l Begun) handed.log ∙ ap (λ (calls : List Call). option_map (λ before. before ++ (calls ++ [])) (first_log job node)) (sym (zero_calls node.law streams node));
    }

pub begun_lawful : {laws : Laws} (job : LoggedJob laws) (streams : List (StreamPrefix Plain)) (number : ℕ) (node : PlanNode) (told : HolderView) (view : EngineView) → Solves job streams → IsHanded job number node told → HasBegun laws node number told (sides_of job.job node) view
    → LawfulEngine job (of_node number) view
unfolding LawfulEngine
begun_lawful {laws} job streams number node told view solves handed h =
    let there = handed.there in
    let sides = sides_of job.job node in
    let zero_is = zero_stage job streams number node told solves handed in
    let flight : FlightFits node = at_node FlightFits job.job.plan.nodes number node solves.is_job.plan.flights there in
    let some = flight.some in
    let prefixes = opened_keeps (held_rules laws told) node.shape.offset (length node.outputs) sides in
    let P : ContextView → Type 0 = IsIdle job streams node 0 false in
    let owns = own_contexts node in
    let told_context = context_of node h.now in
    subst (λ (v : EngineView). IsEngineOf job number v) (sym h.is) (record {
      streams = streams;
      solves = solves;
      node = node;
      there = there;
      set_up = record { role = refl; number_is = refl; first = first_outputs job.job.plan number node solves.is_job.plan there; offset = refl; in_flight = refl; inputs = refl };
      begun = refl;
      claimed = omega arith;
      taken = omega arith;
      closed = (λ closed. absurd cc);
      whole = (opened_node (held_rules laws told) node sides).outputs;
      kept = kept_stand (opened_node (held_rules laws told) node sides).outputs prefixes;
      raised = subst (λ (o : Outcome). AllZip IsRaised o.outputs (opened_node (held_rules laws told) node sides).outputs) (sym zero_is) (raised_itself (opened_node (held_rules laws told) node sides).outputs);
      extended = subst (λ (o : Outcome). AreExtendedBy o.outputs (streams_at streams node.outputs)) zero_is (stage_extended job streams number node 0 solves there (omega arith));
      fault = ap (λ (o : Outcome). option_map (λ f. (let g : NodeFault = record { node = number; phase = f.phase; cause = f.cause } in g)) o.fault) (sym zero_is);
      order = omega arith;
      entries = (λ i entry at. absurd cc);
      idle = All-push P owns told_context
          (All-from_recursion P owns (all_replicate P (node.in_flight - 1) (context_of node (own_told node)) (λ le. own_idle job streams number node solves there (omega (arith, le)))))
          (begun_idle job streams number node told h.now solves handed h.state h.log h.law h.shape h.same_handed);
      contexts = omega (arith, some, length-append owns (told_context ∷ []), length-replicate (node.in_flight - 1) (context_of node (own_told node)));
      waits = (λ goes. refl);
      ended = (λ ended. omega (arith, length-append owns (told_context ∷ [])));
    })

-- One that isn't begun.

pub record IsOfJob {laws : Laws} (job : LoggedJob laws) (number : ℕ) (node : PlanNode) (sides : List (Option Plain)) (view : EngineView) : Type 0 where
  pub told : HolderView
  pub handed : IsHanded job number node told
  pub unbegun : IsUnbegun laws node number told sides view

pub unbegun_parts : {laws : Laws} (job : LoggedJob laws) (number : ℕ) (node : PlanNode) (sides : List (Option Plain)) (view : EngineView) → slice_get job.job.plan.nodes number ≡ Some node → sides ≡ sides_of job.job node → LawfulUnbegun job number view → IsOfJob job number node sides view
unfolding LawfulUnbegun
unbegun_parts {laws} job number node sides view there is h =
    let same : h.node ≡ node = some_same (slice_get job.job.plan.nodes number) h.node node h.handed.there there in
    record {
      told = h.told;
      handed = subst (λ (n : PlanNode). IsHanded job number n h.told) same h.handed;
      unbegun = subst (λ (l : List (Option Plain)). IsUnbegun laws node number h.told l view) (sym is) (subst (λ (n : PlanNode). IsUnbegun laws n number h.told (sides_of job.job n) view) same h.unbegun);
    }

pub is_new : {laws : Laws} (job : LoggedJob laws) (number : ℕ) (node : PlanNode) (told : HolderView) → IsHanded job number node told → IsNew node told
is_new {laws} job number node told handed = record { fits = record { same_law = handed.fits.same_law; same_shape = handed.fits.same_shape } }

pub still_unbegun : {laws : Laws} (job : LoggedJob laws) (number : ℕ) (node : PlanNode) (told : HolderView) (sides : List (Option Plain)) (view : EngineView) → sides ≡ sides_of job.job node → IsHanded job number node told → IsUnbegun laws node number told sides view → LawfulUnbegun job number view
unfolding LawfulUnbegun
still_unbegun {laws} job number node told sides view is handed unbegun = record {
  node = node;
  told = told;
  handed = handed;
  unbegun = subst (λ (l : List (Option Plain)). IsUnbegun laws node number told l view) is unbegun;
}

pub begin_lawful : {laws : Laws} (job : LoggedJob laws) (streams : List (StreamPrefix Plain)) (number : ℕ) (node : PlanNode) (sides : List (Option Plain)) (before now : EngineView) → Solves job streams → slice_get job.job.plan.nodes number ≡ Some node → sides ≡ sides_of job.job node
    → LawfulUnbegun job number before → ((told : HolderView) → IsNew node told → IsUnbegun laws node number told sides before → HasBegun laws node number told sides now) → LawfulEngine job (of_node number) now
begin_lawful {laws} job streams number node sides before now solves there is unbegun begun =
    let parts = unbegun_parts job number node sides before there is unbegun in
    begun_lawful job streams number node parts.told now solves parts.handed
    (subst (λ (l : List (Option Plain)). HasBegun laws node number parts.told l now) is (begun parts.told (is_new job number node parts.told parts.handed) parts.unbegun))

pub opened_unbegun : {laws : Laws} (job : LoggedJob laws) (number : ℕ) (node : PlanNode) (sides : List (Option Plain)) (before mid now : EngineView) → slice_get job.job.plan.nodes number ≡ Some node → sides ≡ sides_of job.job node → LawfulUnbegun job number before
    → ((told : HolderView) → IsUnbegun laws node number told sides before → HasOpened laws node number told sides mid) → now ≡ mid → LawfulUnbegun job number now
opened_unbegun {laws} job number node sides before mid now there is unbegun opened same =
    let parts = unbegun_parts job number node sides before there is unbegun in
    still_unbegun job number node parts.told sides now is parts.handed (subst (λ (v : EngineView). IsUnbegun laws node number parts.told sides v) (sym same) (inr (opened parts.told parts.unbegun)))
