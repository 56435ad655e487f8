-- What is known of lawful parts.
use Rattle.std.proofs.Common.{◌≡◌, ℕ, false, ◌<◌, ◌∷◌, [], List, length, get_or, Option, Some, slice_get, subst, ◌∙◌}
use Rattle.std.proofs.lemmas.List.{length-map}
use Rattle.std.proofs.lemmas.Option.{slice_get_within}
use Rattle.mg_value.specs.Payload.{Plain}
use Rattle.mg_settled.specs.Prefix.{empty_prefix}
use Rattle.mg_settled.specs.Extension.{IsExtendedBy}
use Rattle.mg_stream.specs.Queue.{StandsFor}
use Rattle.mg_stream.specs.Pool.{queue_of}
use Rattle.mg_calc.specs.Rules.{Laws}
use Rattle.mg_calc.specs.declared.plan_node.PlanNode.{PlanNode}
use Rattle.mg_calc.specs.Equations.{sides_of}
use Rattle.mg_node.specs.Views.{IntakeView, EngineView}
use Rattle.mg_node.specs.Ports.{ports_in}
use Rattle.mg_node.specs.Job.{LoggedJob, ports_of, streams_at}
use Rattle.mg_node.specs.Windows.{has_ended, starts_ready}
use Rattle.mg_node.specs.Lawful.{of_node, of_input, LawfulEngine, LawfulIntake}
use Rattle.mg_node.specs.Begun.{LawfulUnbegun, SomeUnbegun}
use Rattle.mg_node.specs.Known.{IsKnown, IsKnownInput}
use Rattle.mg_node.proofs.Arriving.{ports_long}
use Rattle.mg_node.proofs.BeginKeeps.{unbegun_parts}
use Rattle.mg_node.proofs.Making.{some_same}
use Rattle.mg_node.proofs.Zips.{zip_long}

pub engine_there : {laws : Laws} (job : LoggedJob laws) (number : ℕ) (engine : EngineView) → LawfulEngine job (of_node number) engine → number < length job.job.plan.nodes
unfolding LawfulEngine
engine_there {laws} job number engine h = slice_get_within job.job.plan.nodes number h.node h.there

pub engine_known : {laws : Laws} (job : LoggedJob laws) (number : ℕ) (engine : EngineView) (node : PlanNode) → LawfulEngine job (of_node number) engine → slice_get job.job.plan.nodes number ≡ Some node → IsKnown node number engine
unfolding LawfulEngine
engine_known {laws} job number engine node h there =
    subst (λ (n : PlanNode). IsKnown n number engine) (some_same (slice_get job.job.plan.nodes number) h.node node h.there there) (record {
      set_up = h.set_up;
      begun = h.begun;
      outputs = zip_long (λ b s. StandsFor (queue_of 0 b) s) engine.outputs h.whole h.kept
          ∙ zip_long IsExtendedBy h.whole (streams_at h.streams h.node.outputs) h.extended ∙ length-map h.node.outputs (λ number. get_or h.streams number empty_prefix);
      few = h.claimed;
      contexts = h.contexts;
    })

pub nothing_ready : {laws : Laws} (job : LoggedJob laws) (number : ℕ) (engine : EngineView) → LawfulEngine job (of_node number) engine → has_ended engine ≡ false → starts_ready engine.window ≡ false
unfolding LawfulEngine
nothing_ready {laws} job number engine h = h.waits

pub input_known : {laws : Laws} (job : LoggedJob laws) (number : ℕ) (engine : EngineView) → LawfulEngine job (of_input number) engine → IsKnownInput job number engine
unfolding LawfulEngine
input_known {laws} job number engine h = record {
  there = h.there;
  role = h.role;
  number_is = h.number_is;
  first = h.first;
  one = zip_long (λ b s. StandsFor (queue_of 0 b) s) engine.outputs (get_or h.streams number empty_prefix ∷ []) h.kept;
  laid = h.laid;
  claimed = h.claimed;
  window = h.window;
  idle = h.idle;
  fault = h.fault;
}

pub intake_ports : {laws : Laws} (job : LoggedJob laws) (consumer : ℕ) (intake : IntakeView) → LawfulIntake job consumer intake → ports_in intake.waits ≡ length (ports_of job.job.plan consumer)
unfolding LawfulIntake
intake_ports {laws} job consumer intake h = ports_long job h.streams consumer intake.claimed intake.waits h.holds

pub may_begin : {laws : Laws} (job : LoggedJob laws) (number : ℕ) (node : PlanNode) (sides : List (Option Plain)) (engine : EngineView) → LawfulUnbegun job number engine → slice_get job.job.plan.nodes number ≡ Some node → sides ≡ sides_of job.job node → SomeUnbegun laws sides engine
may_begin {laws} job number node sides engine h there is =
    let parts = unbegun_parts job number node sides engine there is h in
    record { node = node; number = number; told = parts.told; unbegun = parts.unbegun }
