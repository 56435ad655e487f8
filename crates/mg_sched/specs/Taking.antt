-- What leaves a net: sets of the graph's outputs, which its collector gives.
use Rattle.std.specs.Prelude.{◌≡◌, ℕ, true, false, Bool, List, length, Option, Some, None, slice_get, option_map, unwrap_or}
use Rattle.mg_value.specs.Payload.{Plain}
use Rattle.mg_value.specs.Packet.{Stamped}
use Rattle.mg_settled.specs.Prefix.{StreamPrefix}
use Rattle.mg_settled.specs.Settled.{TimedSet, settled_sets}
use Rattle.mg_calc.specs.declared.plan.Plan.{Plan}
use Rattle.mg_node.specs.Views.{IntakeView}
use Rattle.mg_node.specs.Intakes.{next_set_of}
use Rattle.mg_node.specs.Claims.{Takes}
use Rattle.mg_node.specs.Job.{ports_of, policy_of, streams_at}
use Rattle.mg_node.specs.Resting.{HasCome}
use Rattle.mg_sched.specs.Views.{NetView}
use Rattle.mg_sched.specs.Places.{first_edge, lengths_of, with_intake}
use Rattle.mg_sched.specs.Acts.{with_noted}

-- the intake of the collector, and how many sets were taken from it
abbrev pub collector_of : NetView → Option IntakeView
collector_of net = slice_get net.intakes (length net.plan.nodes)

abbrev pub taken_out : NetView → ℕ
taken_out net = unwrap_or (option_map (λ i. i.claimed) (collector_of net)) 0

-- the collector's next set is taken, and the limits hear how many packets wait
pub record TakesNext (before now : NetView) (set : List (Option (Stamped Plain))) : Type 0 where
  pub intake : IntakeView
  pub there : collector_of before ≡ Some intake
  pub intake_now : IntakeView
  pub takes : Takes intake intake_now set
  pub now_is : now ≡ with_noted (with_intake before (length before.plan.nodes) intake_now) (first_edge before.plan (length before.plan.nodes)) (lengths_of intake_now.waits)

-- there is no next set at the collector, and nothing changes
pub record TakesNothing (before now : NetView) (set set_now : List (Option (Stamped Plain))) : Type 0 where
  pub intake : IntakeView
  pub there : collector_of before ≡ Some intake
  pub none : next_set_of intake.waits ≡ None
  pub same : now ≡ before
  pub same_set : set_now ≡ set

-- the collector's next set is taken, or there is none
abbrev pub TakesOut : Bool → List (Option (Stamped Plain)) → List (Option (Stamped Plain)) → NetView → NetView → Type 0
TakesOut true set set_now before now = TakesNext before now set_now
TakesOut false set set_now before now = TakesNothing before now set set_now

-- the settled sets of the graph's outputs: those of the streams at the collector's ports, by its policy
abbrev pub settled_outputs : Plan → List (StreamPrefix Plain) → List (TimedSet Plain)
settled_outputs plan streams = settled_sets (policy_of plan (length plan.nodes)) (streams_at streams (ports_of plan (length plan.nodes)))

-- the collector has got all that some streams have at the graph's outputs, including what was taken of it
pub record HasAllOutputs (streams : List (StreamPrefix Plain)) (net : NetView) : Type 0 where
  pub intake : IntakeView
  pub there : collector_of net ≡ Some intake
  pub came : HasCome intake (streams_at streams (ports_of net.plan (length net.plan.nodes)))

-- a net has its nodes as before, their works and their calculators: it differs in intakes, and in what the limits know of them, alone
abbrev pub LeavesNodes : NetView → NetView → Type 0
LeavesNodes before now = now ≡ record before { intakes = now.intakes; limits = now.limits }
