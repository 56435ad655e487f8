-- A look at a stream of a net: at what is laid at its output.
use Rattle.std.specs.Prelude.{◌≡◌, ◌≤◌, ℕ, List, Some, slice_get}
use Rattle.mg_value.specs.Payload.{Plain}
use Rattle.mg_stream.specs.Pool.{Backlog}
use Rattle.mg_calc.specs.declared.plan.Plan.{Plan}
use Rattle.mg_calc.specs.declared.plan_stream.Producer.{Producer}
use Rattle.mg_node.specs.Views.{EngineView}
use Rattle.mg_sched.specs.Places.{place_of}
use Rattle.mg_sched.specs.Views.{NetView}
use Rattle.mg_sched.specs.Writers.{writer_at, output_of}

-- the output of a stream: the one of its writer's engine at which the stream is laid
pub record IsOutputAmong (plan : Plan) (engines : List EngineView) (stream : ℕ) (output : Backlog Plain) : Type 0 where
  pub producer : Producer
  pub engine : EngineView
  pub written : writer_at plan stream ≡ Some producer
  pub engine_is : slice_get engines (place_of plan producer) ≡ Some engine
  pub output_is : slice_get engine.outputs (output_of producer) ≡ Some output

-- the output of a stream of a net
abbrev pub IsOutputOf : NetView → ℕ → Backlog Plain → Type 0
IsOutputOf net stream output = IsOutputAmong net.plan net.engines stream output

-- the packets of a stream are there from a number on: at most that many first ones are given up
abbrev pub HasFrom : NetView → ℕ → ℕ → Type 0
HasFrom net stream number = (output : Backlog Plain) → IsOutputOf net stream output → output.gone ≤ number
