-- At which outputs the streams of a plan are laid, and numbers kept by stream.
use Rattle.std.specs.Prelude.{◌≡◌, ℕ, ◌+◌, ◌<◌, ◌≤◌, List, length, Some, slice_get, slice_index_or, if◌then◌else◌, nat_lt}
use Rattle.mg_value.specs.Payload.{Plain}
use Rattle.mg_stream.specs.Pool.{Backlog}
use Rattle.mg_calc.specs.Rules.{Laws}
use Rattle.mg_calc.specs.declared.edge.Edge.{Edge}
use Rattle.mg_calc.specs.declared.plan.Plan.{Plan}
use Rattle.mg_calc.specs.declared.plan_stream.Producer.{Producer}
use Rattle.mg_node.specs.Views.{IntakeView, EngineView}
use Rattle.mg_node.specs.Job.{LoggedJob}
use Rattle.mg_node.specs.Lawful.{Owner, LawfulEngine}
use Rattle.mg_node.specs.Outputs.{count_at, without_first}
use Rattle.mg_node.specs.Ports.{ports_in}
use Rattle.mg_sched.specs.Places.{place_of}
use Rattle.mg_sched.specs.Writers.{writer_at, output_of}

-- a stream is laid at an output of the engine at a place
pub record LaidAt (plan : Plan) (stream place port : ℕ) : Type 0 where
  pub producer : Producer
  pub written : writer_at plan stream ≡ Some producer
  pub place_is : place_of plan producer ≡ place
  pub port_is : output_of producer ≡ port

-- an engine has the output of a stream
pub record HasOutput (stream port : ℕ) (engine : EngineView) : Type 0 where
  pub stream_is : engine.first + port ≡ stream
  pub within : port < length engine.outputs

-- the outputs of engines are those of a plan's streams
pub record HaveOutputs (plan : Plan) (engines : List EngineView) : Type 0 where
  pub place : (stream place port : ℕ) → LaidAt plan stream place port → place < length engines
  pub output : (stream place port : ℕ) (engine : EngineView) → LaidAt plan stream place port → slice_get engines place ≡ Some engine → HasOutput stream port engine
  pub each : (place port : ℕ) (engine : EngineView) → slice_get engines place ≡ Some engine → port < length engine.outputs → LaidAt plan (engine.first + port) place port

-- the ports of edges are there, and their streams below a count
pub record LeadToPorts (count : ℕ) (edges : List Edge) (intakes : List IntakeView) : Type 0 where
  pub stream : (number : ℕ) (e : Edge) → slice_get edges number ≡ Some e → e.stream < count
  pub node : (number : ℕ) (e : Edge) → slice_get edges number ≡ Some e → e.node < length intakes
  pub port : (number : ℕ) (e : Edge) (intake : IntakeView) → slice_get edges number ≡ Some e → slice_get intakes e.node ≡ Some intake → e.port < ports_in intake.waits

-- for the first `upto` streams, the number of each is how many packets are laid at its output
abbrev pub AreLaid : List EngineView → ℕ → List ℕ → Type 0
AreLaid engines upto got = (place port : ℕ) (engine : EngineView) → slice_get engines place ≡ Some engine → port < length engine.outputs → engine.first + port < upto
    → slice_index_or got (engine.first + port) 0 ≡ count_at engine port

-- the number of each stream is at most how many packets are laid at its output
abbrev pub AreWithin : List EngineView → List ℕ → Type 0
AreWithin engines got = (place port : ℕ) (engine : EngineView) → slice_get engines place ≡ Some engine → port < length engine.outputs → slice_index_or got (engine.first + port) 0 ≤ count_at engine port

-- an output, once the first `upto` streams have given up as many first packets as their numbers are
abbrev pub given_below : List ℕ → ℕ → ℕ → Backlog Plain → Backlog Plain
given_below got upto stream output = if nat_lt stream upto then without_first (slice_index_or got stream 0) output else output

-- an engine, once the first `upto` streams have given up packets at their outputs
pub record GivenBelow (laws : Laws) (got : List ℕ) (upto : ℕ) (engine engine_now : EngineView) : Type 0 where
  pub rest : engine_now ≡ record engine { outputs = engine_now.outputs }
  pub count : length engine_now.outputs ≡ length engine.outputs
  pub outputs : (port : ℕ) (output output_now : Backlog Plain) → slice_get engine.outputs port ≡ Some output → slice_get engine_now.outputs port ≡ Some output_now → output_now ≡ given_below got upto (engine.first + port) output
  pub lawful : (job : LoggedJob laws) (owner : Owner) → LawfulEngine job owner engine → LawfulEngine job owner engine_now

-- all engines, once the first `upto` streams have given up packets at their outputs
pub record AllGiven (laws : Laws) (got : List ℕ) (upto : ℕ) (before now : List EngineView) : Type 0 where
  pub count : length now ≡ length before
  pub engines : (place : ℕ) (engine engine_now : EngineView) → slice_get before place ≡ Some engine → slice_get now place ≡ Some engine_now → GivenBelow laws got upto engine engine_now
