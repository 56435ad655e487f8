-- How the engine of a graph input goes on with further packets of its stream, which came later.
use Rattle.mg_calc.specs.Rules.{Laws}
use Rattle.std.specs.Prelude.{◌≡◌, ℕ, ◌++◌, map, max}
use Rattle.mg_value.specs.Payload.{Plain}
use Rattle.mg_settled.specs.Prefix.{StreamPrefix, IsPrefix}
use Rattle.mg_stream.specs.Queue.{Waiting, StandsFor}
use Rattle.mg_stream.specs.Pool.{Backlog}
use Rattle.mg_node.specs.Views.{EngineView}
use Rattle.mg_node.specs.Job.{LoggedJob}
use Rattle.mg_node.specs.Lawful.{LawfulEngine, of_input}
use Rattle.mg_node.specs.Outputs.{laid_at}

-- a prefix with a further prefix after it; the greater of the two bounds stands
abbrev pub joined : {X : Type 0} → StreamPrefix X → StreamPrefix X → StreamPrefix X
joined s more = record { packets = s.packets ++ more.packets; bound = max s.bound more.bound }

-- an output with a prefix after what it keeps; what was given up stays given up
abbrev pub lengthened : Backlog Plain → StreamPrefix Plain → Backlog Plain
lengthened output more = record { gone = output.gone; packets = output.packets ++ more.packets; bound = max output.bound more.bound }

-- the engine of a graph input whose output goes on with a prefix; nothing else of it changes
abbrev pub extended : EngineView → StreamPrefix Plain → EngineView
extended engine more = record engine { outputs = map (λ output. lengthened output more) engine.outputs }

-- a queue may be lengthened by a prefix: what it stands for, with that prefix after it, is still a prefix
pub record MayLengthen (q : Waiting Plain) (more : StreamPrefix Plain) : Type 0 where
  pub whole : StreamPrefix Plain
  pub stands : StandsFor q whole
  pub is_prefix : IsPrefix (joined whole more)

-- an engine may be extended: for some job it is the lawful engine of a graph input, and its output may be lengthened
pub record MayExtend (laws : Laws) (engine : EngineView) (more : StreamPrefix Plain) : Type 0 where
  pub job : LoggedJob laws
  pub input : ℕ
  pub lawful : LawfulEngine job (of_input input) engine
  pub output : MayLengthen (laid_at engine 0) more

-- an engine was extended, as it might be, from `before` to `now`, and the bound of its output was `bound`
pub record WasExtended (laws : Laws) (more : StreamPrefix Plain) (bound : ℕ) (before now : EngineView) : Type 0 where
  pub may : MayExtend laws before more
  pub is : now ≡ extended before more
  pub bound_was : (laid_at before 0).bound ≡ bound

-- there is an engine that was extended to this one
pub record SomeExtended (laws : Laws) (more : StreamPrefix Plain) (bound : ℕ) (now : EngineView) : Type 0 where
  pub before : EngineView
  pub was : WasExtended laws more bound before now
