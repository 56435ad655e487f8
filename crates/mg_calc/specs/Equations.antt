-- What a graph means. Each stream of a plan has an equation. A graph input is what the caller gave. Every other stream is what its node
-- makes of the node's input streams. The solution is the least list of prefixes, one per stream, that meets all equations. It is
-- reached in rounds. At first nothing is known of any stream. In each round every stream is computed anew from the streams of the round
-- before. Nothing here speaks of queues, limits, workers or an order of events (MediaPipe, Synchronization).
use Rattle.std.specs.Prelude.{ℕ, zero, suc, ◌≡◌, ◌<◌, List, map, ◌++◌, length, replicate, Option, slice_index_or}
use Rattle.std.specs.List.{flat_map}
use Rattle.mg_value.specs.Payload.{Plain}
use Rattle.mg_settled.specs.Prefix.{StreamPrefix, empty_prefix}
use Rattle.mg_calc.specs.declared.law.Law.{Law}
use Rattle.mg_calc.specs.declared.law.Law.TheVariants.{Count, SideOnce, Constants, Loopback}
use Rattle.mg_calc.specs.declared.plan.Plan.{Plan}
use Rattle.mg_calc.specs.declared.plan_node.PlanNode.{PlanNode}
use Rattle.mg_calc.specs.declared.inputs.Inputs.{Inputs}
use Rattle.mg_calc.specs.Plan.{IsValid, InputsFit, node_sides}
use Rattle.mg_calc.specs.Shape.{calls_of}
use Rattle.mg_calc.specs.Rules.{Rules, Laws}
use Rattle.mg_calc.specs.Law.{rules_of}
use Rattle.mg_calc.specs.Outcome.{Outcome, node_outcome, source_outcome, loopback_outcome}

-- a job: a plan, its inputs, and what the program's calculators of their authors' own compute
pub record Job : Type 0 where
  pub plan : Plan
  pub inputs : Inputs
  pub laws : Laws

-- a job with a valid plan and inputs that fit
pub record IsJob (job : Job) : Type 0 where
  pub plan : IsValid job.plan
  pub inputs : InputsFit job.plan job.inputs

-- the side packets of a node, by port
abbrev pub sides_of : Job → PlanNode → List (Option Plain)
sides_of job node = node_sides job.plan job.inputs.sides node

-- the rules of a node: those of its law. For a law that its author states, they are the program's.
abbrev pub rules_at : Job → PlanNode → Rules
rules_at job node = rules_of job.laws node.law

-- the stream of a number, among the prefixes of all streams
abbrev pub stream_of : List (StreamPrefix Plain) → ℕ → StreamPrefix Plain
stream_of streams number = slice_index_or streams number empty_prefix

-- the input streams of a node, by port
abbrev pub inputs_of : List (StreamPrefix Plain) → PlanNode → List (StreamPrefix Plain)
inputs_of streams node = map (stream_of streams) node.inputs

-- what becomes of a node, by its own law. Sources are called by number, and a loopback answers MAIN. Every other node is shown the
-- settled sets of its policy. A loopback's ports are LOOP and MAIN, in this order.
abbrev pub outcome_by : Law → Job → List (StreamPrefix Plain) → PlanNode → Outcome
outcome_by (Count count start step) job streams node = source_outcome (rules_at job node) node.law (calls_of node.law) (length node.outputs) (sides_of job node)
outcome_by (SideOnce at) job streams node = source_outcome (rules_at job node) node.law (calls_of node.law) (length node.outputs) (sides_of job node)
outcome_by Constants job streams node = source_outcome (rules_at job node) node.law (calls_of node.law) (length node.outputs) (sides_of job node)
outcome_by Loopback job streams node =
    loopback_outcome (slice_index_or (inputs_of streams node) 1 empty_prefix) (slice_index_or (inputs_of streams node) 0 empty_prefix)
outcome_by law job streams node =
    node_outcome (rules_at job node) node.shape.offset node.policy (length node.outputs) (sides_of job node) (inputs_of streams node)

-- what becomes of a node of a job, from the streams
abbrev pub outcome_of : Job → List (StreamPrefix Plain) → PlanNode → Outcome
outcome_of job streams node = outcome_by node.law job streams node

-- The right sides of all equations: the graph inputs, and then the outputs of each node, as streams are numbered.
abbrev pub next_round : Job → List (StreamPrefix Plain) → List (StreamPrefix Plain)
next_round job streams = job.inputs.streams ++ flat_map (λ node. (outcome_of job streams node).outputs) job.plan.nodes

-- the streams after a number of rounds: at first nothing is known of any
abbrev pub round : Job → ℕ → List (StreamPrefix Plain)
round job zero = replicate (length job.plan.streams) empty_prefix
round job (suc n) = next_round job (round job n)

-- streams meet the equations: a further round leaves them as they are
abbrev pub MeetsEquations : Job → List (StreamPrefix Plain) → Type 0
MeetsEquations job streams = next_round job streams ≡ streams

-- The solution: the first round that meets the equations.
pub record IsSolution (job : Job) (streams : List (StreamPrefix Plain)) : Type 0 where
  pub number : ℕ
  pub reached : streams ≡ round job number
  pub meets : MeetsEquations job streams
  pub first : (earlier : ℕ) → earlier < number → ¬ MeetsEquations job (round job earlier)
