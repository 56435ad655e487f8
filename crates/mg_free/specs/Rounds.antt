-- The rounds in which free nodes take what arrives. Nothing here speaks of a net, of queues or of workers. In each round the streams
-- are the solution of the core for its inputs so far. Each free node takes one packet at most in a round.
use Rattle.std.specs.Prelude.{◌≡◌, Bool, true, false, List, [], ◌∷◌, ◌++◌, map, length, Option, Some, None, option_map, slice_get}
use Rattle.std.specs.List.{enumerate_from, filter_map, zip}
use Rattle.mg_value.specs.Payload.{Plain}
use Rattle.mg_settled.specs.Prefix.{StreamPrefix, closed}
use Rattle.mg_calc.specs.declared.inputs.Inputs.{Inputs}
use Rattle.mg_calc.specs.Rules.{Laws}
use Rattle.mg_calc.specs.Equations.{Job, IsSolution, stream_of}
use Rattle.mg_free.specs.declared.node.FreeNode.{FreeNode}
use Rattle.mg_free.specs.declared.plan.FreePlan.{FreePlan}
use Rattle.mg_free.specs.Free.{Arrival}
use Rattle.mg_free.specs.Logs.{flow_of, arrived_at, has_ended}

-- what a free node has taken: its log, and whether its output is closed
pub record Taken : Type 0 where
  pub log : List (Arrival Plain)
  pub closed : Bool

-- what the free nodes have taken at first: nothing has arrived, and the outputs are open
abbrev pub none_taken : FreePlan → List Taken
none_taken split = map (λ free. record { log = []; closed = false }) split.free

-- the output of a free node, as far as it is known
abbrev pub output_so_far : FreeNode → Taken → StreamPrefix Plain
output_so_far free taken = elim taken.closed [ true ↦ closed (flow_of free.law taken.log).output | false ↦ (flow_of free.law taken.log).output ]

-- the inputs of the core: the plan's inputs so far, and then the outputs of the free nodes so far
abbrev pub core_inputs : FreePlan → Inputs → List Taken → Inputs
core_inputs split inputs takens = record inputs { streams = inputs.streams ++ map (λ e. output_so_far e.0 e.1) (zip split.free takens) }

-- the job of the core with its inputs so far
abbrev pub core_job : Laws → FreePlan → Inputs → List Taken → Job
core_job laws split inputs takens = record { plan = split.core; inputs = core_inputs split inputs takens; laws = laws }

-- the input streams of a free node, by port
abbrev pub free_inputs : List (StreamPrefix Plain) → FreeNode → List (StreamPrefix Plain)
free_inputs streams free = map (stream_of streams) free.inputs

-- for each port whose stream has more packets than have arrived, the next arrival, in the order of the ports
abbrev pub next_arrivals : List (StreamPrefix Plain) → FreeNode → Taken → List (Arrival Plain)
next_arrivals streams free taken =
    filter_map (λ e. option_map (λ p. record { port = e.0; packet = p }) (slice_get e.1.packets (length (arrived_at e.0 taken.log)))) (enumerate_from 0 (free_inputs streams free))

-- the last entry of a list, if there is one
abbrev pub last_of : {X : Type 0} → List X → Option X
last_of [] = None
last_of (x ∷ []) = Some x
last_of (x ∷ y ∷ ys) = last_of (y ∷ ys)

-- what a free node has taken after it takes an arrival. Without an arrival it closes its output, if the input streams have ended that
-- have to end first.
abbrev pub with_next : List (StreamPrefix Plain) → FreeNode → Taken → Option (Arrival Plain) → Taken
with_next streams free taken (Some arrival) = record { log = taken.log ++ arrival ∷ []; closed = taken.closed }
with_next streams free taken None = elim (has_ended free.law (free_inputs streams free)) [ true ↦ record { log = taken.log; closed = true } | false ↦ taken ]

-- what a free node has taken after its turn. It takes the next packet of the last port that has a further packet. If no port has one,
-- it may close its output.
abbrev pub turn : List (StreamPrefix Plain) → FreeNode → Taken → Taken
turn streams free taken = with_next streams free taken (last_of (next_arrivals streams free taken))

-- a round: all free nodes have their turns, in one solution of the core
pub record IsRound (laws : Laws) (split : FreePlan) (inputs : Inputs) (before after : List Taken) : Type 0 where
  pub streams : List (StreamPrefix Plain)
  pub solution : IsSolution (core_job laws split inputs before) streams
  pub turns : after ≡ map (λ e. turn streams e.0 e.1) (zip split.free before)

-- rounds over the same inputs: each takes something or closes something, except the last, which does neither
pub data Rounds (laws : Laws) (split : FreePlan) (inputs : Inputs) : List Taken → List Taken → Type 0 where
  rests : {takens : List Taken} → IsRound laws split inputs takens takens → Rounds laws split inputs takens takens
  round : {before after last : List Taken} → IsRound laws split inputs before after → ¬ (after ≡ before) → Rounds laws split inputs after last → Rounds laws split inputs before last

-- the rounds of a run, over what has come after each batch of its input
pub data AllRounds (laws : Laws) (split : FreePlan) : List Inputs → List Taken → List Taken → Type 0 where
  ends : {takens : List Taken} → AllRounds laws split [] takens takens
  batch : {inputs : Inputs} {later : List Inputs} {before after last : List Taken} → Rounds laws split inputs before after → AllRounds laws split later after last
      → AllRounds laws split (inputs ∷ later) before last
