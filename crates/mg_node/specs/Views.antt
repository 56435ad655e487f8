-- What contracts see of the parts of a cell: records of plain data.
use Rattle.std.specs.Prelude.{ℕ, ℤ, Bool, List, Option, Result}
use Rattle.mg_value.specs.Payload.{Plain}
use Rattle.mg_value.specs.Packet.{Stamped}
use Rattle.mg_stream.specs.Pool.{Backlog}
use Rattle.mg_calc.specs.declared.cause.Cause.{Cause}
use Rattle.mg_calc.specs.declared.emission.Laid.{Laid}
use Rattle.mg_calc.specs.declared.node_fault.Phase.{Phase}
use Rattle.mg_calc.specs.declared.node_fault.NodeFault.{NodeFault}
use Rattle.mg_route.specs.HolderView.{HolderView}
use Rattle.mg_node.specs.declared.role.Role.{Role}
use Rattle.mg_node.specs.declared.pending.Pending.{Pending}

-- an intake: how many input sets were claimed, or packets of MAIN answered; and what waits
pub record IntakeView : Type 0 where
  pub claimed : ℕ
  pub waits : Pending

-- a context: what its calculator tells of itself, whether the calculator is user-supplied, and what the context's set has
pub record ContextView : Type 0 where
  pub told : HolderView
  pub set : List (Option (Stamped Plain))

-- a work: its node, its number, what is to be done, and the context where it is done. A source's calls and Close have no set; what the
-- context's set has then is left over.
pub record WorkView : Type 0 where
  pub node : ℕ
  pub number : ℕ
  pub phase : Phase
  pub context : ContextView

-- a work that is done, with the calculator's answer
pub record PerformedView : Type 0 where
  pub work : WorkView
  pub answer : Result (List Laid) Cause

-- what comes back of a work: it has an answer, or wasn't run
pub record OutcomeView : Type 0 where
  pub work : WorkView
  pub answer : Option (Result (List Laid) Cause)

-- an entry of a window: what is to be done; the outcome, unless the work is out; and whether it was committed
pub record EntryView : Type 0 where
  pub phase : Phase
  pub outcome : Option OutcomeView
  pub committed : Bool

-- an engine
pub record EngineView : Type 0 where
  -- its role, the number of its node or graph input, and of its first output's stream
  pub role : Role
  pub node : ℕ
  pub first : ℕ
  -- its node's offset, how many works may be claimed and not laid, and how many inputs its node has
  pub offset : Option ℤ
  pub in_flight : ℕ
  pub inputs : ℕ
  -- what was laid at each output: how many packets were given up, those that are kept, and the bound
  pub outputs : List (Backlog Plain)
  -- how many sets, calls or answers were laid, and how many were claimed; Close isn't counted
  pub laid : ℕ
  pub claimed : ℕ
  -- the works that were claimed and aren't laid, in order, from number `laid` on
  pub window : List EntryView
  -- the contexts that no work has
  pub idle : List ContextView
  -- whether it was begun, whether Close was laid, and its node's fault
  pub begun : Bool
  pub closed : Bool
  pub fault : Option NodeFault
