-- Laying the front of a window, entry by entry.
use Rattle.std.specs.Prelude.{◌≡◌, ℕ, ℤ, ◌+◌, ◌<◌, ◌≤◌, false, List, [], ◌∷◌, ◌++◌, length, map, Option, Some, None, IfSome, option_map}
use Rattle.mg_value.specs.Payload.{Plain}
use Rattle.mg_settled.specs.Prefix.{StreamPrefix}
use Rattle.mg_stream.specs.Queue.{Waiting}
use Rattle.mg_calc.specs.declared.cause.Cause.{Cause}
use Rattle.mg_calc.specs.declared.node_fault.Phase.{Phase}
use Rattle.mg_node.specs.declared.fronts.FrontEnd.{FrontEnd}
use Rattle.mg_node.specs.Views.{ContextView, PerformedView, EntryView, EngineView}
use Rattle.mg_node.specs.Lawful.{StandForAll, is_close}
use Rattle.mg_node.specs.Commits.{raised_before, calls_in_phase, Front, with_ready, front_laid, front_of, fault_at, HasFront}
use Rattle.mg_node.specs.Windows.{ready_of}
use Rattle.mg_node.specs.Code.QueueLaying.{Stand, room_at, packets_by, IsLaid}

-- how many packets the entries that are ready at the front of a window have at an output
abbrev pub needed : ℕ → List EntryView → ℕ
needed output [] = 0
needed output (entry ∷ entries) = with_ready (ready_of entry) 0 (λ p. packets_by output p.answer + needed output entries)

-- each output has room for the packets of the entries that are ready at the front of a window
abbrev pub HasRoom : List (Waiting Plain) → List EntryView → Type 0
HasRoom queues entries = (output : ℕ) → output < length queues → needed output entries ≤ room_at output queues

-- how many sets or calls the entries of a window have
abbrev pub counted_in : List EntryView → ℕ
counted_in [] = 0
counted_in (entry ∷ entries) = calls_in_phase entry.phase + counted_in entries

-- the result of laying an entry of a phase: how many sets or calls are laid, whether Close is, and the fault, if any
abbrev pub front_end_of : ℕ → Phase → Option Cause → FrontEnd
front_end_of node phase cause = record { laid = calls_in_phase phase; closed = is_close phase; fault = option_map (λ c. record { node = node; phase = phase; cause = c }) cause }

-- the first entry of a window, which is ready, is laid, and its context is idle
pub record IsFirstLaid (offset : Option ℤ) (node : ℕ) (before now : List (Waiting Plain)) (window window_now : List EntryView) (idle idle_now : List ContextView) (end : FrontEnd) : Type 0 where
  pub entry : EntryView
  pub first : window ≡ entry ∷ window_now
  pub performed : PerformedView
  pub ready : ready_of entry ≡ Some performed
  pub idle_is : idle_now ≡ idle ++ performed.work.context ∷ []
  pub cause : Option Cause
  pub laid : IsLaid offset entry.phase (raised_before offset entry.phase) performed.answer before now cause
  pub end_is : end ≡ front_end_of node entry.phase cause

-- a front before it is laid, of a node that goes on
abbrev pub start_of : List (StreamPrefix Plain) → ℕ → List EntryView → List ContextView → Front
start_of whole laid window idle = record { outputs = whole; laid = laid; window = window; idle = idle; closed = false; fault = None }

-- the outputs, the counts, the window and the contexts after laying are those of a front
pub record HasCome (front : Front) (node laid : ℕ) (now : List (Waiting Plain)) (window_now : List EntryView) (idle_now : List ContextView) (end : FrontEnd) : Type 0 where
  pub outputs : Stand now front.outputs
  pub laid_is : laid + end.laid ≡ front.laid
  pub window : window_now ≡ front.window
  pub idle : idle_now ≡ front.idle
  pub closed : end.closed ≡ front.closed
  pub fault : end.fault ≡ option_map (fault_at node) front.fault

-- all that is ready at the front of a window is laid: whatever whole prefixes the outputs stood for
pub record IsFrontLaid (offset : Option ℤ) (node : ℕ) (before now : List (Waiting Plain)) (window window_now : List EntryView) (idle idle_now : List ContextView) (end : FrontEnd) : Type 0 where
  pub gone : map (λ q. q.gone) now ≡ map (λ q. q.gone) before
  pub front : (whole : List (StreamPrefix Plain)) (laid : ℕ) → Stand before whole → HasCome (front_laid offset window (start_of whole laid window idle)) node laid now window_now idle_now end

-- an engine lays what is ready at the front of its window, `laid` sets or calls in all
pub record LaysFront (laid : ℕ) (before now : EngineView) : Type 0 where
  pub counted : now.laid ≡ before.laid + laid
  pub front : (whole : List (StreamPrefix Plain)) → StandForAll before.outputs whole → HasFront before now (front_laid before.offset before.window (front_of before before.window whole))

-- an engine's outputs stand for some prefixes in whole, and if it has a fault, that is its own node's
pub record HasWhole (engine : EngineView) : Type 0 where
  pub whole : List (StreamPrefix Plain)
  pub stand : StandForAll engine.outputs whole
  pub own : IfSome engine.fault (λ f. f.node ≡ engine.node)
