-- Commits: performed works are laid in the order of the sets, in whatever order they come back. Outputs are spoken of by whole prefixes
-- that they stand for, since packets may have been given up.
use Rattle.std.specs.Prelude.{◌≡◌, ℕ, ℤ, ◌+◌, ◌-◌, ◌||◌, Bool, List, [], ◌∷◌, ◌++◌, map, Option, Some, None, option_map, is_some, Result, Ok, Err, slice_set, if◌then◌else◌}
use Rattle.mg_time.specs.Time.{done}
use Rattle.mg_value.specs.Payload.{Plain}
use Rattle.mg_settled.specs.Prefix.{StreamPrefix, closed}
use Rattle.mg_calc.specs.Rules.{Laws}
use Rattle.mg_calc.specs.declared.cause.Cause.{Cause}
use Rattle.mg_calc.specs.declared.emission.Laid.{Laid}
use Rattle.mg_calc.specs.declared.node_fault.NodeFault.{NodeFault}
use Rattle.mg_calc.specs.declared.node_fault.Phase.{Phase}
use Rattle.mg_calc.specs.declared.node_fault.Phase.TheVariants.{Call, Process, Close}
use Rattle.mg_calc.specs.Laying.{all_raised, laid_behind, after}
use Rattle.mg_calc.specs.Outcome.{Failure}
use Rattle.mg_node.specs.Views.{ContextView, PerformedView, OutcomeView, EntryView, EngineView}
use Rattle.mg_node.specs.Job.{LoggedJob}
use Rattle.mg_node.specs.Lawful.{of_node, LawfulEngine, StandForAll, is_close}
use Rattle.mg_node.specs.Shelves.{back}
use Rattle.mg_node.specs.Windows.{ready_of}

-- the outputs before an answer of a phase is laid. Before a set they are raised to its time plus the offset. Before Close they are raised
-- to the end of all times. Without an offset they aren't raised.
abbrev pub raised_before : Option ℤ → Phase → List (StreamPrefix Plain) → List (StreamPrefix Plain)
raised_before offset (Process at) outputs = all_raised offset at outputs
raised_before offset Close outputs = all_raised offset done outputs
raised_before offset phase outputs = outputs

-- the outputs after a phase: after Close they are closed
abbrev pub closed_after : Phase → List (StreamPrefix Plain) → List (StreamPrefix Plain)
closed_after Close outputs = map closed outputs
closed_after phase outputs = outputs

-- the outputs once an answer is laid, or the cause why it can't be
abbrev pub laid_by : Option ℤ → Phase → List (StreamPrefix Plain) → Result (List Laid) Cause → Result (List (StreamPrefix Plain)) Cause
laid_by offset phase outputs answer =
    after answer (λ emission. after (laid_behind offset phase outputs emission) (λ longer. Ok (closed_after phase longer)))

-- the outputs once an answer was to be laid: if there is a cause against it, they stay as they were raised
abbrev pub outputs_by : List (StreamPrefix Plain) → Result (List (StreamPrefix Plain)) Cause → List (StreamPrefix Plain)
outputs_by raised (Ok outputs) = outputs
outputs_by raised (Err cause) = raised

-- the failure in a phase, if the answer can't be laid
abbrev pub failure_by : Phase → Result (List (StreamPrefix Plain)) Cause → Option Failure
failure_by phase (Ok outputs) = None
failure_by phase (Err cause) = Some (record { phase = phase; cause = cause })

-- how many sets or calls are laid in a phase: Open and Close aren't counted
abbrev pub calls_in_phase : Phase → ℕ
calls_in_phase (Call number) = 1
calls_in_phase (Process at) = 1
calls_in_phase phase = 0

-- what laying changes of an engine: its outputs in whole, how many sets or calls were laid, and what is claimed and isn't laid. Laying also
-- changes the contexts that no work has, whether Close was laid, and the fault.
pub record Front : Type 0 where
  pub outputs : List (StreamPrefix Plain)
  pub laid : ℕ
  pub window : List EntryView
  pub idle : List ContextView
  pub closed : Bool
  pub fault : Option Failure

-- a front once an answer is laid: its context is idle again, and these entries are left in the window
abbrev pub answer_laid : Option ℤ → Phase → ContextView → Result (List Laid) Cause → List EntryView → Front → Front
answer_laid offset phase context answer rest front = record {
  outputs = outputs_by (raised_before offset phase front.outputs) (laid_by offset phase (raised_before offset phase front.outputs) answer);
  laid = front.laid + calls_in_phase phase;
  window = rest;
  idle = front.idle ++ context ∷ [];
  closed = is_close phase;
  fault = failure_by phase (laid_by offset phase (raised_before offset phase front.outputs) answer);
}

-- whether a front lays nothing more: its node has failed or is closed
abbrev pub has_stopped : Front → Bool
has_stopped front = front.closed || is_some front.fault

-- `go` of what was performed, or `none` if nothing is ready
abbrev pub with_ready : {A : Type 0} → Option PerformedView → A → (PerformedView → A) → A
with_ready None none go = none
with_ready (Some p) none go = go p

-- a front once what is committed at the front of the window is laid, one entry after the other. Laying stops before the first entry that
-- isn't ready, or after the first at which the node fails or closes.
abbrev pub front_laid : Option ℤ → List EntryView → Front → Front
front_laid offset [] front = front
front_laid offset (entry ∷ entries) front =
    if has_stopped front then front
    else with_ready (ready_of entry) front (λ p. front_laid offset entries (answer_laid offset entry.phase p.work.context p.answer entries front))

-- the entry of a work that comes back: it is committed if the work was performed
abbrev pub committed_entry : OutcomeView → EntryView
committed_entry outcome = record (back outcome) { committed = is_some outcome.answer }

-- an engine's window with the entry of a work that comes back, at the work's place
abbrev pub window_with : EngineView → OutcomeView → List EntryView
window_with engine outcome = slice_set engine.window (outcome.work.number - engine.laid) (committed_entry outcome)

-- an engine's front, if its outputs stand for these prefixes and its window is this one
abbrev pub front_of : EngineView → List EntryView → List (StreamPrefix Plain) → Front
front_of engine window whole = record {
  outputs = whole;
  laid = engine.laid;
  window = window;
  idle = engine.idle;
  closed = engine.closed;
  fault = option_map (λ f. record { phase = f.phase; cause = f.cause }) engine.fault;
}

-- the fault of a node that has failed like this
abbrev pub fault_at : ℕ → Failure → NodeFault
fault_at node f = record { node = node; phase = f.phase; cause = f.cause }

-- an engine has reached a front: its outputs stand for the front's, and no packet was given up
pub record HasFront (before now : EngineView) (front : Front) : Type 0 where
  pub outputs : StandForAll now.outputs front.outputs
  pub given_up : map (λ b. b.gone) now.outputs ≡ map (λ b. b.gone) before.outputs
  pub others : now ≡ record before {
    outputs = now.outputs;
    laid = front.laid;
    window = front.window;
    idle = front.idle;
    closed = front.closed;
    fault = option_map (fault_at before.node) front.fault;
  }

-- a commit: the work comes back to its window, and what is committed at the front is laid, `laid` sets or calls in all. No packet is given
-- up, and nothing else changes.
pub record Commits (outcome : OutcomeView) (laid : ℕ) (before now : EngineView) : Type 0 where
  pub counted : now.laid ≡ before.laid + laid
  pub given_up : map (λ b. b.gone) now.outputs ≡ map (λ b. b.gone) before.outputs
  pub others : now ≡ record before {
    outputs = now.outputs;
    laid = now.laid;
    window = now.window;
    idle = now.idle;
    closed = now.closed;
    fault = now.fault;
  }
  pub front : (whole : List (StreamPrefix Plain)) → StandForAll before.outputs whole
      → HasFront before now (front_laid before.offset (window_with before outcome) (front_of before (window_with before outcome) whole))

-- there is a job for which the engine of a node is lawful
pub record SomeJobHasEngine (laws : Laws) (engine : EngineView) : Type 0 where
  pub job : LoggedJob laws
  pub number : ℕ
  pub lawful : LawfulEngine job (of_node number) engine
