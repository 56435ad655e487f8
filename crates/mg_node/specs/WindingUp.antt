-- How an engine is wound up once a run has ended: a node that was opened and had no Close is closed. So is a node that has failed at a set
-- or in a call. So is a node whose work came back and stands in its window. What its calculator answers is dropped.
use Rattle.std.specs.Prelude.{◌≡◌, ◌&&◌, ◌<◌, Bool, true, false, not, List, [], ◌∷◌, ◌++◌, length, Option, Some, None, is_some}
use Rattle.mg_calc.specs.Rules.{Laws}
use Rattle.mg_calc.specs.declared.call.Call.TheVariants.{Finished}
use Rattle.mg_calc.specs.declared.node_fault.Phase.{Phase}
use Rattle.mg_calc.specs.declared.node_fault.Phase.TheVariants.{Open, Call, Process, Close}
use Rattle.mg_calc.specs.declared.node_fault.NodeFault.{NodeFault}
use Rattle.mg_calc.specs.Told.{with_call}
use Rattle.mg_node.specs.Views.{ContextView, OutcomeView, EntryView, EngineView}
use Rattle.mg_node.specs.Lawful.{kept_after, is_close}
use Rattle.mg_route.specs.HolderView.{held_rules}

-- whether a node that failed in this phase is still to be closed: not if Open or Close itself failed
abbrev pub closes_after : Phase → Bool
closes_after Open = false
closes_after (Call number) = true
closes_after (Process at) = true
closes_after Close = false

-- whether a node with this fault, or with none, is still to be closed
abbrev pub closes_despite : Option NodeFault → Bool
closes_despite None = true
closes_despite (Some fault) = closes_after fault.phase

-- whether a node was opened and had no Close
abbrev pub lacks_close : EngineView → Bool
lacks_close engine = engine.begun && not engine.closed && closes_despite engine.fault

-- a context's calculator is closed: the call is in its log, and it keeps what its rules give for that
pub record IsFinished (laws : Laws) (before now : ContextView) : Type 0 where
  pub log : now.told.log ≡ with_call before.told.log Finished
  pub state : now.told.state ≡ kept_after ((held_rules laws before.told).finish before.told.state) before.told.state
  pub law : now.told.law ≡ before.told.law
  pub shape : now.told.shape ≡ before.told.shape
  pub same_handed : now.told.handed ≡ before.told.handed
  pub set : now.set ≡ before.set

-- the calculator of the last idle context is closed, and nothing else changes
pub record FinishesLast (laws : Laws) (before now : EngineView) : Type 0 where
  pub others : List ContextView
  pub context : ContextView
  pub idle : before.idle ≡ others ++ context ∷ []
  pub finished : ContextView
  pub is_finished : IsFinished laws context finished
  pub is : now ≡ record before { idle = others ++ finished ∷ [] }

-- whether the work of an outcome was Close and was performed
abbrev pub was_closed : OutcomeView → Bool
was_closed outcome = is_close outcome.work.phase && is_some outcome.answer

-- the calculator of a work that came back is closed, and nothing else of it changes
pub record ClosesWork (laws : Laws) (before now : OutcomeView) : Type 0 where
  pub finished : ContextView
  pub is_finished : IsFinished laws before.work.context finished
  pub is : now ≡ record { work = record before.work { context = finished }; answer = before.answer }

-- the calculator of a work that came back is closed, unless that work was Close and was performed
pub record FinishesWork (laws : Laws) (before now : OutcomeView) : Type 0 where
  pub closes : was_closed before ≡ false → ClosesWork laws before now
  pub had : was_closed before ≡ true → now ≡ before

-- the calculator of a work that came back, if there is one, is closed, unless that work was Close and was performed
abbrev pub FinishesBack : Laws → Option OutcomeView → Option OutcomeView → Type 0
FinishesBack laws None now = now ≡ None
FinishesBack laws (Some outcome) now = (outcome_now : OutcomeView) × FinishesWork laws outcome outcome_now × (now ≡ Some outcome_now)

-- the calculator of the work that came back to an entry, if there is one, is closed, unless that work was Close and was performed
pub record FinishesEntry (laws : Laws) (before now : EntryView) : Type 0 where
  pub outcome : Option OutcomeView
  pub finishes : FinishesBack laws before.outcome outcome
  pub is : now ≡ record { phase = before.phase; outcome = outcome; committed = before.committed }

-- the first entry of a window, if there is one, has the calculator of its work closed
abbrev pub FinishesFirst : Laws → List EntryView → List EntryView → Type 0
FinishesFirst laws [] now = now ≡ []
FinishesFirst laws (entry ∷ entries) now = (entry_now : EntryView) × FinishesEntry laws entry entry_now × (now ≡ entry_now ∷ entries)

-- the first entry of an engine's window has the calculator of its work closed, and nothing else of the engine changes
pub record FinishesFront (laws : Laws) (before now : EngineView) : Type 0 where
  pub window : List EntryView
  pub finishes : FinishesFirst laws before.window window
  pub is : now ≡ record before { window = window }

-- an engine is wound up: if it lacks Close, the calculator of its last idle context is closed. If no context is idle, the calculator of the
-- first work in its window is closed. If the engine doesn't lack Close, nothing changes.
pub record WindsUp (laws : Laws) (before now : EngineView) : Type 0 where
  pub finishes : lacks_close before ≡ true → 0 < length before.idle → FinishesLast laws before now
  pub had_close : lacks_close before ≡ false → now ≡ before
  pub none_idle : lacks_close before ≡ true → before.idle ≡ [] → FinishesFront laws before now
