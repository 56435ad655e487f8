-- A net that runs still runs after each step.
use Rattle.std.proofs.Common.{ℕ, Option, Some, None, inl, inr, sym, subst}
use Rattle.mg_calc.specs.Rules.{Laws}
use Rattle.mg_calc.specs.declared.event.Event.{Event}
use Rattle.mg_calc.specs.declared.event.Event.TheVariants.{Deliver, Advance, Claim, Perform, Commit, Relax}
use Rattle.mg_calc.specs.declared.event.Effect.{Effect}
use Rattle.mg_calc.specs.declared.event.Effect.TheVariants.{Did, Idle, OutOfMemory}
use Rattle.mg_node.specs.Views.{PerformedView, EngineView}
use Rattle.mg_node.specs.Shelves.{shelf_at}
use Rattle.mg_sched.specs.Views.{WorkQueueView, NetView}
use Rattle.mg_sched.specs.StandsFor.{IsRunning}
use Rattle.mg_sched.specs.Acts.{Rests, Performs, CommittedAt, Acts}

rests_run : (effect : Effect) (before now : NetView) → IsRunning before → Rests effect before now → IsRunning now
rests_run effect before now running r = subst IsRunning (sym r.same) running

performs_run : {laws : Laws} (node number : ℕ) (effect : Effect) (work_queue : WorkQueueView) (before now : NetView) → IsRunning before → Performs laws node number effect work_queue before now → IsRunning now
performs_run {laws} node number Did work_queue before now running p = subst IsRunning (sym p.performed.2) running
performs_run {laws} node number Idle work_queue before now running p = absurd p.performed
performs_run {laws} node number OutOfMemory work_queue before now running p = subst IsRunning (sym p.performed) running

commits_run : (node number : ℕ) (shelf : Option PerformedView) (effect : Effect) (engine : EngineView) (before now : NetView) → IsRunning before → CommittedAt node number shelf effect engine before now → IsRunning now
commits_run node number None effect engine before now running r = rests_run effect before now running r
commits_run node number (Some p) Did engine before now running c = subst IsRunning (sym c.now_is) running
commits_run node number (Some p) Idle engine before now running c = absurd c
commits_run node number (Some p) OutOfMemory engine before now running c = subst IsRunning (sym c) running

pub acts_run : (laws : Laws) (event : Event) (effect : Effect) (before now : NetView) → IsRunning before → Acts laws event effect before now → IsRunning now
acts_run laws (Deliver edge) effect before now running a = elim a.delivered [
  | inl held ↦ rests_run effect before now running held.1
  | inr brings ↦ subst IsRunning (sym brings.1.now_is) running
]
acts_run laws (Advance node) effect before now running a = subst IsRunning (sym a.now_is) running
acts_run laws (Claim node) effect before now running a = elim a [
  | inl held ↦ rests_run effect before now running held.1
  | inr claims ↦ subst IsRunning (sym claims.1.now_is) running
]
acts_run laws (Perform node number) effect before now running a = elim a.performed [
  | inl none ↦ rests_run effect before now running none.1
  | inr performs ↦ performs_run node number effect a.work_queue before now running performs
]
acts_run laws (Commit node number) effect before now running a = commits_run node number (shelf_at a.engine number) effect a.engine before now running a.committed
acts_run laws Relax effect before now running a = elim a [
  | inl none ↦ rests_run effect before now running none.1
  | inr full ↦ subst IsRunning (sym full.2) running
]
