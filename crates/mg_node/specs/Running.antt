-- Running a calculator in a phase.
use Rattle.std.specs.Prelude.{◌≡◌, ◌<◌, ◌++◌, List, Option, option_map, Result, OnErr, ⊤}
use Rattle.mg_value.specs.Payload.{Plain}
use Rattle.mg_value.specs.Packet.{Stamped}
use Rattle.mg_calc.specs.Rules.{Laws}
use Rattle.mg_calc.specs.declared.call.Call.{Call}
use Rattle.mg_calc.specs.declared.call.Call.TheVariants.{Shown, Finished}
use Rattle.mg_calc.specs.declared.cause.CalcFault.{CalcFault}
use Rattle.mg_calc.specs.declared.node_fault.Phase.{Phase}
use Rattle.mg_calc.specs.declared.node_fault.Phase.TheVariants.{Open, Call as SourceCall, Process, Close}
use Rattle.mg_calc.specs.Shape.{IsOuter, IsSource, calls_of, FitsInputs}
use Rattle.mg_calc.specs.Told.{Logs}
use Rattle.mg_calc.specs.Answer.{GivesEmission}
use Rattle.mg_calc.specs.declared.emission.Laid.{Laid}
use Rattle.mg_node.specs.Views.{ContextView, WorkView, PerformedView}
use Rattle.mg_node.specs.Job.{LoggedJob, calls_in}
use Rattle.mg_node.specs.Lawful.{LawfulWork, HasAnswered, answer_in}
use Rattle.mg_route.specs.HolderView.{held_rules}

-- a context's calculator may be run in a phase. For a call, it is a source that has this call. For a set, it is shown sets with as many
-- places as this set. It may always be closed, and it is never opened this way.
abbrev pub MayRun : Phase → ContextView → Type 0
MayRun Open context = ⊥
MayRun (SourceCall number) context = IsSource context.told.law × (number < calls_of context.told.law)
MayRun (Process at) context = IsOuter context.told.law × FitsInputs context.told.shape context.set
MayRun Close context = ⊤

-- the log of a calculator that has run in a phase has the call, unless memory was short; a source's calls aren't told
abbrev pub LogsPhase : {E : Type 0} → Result E CalcFault → Option (List Call) → Option (List Call) → Phase → List (Option (Stamped Plain)) → Type 0
LogsPhase result before now Open set = now ≡ before
LogsPhase result before now (SourceCall number) set = now ≡ before
LogsPhase result before now (Process at) set = Logs result before now (Shown at set)
LogsPhase result before now Close set = Logs result before now Finished

-- a calculator has run in a phase: it answers what its law gives and keeps the new state. At a cause, or out of memory, it keeps the old
-- state.
pub record HasRun (laws : Laws) (result : Result (List Laid) CalcFault) (phase : Phase) (before now : ContextView) : Type 0 where
  pub answer : GivesEmission result now.told.state (answer_in (held_rules laws before.told) before.told.law before.told.state phase before.set)
  pub kept : OnErr result (now.told.state ≡ before.told.state)
  pub log : LogsPhase result before.told.log now.told.log phase before.set
  pub law : now.told.law ≡ before.told.law
  pub shape : now.told.shape ≡ before.told.shape
  pub same_handed : now.told.handed ≡ before.told.handed
  pub set : now.set ≡ before.set

-- a work is lawful for some job
pub record SomeJobHas (laws : Laws) (work : WorkView) : Type 0 where
  pub job : LoggedJob laws
  pub lawful : LawfulWork job work

-- a work is done: the calculator has answered what its law gives, and kept the new state
pub record IsPerformed (laws : Laws) (work : WorkView) (done : PerformedView) : Type 0 where
  pub same : done.work ≡ record work { context = done.work.context }
  pub answer : HasAnswered done.answer work.context.told.state done.work.context.told.state (answer_in (held_rules laws work.context.told) work.context.told.law work.context.told.state work.phase work.context.set)
  pub log : done.work.context.told.log ≡ option_map (λ calls. calls ++ calls_in work.phase work.context.set) work.context.told.log
  pub law : done.work.context.told.law ≡ work.context.told.law
  pub shape : done.work.context.told.shape ≡ work.context.told.shape
  pub same_handed : done.work.context.told.handed ≡ work.context.told.handed
  pub set : done.work.context.set ≡ work.context.set
