-- Runs: lists of events that lead a net from one position to another. A run of a job at rest leads a net from its begin to its rest.
use Rattle.std.specs.Prelude.{◌≡◌, List, [], ◌∷◌}
use Rattle.mg_calc.specs.Rules.{Laws}
use Rattle.mg_calc.specs.declared.event.Event.{Event}
use Rattle.mg_calc.specs.declared.event.Effect.TheVariants.{Did}
use Rattle.mg_calc.specs.declared.inputs.Inputs.{Inputs}
use Rattle.mg_calc.specs.declared.plan.Plan.{Plan}
use Rattle.mg_calc.specs.Told.{BoxTold}
use Rattle.mg_sched.specs.Views.{NetView}
use Rattle.mg_sched.specs.StandsFor.{StandsFor, IsRunning}
use Rattle.mg_sched.specs.Acts.{IsEventOf, Acts}
use Rattle.mg_sched.specs.AtRest.{IsAtRest}
use Rattle.mg_sched.specs.Begins.{BeginsNet}
use Rattle.mg_sched.specs.Made.{job_of, IsMade}

-- A list of events is a run from one net to another. Each in turn is an event of the net to which the events before it led. As a step of
-- that net it does something.
abbrev pub IsRun : Laws → List Event → NetView → NetView → Type 0
IsRun laws [] before now = now ≡ before
IsRun laws (event ∷ events) before now = (next : NetView) × IsEventOf before event × Acts laws event Did before next × IsRun laws events next now

-- where the runs of a job begin: a net was made for it, with these calculators, and each node is begun
pub record IsBegun (laws : Laws) (plan : Plan) (inputs : Inputs) (boxes : List BoxTold) (net : NetView) : Type 0 where
  pub made : NetView
  pub is_made : IsMade laws plan inputs boxes made
  pub begins : BeginsNet laws made net
  pub stands : StandsFor (job_of laws plan inputs boxes) net
  pub running : IsRunning net

-- A list of events is a run of a job at rest. It leads from where the job's runs begin to a net that can go no further.
pub record IsRunAtRest (laws : Laws) (plan : Plan) (inputs : Inputs) (boxes : List BoxTold) (events : List Event) : Type 0 where
  pub begun : NetView
  pub begins : IsBegun laws plan inputs boxes begun
  pub rested : NetView
  pub run : IsRun laws events begun rested
  pub rests : IsAtRest laws rested
