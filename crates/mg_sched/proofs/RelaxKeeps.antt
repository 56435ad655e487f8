-- Limits that are relaxed keep what a net stands for.
use Rattle.std.proofs.Common.{inl, inr, sym, subst}
use Rattle.mg_calc.specs.Rules.{Laws}
use Rattle.mg_calc.specs.declared.event.Effect.{Effect}
use Rattle.mg_node.specs.Job.{LoggedJob}
use Rattle.mg_sched.specs.Views.{NetView}
use Rattle.mg_sched.specs.StandsFor.{IsNetOf, StandsFor}
use Rattle.mg_sched.specs.Acts.{Rests, LimitsRelax}
use Rattle.mg_sched.proofs.LimitsKnow.{relaxed_knows}

-- nothing happened
pub rest_stands : {laws : Laws} (job : LoggedJob laws) (effect : Effect) (before now : NetView) → StandsFor job before → Rests effect before now → StandsFor job now
rest_stands {laws} job effect before now h rests = subst (λ (v : NetView). StandsFor job v) (sym rests.same) h

pub relax_stands : {laws : Laws} (job : LoggedJob laws) (effect : Effect) (before now : NetView) → StandsFor job before → LimitsRelax effect before now → StandsFor job now
unfolding StandsFor
relax_stands {laws} job effect before now h r = elim r [
  | inl none ↦ rest_stands job effect before now h none.1
  | inr some ↦ subst (λ (v : NetView). IsNetOf job v) (sym some.2) (record {
    is_job = h.is_job;
    plan = h.plan;
    given = h.given;
    engines = h.engines;
    intakes = h.intakes;
    work_queues = h.work_queues;
    cells = h.cells;
    inputs = h.inputs;
    collector = h.collector;
    edges = h.edges;
    limits = relaxed_knows before h.limits;
    spare = h.spare;
    kept = h.kept;
    begun = h.begun;
    not_wound = h.not_wound;
  })
]
