use Rattle.std.proofs.Common.{subst}
use Rattle.mg_calc.specs.declared.plan.Plan.{Plan}
use Rattle.mg_answer.specs.Answer.{output_in}
use Rattle.mg_answer.specs.Put.{HasPut}
use Rattle.mg_sched.proofs.WoundNets.{what_stands_may_wind_up}
use Rattle.mg_sched.proofs.Solved.{solved}
use Rattle.mg_drive.proofs.Jobs.{valid_plan}
use Rattle.mg_drive.proofs.Reported.{tells_at, ends_many, sets_many, faults_there}
use Rattle.mg_drive.proofs.finishing.wound_up.Goals as goal

pub wind_up-requires : goal.wind_up-requires
wind_up-requires g c = record { may = what_stands_may_wind_up (g.N.Driven.net c.args.net.now) (record { job = c.requires.rested.job; stands = c.requires.rested.stands }) }

pub returns-clause-tells : goal.returns-clause-tells
returns-clause-tells g c = record {
  few = c.in_ok-outcomes.ensures.few;
  many = ends_many c.args.run.now.plan.now (g.N.Driven.net c.args.net.now) c.in_ok-outcomes.outcomes c.requires.rested c.in_ok-outcomes.ensures.tells;
  sets = sets_many c.args.run.now.plan.now (g.N.Driven.net c.args.net.now) c.in_ok-outcomes.outcomes c.requires.rested c.in_ok-outcomes.ensures.tells;
  nodes = faults_there c.args.run.now.plan.now (g.N.Driven.net c.args.net.now) c.in_ok-outcomes.outcomes c.requires.rested c.in_ok-outcomes.ensures.tells;
}

pub returns-clause-ends : goal.returns-clause-ends
returns-clause-ends g c = λ form job first sink text plan stands rested whole.
    let found = solved job (valid_plan job (g.N.Driven.net c.args.net.now) stands) in
    record {
      plan_is = plan;
      streams = found.0;
      solution = found.1.solution;
      tells = tells_at job (g.N.Driven.net c.args.net.now) found.0 c.in_ok-outcomes.outcomes rested found.1 c.in_ok-outcomes.ensures.tells;
      put = subst (λ (p : Plan). HasPut first sink text (output_in form p found.0)) plan (whole found.0 found.1.solution);
    }
