use Rattle.std.proofs.Common.{◌<◌, length, All, sym, ap, ◌∙◌, subst, arith}
use Rattle.mg_calc.specs.declared.plan.Plan.{Plan}
use Rattle.mg_calc.specs.Equations.{Job}
use Rattle.mg_calc.specs.Meaning.{faults, counts}
use Rattle.mg_free.specs.Core.{core_of}
use Rattle.mg_answer.specs.Answer.{output_in}
use Rattle.mg_answer.specs.Devices.{device}
use Rattle.mg_answer.specs.Outcomes.{told_answer, told_failed}
use Rattle.mg_answer.specs.Wrote.{WroteBy}
use Rattle.mg_drive.specs.Batches.{OutcomesFit}
use Rattle.mg_drive.proofs.LiveEnds.{sets_long, plan_ends}
use Rattle.mg_drive.proofs.LiveTells.{logs_long, streams_as_many, faults_below}
use Rattle.mg_drive.proofs.live.LiveBatches.conclude.Goals as goal

pub outcomes-requires : goal.outcomes-requires
outcomes-requires g c =
    let l = c.requires.of.1.given in
    record {
      valid = l.of.valid;
      numbers = l.of.numbers_are;
      free = l.of.frees_are;
      long = sym l.taken.takers_long;
      tells = subst (λ (p : Plan). OutcomesFit p c.args.outcomes) l.of.core_is c.requires.tells;
    }

pub conclude-requires : goal.conclude-requires
conclude-requires g c =
    let l = c.requires.of.1.given in
    let whole = c.args.self.now.whole.plan.now in
    let job : Job = record { plan = c.args.run.now.plan.now; inputs = c.requires.of.1.inputs; laws = c.requires.of.0 } in
    let told = c.in_ok-outcomes.ensures job c.requires.of.1.streams l.takens l.of.core_is c.requires.of.1.tells l.taken in
    let tells = subst (λ (p : Plan). OutcomesFit p c.args.outcomes) l.of.core_is c.requires.tells in
    let many = plan_ends c.args.run.now.report whole job c.requires.of.1.streams c.args.self.now.nodes.free l.takens c.in_ok-outcomes.outcomes told in
    record {
      few = omega (arith, many, tells.many, tells.few, streams_as_many whole l.of.valid);
      many = many;
      sets = ap length told.sets ∙ sets_long whole.nodes (counts job c.requires.of.1.streams) (logs_long l.takens);
      nodes = faults_below whole (faults job c.requires.of.1.streams) c.in_ok-outcomes.outcomes.faults
          (subst (λ fs. All (λ fault. fault.node < length (core_of whole).nodes) fs) c.requires.of.1.tells.faults tells.nodes) told.faults;
    }

pub returns-clause-wrote : goal.returns-clause-wrote
returns-clause-wrote g c = λ form job first ends.
    let l = c.requires.of.1.given in
    let whole = c.args.self.now.whole.plan.now in
    record {
      streams = ends.streams;
      solution = ends.solution;
      live = c.in_ok-outcomes.outcomes;
      tells = λ takens have. c.in_ok-outcomes.ensures job ends.streams takens (ends.plan_is ∙ l.of.core_is) ends.tells have;
      by = subst (λ (p : Plan). WroteBy c.in_ok-status.status (told_answer c.args.run.now.report whole c.args.closing.end c.in_ok-outcomes.outcomes (output_in form p ends.streams))
          (told_failed c.args.run.now.report whole c.args.closing.end c.in_ok-outcomes.outcomes) (device first (g.K.Sink.told c.conclude.new.output)) (device (g.E.Sink.told c.args.notes.now) (g.E.Sink.told c.conclude.new.notes))) (sym ends.plan_is)
          (c.in_ok-status.ensures.told first (output_in form c.args.run.now.plan.now ends.streams) ends.put);
    }
