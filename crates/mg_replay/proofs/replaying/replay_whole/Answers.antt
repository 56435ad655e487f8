use Rattle.std.proofs.Common.{map, refl, subst}
use Rattle.std.proofs.lemmas.Result.{err_from_is_err_and}
use Rattle.mg_feed.specs.FeedSeen.{seen}
use Rattle.mg_feed.specs.LinesSeen.{reading, number_of}
use Rattle.mg_replay.specs.Reading.{Opens}
use Rattle.mg_replay.specs.declared.opening.Opened.{Opened}
use Rattle.mg_replay.proofs.Ended.{opening_none, has_inputs, is_job, of_job, of_short, of_early}
use Rattle.mg_replay.proofs.replaying.replay_whole.Goals as goal

pub read_job-requires : goal.read_job-requires
read_job-requires g c = record {
  plan = c.args.run.now.plan.now;
  first = g.S.Source.told c.args.devices.now.input.now;
  opening = opening_none c.args.run.now.plan.now (g.S.Source.told c.args.devices.now.input.now) (reading c.in_ok-lines.lines) (number_of c.in_ok-lines.lines) (seen c.in_ok-feed.feed)
      c.in_ok-lines.ensures.unread c.in_ok-lines.ensures.none c.in_ok-feed.ensures.graph c.in_ok-feed.ensures.stands;
}

pub replay_job-requires-clause-job : goal.replay_job-requires-clause-job
replay_job-requires-clause-job g c =
    is_job g.C.NodeCalculator.laws c.args.run.now.plan.now c.in-Job.ended (g.S.Source.told c.args.devices.now.input.now) (g.S.Source.told c.read_job.new.input) (reading c.read_job.new.lines) (number_of c.read_job.new.lines) (seen c.read_job.new.feed) c.into_inputs-inputs.result c.requires.valid (subst (λ (o : Opened). Opens g.C.NodeCalculator.laws o c.args.run.now.plan.now (g.S.Source.told c.args.devices.now.input.now) (g.S.Source.told c.read_job.new.input) (reading c.read_job.new.lines) (number_of c.read_job.new.lines) (seen c.read_job.new.feed)) c.in-Job.is (c.in_ok-opened.ensures g.C.NodeCalculator.laws c.args.run.now.plan.now (g.S.Source.told c.args.devices.now.input.now) (opening_none c.args.run.now.plan.now (g.S.Source.told c.args.devices.now.input.now) (reading c.in_ok-lines.lines) (number_of c.in_ok-lines.lines) (seen c.in_ok-feed.feed) c.in_ok-lines.ensures.unread c.in_ok-lines.ensures.none c.in_ok-feed.ensures.graph c.in_ok-feed.ensures.stands))) c.into_inputs-inputs.ensures.streams c.into_inputs-inputs.ensures.sides c.into_inputs-inputs.ensures.ended

pub returns-in_err-status-in-Job-clause-some : goal.returns-in_err-status-in-Job-clause-some
returns-in_err-status-in-Job-clause-some g c =
    let is = err_from_is_err_and c.from_residual-in_err-status-in-Job.result c.from_residual-in_err-status-in-Job.ensures.1 in
    rw is.1 (of_short c.args.run.now.plan.now c.into_inputs-inputs.result _ _
    (c.in_err-status-in-Job.ensures.some (g.S.Source.told c.args.devices.now.input.now)
    (has_inputs c.args.run.now.plan.now c.in-Job.ended (g.S.Source.told c.args.devices.now.input.now) (g.S.Source.told c.read_job.new.input) (reading c.read_job.new.lines) (number_of c.read_job.new.lines) (seen c.read_job.new.feed) c.into_inputs-inputs.result (subst (λ (o : Opened). Opens g.C.NodeCalculator.laws o c.args.run.now.plan.now (g.S.Source.told c.args.devices.now.input.now) (g.S.Source.told c.read_job.new.input) (reading c.read_job.new.lines) (number_of c.read_job.new.lines) (seen c.read_job.new.feed)) c.in-Job.is (c.in_ok-opened.ensures g.C.NodeCalculator.laws c.args.run.now.plan.now (g.S.Source.told c.args.devices.now.input.now) (opening_none c.args.run.now.plan.now (g.S.Source.told c.args.devices.now.input.now) (reading c.in_ok-lines.lines) (number_of c.in_ok-lines.lines) (seen c.in_ok-feed.feed) c.in_ok-lines.ensures.unread c.in_ok-lines.ensures.none c.in_ok-feed.ensures.graph c.in_ok-feed.ensures.stands))) c.into_inputs-inputs.ensures.streams c.into_inputs-inputs.ensures.sides c.into_inputs-inputs.ensures.ended)))

pub returns-in_ok-status-in-Job-clause-replayed : goal.returns-in_ok-status-in-Job-clause-replayed
returns-in_ok-status-in-Job-clause-replayed g c =
    of_job c.args.run.now.report c.args.run.now.plan.now c.into_inputs-inputs.result c.in_ok-status-in-Job.status _ _
    (c.in_ok-status-in-Job.ensures.replayed (g.S.Source.told c.args.devices.now.input.now)
    (has_inputs c.args.run.now.plan.now c.in-Job.ended (g.S.Source.told c.args.devices.now.input.now) (g.S.Source.told c.read_job.new.input) (reading c.read_job.new.lines) (number_of c.read_job.new.lines) (seen c.read_job.new.feed) c.into_inputs-inputs.result (subst (λ (o : Opened). Opens g.C.NodeCalculator.laws o c.args.run.now.plan.now (g.S.Source.told c.args.devices.now.input.now) (g.S.Source.told c.read_job.new.input) (reading c.read_job.new.lines) (number_of c.read_job.new.lines) (seen c.read_job.new.feed)) c.in-Job.is (c.in_ok-opened.ensures g.C.NodeCalculator.laws c.args.run.now.plan.now (g.S.Source.told c.args.devices.now.input.now) (opening_none c.args.run.now.plan.now (g.S.Source.told c.args.devices.now.input.now) (reading c.in_ok-lines.lines) (number_of c.in_ok-lines.lines) (seen c.in_ok-feed.feed) c.in_ok-lines.ensures.unread c.in_ok-lines.ensures.none c.in_ok-feed.ensures.graph c.in_ok-feed.ensures.stands))) c.into_inputs-inputs.ensures.streams c.into_inputs-inputs.ensures.sides c.into_inputs-inputs.ensures.ended))

pub returns-in_ok-status-in-Stopped-clause-replayed : goal.returns-in_ok-status-in-Stopped-clause-replayed
returns-in_ok-status-in-Stopped-clause-replayed g c =
    of_early c.args.run.now.report c.args.run.now.plan.now c.in-Stopped.end c.in_ok-status-in-Stopped.status _ _ _ (map g.C.NodeCalculator.told c.args.boxes.now.items)
    (subst (λ (o : Opened). Opens g.C.NodeCalculator.laws o c.args.run.now.plan.now (g.S.Source.told c.args.devices.now.input.now) (g.S.Source.told c.read_job.new.input) (reading c.read_job.new.lines) (number_of c.read_job.new.lines) (seen c.read_job.new.feed)) c.in-Stopped.is (c.in_ok-opened.ensures g.C.NodeCalculator.laws c.args.run.now.plan.now (g.S.Source.told c.args.devices.now.input.now) (opening_none c.args.run.now.plan.now (g.S.Source.told c.args.devices.now.input.now) (reading c.in_ok-lines.lines) (number_of c.in_ok-lines.lines) (seen c.in_ok-feed.feed) c.in_ok-lines.ensures.unread c.in_ok-lines.ensures.none c.in_ok-feed.ensures.graph c.in_ok-feed.ensures.stands)) (map g.C.NodeCalculator.told c.args.boxes.now.items))
    refl c.in_ok-status-in-Stopped.ensures.wrote
