use Rattle.std.proofs.Common.{◌≡◌, None, length, ◌∙◌, ap, sym}
use Rattle.std.proofs.lemmas.List.{length-replicate}
use Rattle.std.proofs.lemmas.Result.{err_from_is_err_and}
use Rattle.mg_calc.specs.declared.plan.Plan.{Plan}
use Rattle.mg_drive.proofs.Looping.{takings_keep}
use Rattle.mg_replay.proofs.Ended.{plan_is_of}
use Rattle.mg_replay.proofs.Accepting.{some_told, whole_of, front_told, front_none, rested_since}
use Rattle.mg_replay.proofs.replaying.tell_outputs.Goals as goal

pub returns-in_err-set-clause-front : goal.returns-in_err-set-clause-front
returns-in_err-set-clause-front g c =
    let is = err_from_is_err_and c.from_residual.result c.from_residual.ensures.1 in
    rw is.1 (λ job streams same h solution. front_none (g.K.Sink.told c.args.output.now) _)

pub returns-in_err-text-clause-front : goal.returns-in_err-text-clause-front
returns-in_err-text-clause-front g c =
    let is = err_from_is_err_and c.from_residual-in_err-text.result c.from_residual-in_err-text.ensures.1 in
    rw is.1 (λ job streams same h solution. front_none (g.K.Sink.told c.args.output.now) _)

pub take_all-requires-clause-places : goal.take_all-requires-clause-places
take_all-requires-clause-places g c =
    let here : length c.in_ok-set.set ≡ length c.args.run.now.plan.now.outputs = ap length c.in_ok-set.ensures ∙ length-replicate c.len.result None ∙ c.len.ensures in
    here ∙ ap (λ (p : Plan). length p.outputs) (sym (plan_is_of c.args.run.now.plan.now c.args.net.now.net c.requires.stands))

pub take_all-requires-clause-told : goal.take_all-requires-clause-told
take_all-requires-clause-told g c = some_told c.args.run.now.plan.now (g.K.Sink.told c.args.output.now) c.args.net.now.net c.in_ok-text.text c.requires.stands c.in_ok-text.ensures c.requires.untaken

pub returns-in_err-take_all-clause-front : goal.returns-in_err-take_all-clause-front
returns-in_err-take_all-clause-front g c =
    let is = err_from_is_err_and c.from_residual-in_err-take_all.result c.from_residual-in_err-take_all.ensures.1 in
    rw is.1 (λ job streams same h solution.
    front_told c.args.run.now.plan.now job (g.K.Sink.told c.args.output.now) (g.K.Sink.told c.take_all.new.output) c.args.net.now.net c.in_ok-text.text streams same h c.in_ok-text.ensures c.requires.untaken
    (c.in_err-take_all.ensures.front job (g.K.Sink.told c.args.output.now) h) solution)

pub returns-in_err-take_all-clause-keeps : goal.returns-in_err-take_all-clause-keeps
returns-in_err-take_all-clause-keeps g c = takings_keep c.args.net.now.net c.take_all.new.net.net c.in_err-take_all.ensures.left

pub returns-clause-rested : goal.returns-clause-rested
returns-clause-rested g c = λ job h. rested_since job c.args.net.now.net c.take_all.new.net.net h c.requires.running c.requires.rests c.in_ok-take_all.ensures.left

pub returns-clause-whole : goal.returns-clause-whole
returns-clause-whole g c = λ job same h.
    whole_of c.args.run.now.plan.now job (g.K.Sink.told c.args.output.now) (g.K.Sink.told c.take_all.new.output) c.args.net.now.net c.take_all.new.net.net c.in_ok-text.text c.take_all.new.telling same h c.requires.running c.requires.rests
    c.in_ok-text.ensures c.requires.untaken (c.in_ok-take_all.ensures.stands job h) (c.in_ok-take_all.ensures.told job (g.K.Sink.told c.args.output.now) h) (λ streams solves. c.in_ok-take_all.ensures.all job streams h solves)

pub returns-clause-keeps : goal.returns-clause-keeps
returns-clause-keeps g c = takings_keep c.args.net.now.net c.take_all.new.net.net c.in_ok-take_all.ensures.left
