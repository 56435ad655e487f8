use Rattle.std.proofs.Common.{length, ◌∙◌, ap, sym}
use Rattle.std.proofs.lemmas.Result.{err_from_is_err_and}
use Rattle.mg_calc.specs.declared.plan.Plan.{Plan}
use Rattle.mg_sched.specs.Taking.{taken_out}
use Rattle.mg_drive.proofs.TakingSets.{told_same, told_some, told_stands}
use Rattle.mg_drive.proofs.Looping.{takings_keep, takings_run, keeps_on, rested_at}
use Rattle.mg_drive.proofs.StillThere.{given_on}
use Rattle.mg_drive.proofs.Moving.{notes_on, takings_noted}
use Rattle.mg_drive.proofs.driving.advance.Goals as goal

pub to_rest-requires-clause-stands : goal.to_rest-requires-clause-stands
to_rest-requires-clause-stands g c = told_stands g.T.Telling.has_told (g.K.Sink.told c.args.output.now) (g.N.Driven.net c.args.net.now) c.args.telling.now c.requires.told

pub returns-in_err-to_rest-clause-places : goal.returns-in_err-to_rest-clause-places
returns-in_err-to_rest-clause-places g c = c.requires.places ∙ ap (λ (p : Plan). length p.outputs) (sym c.in_err-to_rest.ensures.keeps.plan)

pub returns-in_err-to_rest-clause-front : goal.returns-in_err-to_rest-clause-front
returns-in_err-to_rest-clause-front g c =
    let is = err_from_is_err_and c.from_residual.result c.from_residual.ensures.1 in
    rw is.1 (λ job first h p. told_some g.T.Telling.has_told job first (g.K.Sink.told c.args.output.now) (taken_out (g.N.Driven.net c.args.net.now)) c.args.telling.now p)

pub take_all-requires-clause-places : goal.take_all-requires-clause-places
take_all-requires-clause-places g c = c.requires.places ∙ ap (λ (p : Plan). length p.outputs) (sym c.in_ok-to_rest.ensures.keeps.plan)

pub take_all-requires-clause-told : goal.take_all-requires-clause-told
take_all-requires-clause-told g c =
    let some = c.requires.told in
    record {
      job = some.job;
      first = some.first;
      stands = c.in_ok-to_rest.ensures.stands some.job some.stands;
      is_told = told_same g.T.Telling.has_told some.job some.first (g.K.Sink.told c.args.output.now) (taken_out (g.N.Driven.net c.args.net.now)) (taken_out (g.N.Driven.net c.to_rest.new.self)) c.args.telling.now
          c.in_ok-to_rest.ensures.taken some.is_told;
    }

pub returns-in_err-take_all-clause-running : goal.returns-in_err-take_all-clause-running
returns-in_err-take_all-clause-running g c = takings_run (g.N.Driven.net c.to_rest.new.self) (g.N.Driven.net c.take_all.new.net) c.in_err-take_all.ensures.left c.in_ok-to_rest.ensures.running

pub returns-in_err-take_all-clause-keeps : goal.returns-in_err-take_all-clause-keeps
returns-in_err-take_all-clause-keeps g c =
    keeps_on (g.N.Driven.net c.args.net.now) (g.N.Driven.net c.to_rest.new.self) (g.N.Driven.net c.take_all.new.net) c.in_ok-to_rest.ensures.keeps
    (takings_keep (g.N.Driven.net c.to_rest.new.self) (g.N.Driven.net c.take_all.new.net) c.in_err-take_all.ensures.left)

pub returns-in_err-take_all-clause-stands : goal.returns-in_err-take_all-clause-stands
returns-in_err-take_all-clause-stands g c = λ job h. c.in_err-take_all.ensures.stands job (c.in_ok-to_rest.ensures.stands job h)

pub returns-in_err-take_all-clause-front : goal.returns-in_err-take_all-clause-front
returns-in_err-take_all-clause-front g c =
    let is = err_from_is_err_and c.from_residual-in_err-take_all.result c.from_residual-in_err-take_all.ensures.1 in
    rw is.1 (λ job first h p.
    c.in_err-take_all.ensures.front job first (c.in_ok-to_rest.ensures.stands job h)
    (told_same g.T.Telling.has_told job first (g.K.Sink.told c.args.output.now) (taken_out (g.N.Driven.net c.args.net.now)) (taken_out (g.N.Driven.net c.to_rest.new.self)) c.args.telling.now c.in_ok-to_rest.ensures.taken p))

pub returns-clause-running : goal.returns-clause-running
returns-clause-running g c = takings_run (g.N.Driven.net c.to_rest.new.self) (g.N.Driven.net c.take_all.new.net) c.in_ok-take_all.ensures.left c.in_ok-to_rest.ensures.running

pub returns-clause-keeps : goal.returns-clause-keeps
returns-clause-keeps g c =
    keeps_on (g.N.Driven.net c.args.net.now) (g.N.Driven.net c.to_rest.new.self) (g.N.Driven.net c.take_all.new.net) c.in_ok-to_rest.ensures.keeps
    (takings_keep (g.N.Driven.net c.to_rest.new.self) (g.N.Driven.net c.take_all.new.net) c.in_ok-take_all.ensures.left)

pub returns-clause-stands : goal.returns-clause-stands
returns-clause-stands g c = λ job h. c.in_ok-take_all.ensures.stands job (c.in_ok-to_rest.ensures.stands job h)

pub returns-clause-told : goal.returns-clause-told
returns-clause-told g c = λ job first h p.
    c.in_ok-take_all.ensures.told job first (c.in_ok-to_rest.ensures.stands job h)
    (told_same g.T.Telling.has_told job first (g.K.Sink.told c.args.output.now) (taken_out (g.N.Driven.net c.args.net.now)) (taken_out (g.N.Driven.net c.to_rest.new.self)) c.args.telling.now c.in_ok-to_rest.ensures.taken p)

pub returns-clause-rested : goal.returns-clause-rested
returns-clause-rested g c = λ job h.
    rested_at job (g.N.Driven.net c.args.net.now) (g.N.Driven.net c.to_rest.new.self) (g.N.Driven.net c.take_all.new.net) c.in_ok-to_rest.ensures.stands h c.in_ok-to_rest.ensures.running c.in_ok-to_rest.ensures.rest
    c.in_ok-take_all.ensures.left c.in_ok-take_all.ensures.all

pub returns-in_err-take_all-clause-whole : goal.returns-in_err-take_all-clause-whole
returns-in_err-take_all-clause-whole g c = given_on (g.N.Driven.net c.args.net.now) (g.N.Driven.net c.to_rest.new.self) (g.N.Driven.net c.take_all.new.net) c.in_ok-to_rest.ensures.whole c.in_err-take_all.ensures.whole

pub returns-clause-whole : goal.returns-clause-whole
returns-clause-whole g c = given_on (g.N.Driven.net c.args.net.now) (g.N.Driven.net c.to_rest.new.self) (g.N.Driven.net c.take_all.new.net) c.in_ok-to_rest.ensures.whole c.in_ok-take_all.ensures.whole

pub returns-clause-moved : goal.returns-clause-moved
returns-clause-moved g c =
    notes_on c.args.moved.now c.to_rest.new.moved c.to_rest.new.moved (g.N.Driven.net c.args.net.now) (g.N.Driven.net c.to_rest.new.self) (g.N.Driven.net c.take_all.new.net) c.in_ok-to_rest.ensures.moved
    (takings_noted c.to_rest.new.moved (g.N.Driven.net c.to_rest.new.self) (g.N.Driven.net c.take_all.new.net) c.in_ok-take_all.ensures.left)
