use Rattle.std.proofs.Common.{length, refl, ◌∙◌, ap, sym}
use Rattle.std.proofs.lemmas.Result.{err_from_is_err_and}
use Rattle.mg_calc.specs.declared.plan.Plan.{Plan}
use Rattle.mg_drive.proofs.TakingSets.{told_stands}
use Rattle.mg_drive.proofs.Looping.{keeps_on, run_told, still_under_way, short_here, stepped_on, stepped_over, fewer_on}
use Rattle.mg_drive.proofs.StillThere.{still_there}
use Rattle.mg_drive.proofs.Moving.{all_noted, known_on}
use Rattle.mg_drive.proofs.driving.drive_alone.Goals as goal

pub begin-requires : goal.begin-requires
begin-requires g c =
    let some = c.requires.under_way.1 in
    record { stands = told_stands g.T.Telling.has_told (g.K.Sink.told c.args.output.now) (g.N.Driven.net c.args.net.now) c.args.ends.now.telling (run_told (g.B.Batches.gives g.N.Driven.laws) g.T.Telling.has_told some.start c.args.first (g.S.Source.told c.args.input.now) (g.K.Sink.told c.args.output.now) c.args.ends.now.batches c.args.ends.now.telling (g.N.Driven.net c.args.net.now) some.under_way) }

pub returns-in_err-begin-clause-short : goal.returns-in_err-begin-clause-short
returns-in_err-begin-clause-short g c =
    let is = err_from_is_err_and c.from_residual.result c.from_residual.ensures.1 in
    rw is.1 (λ start u. short_here (g.B.Batches.gives g.N.Driven.laws) g.B.Batches.reads_on g.T.Telling.has_told g.T.Telling.form start c.args.first (g.S.Source.told c.args.input.now) (g.K.Sink.told c.args.output.now) c.args.ends.now.batches c.args.ends.now.telling (g.N.Driven.net c.args.net.now) (g.N.Driven.net c.begin.new.self) c.in_err-begin.ensures.stands u)

pub steps-init : goal.steps-init
steps-init g c = record {
  places = c.requires.places ∙ ap (λ (p : Plan). length p.outputs) (sym c.in_ok-begin.ensures.keeps.plan);
  running = c.in_ok-begin.ensures.running;
  keeps = c.in_ok-begin.ensures.keeps;
  there = still_there (g.B.Batches.wants c.args.ends.now.batches) (g.N.Driven.net c.args.net.now) (g.N.Driven.net c.begin.new.self) c.in_ok-begin.ensures.whole c.requires.there;
  knows = known_on (g.B.Batches.knows g.N.Driven.laws c.args.ends.now.batches) c.args.ends.now.moved c.note_all.new.self (g.N.Driven.net c.args.net.now) (g.N.Driven.net c.begin.new.self) (all_noted c.args.ends.now.moved c.note_all.new.self (g.N.Driven.net c.args.net.now) (g.N.Driven.net c.begin.new.self) c.note_all.ensures c.in_ok-begin.ensures.keeps.plan) c.requires.knows;
  unread = λ none. refl;
  under_way = λ start u. still_under_way (g.B.Batches.gives g.N.Driven.laws) g.T.Telling.has_told start c.args.first (g.S.Source.told c.args.input.now) (g.K.Sink.told c.args.output.now) c.args.ends.now.batches c.args.ends.now.telling (g.N.Driven.net c.args.net.now) (g.N.Driven.net c.begin.new.self) c.in_ok-begin.ensures.stands c.in_ok-begin.ensures.taken u;
}

pub make_step-requires-clause-under_way : goal.make_step-requires-clause-under_way
make_step-requires-clause-under_way g c =
    let some = c.requires.under_way.1 in
    (c.requires.under_way.0, record { start = some.start; plan_is = some.plan_is; under_way = (c.steps.invariant.under_way some.start some.under_way) })

pub returns-in_err-stepped-clause-short : goal.returns-in_err-stepped-clause-short
returns-in_err-stepped-clause-short g c =
    let is = err_from_is_err_and c.from_residual-in_err-stepped.result c.from_residual-in_err-stepped.ensures.1 in
    rw is.1 (λ start u. c.in_err-stepped.ensures.short start (c.steps.invariant.under_way start u))

pub returns-in_err-stepped-clause-keeps : goal.returns-in_err-stepped-clause-keeps
returns-in_err-stepped-clause-keeps g c = keeps_on (g.N.Driven.net c.args.net.now) (g.N.Driven.net c.steps.net) (g.N.Driven.net c.make_step.new.net) c.steps.invariant.keeps c.in_err-stepped.ensures.keeps

pub returns-in_err-stepped-clause-unread : goal.returns-in_err-stepped-clause-unread
returns-in_err-stepped-clause-unread g c = λ none. c.in_err-stepped.ensures.unread none ∙ c.steps.invariant.unread none

pub steps-smaller : goal.steps-smaller
steps-smaller g c = fewer_on c.in_ok-stepped.stepped c.in-On.end c.steps.last (g.B.Batches.left c.steps.ends.batches) (g.B.Batches.left c.make_step.new.ends.batches) c.in-On.is c.in_ok-stepped.ensures.fewer

pub steps-preserved : goal.steps-preserved
steps-preserved g c = record {
  places = c.in_ok-stepped.ensures.places;
  running = c.in_ok-stepped.ensures.running;
  keeps = keeps_on (g.N.Driven.net c.args.net.now) (g.N.Driven.net c.steps.net) (g.N.Driven.net c.make_step.new.net) c.steps.invariant.keeps c.in_ok-stepped.ensures.keeps;
  there = c.in_ok-stepped.ensures.there;
  knows = c.in_ok-stepped.ensures.knows;
  unread = λ none. c.in_ok-stepped.ensures.unread none ∙ c.steps.invariant.unread none;
  under_way = λ start u.
      stepped_on (g.B.Batches.gives g.N.Driven.laws) g.T.Telling.has_told start c.in_ok-stepped.stepped c.in-On.end (g.S.Source.told c.make_step.new.input) (g.K.Sink.told c.make_step.new.output) c.make_step.new.ends.batches c.make_step.new.ends.telling (g.N.Driven.net c.make_step.new.net) c.in-On.is (c.in_ok-stepped.ensures.stepped start (c.steps.invariant.under_way start u));
}

pub returns-in-Over-clause-over : goal.returns-in-Over-clause-over
returns-in-Over-clause-over g c = λ start u.
    stepped_over (g.B.Batches.gives g.N.Driven.laws) g.T.Telling.has_told start c.in_ok-stepped.stepped c.in-Over.end (g.S.Source.told c.make_step.new.input) (g.K.Sink.told c.make_step.new.output) c.make_step.new.ends.batches c.make_step.new.ends.telling (g.N.Driven.net c.make_step.new.net) c.in-Over.is (c.in_ok-stepped.ensures.stepped start (c.steps.invariant.under_way start u))

pub returns-in-Over-clause-keeps : goal.returns-in-Over-clause-keeps
returns-in-Over-clause-keeps g c = keeps_on (g.N.Driven.net c.args.net.now) (g.N.Driven.net c.steps.net) (g.N.Driven.net c.make_step.new.net) c.steps.invariant.keeps c.in_ok-stepped.ensures.keeps

pub returns-in-Over-clause-unread : goal.returns-in-Over-clause-unread
returns-in-Over-clause-unread g c = λ none. c.in_ok-stepped.ensures.unread none ∙ c.steps.invariant.unread none
