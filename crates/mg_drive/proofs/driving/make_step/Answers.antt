use Rattle.std.proofs.Common.{◌≡◌, ◌<◌, ℕ, length, ◌∙◌, ap, sym, subst}
use Rattle.std.proofs.lemmas.Result.{err_from_is_err_and}
use Rattle.mg_calc.specs.declared.plan.Plan.{Plan}
use Rattle.mg_sched.specs.Views.{NetView}
use Rattle.mg_sched.specs.Taking.{taken_out}
use Rattle.mg_drive.specs.Batches.{RoundLeaves, InputsAreNoted}
use Rattle.mg_drive.specs.declared.batches.Onward.{Onward}
use Rattle.mg_drive.specs.Code.Running.{IsShort}
use Rattle.mg_drive.proofs.TakingSets.{told_some}
use Rattle.mg_drive.proofs.Looping.{fewer_batches, fewer_rounds, keeps_on, run_told, some_given, run_more, went_on, short_told, short_more, over_at, round_may, round_is_more, round_goes_on, next_is_due}
use Rattle.mg_drive.proofs.StillThere.{still_there}
use Rattle.mg_drive.proofs.Moving.{all_noted, inputs_noted, known_on, known_by}
use Rattle.mg_drive.proofs.driving.make_step.Goals as goal

pub advance-requires-clause-told : goal.advance-requires-clause-told
advance-requires-clause-told g c =
    (let some = c.requires.under_way.1 in
    run_told (g.B.Batches.gives g.N.Driven.laws) g.T.Telling.has_told some.start c.args.last (g.S.Source.told c.args.input.now) (g.K.Sink.told c.args.output.now) c.args.ends.now.batches c.args.ends.now.telling (g.N.Driven.net c.args.net.now) some.under_way)

pub returns-in_err-advance-clause-short : goal.returns-in_err-advance-clause-short
returns-in_err-advance-clause-short g c =
    let is = err_from_is_err_and c.from_residual.result c.from_residual.ensures.1 in
    rw is.1 (λ start u.
    short_told (g.B.Batches.gives g.N.Driven.laws) g.B.Batches.reads_on g.T.Telling.has_told g.T.Telling.form start c.args.last (g.S.Source.told c.args.input.now) (g.K.Sink.told c.args.output.now) (g.K.Sink.told c.advance.new.output) c.args.ends.now.batches c.args.ends.now.telling (g.N.Driven.net c.args.net.now) (g.N.Driven.net c.advance.new.net) c.in_err-advance.ensures.stands c.in_err-advance.ensures.front u)

pub onward-requires-clause-given : goal.onward-requires-clause-given
onward-requires-clause-given g c =
    let some = c.requires.under_way.1 in
    some_given (g.B.Batches.gives g.N.Driven.laws) g.T.Telling.has_told some.start c.args.last (g.S.Source.told c.args.input.now) (g.K.Sink.told c.args.output.now) c.args.ends.now.batches c.args.ends.now.telling (g.N.Driven.net c.args.net.now) (g.N.Driven.net c.advance.new.net) c.in_ok-advance.ensures.stands c.in_ok-advance.ensures.rested some.under_way

pub onward-requires-clause-there : goal.onward-requires-clause-there
onward-requires-clause-there g c = still_there (g.B.Batches.wants c.args.ends.now.batches) (g.N.Driven.net c.args.net.now) (g.N.Driven.net c.advance.new.net) c.in_ok-advance.ensures.whole c.requires.there

pub returns-in_err-onward-clause-short : goal.returns-in_err-onward-clause-short
returns-in_err-onward-clause-short g c =
    let is = err_from_is_err_and c.from_residual-in_err-onward.result c.from_residual-in_err-onward.ensures.1 in
    rw is.1 (λ start u.
    short_told (g.B.Batches.gives g.N.Driven.laws) g.B.Batches.reads_on g.T.Telling.has_told g.T.Telling.form start c.args.last (g.S.Source.told c.args.input.now) (g.K.Sink.told c.args.output.now) (g.K.Sink.told c.advance.new.output) c.args.ends.now.batches c.args.ends.now.telling (g.N.Driven.net c.args.net.now) (g.N.Driven.net c.advance.new.net) c.in_ok-advance.ensures.stands (λ job first h t. told_some g.T.Telling.has_told job first (g.K.Sink.told c.advance.new.output) (taken_out (g.N.Driven.net c.advance.new.net)) c.advance.new.telling (c.in_ok-advance.ensures.told job first h t)) u)

pub extend_some-requires : goal.extend_some-requires
extend_some-requires g c =
    let some = c.requires.under_way.1 in
    record { may = round_may (g.B.Batches.gives g.N.Driven.laws) g.B.Batches.is_due g.B.Batches.wants g.T.Telling.has_told some.start c.args.last (g.S.Source.told c.args.input.now) (g.K.Sink.told c.args.output.now) c.args.ends.now.batches c.onward.new.self c.args.ends.now.telling (g.N.Driven.net c.args.net.now) (g.N.Driven.net c.advance.new.net) c.in_ok-onward.onward c.in-Round.inputs c.in-Round.pieces c.in-Round.is c.in_ok-advance.ensures.stands c.in_ok-advance.ensures.rested (λ began plan first source so_far given. c.in_ok-onward.ensures.onward began plan first source so_far given) some.under_way }

pub returns-in_err-extend_some-in-Round-clause-short : goal.returns-in_err-extend_some-in-Round-clause-short
returns-in_err-extend_some-in-Round-clause-short g c =
    let is = err_from_is_err_and c.from_residual-in_err-extend_some-in-Round.result c.from_residual-in_err-extend_some-in-Round.ensures.1 in
    rw is.1 (λ start u.
    subst (λ (v : NetView). IsShort g.N.Driven.laws (g.B.Batches.gives g.N.Driven.laws) g.B.Batches.reads_on g.T.Telling.has_told g.T.Telling.form start (g.S.Source.told c.args.input.now) (g.K.Sink.told c.advance.new.output) v) (sym c.in_err-extend_some-in-Round.ensures.unchanged)
    (short_told (g.B.Batches.gives g.N.Driven.laws) g.B.Batches.reads_on g.T.Telling.has_told g.T.Telling.form start c.args.last (g.S.Source.told c.args.input.now) (g.K.Sink.told c.args.output.now) (g.K.Sink.told c.advance.new.output) c.args.ends.now.batches c.args.ends.now.telling (g.N.Driven.net c.args.net.now) (g.N.Driven.net c.advance.new.net) c.in_ok-advance.ensures.stands (λ job first h t. told_some g.T.Telling.has_told job first (g.K.Sink.told c.advance.new.output) (taken_out (g.N.Driven.net c.advance.new.net)) c.advance.new.telling (c.in_ok-advance.ensures.told job first h t)) u))

pub next_batch-requires-clause-more : goal.next_batch-requires-clause-more
next_batch-requires-clause-more g c =
    let some = c.requires.under_way.1 in
    let start = some.start in
    let u = some.under_way in
    run_more (g.B.Batches.gives g.N.Driven.laws) g.B.Batches.is_due g.T.Telling.has_told start (g.S.Source.told c.args.input.now) (g.K.Sink.told c.pass_on.new.output) c.onward.new.self c.pass_on.new.self (g.N.Driven.net c.advance.new.net) (next_is_due (g.B.Batches.gives g.N.Driven.laws) g.B.Batches.is_due g.B.Batches.wants g.T.Telling.has_told start c.args.last (g.S.Source.told c.args.input.now) (g.K.Sink.told c.args.output.now) (g.K.Sink.told c.advance.new.output) (g.K.Sink.told c.pass_on.new.output) c.args.ends.now.batches c.onward.new.self c.args.ends.now.telling c.advance.new.telling c.pass_on.new.self (g.N.Driven.net c.args.net.now) (g.N.Driven.net c.advance.new.net) c.in_ok-onward.onward c.in-Next.is c.in_ok-advance.ensures.stands c.in_ok-advance.ensures.told c.in_ok-advance.ensures.rested c.in_ok-onward.ensures.onward c.pass_on.ensures u).0

pub next_batch-requires-clause-read : goal.next_batch-requires-clause-read
next_batch-requires-clause-read g c =
    let some = c.requires.under_way.1 in
    let start = some.start in
    let u = some.under_way in
    (next_is_due (g.B.Batches.gives g.N.Driven.laws) g.B.Batches.is_due g.B.Batches.wants g.T.Telling.has_told start c.args.last (g.S.Source.told c.args.input.now) (g.K.Sink.told c.args.output.now) (g.K.Sink.told c.advance.new.output) (g.K.Sink.told c.pass_on.new.output) c.args.ends.now.batches c.onward.new.self c.args.ends.now.telling c.advance.new.telling c.pass_on.new.self (g.N.Driven.net c.args.net.now) (g.N.Driven.net c.advance.new.net) c.in_ok-onward.onward c.in-Next.is c.in_ok-advance.ensures.stands c.in_ok-advance.ensures.told c.in_ok-advance.ensures.rested c.in_ok-onward.ensures.onward c.pass_on.ensures u).2

pub returns-in_err-end-in-Next-clause-short : goal.returns-in_err-end-in-Next-clause-short
returns-in_err-end-in-Next-clause-short g c =
    let is = err_from_is_err_and c.from_residual-in_err-end-in-Next.result c.from_residual-in_err-end-in-Next.ensures.1 in
    rw is.1 (λ start u.
    let due = (next_is_due (g.B.Batches.gives g.N.Driven.laws) g.B.Batches.is_due g.B.Batches.wants g.T.Telling.has_told start c.args.last (g.S.Source.told c.args.input.now) (g.K.Sink.told c.args.output.now) (g.K.Sink.told c.advance.new.output) (g.K.Sink.told c.pass_on.new.output) c.args.ends.now.batches c.onward.new.self c.args.ends.now.telling c.advance.new.telling c.pass_on.new.self (g.N.Driven.net c.args.net.now) (g.N.Driven.net c.advance.new.net) c.in_ok-onward.onward c.in-Next.is c.in_ok-advance.ensures.stands c.in_ok-advance.ensures.told c.in_ok-advance.ensures.rested c.in_ok-onward.ensures.onward c.pass_on.ensures u).0 in
    short_more (g.B.Batches.gives g.N.Driven.laws) g.B.Batches.reads_on g.T.Telling.has_told g.T.Telling.form start (g.S.Source.told c.args.input.now) (g.S.Source.told c.next_batch.new.input) (g.K.Sink.told c.pass_on.new.output) c.onward.new.self c.pass_on.new.self (g.N.Driven.net c.advance.new.net) (g.N.Driven.net c.next_batch.new.net) c.in_err-end-in-Next.ensures.same (c.in_err-end-in-Next.ensures.further start.plan start.source due.0.inputs due.1) due.0)

pub returns-in_err-extend_some-in-Round-clause-keeps : goal.returns-in_err-extend_some-in-Round-clause-keeps
returns-in_err-extend_some-in-Round-clause-keeps g c = keeps_on (g.N.Driven.net c.args.net.now) (g.N.Driven.net c.advance.new.net) (g.N.Driven.net c.extend_some.new.self) c.in_ok-advance.ensures.keeps c.in_err-extend_some-in-Round.ensures.keeps

pub returns-in_err-end-in-Next-clause-keeps : goal.returns-in_err-end-in-Next-clause-keeps
returns-in_err-end-in-Next-clause-keeps g c = keeps_on (g.N.Driven.net c.args.net.now) (g.N.Driven.net c.advance.new.net) (g.N.Driven.net c.next_batch.new.net) c.in_ok-advance.ensures.keeps c.in_err-end-in-Next.ensures.keeps

pub returns-in_ok-extend_some-in-Round-clause-stepped : goal.returns-in_ok-extend_some-in-Round-clause-stepped
returns-in_ok-extend_some-in-Round-clause-stepped g c = λ start u.
    round_goes_on (g.B.Batches.gives g.N.Driven.laws) g.B.Batches.is_due g.B.Batches.wants g.T.Telling.has_told start c.args.last (g.S.Source.told c.args.input.now) (g.K.Sink.told c.args.output.now) (g.K.Sink.told c.advance.new.output) c.args.ends.now.batches c.onward.new.self c.args.ends.now.telling c.advance.new.telling (g.N.Driven.net c.args.net.now) (g.N.Driven.net c.advance.new.net) (g.N.Driven.net c.extend_some.new.self) c.in_ok-onward.onward c.in-Round.inputs c.in-Round.pieces c.in-Round.is c.in_ok-advance.ensures.stands c.in_ok-advance.ensures.told c.in_ok-advance.ensures.rested c.in_ok-onward.ensures.onward
    c.in_ok-extend_some-in-Round.ensures.stands c.in_ok-extend_some-in-Round.ensures.taken u

pub returns-in_ok-extend_some-in-Round-clause-fewer : goal.returns-in_ok-extend_some-in-Round-clause-fewer
returns-in_ok-extend_some-in-Round-clause-fewer g c =
    let some = c.requires.under_way.1 in
    fewer_rounds c.args.last (g.B.Batches.left c.args.ends.now.batches) (g.B.Batches.left c.onward.new.self)
    (round_is_more (g.B.Batches.gives g.N.Driven.laws) g.B.Batches.is_due g.B.Batches.wants g.T.Telling.has_told some.start c.args.last (g.S.Source.told c.args.input.now) (g.K.Sink.told c.args.output.now) c.args.ends.now.batches c.onward.new.self c.args.ends.now.telling (g.N.Driven.net c.args.net.now) (g.N.Driven.net c.advance.new.net) c.in_ok-onward.onward c.in-Round.inputs c.in-Round.pieces c.in-Round.is c.in_ok-advance.ensures.stands c.in_ok-advance.ensures.rested c.in_ok-onward.ensures.onward some.under_way)
    (subst (λ (o : Onward). RoundLeaves o (g.B.Batches.left c.args.ends.now.batches) (g.B.Batches.left c.onward.new.self)) c.in-Round.is c.in_ok-onward.ensures.leaves)

pub returns-in_ok-extend_some-in-Round-clause-there : goal.returns-in_ok-extend_some-in-Round-clause-there
returns-in_ok-extend_some-in-Round-clause-there g c = still_there (g.B.Batches.wants c.onward.new.self) (g.N.Driven.net c.advance.new.net) (g.N.Driven.net c.extend_some.new.self) c.in_ok-extend_some-in-Round.ensures.whole c.in_ok-onward.ensures.there

pub returns-in_ok-extend_some-in-Round-clause-places : goal.returns-in_ok-extend_some-in-Round-clause-places
returns-in_ok-extend_some-in-Round-clause-places g c = c.in_ok-advance.ensures.places ∙ ap (λ (p : Plan). length p.outputs) (sym c.in_ok-extend_some-in-Round.ensures.keeps.plan)

pub returns-in_ok-extend_some-in-Round-clause-keeps : goal.returns-in_ok-extend_some-in-Round-clause-keeps
returns-in_ok-extend_some-in-Round-clause-keeps g c = keeps_on (g.N.Driven.net c.args.net.now) (g.N.Driven.net c.advance.new.net) (g.N.Driven.net c.extend_some.new.self) c.in_ok-advance.ensures.keeps c.in_ok-extend_some-in-Round.ensures.keeps

pub returns-in_ok-extend_some-in-Round-clause-running : goal.returns-in_ok-extend_some-in-Round-clause-running
returns-in_ok-extend_some-in-Round-clause-running g c = c.in_ok-extend_some-in-Round.ensures.running c.in_ok-advance.ensures.running

pub returns-in_ok-end-in-Next-clause-stepped : goal.returns-in_ok-end-in-Next-clause-stepped
returns-in_ok-end-in-Next-clause-stepped g c = λ start u.
    went_on (g.B.Batches.gives g.N.Driven.laws) g.B.Batches.is_due g.T.Telling.has_told start c.in_ok-end-in-Next.end (g.S.Source.told c.args.input.now) (g.S.Source.told c.next_batch.new.input) (g.K.Sink.told c.pass_on.new.output) c.onward.new.self c.next_batch.new.batches c.pass_on.new.self (g.N.Driven.net c.advance.new.net) (g.N.Driven.net c.next_batch.new.net) c.in_ok-end-in-Next.ensures.taken
    (c.in_ok-end-in-Next.ensures.goes_on start) (next_is_due (g.B.Batches.gives g.N.Driven.laws) g.B.Batches.is_due g.B.Batches.wants g.T.Telling.has_told start c.args.last (g.S.Source.told c.args.input.now) (g.K.Sink.told c.args.output.now) (g.K.Sink.told c.advance.new.output) (g.K.Sink.told c.pass_on.new.output) c.args.ends.now.batches c.onward.new.self c.args.ends.now.telling c.advance.new.telling c.pass_on.new.self (g.N.Driven.net c.args.net.now) (g.N.Driven.net c.advance.new.net) c.in_ok-onward.onward c.in-Next.is c.in_ok-advance.ensures.stands c.in_ok-advance.ensures.told c.in_ok-advance.ensures.rested c.in_ok-onward.ensures.onward c.pass_on.ensures u).0

pub returns-in_ok-end-in-Next-clause-fewer : goal.returns-in_ok-end-in-Next-clause-fewer
returns-in_ok-end-in-Next-clause-fewer g c =
    let some = c.requires.under_way.1 in
    let start = some.start in
    let u = some.under_way in
    let same : g.B.Batches.left c.onward.new.self ≡ g.B.Batches.left c.args.ends.now.batches =
    subst (λ (o : Onward). RoundLeaves o (g.B.Batches.left c.args.ends.now.batches) (g.B.Batches.left c.onward.new.self)) c.in-Next.is c.in_ok-onward.ensures.leaves in
    fewer_batches c.args.last c.in_ok-end-in-Next.end (g.B.Batches.left c.args.ends.now.batches) (g.B.Batches.left c.next_batch.new.batches) (next_is_due (g.B.Batches.gives g.N.Driven.laws) g.B.Batches.is_due g.B.Batches.wants g.T.Telling.has_told start c.args.last (g.S.Source.told c.args.input.now) (g.K.Sink.told c.args.output.now) (g.K.Sink.told c.advance.new.output) (g.K.Sink.told c.pass_on.new.output) c.args.ends.now.batches c.onward.new.self c.args.ends.now.telling c.advance.new.telling c.pass_on.new.self (g.N.Driven.net c.args.net.now) (g.N.Driven.net c.advance.new.net) c.in_ok-onward.onward c.in-Next.is c.in_ok-advance.ensures.stands c.in_ok-advance.ensures.told c.in_ok-advance.ensures.rested c.in_ok-onward.ensures.onward c.pass_on.ensures u).1
    (λ more. subst (λ (n : ℕ). g.B.Batches.left c.next_batch.new.batches < n) same (c.in_ok-end-in-Next.ensures.fewer more))

pub returns-in_ok-end-in-Next-clause-places : goal.returns-in_ok-end-in-Next-clause-places
returns-in_ok-end-in-Next-clause-places g c = c.in_ok-advance.ensures.places ∙ ap (λ (p : Plan). length p.outputs) (sym c.in_ok-end-in-Next.ensures.keeps.plan)

pub returns-in_ok-end-in-Next-clause-keeps : goal.returns-in_ok-end-in-Next-clause-keeps
returns-in_ok-end-in-Next-clause-keeps g c = keeps_on (g.N.Driven.net c.args.net.now) (g.N.Driven.net c.advance.new.net) (g.N.Driven.net c.next_batch.new.net) c.in_ok-advance.ensures.keeps c.in_ok-end-in-Next.ensures.keeps

pub returns-in_ok-end-in-Next-clause-running : goal.returns-in_ok-end-in-Next-clause-running
returns-in_ok-end-in-Next-clause-running g c = c.in_ok-end-in-Next.ensures.running c.in_ok-advance.ensures.running

pub returns-in-End-clause-stepped : goal.returns-in-End-clause-stepped
returns-in-End-clause-stepped g c = λ start u.
    over_at (g.B.Batches.gives g.N.Driven.laws) g.B.Batches.is_due g.B.Batches.wants g.T.Telling.has_told start c.args.last c.in-End.end (g.S.Source.told c.args.input.now) (g.K.Sink.told c.args.output.now) (g.K.Sink.told c.advance.new.output) c.args.ends.now.batches c.onward.new.self c.args.ends.now.telling c.advance.new.telling (g.N.Driven.net c.args.net.now) (g.N.Driven.net c.advance.new.net) c.in_ok-onward.onward c.in-End.is c.in_ok-advance.ensures.stands c.in_ok-advance.ensures.told c.in_ok-advance.ensures.rested c.in_ok-onward.ensures.onward u

pub onward-requires-clause-knows : goal.onward-requires-clause-knows
onward-requires-clause-knows g c = known_on (g.B.Batches.knows g.N.Driven.laws c.args.ends.now.batches) c.args.ends.now.moved c.advance.new.moved (g.N.Driven.net c.args.net.now) (g.N.Driven.net c.advance.new.net) c.in_ok-advance.ensures.moved c.requires.knows

pub returns-in_ok-extend_some-in-Round-clause-knows : goal.returns-in_ok-extend_some-in-Round-clause-knows
returns-in_ok-extend_some-in-Round-clause-knows g c =
    known_on (g.B.Batches.knows g.N.Driven.laws c.onward.new.self) c.onward.new.moved c.onward.new.moved (g.N.Driven.net c.advance.new.net) (g.N.Driven.net c.extend_some.new.self)
    (inputs_noted c.onward.new.moved (g.N.Driven.net c.advance.new.net) (g.N.Driven.net c.extend_some.new.self) c.in-Round.inputs
    (subst (λ (o : Onward). InputsAreNoted o c.onward.new.moved (g.N.Driven.net c.advance.new.net)) c.in-Round.is c.in_ok-onward.ensures.noted)
    c.in_ok-extend_some-in-Round.ensures.others c.in_ok-extend_some-in-Round.ensures.keeps.plan) c.in_ok-onward.ensures.knows

pub returns-in_ok-end-in-Next-clause-knows : goal.returns-in_ok-end-in-Next-clause-knows
returns-in_ok-end-in-Next-clause-knows g c =
    known_on (g.B.Batches.knows g.N.Driven.laws c.next_batch.new.batches) c.onward.new.moved c.note_all.new.self (g.N.Driven.net c.advance.new.net) (g.N.Driven.net c.next_batch.new.net)
    (all_noted c.onward.new.moved c.note_all.new.self (g.N.Driven.net c.advance.new.net) (g.N.Driven.net c.next_batch.new.net) c.note_all.ensures c.in_ok-end-in-Next.ensures.keeps.plan)
    (known_by (g.B.Batches.knows g.N.Driven.laws c.onward.new.self) (g.B.Batches.knows g.N.Driven.laws c.next_batch.new.batches) c.onward.new.moved (g.N.Driven.net c.advance.new.net) c.in_ok-end-in-Next.ensures.knows c.in_ok-onward.ensures.knows)
