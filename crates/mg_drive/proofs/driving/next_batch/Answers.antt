use Rattle.std.proofs.Common.{inr, sym, ◌∙◌, subst}
use Rattle.std.proofs.lemmas.Result.{err_from_is_err_and}
use Rattle.mg_sched.specs.Views.{NetView}
use Rattle.mg_sched.specs.StandsFor.{StandsFor}
use Rattle.mg_drive.specs.Code.Running.{job_with}
use Rattle.mg_calc.proofs.FreeNodes.{with_none}
use Rattle.mg_drive.proofs.Jobs.{valid_plan, job_goes_on}
use Rattle.mg_drive.proofs.Looping.{keeps_on}
use Rattle.mg_drive.proofs.StillThere.{read_there, still_there, same_there}
use Rattle.mg_drive.proofs.driving.next_batch.Goals as goal

pub trim-requires : goal.trim-requires
trim-requires g c = record { stands = record { job = job_with g.N.Driven.laws c.requires.more.start c.requires.more.inputs; stands = c.requires.more.stands } }

pub extend-requires : goal.extend-requires
extend-requires g c =
    let start = c.requires.more.start in
    let first = job_with g.N.Driven.laws start c.requires.more.inputs in
    let valid = (valid_plan first (g.N.Driven.net c.args.net.now) c.requires.more.stands).plan in
    let go = c.in_ok-batch.ensures.goes_on g.N.Driven.laws start.batches start.plan start.source c.requires.more.inputs (with_none start.plan valid).0 c.requires.more.given c.requires.more.due in
    record { may = record { first = first; later = job_with g.N.Driven.laws start go.all; stands = c.trim.ensures.stands first c.requires.more.stands; goes_on = job_goes_on start.plan c.requires.more.inputs c.in_ok-batch.batch.inputs go.all start.boxes valid go.goes_on } }

pub returns-in_err-batch-clause-same : goal.returns-in_err-batch-clause-same
returns-in_err-batch-clause-same g c =
    let is = err_from_is_err_and c.from_residual.result c.from_residual.ensures.1 in
    rw is.1 c.trim.ensures.stands

pub returns-in_err-extend-clause-same : goal.returns-in_err-extend-clause-same
returns-in_err-extend-clause-same g c =
    let is = err_from_is_err_and c.from_residual-in_err-extend.result c.from_residual-in_err-extend.ensures.1 in
    rw is.1 (λ job h. subst (λ (v : NetView). StandsFor job v) (sym c.in_err-extend.ensures.unchanged) (c.trim.ensures.stands job h))

pub returns-in_err-extend-clause-taken : goal.returns-in_err-extend-clause-taken
returns-in_err-extend-clause-taken g c = c.in_err-extend.ensures.taken ∙ c.trim.ensures.taken

pub returns-in_err-extend-clause-running : goal.returns-in_err-extend-clause-running
returns-in_err-extend-clause-running g c running = c.in_err-extend.ensures.running (c.trim.ensures.running running)

pub returns-in_err-extend-clause-keeps : goal.returns-in_err-extend-clause-keeps
returns-in_err-extend-clause-keeps g c =
    keeps_on (g.N.Driven.net c.args.net.now) (g.N.Driven.net c.trim.new.self) (g.N.Driven.net c.extend.new.self) c.trim.ensures.keeps c.in_err-extend.ensures.keeps

pub returns-clause-goes_on : goal.returns-clause-goes_on
returns-clause-goes_on g c = λ start inputs given due stands.
    let first = job_with g.N.Driven.laws start inputs in
    let valid = (valid_plan first (g.N.Driven.net c.args.net.now) stands).plan in
    let go = c.in_ok-batch.ensures.goes_on g.N.Driven.laws start.batches start.plan start.source inputs (with_none start.plan valid).0 given due in
    let on = job_goes_on start.plan inputs c.in_ok-batch.batch.inputs go.all start.boxes valid go.goes_on in
    record {
      all = go.all;
      given = go.given;
      grows = on.grows;
      stands = c.in_ok-extend.ensures.stands first (job_with g.N.Driven.laws start go.all) on (c.trim.ensures.stands first stands);
    }

pub returns-clause-fewer : goal.returns-clause-fewer
returns-clause-fewer g c = c.in_ok-batch.ensures.fewer g.N.Driven.laws c.requires.more.start.batches c.requires.more.start.plan c.requires.more.start.source c.requires.more.inputs c.requires.more.given c.requires.more.due

pub returns-clause-taken : goal.returns-clause-taken
returns-clause-taken g c = c.in_ok-extend.ensures.taken ∙ c.trim.ensures.taken

pub returns-clause-running : goal.returns-clause-running
returns-clause-running g c running = c.in_ok-extend.ensures.running (c.trim.ensures.running running)

pub returns-clause-keeps : goal.returns-clause-keeps
returns-clause-keeps g c =
    keeps_on (g.N.Driven.net c.args.net.now) (g.N.Driven.net c.trim.new.self) (g.N.Driven.net c.extend.new.self) c.trim.ensures.keeps c.in_ok-extend.ensures.keeps

pub returns-in_err-batch-clause-there : goal.returns-in_err-batch-clause-there
returns-in_err-batch-clause-there g c = same_there (g.B.Batches.wants c.args.batches.now) (g.B.Batches.wants c.next.new.self) (g.N.Driven.net c.trim.new.self) c.in_err-batch.ensures.wants (read_there (g.B.Batches.wants c.args.batches.now) (g.N.Driven.net c.args.net.now) (g.N.Driven.net c.trim.new.self) c.trim.ensures.laid c.requires.read)

pub returns-in_err-extend-clause-there : goal.returns-in_err-extend-clause-there
returns-in_err-extend-clause-there g c = same_there (g.B.Batches.wants c.args.batches.now) (g.B.Batches.wants c.next.new.self) (g.N.Driven.net c.extend.new.self) c.in_ok-batch.ensures.wants (still_there (g.B.Batches.wants c.args.batches.now) (g.N.Driven.net c.trim.new.self) (g.N.Driven.net c.extend.new.self) c.in_err-extend.ensures.whole (read_there (g.B.Batches.wants c.args.batches.now) (g.N.Driven.net c.args.net.now) (g.N.Driven.net c.trim.new.self) c.trim.ensures.laid c.requires.read))

pub returns-clause-there : goal.returns-clause-there
returns-clause-there g c = same_there (g.B.Batches.wants c.args.batches.now) (g.B.Batches.wants c.next.new.self) (g.N.Driven.net c.extend.new.self) c.in_ok-batch.ensures.wants (still_there (g.B.Batches.wants c.args.batches.now) (g.N.Driven.net c.trim.new.self) (g.N.Driven.net c.extend.new.self) c.in_ok-extend.ensures.whole (read_there (g.B.Batches.wants c.args.batches.now) (g.N.Driven.net c.args.net.now) (g.N.Driven.net c.trim.new.self) c.trim.ensures.laid c.requires.read))

pub returns-in_err-batch-clause-further : goal.returns-in_err-batch-clause-further
returns-in_err-batch-clause-further g c = λ plan first inputs due. c.in_err-batch.ensures.further plan first (inr (inputs, due))

pub returns-in_err-extend-clause-further : goal.returns-in_err-extend-clause-further
returns-in_err-extend-clause-further g c = λ plan first inputs due. c.in_ok-batch.ensures.further plan first (inr (inputs, due))

pub returns-clause-further : goal.returns-clause-further
returns-clause-further g c = λ plan first inputs due. c.in_ok-batch.ensures.further plan first (inr (inputs, due))
