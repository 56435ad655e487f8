use Rattle.std.proofs.Common.{map, refl, inl, inr}
use Rattle.std.proofs.lemmas.Result.{err_from_is_err_and}
use Rattle.mg_calc.proofs.FreeNodes.{with_none}
use Rattle.mg_drive.proofs.RunsEnd.{begins}
use Rattle.mg_drive.proofs.BoxesBack.{just_made}
use Rattle.mg_drive.proofs.StillThere.{made_there}
use Rattle.mg_drive.proofs.Jobs.{plan_stood}
use Rattle.mg_drive.proofs.Moving.{known_now}
use Rattle.mg_drive.proofs.running.begin_run.Goals as goal

pub returns-in_err-set-clause-short : goal.returns-in_err-set-clause-short
returns-in_err-set-clause-short g c =
    let is = err_from_is_err_and c.from_residual.result c.from_residual.ensures.1 in
    rw is.1 (inl refl)

pub returns-in_err-set-clause-same : goal.returns-in_err-set-clause-same
returns-in_err-set-clause-same g c =
    let is = err_from_is_err_and c.from_residual.result c.from_residual.ensures.1 in
    rw is.1 refl

pub returns-in_err-first-clause-short : goal.returns-in_err-first-clause-short
returns-in_err-first-clause-short g c =
    let is = err_from_is_err_and c.from_residual-in_err-first.result c.from_residual-in_err-first.ensures.1 in
    rw is.1 (inr (inl (c.in_err-first.ensures.further c.args.run.now.plan.now (g.S.Source.told c.args.input.now) (inl c.requires.fresh))))

pub returns-in_err-first-clause-same : goal.returns-in_err-first-clause-same
returns-in_err-first-clause-same g c =
    let is = err_from_is_err_and c.from_residual-in_err-first.result c.from_residual-in_err-first.ensures.1 in
    rw is.1 refl

pub make_net-requires-clause-job : goal.make_net-requires-clause-job
make_net-requires-clause-job g c = record { plan = c.requires.valid; inputs = (c.in_ok-first.ensures.first g.C.NodeCalculator.laws c.args.run.now.plan.now (with_none c.args.run.now.plan.now c.requires.valid).0 c.requires.fresh).fits }

pub returns-in_err-net-clause-short : goal.returns-in_err-net-clause-short
returns-in_err-net-clause-short g c =
    let is = err_from_is_err_and c.from_residual-in_err-net.result c.from_residual-in_err-net.ensures.1 in
    rw is.1 (inr (inr (record { batches = c.next.new.self; end = c.in_ok-first.first.end; inputs = c.in_ok-first.first.inputs; given = (c.in_ok-first.ensures.first g.C.NodeCalculator.laws c.args.run.now.plan.now (with_none c.args.run.now.plan.now c.requires.valid).0 c.requires.fresh).given })))

pub returns-in_err-net-clause-same : goal.returns-in_err-net-clause-same
returns-in_err-net-clause-same g c =
    let is = err_from_is_err_and c.from_residual-in_err-net.result c.from_residual-in_err-net.ensures.1 in
    rw is.1 c.in_err-net.ensures.same

pub returns-clause-begun : goal.returns-clause-begun
returns-clause-begun g c = λ sink.
    begins (g.B.Batches.gives g.C.NodeCalculator.laws) g.T.Telling.has_told c.args.run.now.plan.now (map g.C.NodeCalculator.told c.args.boxes.now.items) (map g.C.NodeCalculator.told c.args.boxes.now.items) c.args.batches c.next.new.self c.args.telling (g.S.Source.told c.args.input.now) (g.S.Source.told c.next.new.input) sink c.in_ok-first.first.end c.in_ok-first.first.inputs c.in_ok-net.net refl c.in_ok-net.ensures.made (c.in_ok-first.ensures.first g.C.NodeCalculator.laws c.args.run.now.plan.now (with_none c.args.run.now.plan.now c.requires.valid).0 c.requires.fresh).given c.requires.nothing

pub returns-clause-there : goal.returns-clause-there
returns-clause-there g c = made_there (g.B.Batches.wants c.next.new.self) c.in_ok-net.net c.in_ok-net.ensures.made.whole

pub returns-clause-made : goal.returns-clause-made
returns-clause-made g c = just_made c.args.run.now.plan.now c.in_ok-first.first.inputs (map g.C.NodeCalculator.told c.args.boxes.now.items) c.in_ok-net.net c.in_ok-net.ensures.made

pub returns-clause-knows : goal.returns-clause-knows
returns-clause-knows g c =
    known_now (g.B.Batches.knows g.C.NodeCalculator.laws c.next.new.self) _ c.in_ok-net.net
    (c.in_ok-first.ensures.knows_first g.C.NodeCalculator.laws c.args.run.now.plan.now c.in_ok-net.net c.requires.fresh (plan_stood _ c.in_ok-net.net c.in_ok-net.ensures.made.stands))
