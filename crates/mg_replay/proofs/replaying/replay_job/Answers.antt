use Rattle.std.proofs.Common.{map, refl, ap, ◌∙◌}
use Rattle.std.proofs.lemmas.Result.{IfOk-weaker, on_err_weaker}
use Rattle.mg_sched.specs.Made.{job_of}
use Rattle.mg_drive.proofs.BoxesBack.{came_back_then, same_back}
use Rattle.mg_replay.proofs.Closed.{job_replayed, job_short, job_unmade}
use Rattle.mg_replay.proofs.Ended.{opened_yet}
use Rattle.mg_replay.proofs.replaying.replay_job.Goals as goal

pub replay_net-replayed-requires : goal.replay_net-replayed-requires
replay_net-replayed-requires g c = record { valid = c.requires.job.plan; made = record { inputs = c.args.opening.inputs; boxes = map g.C.NodeCalculator.told c.replace-handed.result.items; made = c.in-Ok.ensures.made } }

pub returns-in-Ok-clause-replayed : goal.returns-in-Ok-clause-replayed
returns-in-Ok-clause-replayed g c = IfOk-weaker c.replay_net-replayed.result _ _ (λ status f first has.
    job_replayed c.args.run.now.report c.args.run.now.plan.now c.args.opening.inputs (map g.C.NodeCalculator.told c.args.boxes.now.items) (map g.C.NodeCalculator.told c.replace-handed.result.items) (map g.C.NodeCalculator.told c.give_back.result.items) status _ c.replay_net-replayed.new.net.net
    c.requires.boxes (ap (λ v. map g.C.NodeCalculator.told v.items) c.replace-handed.ensures.value) c.give_back.ensures.told
    (f c.args.opening.inputs (map g.C.NodeCalculator.told c.replace-handed.result.items) first c.in-Ok.ensures.made refl has)) c.replay_net-replayed.ensures.replayed

pub returns-in-Ok-clause-some : goal.returns-in-Ok-clause-some
returns-in-Ok-clause-some g c = on_err_weaker c.replay_net-replayed.result (λ f first has.
    job_short c.args.run.now.plan.now c.args.opening.inputs (map g.C.NodeCalculator.told c.args.boxes.now.items) (map g.C.NodeCalculator.told c.replace-handed.result.items) (map g.C.NodeCalculator.told c.give_back.result.items) _ c.replay_net-replayed.new.net.net
    c.requires.boxes (ap (λ v. map g.C.NodeCalculator.told v.items) c.replace-handed.ensures.value) c.give_back.ensures.told
    (f c.args.opening.inputs (map g.C.NodeCalculator.told c.replace-handed.result.items) first c.in-Ok.ensures.made refl has)) c.replay_net-replayed.ensures.some

pub returns-in-Ok-clause-back : goal.returns-in-Ok-clause-back
returns-in-Ok-clause-back g c =
    let same = ap (λ v. map g.C.NodeCalculator.told v.items) c.replace-handed.ensures.value in
    let job = job_of g.C.NodeCalculator.laws c.args.run.now.plan.now c.args.opening.inputs (map g.C.NodeCalculator.told c.replace-handed.result.items) in
    came_back_then c.args.run.now.plan.now c.args.opening.inputs (map g.C.NodeCalculator.told c.args.boxes.now.items) (map g.C.NodeCalculator.told c.replace-handed.result.items) (map g.C.NodeCalculator.told c.give_back.result.items) c.in-Ok.net c.replay_net-replayed.new.net.net same c.in-Ok.ensures.made c.replay_net-replayed.ensures.keeps
    (record { job = job; stood = c.replay_net-replayed.ensures.stood job c.in-Ok.ensures.made.stands; boxes_are = same }) c.give_back.ensures.told

pub returns-clause-some : goal.returns-clause-some
returns-clause-some g c = λ first has.
    job_unmade c.args.run.now.plan.now c.args.opening.inputs (map g.C.NodeCalculator.told c.args.boxes.now.items) _ _ c.requires.job c.requires.boxes refl
    (opened_yet c.args.run.now.plan.now c.args.opening.inputs first _ _ _ has) (ap (λ v. map g.C.NodeCalculator.told v.items) (c.in-Err.ensures.returned ∙ c.replace-handed.ensures.value))

pub returns-clause-back : goal.returns-clause-back
returns-clause-back g c =
    same_back c.args.run.now.plan.now (map g.C.NodeCalculator.told c.args.boxes.now.items) _ (ap (λ v. map g.C.NodeCalculator.told v.items) (c.in-Err.ensures.returned ∙ c.replace-handed.ensures.value))
