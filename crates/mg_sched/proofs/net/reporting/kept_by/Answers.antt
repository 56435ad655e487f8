use Rattle.std.proofs.Common.{◌-◌, ◌^◌, min, ap, ◌∙◌}
use Rattle.mg_node.specs.Views.{EngineView}
use Rattle.mg_node.specs.Outputs.{packets_kept}
use Rattle.mg_node.proofs.Lemmas.{held_all}
use Rattle.mg_sched.proofs.HeldIn.{part_more}
use Rattle.mg_sched.proofs.net.reporting.kept_by.Goals as goal

pub loop-engine-preserved : goal.loop-engine-preserved
loop-engine-preserved g c =
    part_more packets_kept c.args.engines.now c.loop-engine.engine-index c.engine-item.result c.loop-engine.held _ _ (2 ^ 64 - 1) c.loop-engine-test.true
    (c.held.ensures ∙ ap (λ (e : EngineView). min (packets_kept e) (2 ^ 64 - 1)) c.engine-item.is) c.loop-engine.invariant c.saturating_add-held.ensures

pub returns : goal.returns
returns g c = held_all packets_kept c.args.engines.now c.loop-engine.engine-index _ (2 ^ 64 - 1) c.loop-engine-test.false c.loop-engine.invariant
