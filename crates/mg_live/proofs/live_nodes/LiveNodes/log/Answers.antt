use Rattle.std.proofs.Common.{List, slice_get, ap, ◌∙◌}
use Rattle.mg_live.specs.declared.taker.Taker.{Taker}
use Rattle.mg_live.proofs.InTurn.{taken_log}
use Rattle.mg_live.proofs.live_nodes.LiveNodes.log.Goals as goal

pub returns : goal.returns
returns c = λ takens taken h at.
    let there = taken_log c.args.self.now.free takens c.args.self.now.takers.items c.args.place taken h at in
    c.log_at.ensures there.0 (ap (λ (l : List Taker). slice_get l c.args.place) c.deref.ensures.value ∙ there.1) ∙ there.2
