use Rattle.std.proofs.Common.{◌≡◌, ◌+◌, sym, ◌∙◌, arith}
use Rattle.mg_node.proofs.FrontSteps.{needed_more}
use Rattle.mg_node.proofs.fronts.needed.Goals as goal

pub loop-place-preserved : goal.loop-place-preserved
loop-place-preserved g c =
    let add : c.in-Some.more ≡ c.loop-place.sum + c.packets_at.result = (c.in-Some.ensures {u = tt}).1 in
    needed_more c.args.output c.args.window.now.items c.loop-place.place c.loop-place.sum c.in-Some.more c.packets_at.result c.index-entry.result.now (omega (arith, c.loop-place-test.true, c.len-place-end.ensures, c.args.window.now.ok.0)) c.index-entry.ensures
    (sym c.is_ready.ensures ∙ c.if-not-is_ready.false) c.packets_at.ensures add c.loop-place.invariant
