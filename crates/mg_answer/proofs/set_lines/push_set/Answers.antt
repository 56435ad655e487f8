use Rattle.std.proofs.Common.{refl}
use Rattle.std.proofs.lemmas.Result.{err_from_is_err_and}
use Rattle.mg_feed.proofs.WholeOrNone.{with_nothing, with_more, with_same}
use Rattle.mg_answer.proofs.Writing.{set-step, set-end}
use Rattle.mg_answer.proofs.set_lines.push_set.Goals as goal

pub loop-port-init : goal.loop-port-init
loop-port-init c = (refl, with_nothing c.args.text.now.items c.args.text.now.items refl)

pub loop-port-preserved : goal.loop-port-preserved
loop-port-preserved c = (
  set-step c.args.writers.now c.args.set.now c.loop-port.port c.index-writers-port.result _ _ c.loop-port.text.items c.push_packet.new.text.items
      c.loop-port.invariant.0 c.loop-port-test.true c.index-writers-port.is c.get.ensures c.in_ok-push_packet.ensures.put,
  with_more c.args.text.now.items c.loop-port.text.items c.push_packet.new.text.items _ c.loop-port.invariant.1 c.in_ok-push_packet.ensures.put,
)

pub returns-in_err-push_packet-clause-part : goal.returns-in_err-push_packet-clause-part
returns-in_err-push_packet-clause-part c =
    let p = err_from_is_err_and c.from_residual.result c.from_residual.ensures.1 in
    rw p.1 (with_same c.args.text.now.items c.loop-port.text.items c.push_packet.new.text.items c.loop-port.invariant.1 c.in_err-push_packet.ensures.unchanged)

pub returns-clause-put : goal.returns-clause-put
returns-clause-put c = set-end c.args.writers.now c.args.set.now c.loop-port.port _ c.loop-port.text.items c.loop-port.invariant.0 c.loop-port-test.false
