use Rattle.std.proofs.Common.{◌<◌, subst, sym, arith}
use Rattle.mg_value.specs.Payload.{Plain}
use Rattle.mg_stream.specs.Queue.{Waiting}
use Rattle.mg_node.proofs.Filling.{GivesUp, gives_more}
use Rattle.mg_node.proofs.laid.give_up.Goals as goal

pub loop-queue-preserved : goal.loop-queue-preserved
loop-queue-preserved c =
    let less : c.loop-queue.queue.gone < c.args.got = omega (arith, c.loop-queue-test.true, c.count.ensures, c.waiting.ensures) in
    subst (λ (q : Waiting Plain). GivesUp c.args.queue.now q c.args.got) (sym c.pop_at.ensures.popped) (gives_more _ _ _ _ c.loop-queue.invariant less c.in-Some.ensures.first)
