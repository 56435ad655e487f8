use Rattle.std.proofs.Common.{◌+◌, sym, subst, take, arith}
use Rattle.mg_check.specs.Code.Taking.{HasPassing, HasReleased, may_be_taken}
use Rattle.mg_check.proofs.OrderingLinks.{HasReleased-waits, HasReleased-more}
use Rattle.mg_check.proofs.waiting.release.Goals as goal

pub release_one-requires-clause-waits : goal.release_one-requires-clause-waits
release_one-requires-clause-waits c =
    HasReleased-waits c.args.readers.now c.args.waiting.now c.loop-node.waiting c.loop-node.node-index (omega arith) c.requires.waits (c.requires.readers c.loop-node.node-index 0 (omega arith)) c.loop-node.invariant.released

pub loop-node-preserved : goal.loop-node-preserved
loop-node-preserved c =
    let below = c.requires.readers c.loop-node.node-index 0 (omega arith) in
    let more = HasReleased-more c.args.readers.now c.args.waiting.now c.loop-node.waiting c.loop-node.node-index (omega arith) below
    (HasReleased-waits c.args.readers.now c.args.waiting.now c.loop-node.waiting c.loop-node.node-index (omega arith) c.requires.waits below c.loop-node.invariant.released)
    c.loop-node.invariant.released in
    record {
      released = subst (HasReleased (take (c.loop-node.node-index + 1) c.args.readers.now) c.args.waiting.now) (sym c.release_one.ensures.waiting) more;
      free = subst (λ n. HasPassing n (may_be_taken c.args.taken.now c.release_one.new.waiting) c.release_one.new.ready) (omega (arith, c.release_one.auto.waiting)) c.in_ok-release_one.ensures.ready;
    }
