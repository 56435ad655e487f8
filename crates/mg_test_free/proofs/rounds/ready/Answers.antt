use Rattle.std.proofs.Common.{List, sym, subst, arith}
use Rattle.mg_free.specs.declared.node.FreeNode.{FreeNode}
use Rattle.mg_test_free.specs.Ready.{IsReady}
use Rattle.mg_test_free.proofs.Readied.{one_ready}
use Rattle.mg_test_free.proofs.rounds.ready.Goals as goal

pub returns : goal.returns
returns c =
    let count = c.len.ensures in
    let same = c.if-len-ports_of.false in
    let ports = c.ports_of.ensures in
    subst (λ (frees : List FreeNode). IsReady frees c.in_ok-new.field-0.takers.items c.args.given.now.streams) (sym c.in_ok-new.ensures.free)
    (one_ready c.args.law c.in_ok-frees.frees c.in_ok-new.field-0.takers.items c.args.given.now.streams c.in_ok-frees.ensures (omega (arith, count, same, ports)) (c.are_prefixes.ensures.0 c.if-not-are_prefixes.false) c.in_ok-new.ensures.taken)
