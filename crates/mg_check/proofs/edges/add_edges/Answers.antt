use Rattle.std.proofs.Common.{◌++◌, map, arith}
use Rattle.std.specs.List.{enumerate_from}
use Rattle.mg_kinds.specs.Kinds.{names_of}
use Rattle.mg_check.specs.Code.Edges.{edge_at}
use Rattle.mg_check.proofs.Filling.{named_get}
use Rattle.mg_check.proofs.edges.add_edges.Goals as goal

pub loop-port-preserved : goal.loop-port-preserved
loop-port-preserved c =
    let f = edge_at c.args.streams.now c.args.node c.args.back in
    named_get f c.push.new.self.items c.loop-port.out.items (c.args.out.now.items ++ map f (enumerate_from 0 (names_of c.args.inputs.now))) c.args.inputs.now c.loop-port.port _ c.edge_into.result
    (omega (arith, c.loop-port-test.true, c.in_ok-port-end.ensures)) c.in_ok-push.ensures.items c.edge_into.ensures c.loop-port.invariant
