use Rattle.std.proofs.Common.{arith}
use Rattle.mg_test_nets.proofs.CarriedParts.{edge_there}
use Rattle.mg_test_nets.proofs.carrying.carry.Goals as goal

pub bring-requires-clause-there : goal.bring-requires-clause-there
bring-requires-clause-there c =
    (let less = c.if-number-len.false in
    let long = c.len.ensures in
    edge_there c.args.plan.now.edges _ c.args.number c.as_slice.ensures (omega (arith, less, long)))
