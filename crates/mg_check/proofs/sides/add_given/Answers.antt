use Rattle.std.proofs.Common.{◌++◌}
use Rattle.mg_subgraph.specs.Refusals.{port_names}
use Rattle.mg_check.specs.Code.Streams.{given_from}
use Rattle.mg_check.proofs.Shown.{given_moved}
use Rattle.mg_check.proofs.sides.add_given.Goals as goal

pub loop-place-preserved : goal.loop-place-preserved
loop-place-preserved c =
    given_moved c.add_side.new.out.items c.loop-place.out.items (c.args.out.now.items ++ given_from 0 (port_names c.args.ports.now)) c.as_str.result.now c.args.ports.now c.loop-place.place c.in-Some.port.now
    c.in_ok-add_side.ensures c.as_str.ensures c.in-Some.ensures c.loop-place.invariant
