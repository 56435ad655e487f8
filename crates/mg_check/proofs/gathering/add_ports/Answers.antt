use Rattle.std.proofs.Common.{◌++◌}
use Rattle.mg_subgraph.specs.Refusals.{port_names}
use Rattle.mg_kinds.specs.Kinds.{names_of}
use Rattle.mg_check.proofs.Filling.{port_moved}
use Rattle.mg_check.proofs.gathering.add_ports.Goals as goal

pub loop-i-preserved : goal.loop-i-preserved
loop-i-preserved c =
    port_moved c.push.new.self.items c.loop-i.out.items c.as_str.result c.args.ports.now c.loop-i.i c.in-Some.port.now (names_of c.args.out.now.items ++ port_names c.args.ports.now)
    c.in_ok-push.ensures.items c.as_str.ensures c.in-Some.ensures c.loop-i.invariant
