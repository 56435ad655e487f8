use Rattle.std.proofs.Common.{sym, ap, arith, ◌<◌, length}
use Rattle.mg_value.specs.declared.kind.Kind.TheVariants.{Any}
use Rattle.mg_kinds.specs.Ports.{port}
use Rattle.mg_kinds.proofs.Sorted.{put_port}
use Rattle.mg_kinds.proofs.port_order.by_tree.Goals as goal

pub loop-i-preserved : goal.loop-i-preserved
loop-i-preserved c =
    let ports = c.args.ports.now in
    let here = c.in-Some.port.now in
    let inside : c.loop-i.i < length ports = omega (arith, c.len-i-end.ensures) in
    put_port c.loop-i.sorted.entries c.insert.new.self.entries ports c.loop-i.i here (c.as_str.result, here.index) _ inside (sym c.in-Some.ensures)
    (ap (λ tag. port tag Any here.index) c.as_str.ensures) c.in_ok-insert.ensures.entries c.loop-i.invariant
