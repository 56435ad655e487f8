use Rattle.std.proofs.Common.{◌∙◌, sym, ap}
use Rattle.mg_subgraph.specs.Names.{is_reserved}
use Rattle.mg_subgraph.proofs.Looked.{named_here, named_later}
use Rattle.mg_subgraph.proofs.reserved.reserved_port.Goals as goal

pub returns-then-is_reserved : goal.returns-then-is_reserved
returns-then-is_reserved c =
    let port = c.in-Some.port.now in
    sym (c.loop-i.invariant ∙ named_here is_reserved c.args.ports.now c.loop-i.i port (sym c.in-Some.ensures) (ap is_reserved (sym c.as_bytes.ensures.bytes) ∙ (sym c.is_reserved.ensures ∙ c.if-is_reserved.true)))

pub loop-i-preserved : goal.loop-i-preserved
loop-i-preserved c =
    let port = c.in-Some.port.now in
    c.loop-i.invariant ∙ named_later is_reserved c.args.ports.now c.loop-i.i port (sym c.in-Some.ensures) (ap is_reserved (sym c.as_bytes.ensures.bytes) ∙ (sym c.is_reserved.ensures ∙ c.if-is_reserved.false))
