use Rattle.std.proofs.Common.{◌≡◌, ◌∙◌, sym, ap, not, is_some}
use Rattle.mg_names.specs.Ports.{has_port, place_of, is_at}
use Rattle.mg_names.proofs.Standing.{any_has_place}
use Rattle.mg_subgraph.proofs.Looked.{find_here, find_later}
use Rattle.mg_subgraph.proofs.nodes.port_beyond.Goals as goal

pub returns-then-is_none : goal.returns-then-is_none
returns-then-is_none c =
    let port = c.in-Some.port.now in
    let ports = c.args.ports.now in
    let stands : has_port port.tag port.index ports ≡ not c.is_none.result =
    any_has_place (is_at port.tag port.index) ports ∙ (ap (λ tag. is_some (place_of tag port.index ports)) (sym c.as_bytes.ensures.bytes) ∙ (ap is_some (sym c.find.ensures) ∙ c.is_none.ensures)) in
    sym (c.loop-i.invariant ∙ find_here (λ p. not (has_port p.tag p.index ports)) c.args.given.now c.loop-i.i port (sym c.in-Some.ensures) (ap not stands ∙ ap (λ b. not (not b)) c.if-is_none.true))

pub loop-i-preserved : goal.loop-i-preserved
loop-i-preserved c =
    let port = c.in-Some.port.now in
    let ports = c.args.ports.now in
    let stands : has_port port.tag port.index ports ≡ not c.is_none.result =
    any_has_place (is_at port.tag port.index) ports ∙ (ap (λ tag. is_some (place_of tag port.index ports)) (sym c.as_bytes.ensures.bytes) ∙ (ap is_some (sym c.find.ensures) ∙ c.is_none.ensures)) in
    c.loop-i.invariant ∙ find_later (λ p. not (has_port p.tag p.index ports)) c.args.given.now c.loop-i.i port (sym c.in-Some.ensures) (ap not stands ∙ ap (λ b. not (not b)) c.if-is_none.false)
