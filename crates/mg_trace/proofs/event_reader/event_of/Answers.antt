use Rattle.std.proofs.Common.{Some, subst}
use Rattle.mg_trace.proofs.Numerals.{IsNumberRead, IsPairRead}
use Rattle.mg_trace.proofs.Reading.{read-deliver, read-advance, read-claim, read-perform, read-commit}
use Rattle.mg_trace.proofs.event_reader.event_of.Goals as goal

pub returns-in-Some : goal.returns-in-Some
returns-in-Some c =
    read-deliver c.args.plan.now c.args.line.now c.in-Some.rest.now (Some c.in_ok-edge.edge) c.in-Some.ensures.some
    (subst (λ k. IsNumberRead k c.in-Some.rest.now (Some c.in_ok-edge.edge)) c.len.ensures c.in_ok-edge.ensures)

pub returns-in-Some-behind : goal.returns-in-Some-behind
returns-in-Some-behind c =
    read-advance c.args.plan.now c.args.line.now c.in-Some-behind.rest.now (Some c.in_ok-node.node) c.in-Some-behind.ensures.some
    (subst (λ k. IsNumberRead k c.in-Some-behind.rest.now (Some c.in_ok-node.node)) c.len-in-Some-behind.ensures c.in_ok-node.ensures)

pub returns-in-Some-behind-2 : goal.returns-in-Some-behind-2
returns-in-Some-behind-2 c =
    read-claim c.args.plan.now c.args.line.now c.in-Some-behind-2.rest.now (Some c.in_ok-node-2.node) c.in-Some-behind-2.ensures.some
    (subst (λ k. IsNumberRead k c.in-Some-behind-2.rest.now (Some c.in_ok-node-2.node)) c.len-in-Some-behind-2.ensures c.in_ok-node-2.ensures)

pub returns-in-Some-behind-3 : goal.returns-in-Some-behind-3
returns-in-Some-behind-3 c =
    read-perform c.args.plan.now c.args.line.now c.in-Some-behind-3.rest.now (Some (c.in_ok-node-3.node, c.in_ok-node-3.number)) c.in-Some-behind-3.ensures.some
    (subst (λ k. IsPairRead k c.in-Some-behind-3.rest.now (Some (c.in_ok-node-3.node, c.in_ok-node-3.number))) c.len-in-Some-behind-3.ensures c.in_ok-node-3.ensures)

pub returns-in-Some-behind-4 : goal.returns-in-Some-behind-4
returns-in-Some-behind-4 c =
    read-commit c.args.plan.now c.args.line.now c.in-Some-behind-4.rest.now (Some (c.in_ok-node-4.node, c.in_ok-node-4.number)) c.in-Some-behind-4.ensures.some
    (subst (λ k. IsPairRead k c.in-Some-behind-4.rest.now (Some (c.in_ok-node-4.node, c.in_ok-node-4.number))) c.len-in-Some-behind-4.ensures c.in_ok-node-4.ensures)
