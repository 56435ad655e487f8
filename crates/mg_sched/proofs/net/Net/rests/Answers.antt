use Rattle.std.proofs.Common.{length}
use Rattle.mg_calc.specs.declared.event.Event.TheVariants.{Relax}
use Rattle.mg_sched.specs.Code.Left.{EdgesRest, NodesRest}
use Rattle.mg_sched.proofs.Becoming.{becomes_one, becomes_runs, becomes_some, becomes_trans}
use Rattle.mg_sched.proofs.RestingFinds.{finds_one, found_some, found_none, some_later, looked_over}
use Rattle.mg_sched.proofs.net.Net.rests.Goals as goal

pub returns-then-brings-clause-looks : goal.returns-then-brings-clause-looks
returns-then-brings-clause-looks g c =
    found_some c.in_ok-brings.brings (EdgesRest g.C.NodeCalculator.laws c.args.self.now (length c.args.self.now.plan.edges)) c.args.self.now c.goes_along_edges.new.self c.if-brings.true c.in_ok-brings.ensures.finds

pub goes_on_at_nodes-requires-clause-running : goal.goes_on_at_nodes-requires-clause-running
goes_on_at_nodes-requires-clause-running g c = becomes_runs c.args.self.now c.goes_along_edges.new.self c.requires.running c.in_ok-brings.ensures.becomes

pub goes_on_at_nodes-requires-clause-stands : goal.goes_on_at_nodes-requires-clause-stands
goes_on_at_nodes-requires-clause-stands g c = becomes_some c.args.self.now c.goes_along_edges.new.self c.requires.running c.requires.stands c.in_ok-brings.ensures.becomes

pub returns-in_err-works-clause-becomes : goal.returns-in_err-works-clause-becomes
returns-in_err-works-clause-becomes g c = becomes_trans c.args.self.now c.goes_along_edges.new.self c.goes_on_at_nodes.new.self c.in_ok-brings.ensures.becomes c.in_err-works.ensures.becomes

pub returns-then-works-clause-looks : goal.returns-then-works-clause-looks
returns-then-works-clause-looks g c =
    some_later c.args.self.now c.goes_along_edges.new.self
    (found_none g.C.NodeCalculator.laws c.in_ok-brings.brings (EdgesRest g.C.NodeCalculator.laws c.args.self.now (length c.args.self.now.plan.edges)) c.args.self.now c.goes_along_edges.new.self c.if-brings.false c.in_ok-brings.ensures.finds).0
    (found_some c.in_ok-works.works (NodesRest g.C.NodeCalculator.laws c.goes_along_edges.new.self (length c.goes_along_edges.new.self.plan.nodes)) c.goes_along_edges.new.self c.goes_on_at_nodes.new.self c.if-works.true c.in_ok-works.ensures.finds)

pub returns-then-works-clause-becomes : goal.returns-then-works-clause-becomes
returns-then-works-clause-becomes g c = becomes_trans c.args.self.now c.goes_along_edges.new.self c.goes_on_at_nodes.new.self c.in_ok-brings.ensures.becomes c.in_ok-works.ensures.becomes

pub returns-in_err-relaxed-clause-becomes : goal.returns-in_err-relaxed-clause-becomes
returns-in_err-relaxed-clause-becomes g c =
    becomes_trans c.args.self.now c.goes_on_at_nodes.new.self c.relax.new.self (becomes_trans c.args.self.now c.goes_along_edges.new.self c.goes_on_at_nodes.new.self c.in_ok-brings.ensures.becomes c.in_ok-works.ensures.becomes)
    (becomes_one Relax c.relax.result c.goes_on_at_nodes.new.self c.relax.new.self tt c.relax.ensures)

pub returns-clause-looks : goal.returns-clause-looks
returns-clause-looks g c =
    looked_over c.in_ok-brings.brings c.in_ok-works.works c.in_ok-relaxed.relaxed c.args.self.now c.goes_along_edges.new.self c.goes_on_at_nodes.new.self c.relax.new.self c.requires.stands c.if-brings.false c.in_ok-brings.ensures.finds c.if-works.false
    c.in_ok-works.ensures.finds
    (finds_one c.in_ok-relaxed.relaxed Relax c.relax.result c.goes_on_at_nodes.new.self c.relax.new.self tt
    (becomes_runs c.args.self.now c.goes_on_at_nodes.new.self c.requires.running (becomes_trans c.args.self.now c.goes_along_edges.new.self c.goes_on_at_nodes.new.self c.in_ok-brings.ensures.becomes c.in_ok-works.ensures.becomes))
    (becomes_some c.args.self.now c.goes_on_at_nodes.new.self c.requires.running c.requires.stands
    (becomes_trans c.args.self.now c.goes_along_edges.new.self c.goes_on_at_nodes.new.self c.in_ok-brings.ensures.becomes c.in_ok-works.ensures.becomes))
    c.in_ok-relaxed.ensures c.relax.ensures)

pub returns-clause-becomes : goal.returns-clause-becomes
returns-clause-becomes g c =
    becomes_trans c.args.self.now c.goes_on_at_nodes.new.self c.relax.new.self (becomes_trans c.args.self.now c.goes_along_edges.new.self c.goes_on_at_nodes.new.self c.in_ok-brings.ensures.becomes c.in_ok-works.ensures.becomes)
    (becomes_one Relax c.relax.result c.goes_on_at_nodes.new.self c.relax.new.self tt c.relax.ensures)
