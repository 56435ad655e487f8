use Rattle.std.proofs.Common.{refl, sym, subst, ap, length, arith}
use Rattle.mg_sched.specs.Views.{NetView}
use Rattle.mg_sched.specs.StandsFor.{StandsForSome, IsRunning}
use Rattle.mg_sched.specs.Sweeps.{Becomes, itself}
use Rattle.mg_sched.specs.Code.Left.{RestsAt}
use Rattle.mg_sched.proofs.RestingFinds.{found_some, node_more, some_later}
use Rattle.mg_sched.proofs.net.Net.goes_on_at_nodes.Goals as goal

pub nodes-init : goal.nodes-init
nodes-init g c = (refl, λ node less. absurd (omega (arith, less)))

pub goes_on_at-requires-clause-there : goal.goes_on_at-requires-clause-there
goes_on_at-requires-clause-there g c =
    let less = c.nodes-test.true in
    let count = c.node_count-node-end.ensures in
    let same = ap (λ (v : NetView). length v.plan.nodes) c.nodes.invariant.0 in
    omega (arith, less, count, same)

pub goes_on_at-requires-clause-stands : goal.goes_on_at-requires-clause-stands
goes_on_at-requires-clause-stands g c = subst (StandsForSome g.C.NodeCalculator.laws) (sym c.nodes.invariant.0) c.requires.stands

pub goes_on_at-requires-clause-running : goal.goes_on_at-requires-clause-running
goes_on_at-requires-clause-running g c = subst IsRunning (sym c.nodes.invariant.0) c.requires.running

pub nodes-preserved : goal.nodes-preserved
nodes-preserved g c =
    node_more c.in_ok-goes.goes c.args.self.now c.nodes.self c.goes_on_at.new.self c.nodes.node c.nodes.invariant.0 c.nodes.invariant.1 c.if-goes.false c.in_ok-goes.ensures.finds

pub returns-then-goes-clause-finds : goal.returns-then-goes-clause-finds
returns-then-goes-clause-finds g c =
    some_later c.args.self.now c.nodes.self c.nodes.invariant.0 (found_some c.in_ok-goes.goes (RestsAt g.C.NodeCalculator.laws c.nodes.self c.nodes.node) c.nodes.self c.goes_on_at.new.self c.if-goes.true c.in_ok-goes.ensures.finds)

pub returns-then-goes-clause-becomes : goal.returns-then-goes-clause-becomes
returns-then-goes-clause-becomes g c = subst (λ (v : NetView). Becomes g.C.NodeCalculator.laws v c.goes_on_at.new.self) c.nodes.invariant.0 c.in_ok-goes.ensures.becomes

pub returns-in_err-goes-clause-becomes : goal.returns-in_err-goes-clause-becomes
returns-in_err-goes-clause-becomes g c = subst (λ (v : NetView). Becomes g.C.NodeCalculator.laws v c.goes_on_at.new.self) c.nodes.invariant.0 c.in_err-goes.ensures.becomes

pub returns-clause-finds : goal.returns-clause-finds
returns-clause-finds g c = (
  c.nodes.invariant.0,
  λ node less. (let past = c.nodes-test.false in let count = c.node_count-node-end.ensures in c.nodes.invariant.1 node (omega (arith, less, past, count))),
)

pub returns-clause-becomes : goal.returns-clause-becomes
returns-clause-becomes g c = subst (λ (v : NetView). Becomes g.C.NodeCalculator.laws c.args.self.now v) (sym c.nodes.invariant.0) itself
