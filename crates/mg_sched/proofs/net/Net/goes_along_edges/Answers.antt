use Rattle.std.proofs.Common.{refl, sym, subst, ap, length, arith}
use Rattle.mg_calc.specs.declared.event.Event.TheVariants.{Deliver}
use Rattle.mg_calc.specs.declared.event.Effect.TheVariants.{Idle}
use Rattle.mg_sched.specs.Views.{NetView}
use Rattle.mg_sched.specs.StandsFor.{StandsForSome, IsRunning}
use Rattle.mg_sched.specs.Acts.{Acts}
use Rattle.mg_sched.specs.Sweeps.{Becomes, itself}
use Rattle.mg_sched.proofs.RestingFinds.{edge_finds, edge_becomes, found_some, edge_more, some_later}
use Rattle.mg_sched.proofs.net.Net.goes_along_edges.Goals as goal

pub edges-init : goal.edges-init
edges-init g c = (refl, λ edge less. absurd (omega (arith, less)))

pub carry-requires-clause-there : goal.carry-requires-clause-there
carry-requires-clause-there g c =
    let less = c.edges-test.true in
    let count = c.edge_count-edge-end.ensures in
    let same = ap (λ (v : NetView). length v.plan.edges) c.edges.invariant.0 in
    omega (arith, less, count, same)

pub carry-requires-clause-stands : goal.carry-requires-clause-stands
carry-requires-clause-stands g c = subst (StandsForSome g.C.NodeCalculator.laws) (sym c.edges.invariant.0) c.requires.stands

pub carry-requires-clause-running : goal.carry-requires-clause-running
carry-requires-clause-running g c = subst IsRunning (sym c.edges.invariant.0) c.requires.running

pub edges-preserved : goal.edges-preserved
edges-preserved g c =
    edge_more g.C.NodeCalculator.laws c.in_ok-brought.brought c.args.self.now c.edges.self c.carry.new.self c.edges.edge c.edges.invariant.0 c.edges.invariant.1 c.if-brought.false
    (edge_finds c.in_ok-brought.brought c.edges.edge _ c.carry.result c.args.self.now c.edges.self c.carry.new.self c.edges.invariant.0 c.requires.running c.requires.stands c.edges-test.true c.edge_count-edge-end.ensures
    c.in_ok-brought.ensures c.carry.ensures)

pub returns-then-brought-clause-finds : goal.returns-then-brought-clause-finds
returns-then-brought-clause-finds g c =
    some_later c.args.self.now c.edges.self c.edges.invariant.0
    (found_some c.in_ok-brought.brought (Acts g.C.NodeCalculator.laws (Deliver c.edges.edge) Idle c.edges.self c.edges.self) c.edges.self c.carry.new.self c.if-brought.true
    (edge_finds c.in_ok-brought.brought c.edges.edge _ c.carry.result c.args.self.now c.edges.self c.carry.new.self c.edges.invariant.0 c.requires.running c.requires.stands c.edges-test.true c.edge_count-edge-end.ensures
    c.in_ok-brought.ensures c.carry.ensures))

pub returns-then-brought-clause-becomes : goal.returns-then-brought-clause-becomes
returns-then-brought-clause-becomes g c = edge_becomes c.edges.edge _ c.carry.result c.args.self.now c.edges.self c.carry.new.self c.edges.invariant.0 c.edges-test.true c.edge_count-edge-end.ensures c.carry.ensures

pub returns-in_err-brought-clause-becomes : goal.returns-in_err-brought-clause-becomes
returns-in_err-brought-clause-becomes g c = edge_becomes c.edges.edge _ c.carry.result c.args.self.now c.edges.self c.carry.new.self c.edges.invariant.0 c.edges-test.true c.edge_count-edge-end.ensures c.carry.ensures

pub returns-clause-finds : goal.returns-clause-finds
returns-clause-finds g c = (
  c.edges.invariant.0,
  λ edge less. (let past = c.edges-test.false in let count = c.edge_count-edge-end.ensures in c.edges.invariant.1 edge (omega (arith, less, past, count))),
)

pub returns-clause-becomes : goal.returns-clause-becomes
returns-clause-becomes g c = subst (λ (v : NetView). Becomes g.C.NodeCalculator.laws c.args.self.now v) (sym c.edges.invariant.0) itself
