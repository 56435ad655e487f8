use Rattle.std.proofs.Common.{◌+◌, ◌≤◌, ap, sym, subst, arith, vec_capacity, length, List}
use Rattle.mg_node.specs.Views.{IntakeView, EngineView}
use Rattle.mg_sched.specs.ComesApart.{PartsView, ArePartsOf, AreParts, IsPutTogether}
use Rattle.mg_workers.specs.Shared.{KeptView}
use Rattle.mg_workers.proofs.Returning.{as_kept, are_back, kinds_of, rooms, given_back, became}
use Rattle.mg_workers.proofs.sharing.unshare.Goals as goal

pub unweave-requires-clause-kinds : goal.unweave-requires-clause-kinds
unweave-requires-clause-kinds g c = let k = c.requires.kept in kinds_of k.0 k.1 _ _ k.2 _ c.unshare-parts.result.items c.unshare-parts.ensures c.nodes-nodes.result c.nodes-nodes.ensures

pub unweave-requires-clause-room : goal.unweave-requires-clause-room
unweave-requires-clause-room g c =
    let k = c.requires.kept in
    let inv = c.kept.invariant in
    let many : length c.args.kept.plan.nodes + length c.args.kept.plan.inputs ≤ vec_capacity c.kept.inside.engines = subst (λ (v : KeptView). length v.plan.nodes + length v.plan.inputs ≤ vec_capacity c.kept.inside.engines) c.kept.view_is inv.2 in
    let few : length c.args.kept.plan.nodes + 1 ≤ vec_capacity c.kept.inside.intakes = subst (λ (v : KeptView). length v.plan.nodes + 1 ≤ vec_capacity c.kept.inside.intakes) c.kept.view_is inv.3 in
    let room = rooms k.0 k.1 _ _ k.2 _ c.unshare-parts.result.items c.unshare-parts.ensures (vec_capacity c.kept.inside.engines) (vec_capacity c.kept.inside.intakes) many few in
    let no_engines = ap (λ (xs : List EngineView). length xs) inv.0 in
    let no_intakes = ap (λ (xs : List IntakeView). length xs) inv.1 in
    (omega (arith, room.0, no_engines), omega (arith, room.1, no_intakes))

pub put_together-requires : goal.put_together-requires
put_together-requires g c =
    let k = c.requires.kept in
    let given : PartsView = record { plan = c.kept.inside.plan; engines = c.unweave.new.engines.items; intakes = c.unweave.new.intakes.items; rest = c.kept.inside.rest } in
    subst (λ (p : PartsView). AreParts g.C.NodeCalculator.laws p)
    (as_kept c.args.kept given c.unshare-parts.result.items c.kept.inside.engines.items c.kept.inside.intakes.items (sym c.kept.view_is) c.kept.invariant.0 c.kept.invariant.1 c.unweave.ensures.engines c.unweave.ensures.intakes)
    (are_back k.0 k.1 _ _ k.2 _ c.unshare-parts.result.items c.unshare-parts.ensures)

pub returns-clause-parts : goal.returns-clause-parts
returns-clause-parts g c =
    let k = c.requires.kept in
    let given : PartsView = record { plan = c.kept.inside.plan; engines = c.unweave.new.engines.items; intakes = c.unweave.new.intakes.items; rest = c.kept.inside.rest } in
    let same = as_kept c.args.kept given c.unshare-parts.result.items c.kept.inside.engines.items c.kept.inside.intakes.items (sym c.kept.view_is) c.kept.invariant.0 c.kept.invariant.1 c.unweave.ensures.engines c.unweave.ensures.intakes in
    given_back k.0 k.1 _ _ k.2 _ c.unshare-parts.result.items c.unshare-parts.ensures c.put_together.result
    (subst (λ (p : PartsView). IsPutTogether p c.put_together.result) (sym same) c.put_together.ensures.together)

pub returns-clause-became : goal.returns-clause-became
returns-clause-became g c = λ before some s.
    let given : PartsView = record { plan = c.kept.inside.plan; engines = c.unweave.new.engines.items; intakes = c.unweave.new.intakes.items; rest = c.kept.inside.rest } in
    let same = as_kept c.args.kept given c.unshare-parts.result.items c.kept.inside.engines.items c.kept.inside.intakes.items (sym c.kept.view_is) c.kept.invariant.0 c.kept.invariant.1 c.unweave.ensures.engines c.unweave.ensures.intakes in
    became before some _ _ s _ c.unshare-parts.result.items c.unshare-parts.ensures c.put_together.result
    (subst (λ (p : PartsView). IsPutTogether p c.put_together.result) (sym same) c.put_together.ensures.together)
    (λ job h. c.put_together.ensures.stands job (subst (λ (p : PartsView). ArePartsOf job p) same h))
