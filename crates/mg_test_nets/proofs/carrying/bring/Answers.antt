use Rattle.std.proofs.Common.{arith}
use Rattle.mg_sched.proofs.Finding.{read_at}
use Rattle.mg_sched.proofs.PlanEdges.{edge_stream}
use Rattle.mg_test_nets.proofs.CarriedParts.{valid_parts, source_there, target_there, leads, carried}
use Rattle.mg_test_nets.proofs.carrying.bring.Goals as goal

pub source_of-place-requires : goal.source_of-place-requires
source_of-place-requires c = edge_stream c.args.plan.now (valid_parts _ c.requires.parts.1) c.args.number c.args.edge c.requires.there

pub index-engine-requires : goal.index-engine-requires
index-engine-requires c =
    (let within = source_there _ c.args.number _ c.args.edge c.requires.parts.1 c.requires.there c.source_of-place.ensures in
    let ok = c.args.engines.now.ok.0 in
    omega (arith, within, ok))

pub index_mut-intake-requires : goal.index_mut-intake-requires
index_mut-intake-requires c =
    (let within = target_there _ c.args.number c.args.edge c.requires.parts.1 c.requires.there in
    let ok = c.args.intakes.now.ok.0 in
    omega (arith, within, ok))

pub deliver-requires : goal.deliver-requires
deliver-requires c =
    leads _ c.args.number _ c.args.edge _ _ c.requires.parts.1 c.requires.there c.source_of-place.ensures
    (read_at _ _ _ (source_there _ c.args.number _ c.args.edge c.requires.parts.1 c.requires.there c.source_of-place.ensures) c.index-engine.ensures)
    (read_at _ _ _ (target_there _ c.args.number c.args.edge c.requires.parts.1 c.requires.there) c.index_mut-intake.ensures.value)

pub returns : goal.returns
returns c = λ job rest h.
    carried job _ _ _ rest c.args.number _ c.args.edge _ _ _ h c.requires.there c.source_of-place.ensures
    (read_at _ _ _ (source_there _ c.args.number _ c.args.edge c.requires.parts.1 c.requires.there c.source_of-place.ensures) c.index-engine.ensures)
    (read_at _ _ _ (target_there _ c.args.number c.args.edge c.requires.parts.1 c.requires.there) c.index_mut-intake.ensures.value)
    (record { answer = c.deliver.result; moved = c.deliver.ensures.moved; claimed = c.deliver.ensures.claimed; grows = c.deliver.ensures.grows; lawful = c.deliver.ensures.lawful })
