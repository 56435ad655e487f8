use Rattle.mg_route.specs.TableLaws.{table_laws}
use Rattle.std.proofs.Common.{inl, sym, refl, ◌∙◌}
use Rattle.mg_test_cells.specs.Cell.{job_of, held_of}
use Rattle.mg_test_cells.proofs.Making.{solved, made, made_unbegun, made_lawful, sides_none, is_new, begun_none, begun_keeps}
use Rattle.mg_test_cells.proofs.cell.engine_of.Goals as goal

pub begin-requires : goal.begin-requires
begin-requires c = made_unbegun c.args.plan.now _ _ (made c.args.plan.now _ c.in_ok-engine.ensures.there c.in_ok-engine.ensures.fresh)

pub returns-in-Ok-clause-lawful : goal.returns-in-Ok-clause-lawful
returns-in-Ok-clause-lawful c =
    let m = made c.args.plan.now _ c.in_ok-engine.ensures.there c.in_ok-engine.ensures.fresh in
    let s = solved c.args.plan.now c.args.inputs.now c.requires in
    c.in-Ok.ensures.lawful (job_of table_laws c.args.plan.now c.args.inputs.now) 0 m.node s.0 s.1 m.there
    (c.in_ok-sides.ensures ∙ sym (sides_none (job_of table_laws c.args.plan.now c.args.inputs.now).job m.node m.sides)) (made_lawful table_laws c.args.plan.now c.args.inputs.now _ m)

pub returns-in-Ok-clause-none : goal.returns-in-Ok-clause-none
returns-in-Ok-clause-none c =
    let m = made c.args.plan.now _ c.in_ok-engine.ensures.there c.in_ok-engine.ensures.fresh in
    begun_none m.node (held_of m.node) _ _ (c.in-Ok.ensures.begun m.node 0 (held_of m.node) (is_new m.node (held_of m.node) refl) (inl m.fresh))

pub returns-in-Ok-clause-keeps : goal.returns-in-Ok-clause-keeps
returns-in-Ok-clause-keeps c =
    let m = made c.args.plan.now _ c.in_ok-engine.ensures.there c.in_ok-engine.ensures.fresh in
    begun_keeps m.node (held_of m.node) _ _ (c.in-Ok.ensures.begun m.node 0 (held_of m.node) (is_new m.node (held_of m.node) refl) (inl m.fresh))
