use Rattle.std.proofs.Common.{◌≡◌, ◌∙◌, Ok, ap, subst, sym, refl, true, ◌+◌}
use Rattle.std.proofs.lemmas.Result.{err_from_is_err_and}
use Rattle.mg_text.specs.View.{field_view}
use Rattle.mg_config.specs.Values.{has_name}
use Rattle.mg_config.proofs.Marked.{IsMarked, marked_first, marked_skip, marked_fault, marked_more, marked_all, info_name}
use Rattle.mg_config.proofs.marks.marks_named.Goals as goal

pub returns-in_err-mark-clause-err : goal.returns-in_err-mark-clause-err
returns-in_err-mark-clause-err c =
    let p = err_from_is_err_and c.from_residual.result c.from_residual.ensures.1 in
    let here : has_name info_name (field_view c.field-item.result) ≡ true = sym c.if-not-has_name.ensures in
    rw (p.1, p.2) (λ ne. marked_fault c.args.fields.now c.loop-field.field-index c.loop-field.k c.field-item.result c.fields_of_value-info.result.now c.loop-field.marks.items c.in_err-mark.field-0.0
    c.loop-field-test.true c.field-item.is here c.loop-field.invariant c.fields_of_value-info.ensures (c.in_err-mark.ensures.err ne))

pub loop-field-preserved : goal.loop-field-preserved
loop-field-preserved c =
    let here : has_name info_name (field_view c.field-item.result) ≡ true = sym c.if-not-has_name.ensures in
    marked_more c.args.fields.now c.loop-field.field-index c.loop-field.k (c.loop-field.k + 1) c.field-item.result c.fields_of_value-info.result.now c.loop-field.marks.items c.keep.new.marks.items c.in_ok-mark.mark c.truth_named.result
    c.loop-field-test.true c.field-item.is here c.loop-field.invariant c.fields_of_value-info.ensures c.in_ok-mark.ensures.ok c.truth_named.ensures c.in_ok-keep.ensures refl

pub loop-field-init : goal.loop-field-init
loop-field-init c = subst (IsMarked c.args.fields.now 0 0) (sym c.new-marks.ensures.items) (marked_first c.args.fields.now)

pub loop-field-preserved-then-not-has_name : goal.loop-field-preserved-then-not-has_name
loop-field-preserved-then-not-has_name c =
    marked_skip c.args.fields.now c.loop-field.field-index c.loop-field.k c.field-item.result c.loop-field.marks.items c.loop-field-test.true c.field-item.is (sym c.if-not-has_name.ensures) c.loop-field.invariant

pub returns-clause-ok : goal.returns-clause-ok
returns-clause-ok c =
    marked_all c.args.fields.now c.loop-field.field-index c.loop-field.k c.loop-field.marks.items c.loop-field-test.false c.loop-field.invariant ∙ ap Ok (sym c.in_ok-from_vec.ensures.entries)
