use Rattle.std.proofs.Common.{◌++◌, arith, ap, sym, ◌∙◌, append_assoc}
use Rattle.mg_text.specs.Code.Printing.{entry_depth, entry_lines}
use Rattle.mg_text.specs.View.{value_view}
use Rattle.mg_text.proofs.Views.{lines_more, entry_within}
use Rattle.mg_text.proofs.printer.+printing.Goals as goal

pub put_fields-put_field-requires : goal.put_fields-put_field-requires
put_fields-put_field-requires t c =
    let w = entry_within c.args.fields.now c.loop-field.field-index c.field-item.result (omega arith) in
    let s = ap (λ f. entry_depth (value_view f.value)) c.field-item.is in
    let r = c.requires in
    (omega (arith, w, s, c.decreases), omega (arith, w, s, r))

pub put_fields-loop-field-preserved : goal.put_fields-loop-field-preserved
put_fields-loop-field-preserved t c =
    let more = lines_more c.args.k c.args.fields.now c.loop-field.field-index c.field-item.result (omega arith) c.field-item.is in
    let put = c.in_ok-put_field.ensures in
    let before = c.loop-field.invariant in
    put ∙ ap (λ z. z ++ entry_lines c.args.k c.field-item.result.name (value_view c.field-item.result.value)) before ∙ append_assoc c.args.out.now.items _ _ ∙ ap (λ z. c.args.out.now.items ++ z) (sym more)
