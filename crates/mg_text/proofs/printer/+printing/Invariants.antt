use Rattle.std.proofs.Common.{◌≡◌, ◌++◌, ◌+◌, ◌*◌, take}
use Rattle.mg_text.specs.Tree.{depth}
use Rattle.mg_text.specs.Canonical.{lines_of}
use Rattle.mg_text.specs.Code.Printing.{entry_depth}
use Rattle.mg_text.specs.View.{fields_view, value_view}
use Rattle.mg_text.proofs.printer.+printing.Given as goal

-- twice the depth, and one more for a list of fields than for a field
abbrev pub decreases-put_field : goal.decreases-put_field
decreases-put_field l = 2 * entry_depth (value_view l.field.now.value)

abbrev pub decreases-put_fields : goal.decreases-put_fields
decreases-put_fields l = 2 * depth (fields_view l.fields.now) + 1

abbrev pub invariant-put_fields-loop-field : goal.invariant-put_fields-loop-field
invariant-put_fields-loop-field l = l.out.items ≡ l.fn.out.items ++ lines_of l.k (fields_view (take l.field-index l.fields))
