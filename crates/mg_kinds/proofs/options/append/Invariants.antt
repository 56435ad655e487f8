use Rattle.std.proofs.Common.{◌≡◌, ◌++◌, take, map}
use Rattle.mg_text.specs.View.{field_view}
use Rattle.mg_kinds.specs.Views.{fields_of}
use Rattle.mg_kinds.proofs.options.append.Given as goal

abbrev pub invariant-loop-field : goal.invariant-loop-field
invariant-loop-field l = fields_of l.out.items ≡ fields_of l.fn.out.items ++ map field_view (take l.field-index l.fields)
