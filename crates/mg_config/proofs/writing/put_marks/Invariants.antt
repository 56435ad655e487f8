use Rattle.std.proofs.Common.{◌≡◌, ◌++◌, map, take}
use Rattle.mg_text.specs.View.{field_view}
use Rattle.mg_config.specs.Written.{mark_fields}
use Rattle.mg_config.proofs.writing.put_marks.Given as goal

abbrev pub invariant-loop-mark : goal.invariant-loop-mark
invariant-loop-mark l = map field_view l.out.items ≡ map field_view l.fn.out.items ++ mark_fields (take l.mark-index l.marks)
