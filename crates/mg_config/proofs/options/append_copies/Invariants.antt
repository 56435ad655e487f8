use Rattle.std.proofs.Common.{◌≡◌, ◌++◌, take, map}
use Rattle.mg_text.specs.View.{field_view}
use Rattle.mg_config.proofs.options.append_copies.Given as goal

abbrev pub invariant-loop-field : goal.invariant-loop-field
invariant-loop-field l = map field_view l.out.items ≡ map field_view l.fn.out.items ++ map field_view (take l.field-index l.fields)
