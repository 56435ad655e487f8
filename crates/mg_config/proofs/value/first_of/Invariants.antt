use Rattle.std.proofs.Common.{◌≡◌, map, drop}
use Rattle.mg_text.specs.View.{field_view}
use Rattle.mg_config.specs.Values.{values_of}
use Rattle.mg_config.proofs.value.first_of.Given as goal

abbrev pub invariant-loop-field : goal.invariant-loop-field
invariant-loop-field l = values_of l.name (map field_view l.fields) ≡ values_of l.name (map field_view (drop l.field-index l.fields))
