use Rattle.std.proofs.Common.{◌≡◌, ◌++◌, drop, map}
use Rattle.std.specs.Prelude.{option_map}
use Rattle.mg_text.specs.View.{field_view}
use Rattle.mg_kinds.specs.Options.{calculator_options}
use Rattle.mg_kinds.specs.Views.{fields_of}
use Rattle.mg_kinds.proofs.options.own_options.Given as goal

abbrev pub invariant-loop-field : goal.invariant-loop-field
invariant-loop-field l =
    calculator_options l.calculator (map field_view l.fields) ≡ option_map (λ more. fields_of l.out.items ++ more) (calculator_options l.calculator (map field_view (drop l.field-index l.fields)))
