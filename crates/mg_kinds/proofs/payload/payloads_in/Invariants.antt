use Rattle.std.proofs.Common.{◌≡◌, ◌++◌, map}
use Rattle.std.specs.Prelude.{option_map}
use Rattle.mg_kinds.specs.Values.{payloads_in}
use Rattle.mg_kinds.specs.Views.{fields_of, plain_of}
use Rattle.mg_kinds.proofs.Payloads.{values_left}
use Rattle.mg_kinds.proofs.payload.payloads_in.Given as goal

abbrev pub invariant-loop-option : goal.invariant-loop-option
invariant-loop-option l =
    payloads_in (map (λ field. field.value) (fields_of l.options)) ≡ option_map (λ more. plain_of l.payloads.items ++ more) (payloads_in (values_left l.options l.option-index))
