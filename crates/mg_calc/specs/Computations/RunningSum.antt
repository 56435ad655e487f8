-- RunningSumCalculator: the sum of all numbers so far, which is kept.
use Rattle.std.specs.Prelude.{[], ℕ, ℤ, ◌+ℤ◌, List, false, Option, Some, None, option_map, unwrap_or, Result, Ok, Err, codes, if◌then◌else◌}
use Rattle.mg_value.specs.Packet.{Stamped}
use Rattle.mg_value.specs.Plain.{Plain}
use Rattle.mg_value.specs.declared.kind.Kind.TheVariants.{Int}
use Rattle.mg_calc.specs.declared.cause.Cause.{Cause}
use Rattle.mg_calc.specs.declared.cause.Cause.TheVariants.{Overflow}
use Rattle.mg_calc.specs.declared.emission.Laid.{Laid}
use Rattle.mg_calc.specs.declared.computations.Formula.TheVariants.{Running}
use Rattle.mg_calc.specs.Row.{Row, keeping, out, KindRow}
use Rattle.mg_calc.specs.Values.{fits, place_at, number_of}

-- the sum of the number kept and that of the packet, which is emitted and kept, or Overflow. Without a packet nothing happens.
abbrev pub summed : ℤ → ℕ → List (Option (Stamped Plain)) → Result (Option ℤ × List Laid) Cause
summed kept t set =
    unwrap_or (option_map (λ p. let sum = kept +ℤ number_of p.value in if fits sum then Ok (Some sum, out t sum) else Err Overflow) (place_at set 0))
    (Ok (None, []))

abbrev pub running : Row
running = keeping summed

abbrev pub told : KindRow
told = record { name = codes "RunningSumCalculator"; options = []; wiring = record { many = false; takes = Int; gives = Int }; formula = λ settings. Some Running }
