-- What a call of a calculator gives.
use Rattle.std.specs.Prelude.{◌≡◌, List, [], map, Option, None, is_some, Result, Ok, Err, if◌then◌else◌, ⊤}
use Rattle.std.specs.List.{list_any}
use Rattle.std.specs.Option.{option_to_list}
use Rattle.mg_value.specs.Payload.{Plain}
use Rattle.mg_value.specs.Packet.{Stamped}
use Rattle.mg_calc.specs.declared.emission.Laid.{Laid}
use Rattle.mg_calc.specs.declared.cause.Cause.{Cause}
use Rattle.mg_calc.specs.declared.cause.CalcFault.{CalcFault}
use Rattle.mg_calc.specs.declared.cause.CalcFault.TheVariants.{Fault, OutOfMemory}

-- what a law gives: the new state with an emission, or a cause
abbrev pub Answer : Type 0
Answer = Result (List Plain × List Laid) Cause

-- what is emitted at an output: a packet or nothing
abbrev pub laid : Option (Stamped Plain) → Laid
laid place = record { packets = option_to_list place; bound = None }

-- the emission of a packet or nothing at each output: an entry for each, and the empty list where nothing is emitted at all
abbrev pub emission_of : List (Option (Stamped Plain)) → List Laid
emission_of places = if list_any is_some places then map laid places else []

-- the result of a call is the answer; out of memory may come in place of any answer
abbrev pub Gives : Result (List Plain × List Laid) CalcFault → Answer → Type 0
Gives (Ok given) answer = answer ≡ Ok given
Gives (Err (Fault cause)) answer = answer ≡ Err cause
Gives (Err OutOfMemory) answer = ⊤

-- the result of a call is the answer without its new state, which is the given one. Out of memory may come in place of any answer.
abbrev pub GivesEmission : Result (List Laid) CalcFault → List Plain → Answer → Type 0
GivesEmission (Ok emission) state answer = answer ≡ Ok (state, emission)
GivesEmission (Err (Fault cause)) state answer = answer ≡ Err cause
GivesEmission (Err OutOfMemory) state answer = ⊤
