-- What contracts see of an outcome.
use Rattle.std.specs.Prelude.{◌≡◌, ℕ, ℤ, Result, Ok, Err, List, [], ◌∷◌, ◌++◌, Option, option_map, slice_index_or}
use Rattle.mg_calc.specs.Outcome.{Outcome as PlainOutcome, Failure as PlainFailure, failed, after_laying}
use Rattle.mg_calc.specs.Laying.{laid_behind}
use Rattle.mg_calc.specs.declared.emission.Laid.{Laid}
use Rattle.mg_value.specs.Payload.{Plain}
use Rattle.mg_value.specs.Packet.{Stamped}
use Rattle.mg_settled.specs.Prefix.{StreamPrefix, empty_prefix}
use Rattle.mg_calc.specs.declared.cause.CalcFault.{CalcFault}
use Rattle.mg_calc.specs.declared.cause.CalcFault.TheVariants.{Fault, OutOfMemory}
use Rattle.mg_calc.specs.declared.node_fault.Phase.{Phase}
use Rattle.mg_equations.specs.declared.outcome.Outcome.{Outcome}
use Rattle.mg_equations.specs.declared.outcome.Failure.{Failure}

abbrev pub failure_seen : Failure → PlainFailure
failure_seen failure = record { phase = failure.phase; cause = failure.cause }

abbrev pub fault_seen : Option Failure → Option PlainFailure
fault_seen fault = option_map failure_seen fault

abbrev pub seen : Outcome → PlainOutcome
seen outcome = record { state = outcome.state; outputs = outcome.outputs.items; taken = outcome.taken; fault = fault_seen outcome.fault }

-- an outcome with other outputs
abbrev pub with_outputs : PlainOutcome → List (StreamPrefix Plain) → PlainOutcome
with_outputs outcome outputs = record outcome { outputs = outputs }

-- an outcome with another count, whose only output has further packets and another bound
abbrev pub with_answers : PlainOutcome → List (Stamped Plain) → ℕ → ℕ → PlainOutcome
with_answers outcome packets bound taken = record outcome {
  outputs = record { packets = (slice_index_or outcome.outputs 0 empty_prefix).packets ++ packets; bound = bound } ∷ [];
  taken = taken;
}

-- an outcome has become one that failed of a cause. Running out of memory isn't a cause, so no outcome fails of it
abbrev pub Fails : CalcFault → Phase → PlainOutcome → PlainOutcome → Type 0
Fails (Fault cause) phase before now = now ≡ failed phase cause before
Fails OutOfMemory phase before now = ⊥

-- a calculator that has kept its new state itself has answered a call, and the answer is taken. Its emission is laid, or the
-- node has failed
abbrev pub TakesEmission : Option ℤ → Phase → Result (List Laid) CalcFault → PlainOutcome → PlainOutcome → Type 0
TakesEmission offset phase (Ok emission) before now = now ≡ after_laying phase before (laid_behind offset phase before.outputs emission)
TakesEmission offset phase (Err fault) before now = Fails fault phase before now
