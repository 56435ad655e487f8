-- Why an emission can't be laid, and what the outputs are once it is laid, if there is no cause against it.
use Rattle.std.specs.Prelude.{Option, Some, None, Result, Ok, Err, List, [], ◌∷◌}
use Rattle.mg_value.specs.Payload.{Plain}
use Rattle.mg_settled.specs.Prefix.{StreamPrefix, all_appended}
use Rattle.mg_calc.specs.declared.cause.Cause.{Cause}
use Rattle.mg_calc.specs.declared.emission.Laid.{Laid}
use Rattle.mg_calc.specs.Laying.{raised_to}

-- the cause of a result, if it is an error
abbrev pub reason_of : {A : Type 0} → Result A Cause → Option Cause
reason_of (Ok value) = None
reason_of (Err cause) = Some cause

-- the outputs once f has laid at each what is emitted there; outputs without an entry stay
abbrev pub laid_each : {X : Type 0} → (X → Laid → X) → List X → List Laid → List X
laid_each f outputs [] = outputs
laid_each f [] (laid ∷ emission) = []
laid_each f (output ∷ outputs) (laid ∷ emission) = f output laid ∷ laid_each f outputs emission

-- an output once what is emitted there is laid on it, if there is no cause against that
abbrev pub laid_on : StreamPrefix Plain → Laid → StreamPrefix Plain
laid_on output laid = raised_to laid.bound (all_appended output laid.packets)

-- the outputs once an emission is laid on them, on each its own entry
abbrev pub all_laid_on : List (StreamPrefix Plain) → List Laid → List (StreamPrefix Plain)
all_laid_on outputs emission = laid_each laid_on outputs emission
