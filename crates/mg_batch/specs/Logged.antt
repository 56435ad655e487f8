-- The log of a user-supplied calculator, which is kept only if the calculator is telling.
use Rattle.std.specs.Prelude.{Bool, Option, Some, None, if◌then◌else◌}

-- the calls if the log is kept, and otherwise none
abbrev pub told_log : {X : Type 0} → Bool → X → Option X
told_log telling calls = if telling then Some calls else None
