-- The numbers of the statuses, which the program exits with.
use Rattle.std.specs.Prelude.{◌≡◌, ◌⊎◌, ℕ, List, [], ◌∷◌}
use Rattle.mg_answer.specs.declared.status.Status.{Status}
use Rattle.mg_answer.specs.declared.status.Status.TheVariants.{Good, StoreFault, Usage, GraphRefused, LineRefused, NodeFault, Stalled, ReadFault, WriteFault, OutOfMemory}

abbrev pub number_of : Status → ℕ
number_of Good = 0
number_of StoreFault = 1
number_of Usage = 2
number_of GraphRefused = 3
number_of LineRefused = 4
number_of NodeFault = 5
number_of Stalled = 6
number_of ReadFault = 7
number_of WriteFault = 8
number_of OutOfMemory = 9

-- a status is one of these
abbrev pub IsOneOf : Status → List Status → Type 0
IsOneOf status [] = ⊥
IsOneOf status (s ∷ ss) = (status ≡ s) ⊎ IsOneOf status ss
