-- What is to be done: a command, with the user-supplied calculators.
use Rattle.std.specs.Prelude.{ℕ, List}
use Rattle.mg_calc.specs.declared.shape.OuterShape.{OuterShape}
use Rattle.mg_words.specs.Command.{Command}
use Rattle.mg_words.specs.declared.words.Instruction.{Instruction}

-- a command: what it does, the names of its files, and the shapes and laws of the user-supplied calculators
pub record Invocation : Type 0 where
  pub instruction : Instruction
  pub files : List (List ℕ)
  pub outers : List OuterShape

abbrev pub invocation : Command → List OuterShape → Invocation
invocation command outers = record { instruction = command.instruction; files = command.files; outers = outers }
