-- Commands, and what each does.
use Rattle.std.specs.Prelude.{ℕ, List, Bool, true, false, Option, None, Some, codes, if◌then◌else◌}
use Rattle.std.specs.Str.{bytes_eq}
use Rattle.mg_words.specs.declared.limits.TheConstants.{MOST_FILES}
use Rattle.mg_words.specs.declared.words.Instruction.{Instruction}
use Rattle.mg_words.specs.declared.words.Verb.{Verb}
use Rattle.mg_words.specs.declared.words.Verb.TheVariants.{Check, Expand, Use}
use Rattle.mg_words.specs.declared.words.Way.TheVariants.{Run, Solve, Generate, Trace, Replay}

-- a command: what it does and how, and the names of its files, that of the main graph first and then those of its library
pub record Command : Type 0 where
  pub instruction : Instruction
  pub files : List (List ℕ)

abbrev pub command : Instruction → List (List ℕ) → Command
command instruction files = record { instruction = instruction; files = files }

-- what a word says that is done, if COMMAND may be that word
abbrev pub verb_of : List ℕ → Option Verb
verb_of word =
    if bytes_eq word (codes "run") then Some (Use Run)
    else (if bytes_eq word (codes "solve") then Some (Use Solve)
    else (if bytes_eq word (codes "check") then Some Check
    else (if bytes_eq word (codes "expand") then Some Expand
    else (if bytes_eq word (codes "generate") then Some (Use Generate)
    else (if bytes_eq word (codes "trace") then Some (Use Trace)
    else (if bytes_eq word (codes "replay") then Some (Use Replay) else None))))))

-- whether the input is read, if no file is refused
abbrev pub reads_input : Verb → Bool
reads_input (Use Run) = true
reads_input (Use Solve) = true
reads_input Check = false
reads_input Expand = false
reads_input (Use Generate) = false
reads_input (Use Trace) = true
reads_input (Use Replay) = true

-- whether user-supplied calculators are called, if no file is refused
abbrev pub calls_boxes : Verb → Bool
calls_boxes (Use Run) = true
calls_boxes (Use Solve) = false
calls_boxes Check = false
calls_boxes Expand = false
calls_boxes (Use Generate) = true
calls_boxes (Use Trace) = true
calls_boxes (Use Replay) = true

-- the most files: the main graph, and 64 further ones
abbrev pub most_files : ℕ
most_files = MOST_FILES
