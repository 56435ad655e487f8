-- What `parse` answers.
use Rattle.std.specs.Prelude.{◌≡◌, ℕ, ◌+◌, ◌<◌, ◌≤◌, List, ◌++◌, length, take, Result, Ok, Err}
use Rattle.mg_text.specs.Tree.{Fields, depth}
use Rattle.mg_text.specs.Grammar.{Gives}
use Rattle.mg_text.specs.View.{view}
use Rattle.mg_text.specs.declared.tree.Tree.{Tree}
use Rattle.mg_text.specs.declared.fault.TextFault.{TextFault}
use Rattle.mg_text.specs.declared.fault.TextFault.TheVariants.{Syntax, TooDeep, TooLong, OutOfMemory}

-- the most bytes that a file may have
abbrev pub max_len : ℕ
max_len = 4194304

-- the most messages that may be open at once
abbrev pub max_depth : ℕ
max_depth = 64

-- some text begins with these bytes
abbrev pub BeginsText : List ℕ → Type 0
BeginsText bytes = (rest : List ℕ) × (t : Fields) × Gives (bytes ++ rest) t

-- some text that isn't too deep begins with these bytes
abbrev pub BeginsShallowText : List ℕ → Type 0
BeginsShallowText bytes = (rest : List ℕ) × (t : Fields) × Gives (bytes ++ rest) t × (depth t ≤ max_depth)

-- The file is no text, and its longest prefix that begins some text has this length. This prefix begins a text that isn't too deep.
pub record IsSyntaxFault (file : List ℕ) (place : ℕ) : Type 0 where
  pub within : place ≤ length file
  pub front : BeginsShallowText (take place file)
  pub longest : (n : ℕ) → place < n → n ≤ length file → ¬ (BeginsText (take n file))
  pub no_text : (t : Fields) → ¬ (Gives file t)

-- The byte at this place is the first that makes the file too deep. The opening mark of a message does so if as many
-- messages as may be are open. The prefix before the byte begins a text that isn't too deep. With the byte, the prefix
-- begins some text, and each such text is too deep.
pub record IsTooDeep (file : List ℕ) (place : ℕ) : Type 0 where
  pub within : place < length file
  pub front : BeginsShallowText (take place file)
  pub some : BeginsText (take (place + 1) file)
  pub all : (rest : List ℕ) (t : Fields) → Gives (take (place + 1) file ++ rest) t → max_depth < depth t

-- the cause of each fault; out of memory may come at any time
abbrev pub IsFault : List ℕ → TextFault → Type 0
IsFault file (Syntax place) = IsSyntaxFault file place
IsFault file (TooDeep place) = IsTooDeep file place
IsFault file TooLong = max_len < length file
IsFault file OutOfMemory = Unit {0}

-- the answer is that tree, or out of memory
abbrev pub IsTree : Fields → Result Tree TextFault → Type 0
IsTree t (Ok tree) = view tree ≡ t
IsTree t (Err OutOfMemory) = Unit {0}
IsTree t (Err fault) = ⊥

-- the answer is that fault, or out of memory
abbrev pub IsFailed : TextFault → Result Tree TextFault → Type 0
IsFailed fault (Ok tree) = ⊥
IsFailed fault (Err OutOfMemory) = Unit {0}
IsFailed fault (Err other) = other ≡ fault
