-- The fields that a text stands for.
use Rattle.std.specs.Prelude.{ℕ, suc, max, List}

-- a value that is no message is a word, a number or a quoted text
pub data Kind : Type 0 where
  word : Kind
  number : Kind
  quoted : Kind

-- The fields of a file or of a message, in order. There are none, or a first field and the fields after it. The first
-- field is a scalar with its name, its kind and its bytes, or a message with its name and its fields.
pub data Fields : Type 0 where
  none : Fields
  scalar : List ℕ → Kind → List ℕ → Fields → Fields
  message : List ℕ → Fields → Fields → Fields

-- some fields, followed by more fields
abbrev pub append : Fields → Fields → Fields
append none more = more
append (scalar name kind bytes rest) more = scalar name kind bytes (append rest more)
append (message name inner rest) more = message name inner (append rest more)

-- how deep messages nest
abbrev pub depth : Fields → ℕ
depth none = 0
depth (scalar name kind bytes rest) = depth rest
depth (message name inner rest) = max (suc (depth inner)) (depth rest)
