-- The kinds of payloads.
use Rattle.std.specs.Prelude.{◌≡◌, ◌⊎◌}
use Rattle.mg_value.specs.declared.kind.Kind.{Kind}
use Rattle.mg_value.specs.declared.kind.Kind.TheVariants.{Any, Flag, Int, Text, Items, Record}
use Rattle.mg_value.specs.Plain.{Plain, flag, int, text, items, entries}

-- the kind of a payload
abbrev pub kind_of : Plain → Kind
kind_of (flag b) = Flag
kind_of (int n) = Int
kind_of (text s) = Text
kind_of (items is) = Items
kind_of (entries es) = Record

-- a payload is of this kind: the kind is Any, or the payload's own
abbrev pub HasKind : Plain → Kind → Type 0
HasKind p kind = (kind ≡ Any) ⊎ (kind ≡ kind_of p)
