-- What contracts see of the options and payloads that the code keeps.
use Rattle.std.specs.Prelude.{List, map}
use Rattle.std.specs.Borrow.{Bor}
use Rattle.std.specs.Arc.{arc_value}
use Rattle.std.specs.declared.sync.Arc.{Arc}
use Rattle.mg_text.specs.declared.tree.Field.{Field}
use Rattle.mg_text.specs.View.{Entry, field_view}
use Rattle.mg_value.specs.declared.payload.Payload.{Payload}
use Rattle.mg_value.specs.Payload.{Plain, plain}

-- borrowed fields, as the entries that they are
abbrev pub fields_of : List (Bor Field) → List Entry
fields_of options = map (λ field. field_view field.now) options

-- shared payloads as plain trees
abbrev pub plain_of : {Z : Type 0} → List (Arc Payload Z) → List Plain
plain_of payloads = map (λ payload. plain (arc_value payload)) payloads
