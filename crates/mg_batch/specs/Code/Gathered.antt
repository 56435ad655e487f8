-- A list with a further item, if there is one.
use Rattle.std.specs.Prelude.{List, [], ◌∷◌, ◌++◌, Option, Some, None}
use Rattle.mg_value.specs.Plain.{Plain}
use Rattle.mg_value.specs.Packet.{Stamped}

abbrev pub with_more : List Plain → Option (Stamped Plain) → List Plain
with_more list None = list
with_more list (Some p) = list ++ p.value ∷ []
