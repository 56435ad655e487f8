-- What contracts see of a state: a list of plain payloads.
use Rattle.std.specs.Prelude.{List, [], ◌∷◌, map}
use Rattle.std.specs.declared.sync.Arc.{Arc}
use Rattle.std.specs.Arc.{arc_value}
use Rattle.mg_value.specs.declared.payload.Payload.{Payload}
use Rattle.mg_value.specs.Payload.{Plain, plain, int}
use Rattle.mg_calc.specs.Given.{given}
use Rattle.mg_calc.specs.Values.{stored}
use Rattle.mg_calc.specs.State.{full_places}
use Rattle.mg_calc.specs.declared.state.Kept.{Kept}
use Rattle.mg_calc.specs.declared.state.Kept.TheVariants.{Nothing, Number, Places, Full}

-- a shared payload as a plain tree
abbrev pub shared_plain : {Z : Type 0} → Arc Payload Z → Plain
shared_plain p = plain (arc_value p)

-- the payloads of a state: a number as itself, and each place as it is stored
abbrev pub payloads_of : Kept → List Plain
payloads_of Nothing = []
payloads_of (Number n) = int n ∷ []
payloads_of (Places places) = map (λ place. stored (given place)) places.items
payloads_of (Full list) = full_places (map shared_plain list.items)
