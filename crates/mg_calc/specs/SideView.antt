-- What contracts see of a side packet of a plan: its name, and where it comes from, with the payload as a plain tree.
use Rattle.std.specs.Arc.{arc_value}
use Rattle.mg_value.specs.Payload.{plain}
use Rattle.mg_calc.specs.Side.{PlainSide, PlainSideValue, given_at, fixed}
use Rattle.mg_calc.specs.declared.side.SideValue.{SideValue}
use Rattle.mg_calc.specs.declared.side.SideValue.TheVariants.{Given, Fixed}
use Rattle.mg_calc.specs.declared.side.Side.TheInside.{Inside}

abbrev pub side_value : SideValue → PlainSideValue
side_value (Given place) = given_at place
side_value (Fixed payload) = fixed (plain (arc_value payload))

abbrev pub side_view : Inside → PlainSide
side_view s = record { name = s.name; value = side_value s.value }
