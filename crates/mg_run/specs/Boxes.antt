-- The user-supplied calculators. What a run leaves of them is said in mg_drive.
use Rattle.std.specs.Prelude.{List, map, Bool, [], None, Some, codes, pos, false, if◌then◌else◌}
use Rattle.mg_value.specs.declared.kind.Kind.TheVariants.{Any, Int}
use Rattle.mg_calc.specs.declared.law.Law.TheVariants.{Tally}
use Rattle.mg_calc.specs.declared.shape.Shape.{Shape}
use Rattle.mg_calc.specs.declared.shape.OuterShape.{OuterShape}
use Rattle.mg_calc.specs.Shape.{untagged, IsOuter}
use Rattle.mg_calc.specs.Told.{BoxTold}
pub use Rattle.mg_drive.specs.Leaves.{RunLeaves}

-- a TallyCalculator: one input of any kind, and one output, on which it counts the sets that it is shown
abbrev pub tally_shape : Shape
tally_shape = record {
  name = codes "TallyCalculator";
  inputs = untagged 1 Any;
  outputs = untagged 1 Int;
  sides = [];
  offset = Some (pos 0);
  stateless = false;
}

-- a TallyCalculator that had no call; with `telling` it keeps a log
abbrev pub new_tally : Bool → BoxTold
new_tally telling = record { law = Tally; shape = tally_shape; state = []; log = if telling then Some [] else None }

-- what is known of a calculator before it is called: its shape and its law
abbrev pub outer_told : BoxTold → OuterShape
outer_told told = record { shape = told.shape; law = told.law }

abbrev pub outers_told : List BoxTold → List OuterShape
outers_told boxes = map outer_told boxes

-- the caller may supply a calculator with this law
abbrev pub MayBeHandedIn : OuterShape → Type 0
MayBeHandedIn outer = IsOuter outer.law
