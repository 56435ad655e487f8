-- The user-supplied calculators of the tests: two of one kind, each with one input of any kind and one output. Each counts on its
-- output the sets that it is shown. Each tells its calls.
use Rattle.std.specs.Prelude.{List, [], ◌∷◌, Some, codes, pos, false}
use Rattle.mg_value.specs.declared.kind.Kind.TheVariants.{Any, Int}
use Rattle.mg_calc.specs.declared.law.Law.TheVariants.{Tally}
use Rattle.mg_calc.specs.declared.shape.Shape.{Shape}
use Rattle.mg_calc.specs.declared.shape.OuterShape.{OuterShape}
use Rattle.mg_calc.specs.Shape.{untagged}
use Rattle.mg_calc.specs.Told.{BoxTold}

abbrev pub tally_shape : Shape
tally_shape = record {
  name = codes "TallyCalculator";
  inputs = untagged 1 Any;
  outputs = untagged 1 Int;
  sides = [];
  offset = Some (pos 0);
  stateless = false;
}

abbrev pub tally_outer : OuterShape
tally_outer = record { shape = tally_shape; law = Tally }

-- what such a calculator tells before its first call
abbrev pub new_tally : BoxTold
new_tally = record { law = Tally; shape = tally_shape; state = []; log = Some [] }

abbrev pub two_outers : List OuterShape
two_outers = tally_outer ∷ tally_outer ∷ []

abbrev pub two_tallies : List BoxTold
two_tallies = new_tally ∷ new_tally ∷ []
