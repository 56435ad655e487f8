use Rattle.std.proofs.Common.{◌≡◌, All, map, take}
use Rattle.mg_check.specs.Check.{IsOuterShape}
use Rattle.mg_run.specs.Boxes.{outers_told, MayBeHandedIn}
use Rattle.mg_run.proofs.outers.outers_of.Given as goal

abbrev pub invariant-loop-calculator : goal.invariant-loop-calculator
invariant-loop-calculator g l =
    (l.outers.items ≡ outers_told (map g.C.NodeCalculator.told (take l.calculator-index l.boxes))) × All IsOuterShape l.outers.items × All MayBeHandedIn l.outers.items
