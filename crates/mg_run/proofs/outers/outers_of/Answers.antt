use Rattle.std.proofs.Common.{All, List, [], ◌∷◌, sym, subst}
use Rattle.std.proofs.lemmas.List.Elements.{All-append, All-cons, All-nil}
use Rattle.mg_calc.specs.declared.shape.OuterShape.{OuterShape}
use Rattle.mg_check.specs.Check.{IsOuterShape}
use Rattle.mg_run.specs.Boxes.{outer_told, MayBeHandedIn}
use Rattle.mg_run.proofs.Told.{known-more}
use Rattle.mg_run.proofs.outers.outers_of.Goals as goal

pub loop-calculator-preserved : goal.loop-calculator-preserved
loop-calculator-preserved g c = (
  rw c.in_ok-push.ensures.items
      (known-more g.C.NodeCalculator.told outer_told c.args.boxes.now c.loop-calculator.outers.items c.loop-calculator.calculator-index c.calculator-item.result c.in_ok-outer_of.field-0
      c.loop-calculator.invariant.0 c.loop-calculator-test.true c.calculator-item.is c.in_ok-outer_of.ensures.outer),
  subst (λ (outers : List OuterShape). All IsOuterShape outers) (sym c.in_ok-push.ensures.items)
      (All-append IsOuterShape c.loop-calculator.outers.items (c.in_ok-outer_of.field-0 ∷ []) c.loop-calculator.invariant.1
      (All-cons IsOuterShape c.in_ok-outer_of.field-0 [] c.in_ok-outer_of.ensures.shaped (All-nil IsOuterShape))),
  subst (λ (outers : List OuterShape). All MayBeHandedIn outers) (sym c.in_ok-push.ensures.items)
      (All-append MayBeHandedIn c.loop-calculator.outers.items (c.in_ok-outer_of.field-0 ∷ []) c.loop-calculator.invariant.2
      (All-cons MayBeHandedIn c.in_ok-outer_of.field-0 [] c.in_ok-outer_of.ensures.lawful (All-nil MayBeHandedIn))),
)
