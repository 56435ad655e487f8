use Rattle.std.proofs.Common.{subst, sym}
use Rattle.mg_calc.specs.declared.law.Law.TheVariants.{Stated}
use Rattle.mg_calc.specs.Told.{IsOfLaw}
use Rattle.mg_calc.proofs.OwnShapes.{of_stated}
use Rattle.mg_calc.proofs.handed.Handed.stated.Goals as goal

pub of_law-requires : goal.of_law-requires
of_law-requires g c =
    let told = g.C.Calculator.told c.args.calculator in
    subst (λ shape. IsOfLaw g.W.OwnLaws.laws (Stated c.args.number c.args.parameters shape.offset) told) (sym c.shape.ensures)
    (of_stated g.W.OwnLaws.laws c.args.number c.args.parameters told c.requires.rules c.requires.shape)
