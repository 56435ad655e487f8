use Rattle.std.proofs.Common.{refl, arith, Some}
use Rattle.std.specs.Arc.{arc_value}
use Rattle.mg_value.specs.Payload.{plain}
use Rattle.mg_calc.specs.Given.{given}
use Rattle.mg_feed.proofs.Steps.{map-stepped, stepped-past}
use Rattle.mg_feed.proofs.sides.put_at.Goals as goal

pub returns-then-i-sides : goal.returns-then-i-sides
returns-then-i-sides c =
    map-stepped given (λ _. Some (plain (arc_value c.args.payload))) c.args.sides.now c.args.place (Some c.args.payload) (Some c.args.payload) (omega arith) refl

pub returns-else-i-sides : goal.returns-else-i-sides
returns-else-i-sides c = stepped-past given (λ _. Some (plain (arc_value c.args.payload))) c.args.sides.now c.args.place (omega arith)
