-- The numbers of a plan's streams and nodes in its core.
use Rattle.std.specs.Prelude.{◌≡◌}
use Rattle.mg_calc.specs.declared.plan.Plan.{Plan}
use Rattle.mg_free.specs.declared.numbering.Numbering.{Numbering}
use Rattle.mg_free.specs.Core.{core_numbers, core_streams}
use Rattle.mg_free.specs.Code.Places.{ArePlaces}

-- a numbering has the numbers of a plan's streams and nodes in its core
pub record IsNumberingOf (plan : Plan) (numbering : Numbering) : Type 0 where
  pub numbers : numbering.numbers ≡ core_numbers plan
  pub streams : ArePlaces numbering.streams (core_streams plan)
  pub nodes : ArePlaces numbering.nodes (core_numbers plan)
