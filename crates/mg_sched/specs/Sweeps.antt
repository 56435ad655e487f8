-- Sweeps: what becomes of a net by steps.
use Rattle.mg_calc.specs.Rules.{Laws}
use Rattle.mg_calc.specs.declared.event.Event.{Event}
use Rattle.mg_calc.specs.declared.event.Effect.{Effect}
use Rattle.mg_sched.specs.Views.{NetView}
use Rattle.mg_sched.specs.Acts.{IsEventOf, Acts}

-- a net becomes another one by steps, one after the other
pub data Becomes (laws : Laws) (before : NetView) : NetView → Type 0 where
  itself : Becomes laws before before
  step : (event : Event) (effect : Effect) (between now : NetView) → Becomes laws before between → IsEventOf between event → Acts laws event effect between now → Becomes laws before now
