-- Nets that can go no further, and nets that may go on.
use Rattle.std.specs.Prelude.{◌≡◌, Bool, true, false}
use Rattle.mg_calc.specs.Rules.{Laws}
use Rattle.mg_calc.specs.declared.event.Event.{Event}
use Rattle.mg_calc.specs.declared.event.Effect.TheVariants.{Did, Idle}
use Rattle.mg_sched.specs.Views.{NetView}
use Rattle.mg_sched.specs.Acts.{IsEventOf, Acts}

-- a net is at rest: each of its events would do nothing
abbrev pub IsAtRest : Laws → NetView → Type 0
IsAtRest laws net = (event : Event) → IsEventOf net event → Acts laws event Idle net net

-- a net may go on: one of its events would do something
pub record MayGoOn (laws : Laws) (net : NetView) : Type 0 where
  pub event : Event
  pub is_event : IsEventOf net event
  pub there : NetView
  pub acts : Acts laws event Did net there

-- a net was looked over: it is at rest, and was left as it is; or it could go on
abbrev pub LooksOver : Laws → Bool → NetView → NetView → Type 0
LooksOver laws true before now = (now ≡ before) × IsAtRest laws before
LooksOver laws false before now = MayGoOn laws before
