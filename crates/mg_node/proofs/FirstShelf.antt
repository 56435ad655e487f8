-- The first work that stands in a window as performed and not committed, and its number.
use Rattle.mg_calc.specs.Rules.{Laws}
use Rattle.std.proofs.Common.{◌≡◌, ℕ, ◌+◌, ◌-◌, ◌<◌, ◌^◌, Bool, false, length, None, IsSome, option_and_then, slice_get, nat_lt, ap, sym, subst, ◌∙◌, arith, if◌then◌else◌}
use Rattle.std.proofs.lemmas.Bool.Decides.{nat_tests}
use Rattle.mg_node.specs.Views.{EngineView}
use Rattle.mg_node.specs.Shelves.{shelf_of, shelf_at}
use Rattle.mg_node.specs.Commits.{SomeJobHasEngine}
use Rattle.mg_node.proofs.SmallNumbers.{place_small}

-- what stands at a place is found under its number
pub found_under : (engine : EngineView) (place : ℕ) → IsSome (option_and_then shelf_of (slice_get engine.window place)) → IsSome (shelf_at engine (engine.laid + place))
found_under engine place there =
    let from : nat_lt (engine.laid + place) engine.laid ≡ false = grind (arith, nat_tests) in
    let same : engine.laid + place - engine.laid ≡ place = omega arith in
    let is : shelf_at engine (engine.laid + place) ≡ option_and_then shelf_of (slice_get engine.window place) =
    ap (λ (b : Bool). if b then None else option_and_then shelf_of (slice_get engine.window (engine.laid + place - engine.laid))) from ∙ ap (λ (i : ℕ). option_and_then shelf_of (slice_get engine.window i)) same in
    subst IsSome (sym is) there

-- its number fits
pub number_fits : {laws : Laws} (engine : EngineView) (place : ℕ) → SomeJobHasEngine laws engine → place < length engine.window → engine.laid + place < 2 ^ 64
number_fits {laws} engine place h there = (let few = place_small h.job h.number engine place h.lawful there in omega (arith, few))
