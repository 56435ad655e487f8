-- What contracts see of a holder, by what it has: a built-in or a user-supplied calculator.
use Rattle.std.specs.Prelude.{true, false}
use Rattle.mg_calc.specs.Told.{BoxTold}
use Rattle.mg_route.specs.declared.holder.Held.{Held}
use Rattle.mg_route.specs.declared.holder.Held.TheVariants.{Own, Outer}
use Rattle.mg_route.specs.HolderView.{HolderView, holder_view}

abbrev pub held_view : {C : Type 0} → (C → BoxTold) → Held C → HolderView
held_view told (Own builtin) = holder_view false builtin
held_view told (Outer calculator) = holder_view true (told calculator)
