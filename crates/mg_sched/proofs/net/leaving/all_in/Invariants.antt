-- With what lies in the places that are left the result is the same.
use Rattle.std.proofs.Common.{◌≡◌, ◌+◌, ◌≤◌, ◌++◌, Option, length, map, option_map, vec_len, vec_capacity}
use Rattle.std.specs.List.{filter_map}
use Rattle.std.specs.Vec.Iter.{into_iter_items}
use Rattle.mg_calc.specs.Told.{BoxTold}
use Rattle.mg_sched.proofs.net.leaving.all_in.Given as goal

abbrev pub invariant-loop-place : goal.invariant-loop-place
invariant-loop-place g l =
    (map g.C.NodeCalculator.told l.boxes.items ++ filter_map (λ (p : Option BoxTold). p) (map (option_map g.C.NodeCalculator.told) (into_iter_items l.place-iterator))
    ≡ map g.C.NodeCalculator.told l.fn.boxes.items ++ filter_map (λ (p : Option BoxTold). p) (map (option_map g.C.NodeCalculator.told) l.fn.places.items))
    × (vec_len l.boxes + length (into_iter_items l.place-iterator) ≤ vec_capacity l.boxes)
