-- The inputs of a graph: the streams and the side packets that packet lines may name.
use Rattle.std.specs.Prelude.{ℕ, ◌+◌, List, [], ◌∷◌, map, Option, None, Some, slice_get, if◌then◌else◌}
use Rattle.std.specs.List.{filter_map}
use Rattle.std.specs.Str.{bytes_eq}
use Rattle.mg_value.specs.declared.kind.Kind.{Kind}
use Rattle.mg_calc.specs.Side.{PlainSide, PlainSideValue, given_at, fixed}
use Rattle.mg_calc.specs.declared.plan.Plan.{Plan}
use Rattle.mg_calc.specs.declared.plan_stream.PlanStream.{PlanStream}
use Rattle.mg_feed.specs.declared.places.Placed.{Placed}

-- the inputs of a graph. `streams` has the names of the input streams, each with its place. `kinds` has what each stream takes, in
-- the order of the places. `sides` has the names of the user-supplied side packets, each with its place
pub record GraphInputs : Type 0 where
  pub streams : List Placed
  pub kinds : List Kind
  pub sides : List Placed

-- the place of a name: that of the first entry with this name
abbrev pub place_of : List Placed → List ℕ → Option ℕ
place_of [] name = None
place_of (p ∷ ps) name = if bytes_eq p.name name then Some p.place else place_of ps name

-- names with their places, counted from a number on
abbrev pub numbered : ℕ → List (List ℕ) → List Placed
numbered place [] = []
numbered place (name ∷ names) = record { name = name; place = place } ∷ numbered (place + 1) names

-- the streams of a plan that are the graph's inputs, in order
abbrev pub input_streams : Plan → List PlanStream
input_streams plan = filter_map (slice_get plan.streams) plan.inputs

-- the list, with a side packet's name and place put before it if the side packet is user-supplied
abbrev pub placed_side : List ℕ → PlainSideValue → List Placed → List Placed
placed_side name (given_at place) later = record { name = name; place = place } ∷ later
placed_side name (fixed value) later = later

-- the user-supplied side packets of a plan, with their places
abbrev pub given_sides : List PlainSide → List Placed
given_sides [] = []
given_sides (side ∷ sides) = placed_side side.name side.value (given_sides sides)

-- the inputs of a plan's graph
abbrev pub inputs_of : Plan → GraphInputs
inputs_of plan = record {
  streams = numbered 0 (map (λ s. s.name) (input_streams plan));
  kinds = map (λ s. s.kind) (input_streams plan);
  sides = given_sides plan.sides;
}
