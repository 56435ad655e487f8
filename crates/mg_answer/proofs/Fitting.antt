-- What good lines give fits the plan whose graph they were given to.
use Rattle.std.proofs.Common.{◌≡◌, ◌≤◌, ◌<◌, ◌+◌, ℕ, zero, suc, List, [], ◌∷◌, length, map, fold, Bool, true, false, Option, None, Some, option_and_then, slice_get, if◌then◌else◌, refl, sym, ap, ◌∙◌, subst, arith, length-append}
use Rattle.std.proofs.lemmas.List.{length-map}
use Rattle.std.specs.List.{list_all, filter_map, flat_map, range_with_len}
use Rattle.std.proofs.lemmas.List.{length-replicate}
use Rattle.std.proofs.lemmas.List.FromFn.{length-range_with_len}
use Rattle.mg_value.specs.Payload.{Plain}
use Rattle.mg_settled.specs.Prefix.{StreamPrefix, empty_prefix, appended, raised, closed}
use Rattle.mg_calc.specs.declared.inputs.Inputs.{Inputs}
use Rattle.mg_calc.specs.declared.plan.Plan.{Plan}
use Rattle.mg_calc.specs.Side.{PlainSide, PlainSideValue, given_at, fixed}
use Rattle.mg_calc.specs.declared.edge.Edge.{Edge}
use Rattle.mg_calc.specs.declared.law.Law.{Law}
use Rattle.mg_calc.specs.Plan.{HoldsTogether, IsValid, InputsFit, place_of as side_place}
use Rattle.mg_feed.specs.Value.{plain_of}
use Rattle.mg_feed.specs.declared.feed_end.FeedEnd.{FeedEnd}
use Rattle.mg_feed.specs.Graph.{GraphInputs, place_of, inputs_of, input_streams, given_sides}
use Rattle.mg_feed.specs.Form.{Named, Form, packets, bound, close, side, is_blank, form_of, json_value}
use Rattle.mg_feed.specs.Given.{ended_stream}
use Rattle.mg_feed.specs.Accepted.{State, fresh, stepped, stepped_at, with_packets, with_form, with_said, with_line, time_or_none, given_by, accepted}
use Rattle.mg_feed.specs.Stands.{AllGood}
use Rattle.mg_feed.specs.Recorded.{AllRecorded}
use Rattle.mg_feed.proofs.Accepting.{good-accepted}
use Rattle.mg_feed.proofs.Recording.{all-recorded}
use Rattle.mg_answer.specs.Answer.{Read, is_ended, inputs_by}
use Rattle.mg_answer.proofs.Prefixes.{prefixes-given}

-- Streams --

-- so many entries are found, if the numbers are in range
there : {X : Type 0} (xs : List X) (k : ℕ) → k < length xs → (x : X) × (slice_get xs k ≡ Some x)
there [] k lt = absurd (omega arith)
there (x ∷ xs) zero lt = (x, refl)
there (x ∷ xs) (suc k) lt = there xs k (omega arith)

found-one : {X : Type 0} (f : ℕ → Option X) (k : ℕ) (ks : List ℕ) (x : X) → f k ≡ Some x → length (filter_map f (k ∷ ks)) ≡ suc (length (filter_map f ks))
found-one f k ks x is = rw is refl

found-all : {X : Type 0} (xs : List X) (k n : ℕ) → k + n ≤ length xs → length (filter_map (slice_get xs) (range_with_len k n)) ≡ n
found-all xs k zero fits = refl
found-all xs k (suc n) fits =
    let here = there xs k (omega (arith, fits)) in
    found-one (slice_get xs) k (range_with_len (k + 1) n) here.0 here.1 ∙ ap suc (found-all xs (k + 1) n (omega (arith, fits)))

pub input-count : {L : Law → Type 0} {E : Plan → Edge → Type 0} (plan : Plan) → HoldsTogether L E plan → length (inputs_of plan).kinds ≡ length plan.inputs
input-count plan valid =
    let whole : length plan.inputs + length (flat_map (λ node. node.outputs) plan.nodes) ≡ length plan.streams =
    sym (length-append plan.inputs (flat_map (λ node. node.outputs) plan.nodes)) ∙ ap length valid.streams ∙ length-range_with_len 0 (length plan.streams) in
    let fits : 0 + length plan.inputs ≤ length plan.streams = omega (arith, whole) in
    length-map (input_streams plan) (λ s. s.kind)
    ∙ ap (λ (l : List ℕ). length (filter_map (slice_get plan.streams) l)) valid.inputs
    ∙ found-all plan.streams 0 (length plan.inputs) fits

-- Side packets --

length-stepped : {X : Type 0} (place : ℕ) (step : X → X) (xs : List X) → length (stepped place step xs) ≡ length xs
length-stepped place step [] = refl
length-stepped zero step (x ∷ xs) = refl
length-stepped (suc place) step (x ∷ xs) = ap suc (length-stepped place step xs)

length-stepped_at : {X : Type 0} (place : Option ℕ) (step : X → X) (xs : List X) → length (stepped_at place step xs) ≡ length xs
length-stepped_at None step xs = refl
length-stepped_at (Some place) step xs = length-stepped place step xs

-- what is given has as many streams as before, and as many places for side packets
record SameSize (given now : State) : Type 0 where
  streams : length now.streams ≡ length given.streams
  sides : length now.sides ≡ length given.sides

size-packets : (graph : GraphInputs) (time : ℕ) (vs : List Named) (ss : List (StreamPrefix Plain)) → length (with_packets graph time vs ss) ≡ length ss
size-packets graph time [] ss = refl
size-packets graph time (v ∷ vs) ss =
    let step = λ (s : StreamPrefix Plain). appended s (record { at = time; value = plain_of v.value }) in
    size-packets graph time vs (stepped_at (place_of graph.streams v.name) step ss) ∙ length-stepped_at (place_of graph.streams v.name) step ss

size-form : (graph : GraphInputs) (given : State) (form : Form) → SameSize given (with_form graph given form)
size-form graph given (packets t vs) = record { streams = size-packets graph (time_or_none t) vs given.streams; sides = refl }
size-form graph given (bound name t) = record { streams = length-stepped_at (place_of graph.streams name) (λ s. raised s (time_or_none t)) given.streams; sides = refl }
size-form graph given (close name) = record { streams = length-stepped_at (place_of graph.streams name) closed given.streams; sides = refl }
size-form graph given (side name v) = record { streams = refl; sides = length-stepped_at (place_of graph.sides name) (λ _. Some (plain_of v)) given.sides }

size-said : (graph : GraphInputs) (given : State) (said : Option Form) → SameSize given (with_said graph given said)
size-said graph given None = record { streams = refl; sides = refl }
size-said graph given (Some form) = size-form graph given form

size-by : (b : Bool) (given x : State) → SameSize given x → SameSize given (if b then given else x)
size-by true given x is = record { streams = refl; sides = refl }
size-by false given x is = is

size-line : (graph : GraphInputs) (given : State) (line : List ℕ) → SameSize given (with_line graph given line)
size-line graph given line =
    size-by (list_all is_blank line) given (with_said graph given (option_and_then form_of (json_value line))) (size-said graph given (option_and_then form_of (json_value line)))

size-lines : (graph : GraphInputs) (given : State) (lines : List (List ℕ)) → SameSize given (fold (λ given line. with_line graph given line) given lines)
size-lines graph given [] = record { streams = refl; sides = refl }
size-lines graph given (line ∷ lines) =
    let rest = size-lines graph (with_line graph given line) lines in
    let one = size-line graph given line in
    record { streams = rest.streams ∙ one.streams; sides = rest.sides ∙ one.sides }

side-by : (v : PlainSideValue) (s : PlainSide) (sides : List PlainSide) → s.value ≡ v → length (given_sides sides) ≡ length (filter_map (λ (e : PlainSide). side_place e.value) sides)
    → length (given_sides (s ∷ sides)) ≡ length (filter_map (λ (e : PlainSide). side_place e.value) (s ∷ sides))
side-by (given_at place) s sides is same = rw is (ap suc same)
side-by (fixed value) s sides is same = rw is same

pub side-count : (sides : List PlainSide) → length (given_sides sides) ≡ length (filter_map (λ (e : PlainSide). side_place e.value) sides)
side-count [] = refl
side-count (s ∷ sides) = side-by s.value s sides refl (side-count sides)

pub recorded-fit : {L : Law → Type 0} {E : Plan → Edge → Type 0} (plan : Plan) (read : Read) (inputs : Inputs) → HoldsTogether L E plan → AllRecorded (inputs_of plan) [] read.lines → inputs ≡ inputs_by (inputs_of plan) read → InputsFit plan inputs
recorded-fit plan read inputs valid good is =
    let graph = inputs_of plan in
    let given = given_by graph read.lines in
    let size = size-lines graph (fresh graph) read.lines in
    subst (InputsFit plan) (sym is) (record {
      streams = length-map given.streams (ended_stream (is_ended read.end)) ∙ size.streams ∙ length-replicate (length graph.kinds) empty_prefix ∙ input-count plan valid;
      prefixes = prefixes-given graph (map (λ s. s.name) (input_streams plan)) (is_ended read.end) read.lines refl good;
      sides = size.sides ∙ length-replicate (length graph.sides) None ∙ side-count plan.sides;
    })

pub inputs-fit : {L : Law → Type 0} {E : Plan → Edge → Type 0} (plan : Plan) (read : Read) (inputs : Inputs) → HoldsTogether L E plan → AllGood (inputs_of plan) [] read.lines → inputs ≡ inputs_by (inputs_of plan) read → InputsFit plan inputs
inputs-fit plan read inputs valid good is = recorded-fit plan read inputs valid (all-recorded (inputs_of plan) [] read.lines good) is

pub accepted-fit : (plan : Plan) (lines : List (List ℕ)) (end : FeedEnd) → IsValid plan
    → InputsFit plan (inputs_by (inputs_of plan) (record { lines = accepted (inputs_of plan) lines; end = end }))
accepted-fit plan lines end valid = inputs-fit plan (record { lines = accepted (inputs_of plan) lines; end = end }) _ valid (good-accepted (inputs_of plan) [] lines) refl
