-- The canonical lines of a job give just its inputs again.
use Rattle.std.proofs.Common.{◌≡◌, ◌+◌, ℕ, zero, suc, List, [], ◌∷◌, ◌++◌, Bool, true, false, Option, Some, None, IfSome, unwrap_or, slice_get, map, fold, length, replicate, IsUtf8, filter_map, refl, sym, ap, ap₂, subst, ◌∙◌, arith, append_assoc, length-append, drop, All}
use Rattle.std.proofs.lemmas.List.{length-map}
use Rattle.std.specs.List.{range_with_len, cons_option}
use Rattle.serde_json.specs.Data.{Data}
use Rattle.mg_value.specs.Payload.{Plain}
use Rattle.mg_json.specs.Json.{json_of}
use Rattle.mg_settled.specs.Prefix.{StreamPrefix, empty_prefix}
use Rattle.mg_calc.specs.Side.{PlainSide, PlainSideValue, given_at, fixed}
use Rattle.mg_calc.specs.Plan.{place_of as handed_place}
use Rattle.mg_calc.specs.declared.inputs.Inputs.{Inputs}
use Rattle.mg_calc.specs.declared.plan.Plan.{Plan}
use Rattle.mg_feed.specs.Graph.{GraphInputs, place_of, input_streams, inputs_of, given_sides, placed_side}
use Rattle.mg_feed.specs.Value.{plain_of}
use Rattle.mg_feed.specs.Accepted.{State, fresh, given_by, stepped, stepped_at}
use Rattle.mg_feed.specs.Given.{ended_streams}
use Rattle.mg_feed.proofs.Values.{plain_of-json}
use Rattle.mg_trace.specs.Job.{side_handed_in, said, side_lines, stream_lines, all_stream_lines, input_names, job_data, job_lines, end_word}
use Rattle.mg_trace.specs.Told.{IsTellable, IsFound, HasNames, IsToldStream, IsTold}
use Rattle.mg_trace.proofs.Saying.{with_data, AreLines, AreLines-append, lines_are_data, fold-append, side_is_line, stream_is_lines, stream_says, Says, says_both, left_of}

-- The streams --

-- each of some names is found at its place, counted from a number on
abbrev pub ArePlaced : GraphInputs → ℕ → List (List ℕ) → Type 0
ArePlaced graph place [] = Unit {0}
ArePlaced graph place (name ∷ names) = (IsUtf8 name × (place_of graph.streams name ≡ Some place)) × ArePlaced graph (place + 1) names

abbrev pub AreTold : Bool → List (StreamPrefix Plain) → Type 0
AreTold ended [] = Unit {0}
AreTold ended (s ∷ ss) = IsToldStream ended s × AreTold ended ss

pub are_placed : (graph : GraphInputs) (place : ℕ) (names : List (List ℕ)) → ((input : ℕ) (name : List ℕ) → slice_get names input ≡ Some name → IsUtf8 name × (place_of graph.streams name ≡ Some (place + input)))
    → ArePlaced graph place names
are_placed graph place [] found = tt
are_placed graph place (name ∷ names) found =
    let first = found 0 name refl in
    ((first.0, first.1 ∙ ap Some (omega arith)), are_placed graph (place + 1) names (λ input n e. (let f = found (suc input) n e in (f.0, f.1 ∙ ap Some (omega arith)))))

pub are_told : (ended : Bool) (ss : List (StreamPrefix Plain)) → All (IsToldStream ended) ss → AreTold ended ss
are_told ended [] all = tt
are_told ended (s ∷ ss) all = (all 0 s (omega arith), are_told ended ss (λ k d lt. all (suc k) d (omega arith)))

streams_are_lines : (graph : GraphInputs) (ended : Bool) (place : ℕ) (names : List (List ℕ)) (ss : List (StreamPrefix Plain)) → ArePlaced graph place names → AreTold ended ss
    → AreLines (all_stream_lines ended names ss)
streams_are_lines graph ended place [] ss placed told = tt
streams_are_lines graph ended place (name ∷ names) [] placed told = tt
streams_are_lines graph ended place (name ∷ names) (s ∷ ss) placed told =
    AreLines-append (stream_lines ended name s) (all_stream_lines ended names ss) (stream_is_lines ended name s placed.0.0 told.0)
    (streams_are_lines graph ended (place + 1) names ss placed.1 told.1)

streams_say : (graph : GraphInputs) (given : State) (ended : Bool) (first : List (StreamPrefix Plain)) (names : List (List ℕ)) (ss : List (StreamPrefix Plain))
    → ArePlaced graph (length first) names → AreTold ended ss → length names ≡ length ss → given.streams ≡ first ++ replicate (length ss) empty_prefix
    → Says graph given (all_stream_lines ended names ss) (first ++ map (left_of ended) ss)
streams_say graph given ended first [] [] placed told many is = record { are = is; stay = refl }
streams_say graph given ended first [] (s ∷ ss) placed told many is = absurd (omega (arith, many))
streams_say graph given ended first (name ∷ names) [] placed told many is = absurd (omega (arith, many))
streams_say graph given ended first (name ∷ names) (s ∷ ss) placed told many is =
    let more = first ++ left_of ended s ∷ [] in
    let next_place : length first + 1 ≡ length more = omega (arith, length-append first (left_of ended s ∷ [])) in
    says_both graph given (stream_lines ended name s) (all_stream_lines ended names ss) _ _
    (stream_says graph given ended name first (replicate (length ss) empty_prefix) s placed.0.1 is told.0)
    (λ next e.
    subst (Says graph next (all_stream_lines ended names ss)) (append_assoc first (left_of ended s ∷ []) (map (left_of ended) ss))
    (streams_say graph next ended more names ss (subst (λ k. ArePlaced graph k names) next_place placed.1) told.1 (omega (arith, many))
    (e ∙ sym (append_assoc first (left_of ended s ∷ []) (replicate (length ss) empty_prefix)))))

-- if the input ended well, the streams are closed
ended_are : (ended : Bool) (ss : List (StreamPrefix Plain)) → AreTold ended ss → ended_streams ended (map (left_of ended) ss) ≡ ss
ended_are true [] told = refl
ended_are false [] told = refl
ended_are true (s ∷ ss) told = ap₂ (λ t ts. t ∷ ts) (λ i. record { packets = s.packets; bound = sym (told.0.closed refl) i }) (ended_are true ss told.1)
ended_are false (s ∷ ss) told = ap (λ ts. s ∷ ts) (ended_are false ss told.1)

-- The side packets --

abbrev pub head_or : List ℕ → ℕ → ℕ
head_or [] other = other
head_or (x ∷ xs) other = x

pub record Hands (graph : GraphInputs) (given : State) (ds : List Data) (sides : List (Option Plain)) : Type 0 where
  pub are : (fold (with_data graph) given ds).sides ≡ sides
  pub stay : (fold (with_data graph) given ds).streams ≡ given.streams
  pub named : (fold (with_data graph) given ds).named ≡ given.named

hands_both : (graph : GraphInputs) (given : State) (ds es : List Data) (ss more : List (Option Plain)) → Hands graph given ds ss
    → ((next : State) → next.sides ≡ ss → Hands graph next es more) → Hands graph given (ds ++ es) more
hands_both graph given ds es ss more first go_on =
    let next = fold (with_data graph) given ds in
    let later = go_on next first.are in
    record {
      are = ap (λ g. g.sides) (fold-append graph given ds es) ∙ later.are;
      stay = ap (λ g. g.streams) (fold-append graph given ds es) ∙ later.stay ∙ first.stay;
      named = ap (λ g. g.named) (fold-append graph given ds es) ∙ later.named ∙ first.named;
    }

put_there : (first rest : List (Option Plain)) (s t : Option Plain) → stepped (length first) (λ _. t) (first ++ s ∷ rest) ≡ first ++ t ∷ rest
put_there [] rest s t = refl
put_there (u ∷ first) rest s t = ap (λ l. u ∷ l) (put_there first rest s t)

pub said_hands : (graph : GraphInputs) (given : State) (name : List ℕ) (first rest : List (Option Plain)) (slot : Option Plain) → place_of graph.sides name ≡ Some (length first)
    → given.sides ≡ first ++ None ∷ rest → Hands graph given (said name slot) (first ++ slot ∷ rest)
said_hands graph given name first rest None place is = record { are = is; stay = refl; named = refl }
said_hands graph given name first rest (Some value) place is = record {
  are = ap (λ o. stepped_at o (λ _. Some (plain_of (json_of value))) given.sides) place ∙ ap (stepped (length first) (λ _. Some (plain_of (json_of value)))) is
      ∙ put_there first rest None (Some (plain_of (json_of value))) ∙ ap (λ v. first ++ Some v ∷ rest) (plain_of-json value);
  stay = refl;
  named = refl;
}

pub slot_there : (first rest : List (Option Plain)) (s : Option Plain) → unwrap_or (slice_get (first ++ s ∷ rest) (length first)) None ≡ s
slot_there [] rest s = refl
slot_there (u ∷ first) rest s = slot_there first rest s

abbrev pub AreFound : Plan → List PlainSide → Type 0
AreFound plan [] = Unit {0}
AreFound plan (side ∷ sides) = (IsUtf8 side.name × IsFound plan side.name side.value) × AreFound plan sides

pub are_found : (plan : Plan) (sides : List PlainSide) → All (λ side. IsUtf8 side.name × IsFound plan side.name side.value) sides → AreFound plan sides
are_found plan [] all = tt
are_found plan (side ∷ sides) all = (all 0 side (omega arith), are_found plan sides (λ k d lt. all (suc k) d (omega arith)))

-- the places of the user-supplied side packets
abbrev pub places : List PlainSide → List ℕ
places sides = filter_map (λ side. handed_place side.value) sides

many_places : (sides : List PlainSide) → length (given_sides sides) ≡ length (places sides)
many_places [] = refl
many_places (side ∷ sides) = one side.name side.value (many_places sides)
  where
    one : (name : List ℕ) (value : PlainSideValue) → length (given_sides sides) ≡ length (places sides)
        → length (placed_side name value (given_sides sides)) ≡ length (cons_option (handed_place value) (places sides))
    one name (given_at place) e = ap suc e
    one name (fixed value) e = e

slot_is_told : (given : List (Option Plain)) (place : ℕ) → All (λ side. IfSome side IsTellable) given → IfSome (unwrap_or (slice_get given place) None) IsTellable
slot_is_told [] place all = tt
slot_is_told (s ∷ given) zero all = all 0 s (omega arith)
slot_is_told (s ∷ given) (suc place) all = slot_is_told given place (λ k d lt. all (suc k) d (omega arith))

pub handed_is_told : (given : List (Option Plain)) (value : PlainSideValue) → All (λ side. IfSome side IsTellable) given → IfSome (side_handed_in given value) IsTellable
handed_is_told given (given_at place) all = slot_is_told given place all
handed_is_told given (fixed value) all = tt

said_is_line : (name : List ℕ) (slot : Option Plain) → IsUtf8 name → IfSome slot IsTellable → AreLines (said name slot)
said_is_line name None utf8 told = tt
said_is_line name (Some value) utf8 told = (side_is_line name value utf8 told, tt)

sides_are_lines : (plan : Plan) (given : List (Option Plain)) (sides : List PlainSide) → AreFound plan sides → All (λ side. IfSome side IsTellable) given → AreLines (side_lines given sides)
sides_are_lines plan given [] found told = tt
sides_are_lines plan given (side ∷ sides) found told =
    AreLines-append (said side.name (side_handed_in given side.value)) (side_lines given sides)
    (said_is_line side.name (side_handed_in given side.value) found.0.0 (handed_is_told given side.value told)) (sides_are_lines plan given sides found.1 told)

-- what some side packets give, after those before them came
abbrev HandAll : Plan → List PlainSide → Type 0
HandAll plan sides = (given : State) (first slots : List (Option Plain)) → places sides ≡ range_with_len (length first) (length slots)
    → given.sides ≡ first ++ replicate (length slots) None → Hands (inputs_of plan) given (side_lines (first ++ slots) sides) (first ++ slots)

side_hands : (plan : Plan) (given : State) (first slots : List (Option Plain)) (name : List ℕ) (value : PlainSideValue) (sides : List PlainSide) → IsFound plan name value
    → cons_option (handed_place value) (places sides) ≡ range_with_len (length first) (length slots) → given.sides ≡ first ++ replicate (length slots) None → HandAll plan sides
    → Hands (inputs_of plan) given (said name (side_handed_in (first ++ slots) value) ++ side_lines (first ++ slots) sides) (first ++ slots)
side_hands plan given first slots name (fixed value) sides found in_order is rest = rest given first slots in_order is
side_hands plan given first [] name (given_at place) sides found in_order is rest = absurd (omega (arith, ap length in_order))
side_hands plan given first (slot ∷ slots) name (given_at place) sides found in_order is rest =
    let at : place ≡ length first = ap (λ l. head_or l 0) in_order in
    let later : places sides ≡ range_with_len (length first + 1) (length slots) = ap (λ l. drop 1 l) in_order in
    let more = first ++ slot ∷ [] in
    let next_place : length first + 1 ≡ length more = omega (arith, length-append first (slot ∷ [])) in
    let here : unwrap_or (slice_get (first ++ slot ∷ slots) place) None ≡ slot = ap (λ k. unwrap_or (slice_get (first ++ slot ∷ slots) k) None) at ∙ slot_there first slots slot in
    hands_both (inputs_of plan) given (said name (side_handed_in (first ++ slot ∷ slots) (given_at place))) (side_lines (first ++ slot ∷ slots) sides) _ _
    (subst (λ s. Hands (inputs_of plan) given (said name s) (first ++ slot ∷ replicate (length slots) None)) (sym here)
    (said_hands (inputs_of plan) given name first (replicate (length slots) None) slot (found ∙ ap Some at) is))
    (λ next e.
    subst (λ l. Hands (inputs_of plan) next (side_lines l sides) l) (append_assoc first (slot ∷ []) slots)
    (rest next more slots (later ∙ ap (λ k. range_with_len k (length slots)) next_place) (e ∙ sym (append_assoc first (slot ∷ []) (replicate (length slots) None)))))

sides_hand : (plan : Plan) (sides : List PlainSide) → AreFound plan sides → HandAll plan sides
sides_hand plan [] found given first [] in_order is = record { are = is; stay = refl; named = refl }
sides_hand plan [] found given first (slot ∷ slots) in_order is = absurd (omega (arith, ap length in_order))
sides_hand plan (side ∷ sides) found given first slots in_order is =
    side_hands plan given first slots side.name side.value sides found.0.1 in_order is (sides_hand plan sides found.1)

-- Side packets and streams together --

pub named_at : {plan : Plan} → HasNames plan → (input : ℕ) (name : List ℕ) → slice_get (input_names plan) input ≡ Some name
    → IsUtf8 name × (place_of (inputs_of plan).streams name ≡ Some (0 + input))
named_at names input name there = let found = names.streams input name there in (found.0, found.1 ∙ ap Some (omega arith))

-- what the canonical lines of a job give
pub record GivesJob (plan : Plan) (inputs : Inputs) : Type 0 where
  pub streams : ended_streams inputs.ended (given_by (inputs_of plan) (job_lines plan inputs)).streams ≡ inputs.streams
  pub sides : (given_by (inputs_of plan) (job_lines plan inputs)).sides ≡ inputs.sides

pub job_is_lines : (plan : Plan) (inputs : Inputs) → IsTold plan inputs → AreLines (job_data plan inputs)
job_is_lines plan inputs told =
    AreLines-append (side_lines inputs.sides plan.sides) (all_stream_lines inputs.ended (input_names plan) inputs.streams)
    (sides_are_lines plan inputs.sides plan.sides (are_found plan plan.sides told.names.sides) told.sides)
    (streams_are_lines (inputs_of plan) inputs.ended 0 (input_names plan) inputs.streams (are_placed (inputs_of plan) 0 (input_names plan) (named_at told.names))
    (are_told inputs.ended inputs.streams told.streams))

-- the parts of a job that its lines stand on
pub record Parts (plan : Plan) (inputs : Inputs) : Type 0 where
  pub in_order : places plan.sides ≡ range_with_len 0 (length inputs.sides)
  pub sides : (fresh (inputs_of plan)).sides ≡ replicate (length inputs.sides) None
  pub handed : Hands (inputs_of plan) (fresh (inputs_of plan)) (side_lines inputs.sides plan.sides) inputs.sides
  pub many_names : length (input_names plan) ≡ length inputs.streams
  pub streams : (fold (with_data (inputs_of plan)) (fresh (inputs_of plan)) (side_lines inputs.sides plan.sides)).streams ≡ replicate (length inputs.streams) empty_prefix

pub parts_of : (plan : Plan) (inputs : Inputs) → IsTold plan inputs → Parts plan inputs
parts_of plan inputs told = record {
  in_order = in_order;
  sides = sides;
  handed = handed;
  many_names = many_names;
  streams = handed.stay ∙ ap (λ k. replicate k empty_prefix) (length-map (input_streams plan) (λ s. s.kind) ∙ sym (length-map (input_streams plan) (λ s. s.name)) ∙ many_names);
}
  where
    in_order : places plan.sides ≡ range_with_len 0 (length inputs.sides)
    in_order = told.names.places ∙ ap (range_with_len 0) (sym told.fit.sides)

    sides : (fresh (inputs_of plan)).sides ≡ replicate (length inputs.sides) None
    sides = ap (λ k. replicate k None) (many_places plan.sides ∙ sym told.fit.sides)

    handed : Hands (inputs_of plan) (fresh (inputs_of plan)) (side_lines inputs.sides plan.sides) inputs.sides
    handed = sides_hand plan plan.sides (are_found plan plan.sides told.names.sides) (fresh (inputs_of plan)) [] inputs.sides in_order sides

    many_names : length (input_names plan) ≡ length inputs.streams
    many_names = told.names.all_streams ∙ sym told.fit.streams

pub job_given : (plan : Plan) (inputs : Inputs) → IsTold plan inputs → GivesJob plan inputs
job_given plan inputs told = record {
  streams = ap (λ g. ended_streams inputs.ended g.streams) whole ∙ ap (ended_streams inputs.ended) more.are ∙ ended_are inputs.ended inputs.streams are;
  sides = ap (λ g. g.sides) whole ∙ more.stay ∙ parts.handed.are;
}
  where
    graph : GraphInputs
    graph = inputs_of plan

    parts : Parts plan inputs
    parts = parts_of plan inputs told

    are : AreTold inputs.ended inputs.streams
    are = are_told inputs.ended inputs.streams told.streams

    next : State
    next = fold (with_data graph) (fresh graph) (side_lines inputs.sides plan.sides)

    more : Says graph next (all_stream_lines inputs.ended (input_names plan) inputs.streams) (map (left_of inputs.ended) inputs.streams)
    more = streams_say graph next inputs.ended [] (input_names plan) inputs.streams (are_placed graph 0 (input_names plan) (named_at told.names)) are parts.many_names parts.streams

    whole : given_by graph (job_lines plan inputs) ≡ fold (with_data graph) next (all_stream_lines inputs.ended (input_names plan) inputs.streams)
    whole = lines_are_data graph (fresh graph) (job_data plan inputs) (job_is_lines plan inputs told)
        ∙ fold-append graph (fresh graph) (side_lines inputs.sides plan.sides) (all_stream_lines inputs.ended (input_names plan) inputs.streams)

-- Two jobs with the same lines --

abbrev first_or : List (List ℕ) → List ℕ → List ℕ
first_or [] other = other
first_or (x ∷ xs) other = x

last_same : (xs ys : List (List ℕ)) (a b : List ℕ) → xs ++ a ∷ [] ≡ ys ++ b ∷ [] → (xs ≡ ys) × (a ≡ b)
last_same [] [] a b e = (refl, ap (λ l. first_or l []) e)
last_same [] (y ∷ ys) a b e = absurd (omega (arith, ap length e, length-append ys (b ∷ [])))
last_same (x ∷ xs) [] a b e = absurd (omega (arith, ap length e, length-append xs (a ∷ [])))
last_same (x ∷ xs) (y ∷ ys) a b e =
    let p = last_same xs ys a b (ap (drop 1) e) in ((λ i. first_or (e i) [] ∷ p.0 i), p.1)

same_word : (a b : Bool) → end_word a ≡ end_word b → a ≡ b
same_word true true e = refl
same_word false false e = refl
same_word true false e = absurd (omega (arith, ap length e))
same_word false true e = absurd (omega (arith, ap length e))

pub one_job : (plan : Plan) (one other : Inputs) → IsTold plan one → IsTold plan other
    → job_lines plan one ++ end_word one.ended ∷ [] ≡ job_lines plan other ++ end_word other.ended ∷ [] → one ≡ other
one_job plan one other told_one told_other same =
    let p = last_same (job_lines plan one) (job_lines plan other) (end_word one.ended) (end_word other.ended) same in
    let ended = same_word one.ended other.ended p.1 in
    let a = job_given plan one told_one in
    let b = job_given plan other told_other in
    let streams : one.streams ≡ other.streams = sym a.streams ∙ ap₂ (λ (e : Bool) ls. ended_streams e (given_by (inputs_of plan) ls).streams) ended p.0 ∙ b.streams in
    let sides : one.sides ≡ other.sides = sym a.sides ∙ ap (λ ls. (given_by (inputs_of plan) ls).sides) p.0 ∙ b.sides in
    λ i. record { streams = streams i; sides = sides i; ended = ended i }
