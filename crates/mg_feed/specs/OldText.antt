-- What packet lines meant before one line could name several streams: four forms, each of one name.
use Rattle.std.specs.Prelude.{◌≡◌, ℕ, ◌==◌, not, Bool, true, List, [], ◌∷◌, ◌++◌, Option, None, Some, codes, length, fold, nat_lt, nat_le, option_and_then, if◌then◌else◌}
use Rattle.std.specs.List.{list_all}
use Rattle.serde_json.specs.Data.{Data}
use Rattle.serde_json.specs.Find.{get}
use Rattle.mg_settled.specs.Prefix.{appended, raised, closed}
use Rattle.mg_feed.specs.Graph.{GraphInputs, place_of}
use Rattle.mg_feed.specs.Form.{is_blank, member_count, text_at, flag_at, json_value, time_of}
use Rattle.mg_feed.specs.Value.{plain_of}
use Rattle.mg_feed.specs.Accepted.{State, Before, before, fresh, stepped_at, time_or_none, when, first_refusal, longest_line, most_lines, is_stream, is_side, kind_at, standing_at, side_at, packet_refusals, bound_refusals, close_refusals, side_refusals}
use Rattle.mg_feed.specs.declared.line_fault.LineFault.{LineFault}
use Rattle.mg_feed.specs.declared.line_fault.LineFault.TheVariants.{NotJson, BadShape, UnknownStream, TooLong, TooManyLines}

-- what a line said, in one of the four forms
pub data OldForm : Type 0 where
  old_packet : List ℕ → Data → Data → OldForm
  old_bound : List ℕ → Data → OldForm
  old_close : List ℕ → OldForm
  old_side : List ℕ → Data → OldForm

-- the forms, each from the members that it needs, if all are there
abbrev pub old_packet_form : Option (List ℕ) → Option Data → Option Data → Option OldForm
old_packet_form None time value = None
old_packet_form (Some name) None value = None
old_packet_form (Some name) (Some time) None = None
old_packet_form (Some name) (Some time) (Some value) = Some (old_packet name time value)

abbrev pub old_bound_form : Option (List ℕ) → Option Data → Option OldForm
old_bound_form None time = None
old_bound_form (Some name) None = None
old_bound_form (Some name) (Some time) = Some (old_bound name time)

abbrev pub old_close_form : Option (List ℕ) → Option Bool → Option OldForm
old_close_form None flag = None
old_close_form (Some name) None = None
old_close_form (Some name) (Some flag) = if flag then Some (old_close name) else None

abbrev pub old_side_form : Option (List ℕ) → Option Data → Option OldForm
old_side_form None value = None
old_side_form (Some name) None = None
old_side_form (Some name) (Some value) = Some (old_side name value)

-- the first form, or the other form if there is no first
abbrev pub old_either : Option OldForm → Option OldForm → Option OldForm
old_either None other = other
old_either (Some form) other = Some form

-- the form of a JSON value, if it has one of the four
abbrev pub old_form_of : Data → Option OldForm
old_form_of d =
    if member_count d == 3 then old_packet_form (text_at (codes "stream") d) (get (codes "ts") d) (get (codes "value") d)
    else (if member_count d == 2 then
    old_either (old_bound_form (text_at (codes "stream") d) (get (codes "bound") d))
    (old_either (old_close_form (text_at (codes "stream") d) (flag_at (codes "close") d))
    (old_side_form (text_at (codes "side") d) (get (codes "value") d)))
    else None)

-- what is given after a good line of this form
abbrev pub with_old : GraphInputs → State → OldForm → State
with_old graph given (old_packet name t v) = record {
  streams = stepped_at (place_of graph.streams name) (λ s. appended s (record { at = time_or_none t; value = plain_of v })) given.streams;
  sides = given.sides;
  named = true;
}
with_old graph given (old_bound name t) =
    record { streams = stepped_at (place_of graph.streams name) (λ s. raised s (time_or_none t)) given.streams; sides = given.sides; named = true }
with_old graph given (old_close name) =
    record { streams = stepped_at (place_of graph.streams name) closed given.streams; sides = given.sides; named = true }
with_old graph given (old_side name v) =
    record { streams = given.streams; sides = stepped_at (place_of graph.sides name) (λ _. Some (plain_of v)) given.sides; named = given.named }

-- what is given after a good line of this form, if it has one
abbrev pub with_old_said : GraphInputs → State → Option OldForm → State
with_old_said graph given None = given
with_old_said graph given (Some form) = with_old graph given form

-- what is given after a good line
abbrev pub with_old_line : GraphInputs → State → List ℕ → State
with_old_line graph given line =
    if list_all is_blank line then given else with_old_said graph given (option_and_then old_form_of (json_value line))

-- what good lines give
abbrev pub old_given_by : GraphInputs → List (List ℕ) → State
old_given_by graph lines = fold (λ given line. with_old_line graph given line) (fresh graph) lines

-- why a line of this form isn't good
abbrev pub old_refusals : Before → OldForm → List (Option LineFault)
old_refusals b (old_packet name t v) = when (not (is_stream b name)) UnknownStream ∷ packet_refusals (kind_at b name) (standing_at b name) (time_of t) v
old_refusals b (old_bound name t) = when (not (is_stream b name)) UnknownStream ∷ bound_refusals (standing_at b name) (time_of t)
old_refusals b (old_close name) = when (not (is_stream b name)) UnknownStream ∷ close_refusals (standing_at b name)
old_refusals b (old_side name v) = when (not (is_side b name)) UnknownStream ∷ side_refusals b.named (side_at b name) v

-- why a JSON value isn't good: it has none of the four forms, or its form is refused
abbrev pub old_shape_refusal : Before → Option OldForm → Option LineFault
old_shape_refusal b None = Some BadShape
old_shape_refusal b (Some form) = first_refusal (old_refusals b form)

-- why a line isn't good by its JSON value: it has none, or the value is refused
abbrev pub old_json_refusal : Before → Option Data → Option LineFault
old_json_refusal b None = Some NotJson
old_json_refusal b (Some d) = old_shape_refusal b (old_form_of d)

-- why a line isn't good, by the first reason that holds
abbrev pub old_line_refusal : Before → List ℕ → Option LineFault
old_line_refusal b line =
    if nat_lt longest_line (length line) then Some TooLong
    else (if nat_le most_lines b.lines then Some TooManyLines
    else (if list_all is_blank line then None else old_json_refusal b (json_value line)))

-- why a line isn't good after these lines
abbrev pub old_refusal : GraphInputs → List (List ℕ) → List ℕ → Option LineFault
old_refusal graph lines line = old_line_refusal (before graph (length lines) (old_given_by graph lines)) line

-- each line is good after the lines before it
abbrev pub AllGoodBefore : GraphInputs → List (List ℕ) → List (List ℕ) → Type 0
AllGoodBefore graph before [] = Unit {0}
AllGoodBefore graph before (line ∷ lines) = (old_refusal graph before line ≡ None) × AllGoodBefore graph (before ++ line ∷ []) lines
