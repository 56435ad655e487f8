-- Which lines of an input are good, and what they give the graph.
use Rattle.std.specs.Prelude.{ℕ, zero, suc, ◌+◌, ◌==◌, ◌&&◌, not, Bool, true, false, List, [], ◌∷◌, ◌++◌, map, replicate, Option, None, Some, is_some, length, fold, nat_lt, nat_le, slice_get, option_map, option_and_then, unwrap_or, if◌then◌else◌}
use Rattle.std.specs.List.{list_all, flat_map}
use Rattle.serde_json.specs.Data.{Data}
use Rattle.mg_time.specs.Time.{done, post_stream}
use Rattle.mg_value.specs.Payload.{Plain}
use Rattle.mg_value.specs.declared.kind.Kind.{Kind}
use Rattle.mg_value.specs.declared.kind.Kind.TheVariants.{Any}
use Rattle.mg_json.specs.Json.{first_fault}
use Rattle.mg_settled.specs.Prefix.{StreamPrefix, empty_prefix, appended, raised, closed}
use Rattle.mg_feed.specs.Graph.{GraphInputs, place_of}
use Rattle.mg_feed.specs.Form.{Named, Form, packets, bound, close, side, is_blank, form_of, json_value, time_of}
use Rattle.mg_feed.specs.Value.{plain_of, takes}
use Rattle.mg_feed.specs.declared.limits.TheConstants.{LONGEST_LINE, MOST_LINES}
use Rattle.mg_feed.specs.declared.standing.Standing.{Standing}
use Rattle.mg_feed.specs.declared.line_fault.LineFault.{LineFault}
use Rattle.mg_feed.specs.declared.line_fault.LineFault.TheVariants.{NotJson, BadShape, UnknownStream, BadTimestamp, NotAscending, Closed, KindMismatch, BadValue, TooLong, TooManyLines, SideLate, SideTwice, NotAlone}

-- the most bytes of a line, without its line feed
abbrev pub longest_line : ℕ
longest_line = LONGEST_LINE

-- the most lines of an input, blank ones too
abbrev pub most_lines : ℕ
most_lines = MOST_LINES

-- What lines give --

-- what the accepted lines gave: the prefix of each input stream, each side packet that came, and whether a line named a
-- stream
pub record State : Type 0 where
  pub streams : List (StreamPrefix Plain)
  pub sides : List (Option Plain)
  pub named : Bool

-- what is given before any line: a stream without packets for each input stream, and no side packets
abbrev pub fresh : GraphInputs → State
fresh graph = record { streams = replicate (length graph.kinds) empty_prefix; sides = replicate (length graph.sides) None; named = false }

-- the list with `step` applied to what is at this place, if anything is
abbrev pub stepped : {X : Type 0} → ℕ → (X → X) → List X → List X
stepped place step [] = []
stepped zero step (x ∷ xs) = step x ∷ xs
stepped (suc place) step (x ∷ xs) = x ∷ stepped place step xs

-- the list with `step` applied to what is at this place, if there is a place
abbrev pub stepped_at : {X : Type 0} → Option ℕ → (X → X) → List X → List X
stepped_at None step xs = xs
stepped_at (Some place) step xs = stepped place step xs

-- the streams with a packet at this time for each named value, in the stream of its name
abbrev pub with_packets : GraphInputs → ℕ → List Named → List (StreamPrefix Plain) → List (StreamPrefix Plain)
with_packets graph time [] ss = ss
with_packets graph time (v ∷ vs) ss =
    with_packets graph time vs (stepped_at (place_of graph.streams v.name) (λ s. appended s (record { at = time; value = plain_of v.value })) ss)

-- the time that a line's JSON value says, or 0 if it says none
abbrev pub time_or_none : Data → ℕ
time_or_none t = unwrap_or (time_of t) 0

-- what is given after a good line of this form. A bound below the stream's own changes nothing
abbrev pub with_form : GraphInputs → State → Form → State
with_form graph given (packets t vs) = record { streams = with_packets graph (time_or_none t) vs given.streams; sides = given.sides; named = true }
with_form graph given (bound name t) =
    record { streams = stepped_at (place_of graph.streams name) (λ s. raised s (time_or_none t)) given.streams; sides = given.sides; named = true }
with_form graph given (close name) =
    record { streams = stepped_at (place_of graph.streams name) closed given.streams; sides = given.sides; named = true }
with_form graph given (side name v) =
    record { streams = given.streams; sides = stepped_at (place_of graph.sides name) (λ _. Some (plain_of v)) given.sides; named = given.named }

-- what is given after a good line of this form, if it has one
abbrev pub with_said : GraphInputs → State → Option Form → State
with_said graph given None = given
with_said graph given (Some form) = with_form graph given form

-- what is given after a good line. A line of blanks alone gives nothing
abbrev pub with_line : GraphInputs → State → List ℕ → State
with_line graph given line =
    if list_all is_blank line then given else with_said graph given (option_and_then form_of (json_value line))

-- what good lines give
abbrev pub given_by : GraphInputs → List (List ℕ) → State
given_by graph lines = fold (λ given line. with_line graph given line) (fresh graph) lines

-- Refusals --

-- a fault, if a test holds
abbrev pub when : Bool → LineFault → Option LineFault
when test fault = if test then Some fault else None

-- the first fault that is there in a list
abbrev pub first_refusal : List (Option LineFault) → Option LineFault
first_refusal [] = None
first_refusal (None ∷ reasons) = first_refusal reasons
first_refusal (Some fault ∷ reasons) = Some fault

-- whether a list has an item
abbrev pub has_some : {X : Type 0} → List X → Bool
has_some [] = false
has_some (x ∷ xs) = true

-- what a stream's next line is judged by: the stream's bound, and whether the stream has a packet. The stream is closed if the
-- bound is Done. No packet and no bound line raises the bound to Done
abbrev pub standing : StreamPrefix Plain → Standing
standing s = record { bound = s.bound; begun = has_some s.packets }

-- what a line is judged by: the graph, how many lines come before it, and what those gave
pub record Before : Type 0 where
  pub graph : GraphInputs
  pub lines : ℕ
  pub streams : List Standing
  pub sides : List (Option Plain)
  pub named : Bool

-- what a line is judged by, after so many lines that gave this
abbrev pub before : GraphInputs → ℕ → State → Before
before graph lines given = record { graph = graph; lines = lines; streams = map standing given.streams; sides = given.sides; named = given.named }

-- the standing of a stream that isn't there
abbrev pub no_stream : Standing
no_stream = record { bound = done; begun = true }

-- what is at a place of a list, if there is a place and something is there
abbrev pub placed : {X : Type 0} → Option ℕ → List X → Option X
placed None xs = None
placed (Some place) xs = slice_get xs place

-- the kind of the stream with this name, or Any if there is none
abbrev pub kind_at : Before → List ℕ → Kind
kind_at b name = unwrap_or (placed (place_of b.graph.streams name) b.graph.kinds) Any

-- the standing of the stream with this name
abbrev pub standing_at : Before → List ℕ → Standing
standing_at b name = unwrap_or (placed (place_of b.graph.streams name) b.streams) no_stream

-- the side packet with this name, if it came
abbrev pub side_at : Before → List ℕ → Option Plain
side_at b name = unwrap_or (placed (place_of b.graph.sides name) b.sides) None

-- why a packet of a stream isn't good, in this order
abbrev pub packet_refusals : Kind → Standing → Option ℕ → Data → List (Option LineFault)
packet_refusals kind s time v =
    when (not (is_some time)) BadTimestamp
    ∷ when (s.bound == done) Closed
    ∷ option_map BadValue (first_fault v)
    ∷ when (not (takes kind (plain_of v))) KindMismatch
    ∷ when (nat_lt (unwrap_or time 0) s.bound) NotAscending
    ∷ when ((unwrap_or time 0 == post_stream) && s.begun) NotAlone
    ∷ []

-- why a bound of a stream isn't good
abbrev pub bound_refusals : Standing → Option ℕ → List (Option LineFault)
bound_refusals s time = when (not (is_some time)) BadTimestamp ∷ when (s.bound == done) Closed ∷ []

-- why the close of a stream isn't good
abbrev pub close_refusals : Standing → List (Option LineFault)
close_refusals s = when (s.bound == done) Closed ∷ []

-- why a side packet isn't good: a line before it named a stream, it came already, or its value says no payload
abbrev pub side_refusals : Bool → Option Plain → Data → List (Option LineFault)
side_refusals named came v = when named SideLate ∷ when (is_some came) SideTwice ∷ option_map BadValue (first_fault v) ∷ []

-- whether a name is that of an input stream
abbrev pub is_stream : Before → List ℕ → Bool
is_stream b name = is_some (place_of b.graph.streams name)

-- whether a name is that of a user-supplied side packet
abbrev pub is_side : Before → List ℕ → Bool
is_side b name = is_some (place_of b.graph.sides name)

-- why the packets that a line gives its named streams aren't good, stream by stream
abbrev pub several_refusals : Before → Option ℕ → List Named → List (Option LineFault)
several_refusals b time vs = flat_map (λ v. packet_refusals (kind_at b v.name) (standing_at b v.name) time v.value) vs

-- Why a line of this form isn't good. The first reason is that a name is that of no input. For each named stream, one after the
-- other, the reasons by that stream's own standing follow. For a side packet its own reasons follow.
abbrev pub form_refusals : Before → Form → List (Option LineFault)
form_refusals b (packets t vs) =
    when (not (list_all (λ v. is_stream b v.name) vs)) UnknownStream
    ∷ several_refusals b (time_of t) vs
form_refusals b (bound name t) = when (not (is_stream b name)) UnknownStream ∷ bound_refusals (standing_at b name) (time_of t)
form_refusals b (close name) = when (not (is_stream b name)) UnknownStream ∷ close_refusals (standing_at b name)
form_refusals b (side name v) = when (not (is_side b name)) UnknownStream ∷ side_refusals b.named (side_at b name) v

-- why a JSON value isn't good: it has none of the five forms, or its form is refused
abbrev pub shape_refusal : Before → Option Form → Option LineFault
shape_refusal b None = Some BadShape
shape_refusal b (Some form) = first_refusal (form_refusals b form)

-- why a line isn't good by its JSON value: it has none, or the value is refused
abbrev pub json_refusal : Before → Option Data → Option LineFault
json_refusal b None = Some NotJson
json_refusal b (Some d) = shape_refusal b (form_of d)

-- why a line isn't good, whatever its length and number. A line of blanks alone is good
abbrev pub words_refusal : Before → List ℕ → Option LineFault
words_refusal b line = if list_all is_blank line then None else json_refusal b (json_value line)

-- why a line isn't good, by the first reason that holds
abbrev pub line_refusal : Before → List ℕ → Option LineFault
line_refusal b line =
    if nat_lt longest_line (length line) then Some TooLong
    else (if nat_le most_lines b.lines then Some TooManyLines
    else words_refusal b line)

-- why a line isn't good after these lines
abbrev pub refusal : GraphInputs → List (List ℕ) → List ℕ → Option LineFault
refusal graph lines line = line_refusal (before graph (length lines) (given_by graph lines)) line

-- Accepted lines --

-- `good` if a line is good, and `bad` if it is refused
abbrev pub if_good : {A : Type 0} → Option LineFault → A → A → A
if_good None good bad = good
if_good (Some fault) good bad = bad

-- the longest run of good lines from the start, after the lines before
abbrev pub accepted_after : GraphInputs → List (List ℕ) → List (List ℕ) → List (List ℕ)
accepted_after graph before [] = []
accepted_after graph before (line ∷ lines) =
    if_good (refusal graph before line) (line ∷ accepted_after graph (before ++ line ∷ []) lines) []

-- the lines of an input that are accepted: those before the first that isn't good
abbrev pub accepted : GraphInputs → List (List ℕ) → List (List ℕ)
accepted graph = accepted_after graph []

-- a refused line: its number, counted from 1, and the reason
pub record Refused : Type 0 where
  pub number : ℕ
  pub fault : LineFault

-- the refusal of the line of this number, or a later refusal if the line is good
abbrev pub refused_at : ℕ → Option LineFault → Option Refused → Option Refused
refused_at number None later = later
refused_at number (Some fault) later = Some (record { number = number; fault = fault })

-- the first line that isn't good, after the lines before
abbrev pub first_refused_after : GraphInputs → List (List ℕ) → List (List ℕ) → Option Refused
first_refused_after graph before [] = None
first_refused_after graph before (line ∷ lines) =
    refused_at (length before + 1) (refusal graph before line) (first_refused_after graph (before ++ line ∷ []) lines)

-- whether a line of this form names a stream
abbrev pub form_names : Option Form → Bool
form_names None = false
form_names (Some (packets t vs)) = true
form_names (Some (bound name t)) = true
form_names (Some (close name)) = true
form_names (Some (side name v)) = false

-- whether a line names a stream
abbrev pub names_stream : List ℕ → Bool
names_stream line = if list_all is_blank line then false else form_names (option_and_then form_of (json_value line))
