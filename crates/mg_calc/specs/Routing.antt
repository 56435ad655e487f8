-- The laws of the calculators that hand packets on: what each gives for its state and the set at a time t.
use Rattle.std.specs.Prelude.{ℕ, ℤ, ◌+◌, ◌+ℤ◌, Bool, false, not, List, [], ◌∷◌, map, take, Option, Some, None, is_some, option_map, unwrap_or, Ok, Err, nat_le, if◌then◌else◌}
use Rattle.std.specs.List.{zip}
use Rattle.mg_time.specs.Time.{raw_of, one_over_post_stream}
use Rattle.mg_value.specs.Plain.{Plain, flag}
use Rattle.mg_value.specs.Packet.{Stamped}
use Rattle.mg_settled.specs.Settled.{selected}
use Rattle.mg_calc.specs.declared.cause.Cause.TheVariants.{BadSelect}
use Rattle.mg_calc.specs.Answer.{Answer, emission_of}
use Rattle.mg_calc.specs.Values.{place_at, is_in_range, time_of, stored}
use Rattle.mg_calc.specs.State.{state_of, next_valid, places_in}

-- Pass: each packet goes to its own port
abbrev pub pass : List Plain → List (Option (Stamped Plain)) → Answer
pass state set = Ok (state, emission_of set)

-- the truth value of a payload; false if the payload is of another kind
abbrev pub truth_of : Plain → Bool
truth_of (flag b) = b
truth_of _ = false

-- whether a gate is open: if the control packet is true, or, for a gate with DISALLOW, false. Without a control packet it is as
-- empty_as_allow says.
abbrev pub is_open : Bool → Bool → Option (Stamped Plain) → Bool
is_open disallow empty_as_allow None = empty_as_allow
is_open disallow empty_as_allow (Some p) = if disallow then not (truth_of p.value) else truth_of p.value

-- Gate: while it is open, the packet of each data input goes to the output of its number; the control is the last input
abbrev pub gate : ℕ → Bool → Bool → List Plain → List (Option (Stamped Plain)) → Answer
gate lanes disallow empty_as_allow state set =
    if is_open disallow empty_as_allow (place_at set lanes) then Ok (state, emission_of (take lanes set)) else Ok (state, [])

-- the answer of Mux by the input that SELECT chose: its packet goes on; BadSelect if SELECT chose none
abbrev pub chosen : List Plain → List (Option (Stamped Plain)) → Option ℕ → Answer
chosen state set None = Err BadSelect
chosen state set (Some i) = Ok (state, emission_of (place_at set i ∷ []))

-- Mux: the packet at the input whose number SELECT has goes on; SELECT is the last input, and without a packet there nothing goes on
abbrev pub mux : ℕ → List Plain → List (Option (Stamped Plain)) → Answer
mux lanes state set = unwrap_or (option_map (λ p. chosen state set (selected (lanes + 1) p.value)) (place_at set lanes)) (Ok (state, []))

-- what a place keeps after a set: the payload of the packet there, or else what it kept
abbrev pub renewed : Option (Stamped Plain) × Option Plain → Option Plain
renewed (Some p, kept) = Some p.value
renewed (None, kept) = kept

-- what a cloner keeps at its places after a set
abbrev pub renewed_places : ℕ → List Plain → List (Option (Stamped Plain)) → List (Option Plain)
renewed_places lanes state set = map renewed (zip (take lanes set) (places_in lanes state))

-- the packet at a time of a payload that is kept, if one is
abbrev pub copy_at : ℕ → Option Plain → Option (Stamped Plain)
copy_at t kept = option_map (λ v. record { at = t; value = v }) kept

-- Cloner: the newest payload of each data input is kept in its place. If TICK, the last input, has a packet, what each place keeps is
-- emitted at t.
abbrev pub cloner : ℕ → List Plain → ℕ → List (Option (Stamped Plain)) → Answer
cloner lanes state t set =
    let places = renewed_places lanes state set in
    Ok (map stored places, if is_some (place_at set lanes) then emission_of (map (copy_at t) places) else [])

-- the first packet of a set, by port
abbrev pub first_packet : List (Option (Stamped Plain)) → Option (Stamped Plain)
first_packet [] = None
first_packet (None ∷ places) = first_packet places
first_packet (Some p ∷ places) = Some p

-- Merge: the present packet of lowest index goes on
abbrev pub merge : List Plain → List (Option (Stamped Plain)) → Answer
merge state set = Ok (state, emission_of (first_packet set ∷ []))

-- the next valid timestamp after a packet that passes at t: a period later. It is OneOverPostStream if that is past Max or t isn't of
-- the range.
abbrev pub valid_after : ℤ → ℕ → ℕ
valid_after period t = if is_in_range t then unwrap_or (time_of (raw_of t +ℤ period)) one_over_post_stream else one_over_post_stream

-- what a thinner gives to its packet at t. The packet passes if t is at least the next valid timestamp, which then moves on. The output
-- is raised to the next valid timestamp.
abbrev pub thinned : ℤ → List Plain → ℕ → Stamped Plain → Answer
thinned period state t p =
    if nat_le (next_valid state) t
    then Ok (state_of (raw_of (valid_after period t)), record { packets = p ∷ []; bound = Some (valid_after period t) } ∷ [])
    else Ok (state, record { packets = []; bound = Some (next_valid state) } ∷ [])

-- Thin: at most one packet in a period passes; without a packet nothing happens
abbrev pub thin : ℤ → List Plain → ℕ → List (Option (Stamped Plain)) → Answer
thin period state t set = unwrap_or (option_map (thinned period state t) (place_at set 0)) (Ok (state, []))
