-- Laying: how the emission of a calculator's call is appended to the node's output streams. It follows the pages Calculators and
-- Synchronization of the MediaPipe framework. Definitions speak of the whole prefixes of these streams, one per output.
use Rattle.std.specs.Prelude.{ℕ, ℤ, Bool, true, false, not, ◌&&◌, ◌==◌, nat_lt, nat_le, List, [], ◌∷◌, length, map, min, Option, Some, None, Result, Ok, Err, if◌then◌else◌}
use Rattle.mg_time.specs.Time.{pre_stream, post_stream, done, shift}
use Rattle.mg_value.specs.Payload.{Plain}
use Rattle.mg_value.specs.Packet.{Stamped}
use Rattle.mg_settled.specs.Prefix.{StreamPrefix, appended, raised}
use Rattle.mg_calc.specs.declared.cause.Cause.{Cause}
use Rattle.mg_calc.specs.declared.cause.Cause.TheVariants.{NotAllowed, NotAscending, NotAlone, BelowOffset, EmitsInClose}
use Rattle.mg_calc.specs.declared.emission.Laid.{Laid}
use Rattle.mg_calc.specs.declared.node_fault.Phase.{Phase}
use Rattle.mg_calc.specs.declared.node_fault.Phase.TheVariants.{Process, Close}

-- whether a packet may carry a timestamp
abbrev pub is_allowed : ℕ → Bool
is_allowed at = nat_le pre_stream at && nat_le at post_stream

-- whether a packet at a set stands below what a node's offset promises: that packets stand at the set's time plus the offset or above
abbrev pub is_below_offset : Option ℤ → Phase → ℕ → Bool
is_below_offset (Some offset) (Process set_at) at = nat_lt at (shift set_at offset)
is_below_offset offset phase at = false

-- whether a node may emit nothing: a node with an offset promises that for Close
abbrev pub is_bound_to_silence : Option ℤ → Phase → Bool
is_bound_to_silence (Some offset) Close = true
is_bound_to_silence offset phase = false

-- whether a packet would stand at PostStream after others of its output, where it has to be the only one
abbrev pub is_not_alone : List (Stamped Plain) → ℕ → Bool
is_not_alone packets at = (at == post_stream) && nat_lt 0 (length packets)

-- why a packet can't be appended to an output, the first reason in this order, if there is one
abbrev pub laying_fault : Option ℤ → Phase → StreamPrefix Plain → Stamped Plain → Option Cause
laying_fault offset phase output packet =
    if not (is_allowed packet.at) then Some NotAllowed
    else (if is_below_offset offset phase packet.at then Some BelowOffset
    else (if is_bound_to_silence offset phase then Some EmitsInClose
    else (if nat_lt packet.at output.bound then Some NotAscending
    else (if is_not_alone output.packets packet.at then Some NotAlone
    else None))))

-- the given result if there is no cause against it, or the cause
abbrev pub unless : {A : Type 0} → Option Cause → Result A Cause → Result A Cause
unless (Some cause) answer = Err cause
unless None answer = answer

-- what a function makes of the value of a result, or the result's cause
abbrev pub after : {A B : Type 0} → Result A Cause → (A → Result B Cause) → Result B Cause
after (Err cause) make = Err cause
after (Ok value) make = make value

-- an output with packets appended, one after the other, or the cause against the first that can't be appended
abbrev pub with_packets : Option ℤ → Phase → StreamPrefix Plain → List (Stamped Plain) → Result (StreamPrefix Plain) Cause
with_packets offset phase output [] = Ok output
with_packets offset phase output (packet ∷ packets) =
    unless (laying_fault offset phase output packet) (with_packets offset phase (appended output packet) packets)

-- an output raised to a bound, if there is one; no bound raises it past Done, the end of all times
abbrev pub raised_to : Option ℕ → StreamPrefix Plain → StreamPrefix Plain
raised_to None output = output
raised_to (Some bound) output = raised output (min bound done)

-- an output with what is emitted there laid on it, first the packets and then the bound, or the cause against a packet
abbrev pub with_laid : Option ℤ → Phase → StreamPrefix Plain → Laid → Result (StreamPrefix Plain) Cause
with_laid offset phase output laid =
    after (with_packets offset phase output laid.packets) (λ longer. Ok (raised_to laid.bound longer))

-- the outputs with an emission laid on them, an entry for each, or the first cause against it in the order of the outputs. An emission
-- without entries lays nothing.
abbrev pub laid_behind : Option ℤ → Phase → List (StreamPrefix Plain) → List Laid → Result (List (StreamPrefix Plain)) Cause
laid_behind offset phase outputs [] = Ok outputs
laid_behind offset phase [] (laid ∷ emission) = Ok []
laid_behind offset phase (output ∷ outputs) (laid ∷ emission) =
    after (with_laid offset phase output laid)
    (λ longer. after (laid_behind offset phase outputs emission) (λ others. Ok (longer ∷ others)))

-- the outputs of a node, raised to a bound moved by the node's offset; without an offset they stay
abbrev pub all_raised : Option ℤ → ℕ → List (StreamPrefix Plain) → List (StreamPrefix Plain)
all_raised None bound outputs = outputs
all_raised (Some offset) bound outputs = map (λ output. raised output (shift bound offset)) outputs
