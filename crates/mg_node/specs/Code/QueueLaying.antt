-- Laying at the ends of the outputs' queues: what the code does to each queue, and what that is in whole.
use Rattle.std.specs.Prelude.{◌≡◌, ℕ, ℤ, ◌+◌, ◌-◌, ◌<◌, ◌≤◌, List, [], ◌∷◌, ◌++◌, length, map, Option, Some, None, IfSome, Result, Ok, Err, slice_index_or, ⊤}
use Rattle.std.specs.List.{AllZip}
use Rattle.mg_time.specs.Time.{next, done, shift}
use Rattle.mg_value.specs.Payload.{Plain}
use Rattle.mg_value.specs.Packet.{Stamped}
use Rattle.mg_settled.specs.Prefix.{StreamPrefix}
use Rattle.mg_stream.specs.Queue.{Waiting, StandsFor, MayCome, empty_queue, raised_to}
use Rattle.mg_calc.specs.declared.cause.Cause.{Cause}
use Rattle.mg_calc.specs.declared.emission.Laid.{Laid}
use Rattle.mg_calc.specs.declared.node_fault.Phase.{Phase}
use Rattle.mg_calc.specs.declared.node_fault.Phase.TheVariants.{Process, Close}
use Rattle.mg_route.specs.Reasons.{reason_of}
use Rattle.mg_node.specs.Commits.{laid_by, outputs_by}

-- queues stand for these prefixes, in whole
abbrev pub Stand : List (Waiting Plain) → List (StreamPrefix Plain) → Type 0
Stand queues whole = AllZip StandsFor queues whole

-- queues stand for some prefixes, in whole
pub record StandForSome (queues : List (Waiting Plain)) : Type 0 where
  pub whole : List (StreamPrefix Plain)
  pub stand : Stand queues whole

-- a queue with a packet after those that wait; the packet takes a place of its room
abbrev pub appended : Waiting Plain → Stamped Plain → Waiting Plain
appended q p = record { gone = q.gone; packets = q.packets ++ p ∷ []; bound = next p.at; spare = q.spare - 1 }

-- a queue with packets after those that wait, one after the other
abbrev pub all_appended : Waiting Plain → List (Stamped Plain) → Waiting Plain
all_appended q [] = q
all_appended q (p ∷ ps) = all_appended (appended q p) ps

-- a queue may take packets one after the other, and has room for them
abbrev pub MayAllCome : Waiting Plain → List (Stamped Plain) → Type 0
MayAllCome q [] = ⊤
MayAllCome q (p ∷ ps) = MayCome q p.at × (0 < q.spare) × MayAllCome (appended q p) ps

-- a queue raised to a bound, if there is one
abbrev pub perhaps_raised : Option ℕ → Waiting Plain → Waiting Plain
perhaps_raised None q = q
perhaps_raised (Some bound) q = raised_to q bound

-- a queue with what is emitted at its output
abbrev pub with_part : Waiting Plain → Laid → Waiting Plain
with_part q laid = perhaps_raised laid.bound (all_appended q laid.packets)

-- an emission may be laid: the packets of each part may come, and there is room for them
abbrev pub MayBeLaid : List (Waiting Plain) → List Laid → Type 0
MayBeLaid queues [] = ⊤
MayBeLaid [] (laid ∷ emission) = ⊤
MayBeLaid (q ∷ queues) (laid ∷ emission) = MayAllCome q laid.packets × MayBeLaid queues emission

-- what is emitted at an output, of its packets and its bound
abbrev pub part_of : List (Stamped Plain) → Option ℕ → Laid
part_of packets bound = record { packets = packets; bound = bound }

-- the bound of what is emitted at an output, if it has one, is a time
abbrev pub HasTime : Laid → Type 0
HasTime laid = IfSome laid.bound (λ b. b ≤ done)

-- the queues of a node raised to a time moved by its offset, if it has one
abbrev pub raised_queues : Option ℤ → ℕ → List (Waiting Plain) → List (Waiting Plain)
raised_queues None at queues = queues
raised_queues (Some offset) at queues = map (λ q. raised_to q (shift at offset)) queues

-- the queues as they are before an answer of a phase is laid
abbrev pub queues_before : Option ℤ → Phase → List (Waiting Plain) → List (Waiting Plain)
queues_before offset (Process at) queues = raised_queues offset at queues
queues_before offset Close queues = raised_queues offset done queues
queues_before offset phase queues = queues

-- a queue that is closed
abbrev pub closed_queue : Waiting Plain → Waiting Plain
closed_queue q = record q { bound = done }

-- the queues after a phase: after Close they are closed
abbrev pub queues_after : Phase → List (Waiting Plain) → List (Waiting Plain)
queues_after Close queues = map closed_queue queues
queues_after phase queues = queues

-- the time of a phase, if it has one
abbrev pub IsTimed : Phase → Type 0
IsTimed (Process at) = at ≤ done
IsTimed phase = ⊤

-- how many packets an emission has at an output
abbrev pub packets_in : ℕ → List Laid → ℕ
packets_in output emission = length (slice_index_or emission output (record { packets = []; bound = None })).packets

-- how many packets an answer has at an output
abbrev pub packets_by : ℕ → Result (List Laid) Cause → ℕ
packets_by output (Ok emission) = packets_in output emission
packets_by output (Err cause) = 0

-- the room of an output
abbrev pub room_at : ℕ → List (Waiting Plain) → ℕ
room_at output queues = (slice_index_or queues output empty_queue).spare

-- at each output there is room for the packets of an answer
abbrev pub HasRoomFor : List (Waiting Plain) → Result (List Laid) Cause → Type 0
HasRoomFor queues answer = (output : ℕ) → output < length queues → packets_by output answer ≤ room_at output queues

-- an answer is laid at the ends of queues, once `first` has changed their prefixes, or `cause` is why it can't be laid. This holds for all
-- whole prefixes that the queues stood for. No packet was given up, and no more room is taken than the answer has packets.
pub record IsLaid (offset : Option ℤ) (phase : Phase) (first : List (StreamPrefix Plain) → List (StreamPrefix Plain)) (answer : Result (List Laid) Cause) (before now : List (Waiting Plain)) (cause : Option Cause) : Type 0 where
  pub laid : (whole : List (StreamPrefix Plain)) → Stand before whole → (cause ≡ reason_of (laid_by offset phase (first whole) answer)) × Stand now (outputs_by (first whole) (laid_by offset phase (first whole) answer))
  pub gone : map (λ q. q.gone) now ≡ map (λ q. q.gone) before
  pub room : (output : ℕ) → output < length before → room_at output before ≤ room_at output now + packets_by output answer
