-- What waits at a loopback, after the page of PreviousLoopbackCalculator in the MediaPipe framework, and how the next
-- packet of MAIN is answered. Definitions see the two queues, and the time of the packet of MAIN that was answered last.
use Rattle.std.specs.Prelude.{◌≡◌, ℕ, Bool, true, List, length, filter, Option, Some, None, option_map, unwrap_or, is_some, slice_get, ◌+◌, ◌-◌, ◌==◌, nat_lt, nat_le, if◌then◌else◌}
use Rattle.mg_value.specs.Payload.{Plain}
use Rattle.mg_value.specs.Packet.{Stamped}
use Rattle.mg_settled.specs.Prefix.{first_time}
use Rattle.mg_settled.specs.Settled.{packet_at}
use Rattle.mg_settled.specs.Loopback.{Reply}
use Rattle.mg_stream.specs.Queue.{Waiting, IsLike, empty_queue, popped}
use Rattle.mg_loopback.specs.declared.answered.Answered.{Answered}
use Rattle.mg_loopback.specs.declared.answered.Answered.TheVariants.{Packet, Silent, NotYet}

-- what a loopback holds: the queues of LOOP and MAIN, and the time of the last answered packet of MAIN. That packet is the
-- predecessor of the next one
pub record Held (X : Type 0) : Type 0 where
  pub loop : Waiting X
  pub main : Waiting X
  pub previous : Option ℕ

-- the queue of a port: 0 is LOOP, and 1 is MAIN
abbrev pub queue_at : {X : Type 0} → ℕ → Held X → Waiting X
queue_at port held = if port == 0 then held.loop else held.main

-- two loopbacks differ only in the queue of a port: the other port has the same queue, and the predecessor is the same
pub record DifferOnlyAt {X : Type 0} (port : ℕ) (held other : Held X) : Type 0 where
  pub queue : queue_at (1 - port) held ≡ queue_at (1 - port) other
  pub previous : held.previous ≡ other.previous

-- whether the next packet of MAIN may be answered: it has no predecessor, or its predecessor's time is below LOOP's bound
abbrev pub is_settled : {X : Type 0} → Held X → Bool
is_settled held = unwrap_or (option_map (λ t. nat_lt t held.loop.bound) held.previous) true

-- the value of the packet exactly at a time, if there are both
abbrev pub value_at : {X : Type 0} → Option ℕ → List (Stamped X) → Option X
value_at None ps = None
value_at (Some t) ps = option_map (λ p. p.value) (packet_at t ps)

-- the answer to the first packet of MAIN, if one waits that may be answered. The answer is at that packet's time: what LOOP has
-- exactly at the predecessor's time, or nothing
abbrev pub next_reply : {X : Type 0} → Held X → Option (Reply X)
next_reply held =
    if is_settled held
    then option_map (λ p. record { at = p.at; value = value_at held.previous held.loop.packets }) (slice_get held.main.packets 0)
    else None

-- a queue without the packets at or below a time, which leave room for as many others
abbrev pub without : {X : Type 0} → Option ℕ → Waiting X → Waiting X
without None q = q
without (Some t) q = record {
  gone = q.gone + length (filter (λ p. nat_le p.at t) q.packets);
  packets = filter (λ p. nat_lt t p.at) q.packets;
  bound = q.bound;
  spare = q.spare + length (filter (λ p. nat_le p.at t) q.packets);
}

-- what is held once the first packet of MAIN is answered. That packet is gone, and becomes the predecessor of the next one. The
-- packets of LOOP at or below the time of its own predecessor are gone
abbrev pub replied : {X : Type 0} → Held X → Held X
replied held = record {
  loop = without held.previous held.loop;
  main = popped held.main;
  previous = option_map (λ p. p.at) (slice_get held.main.packets 0);
}

-- what is held after an answer, or as before if no answer can be given yet
abbrev pub after_answer : {X : Type 0} → Held X → Held X
after_answer held = if is_some (next_reply held) then replied held else held

-- how an answer at a time is told: as a packet, or as the time alone if there is nothing
abbrev pub told_at : ℕ → Option Plain → Answered
told_at t None = Silent t
told_at t (Some v) = Packet (record { at = t; value = v })

-- how an answer is told, or that there is none yet
abbrev pub told : Option (Reply Plain) → Answered
told None = NotYet
told (Some r) = told_at r.at r.value

-- how far the output stream is told: up to the time of the first packet of MAIN that waits, or to MAIN's bound
abbrev pub reached : {X : Type 0} → Held X → ℕ
reached held = first_time held.main.packets held.main.bound

-- a loopback to which nothing came yet
pub record IsFresh {X : Type 0} (held : Held X) : Type 0 where
  pub loop : IsLike held.loop empty_queue
  pub main : IsLike held.main empty_queue
  pub previous : held.previous ≡ None

-- two loopbacks have as many packets gone on both ports, and the same predecessor
pub record IsAsFar {X : Type 0} (held other : Held X) : Type 0 where
  pub main : held.main.gone ≡ other.main.gone
  pub loop : held.loop.gone ≡ other.loop.gone
  pub previous : held.previous ≡ other.previous
