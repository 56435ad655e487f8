-- The law of free nodes, after the page Real-time Streams of the MediaPipe framework. What such a node lays depends on the order in
-- which packets arrive at it, so it has no equation. It takes arrivals one by one. Each arrival is a port and a packet.
use Rattle.std.specs.Prelude.{◌≡◌, ℕ, ◌+◌, ◌-◌, ◌≤◌, ◌<◌, Bool, not, ◌&&◌, ◌==◌, nat_lt, nat_le, List, ◌++◌, length, if◌then◌else◌}
use Rattle.mg_time.specs.Time.{post_stream, IsAllowed, next}
use Rattle.mg_value.specs.Payload.{Plain}
use Rattle.mg_value.specs.Packet.{Stamped}
use Rattle.mg_settled.specs.Prefix.{StreamPrefix, empty_prefix, appended, raised}
use Rattle.mg_free.specs.declared.law.FreeLaw.{FreeLaw}
use Rattle.mg_free.specs.declared.law.FreeLaw.TheVariants.{FirstCome, Limiter}

-- an arrival: a port, and the packet that arrives there
pub record Arrival (X : Type 0) : Type 0 where
  pub port : ℕ
  pub packet : Stamped X

-- the flow of a free node: what is known of its output, and how many packets are in flight
pub record Flow (X : Type 0) : Type 0 where
  pub output : StreamPrefix X
  pub in_flight : ℕ

-- the flow at first: the output is empty, and nothing is in flight
abbrev pub begun : {X : Type 0} → Flow X
begun = record { output = empty_prefix; in_flight = 0 }

-- how many ports a law has; those of Limiter are the stream that is limited, and FINISHED
abbrev pub ports_of : FreeLaw → ℕ
ports_of (FirstCome lanes) = lanes
ports_of (Limiter most) = 2

-- a packet can still be laid on an output: it isn't below the bound, and at PostStream it is the first of all
abbrev pub can_follow : {X : Type 0} → StreamPrefix X → ℕ → Bool
can_follow output at = nat_le output.bound at && not ((at == post_stream) && nat_lt 0 (length output.packets))

-- whether an arrival is laid. FirstCome lays it if it can still be laid. Limiter lays it if it arrives at the first port and fewer
-- packets are in flight than may be.
abbrev pub is_laid : {X : Type 0} → FreeLaw → Flow X → Arrival X → Bool
is_laid (FirstCome lanes) flow arrival = can_follow flow.output arrival.packet.at
is_laid (Limiter most) flow arrival = (arrival.port == 0) && nat_lt flow.in_flight most

-- how many packets are in flight once a further one is laid: with Limiter one more
abbrev pub risen : FreeLaw → ℕ → ℕ
risen (FirstCome lanes) count = count
risen (Limiter most) count = count + 1

-- the flow once a packet is laid
abbrev pub with_laid : {X : Type 0} → FreeLaw → Flow X → Stamped X → Flow X
with_laid law flow packet = record { output = appended flow.output packet; in_flight = risen law flow.in_flight }

-- the flow after an arrival that isn't laid. FirstCome drops it. Limiter drops a packet of the first port, and raises its output to the
-- next time after that packet. A packet of FINISHED leaves one packet less in flight, if any is.
abbrev pub without_laid : {X : Type 0} → FreeLaw → Flow X → Arrival X → Flow X
without_laid (FirstCome lanes) flow arrival = flow
without_laid (Limiter most) flow arrival =
    if arrival.port == 0
    then record { output = raised flow.output (next arrival.packet.at); in_flight = flow.in_flight }
    else record { output = flow.output; in_flight = flow.in_flight - 1 }

-- the free law: the flow after an arrival
abbrev pub arrived : {X : Type 0} → FreeLaw → Flow X → Arrival X → Flow X
arrived law flow arrival = if is_laid law flow arrival then with_laid law flow arrival.packet else without_laid law flow arrival

-- an arrival at the first port of Limiter, whose packets come in order, can still be laid on the output
abbrev pub IsInTime : {X : Type 0} → FreeLaw → Flow X → Arrival X → Type 0
IsInTime (FirstCome lanes) flow arrival = Unit {0}
IsInTime (Limiter most) flow arrival = arrival.port ≡ 0 → (flow.output.bound ≤ arrival.packet.at) × (arrival.packet.at ≡ post_stream → length flow.output.packets ≡ 0)

-- an arrival may come: the node has the port, and a packet may stand at the time. At the first port of Limiter, the packet can also
-- still be laid.
pub record MayArrive {X : Type 0} (law : FreeLaw) (flow : Flow X) (arrival : Arrival X) : Type 0 where
  pub port : arrival.port < ports_of law
  pub allowed : IsAllowed arrival.packet.at
  pub in_time : IsInTime law flow arrival

-- What is kept of a free node: the packets of its output that weren't handed on yet, and the output's bound. Also kept is how many
-- packets were handed on before these, and how many are in flight.
pub record FreeRest : Type 0 where
  pub piece : StreamPrefix Plain
  pub handed : ℕ
  pub in_flight : ℕ

-- what is kept at first: nothing was laid
abbrev pub nothing_laid : FreeRest
nothing_laid = record { piece = empty_prefix; handed = 0; in_flight = 0 }

-- What is kept is of this flow. The output's packets are those that were handed on, which are gone, and then those that are kept.
pub record IsRestOf (flow : Flow Plain) (rest : FreeRest) : Type 0 where
  pub gone : List (Stamped Plain)
  pub packets : flow.output.packets ≡ gone ++ rest.piece.packets
  pub count : rest.handed ≡ length gone
  pub bound : flow.output.bound ≡ rest.piece.bound
  pub flight : flow.in_flight ≡ rest.in_flight

-- the state of a free node: its law, and what is kept of it
pub record FreeStanding : Type 0 where
  pub law : FreeLaw
  pub rest : FreeRest
