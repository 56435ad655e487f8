-- What the code tests of a free node and does to what is kept of it.
use Rattle.std.specs.Prelude.{ℕ, ◌+◌, ◌-◌, ◌<◌, Bool, not, ◌&&◌, ◌==◌, nat_lt, List, [], length, if◌then◌else◌}
use Rattle.mg_time.specs.Time.{post_stream, next}
use Rattle.mg_value.specs.Payload.{Plain}
use Rattle.mg_value.specs.Packet.{Stamped}
use Rattle.mg_settled.specs.Prefix.{appended, raised}
use Rattle.mg_free.specs.declared.law.FreeLaw.{FreeLaw}
use Rattle.mg_free.specs.declared.law.FreeLaw.TheVariants.{FirstCome, Limiter}
use Rattle.mg_free.specs.Free.{Arrival, FreeRest, can_follow, risen}

-- one more packet may be in flight, as Limiter allows
abbrev pub HasRoom : FreeLaw → ℕ → Type 0
HasRoom (FirstCome lanes) count = Unit {0}
HasRoom (Limiter most) count = count < most

-- whether a packet at a time can still be laid on the output, after what is kept. At PostStream it can be laid only if nothing was
-- handed on.
abbrev pub can_go_behind : FreeRest → ℕ → Bool
can_go_behind rest at = can_follow rest.piece at && not ((at == post_stream) && nat_lt 0 rest.handed)

-- whether an arrival is laid
abbrev pub lays_on : FreeLaw → FreeRest → Arrival Plain → Bool
lays_on (FirstCome lanes) rest arrival = can_go_behind rest arrival.packet.at
lays_on (Limiter most) rest arrival = (arrival.port == 0) && nat_lt rest.in_flight most

-- what is kept once a packet is laid
abbrev pub rest_laid : FreeLaw → FreeRest → Stamped Plain → FreeRest
rest_laid law rest packet = record { piece = appended rest.piece packet; handed = rest.handed; in_flight = risen law rest.in_flight }

-- what is kept after an arrival that isn't laid
abbrev pub rest_passed : FreeLaw → FreeRest → Arrival Plain → FreeRest
rest_passed (FirstCome lanes) rest arrival = rest
rest_passed (Limiter most) rest arrival =
    if arrival.port == 0
    then record { piece = raised rest.piece (next arrival.packet.at); handed = rest.handed; in_flight = rest.in_flight }
    else record { piece = rest.piece; handed = rest.handed; in_flight = rest.in_flight - 1 }

-- what is kept after an arrival
abbrev pub rest_arrived : FreeLaw → FreeRest → Arrival Plain → FreeRest
rest_arrived law rest arrival = if lays_on law rest arrival then rest_laid law rest arrival.packet else rest_passed law rest arrival

-- what is kept once all that was laid is handed on: the bound, and how many packets there were
abbrev pub rest_handed : FreeRest → FreeRest
rest_handed rest = record { piece = record { packets = []; bound = rest.piece.bound }; handed = rest.handed + length rest.piece.packets; in_flight = rest.in_flight }
