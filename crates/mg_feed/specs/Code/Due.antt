-- Packets of one line, each with the place of its stream.
use Rattle.std.specs.Prelude.{◌≡◌, ◌≤◌, ◌+◌, ⊤, ℕ, zero, suc, List, [], ◌∷◌, Option, None, Some, vec_len, vec_capacity, unwrap_or, min}
use Rattle.mg_value.specs.Payload.{Plain}
use Rattle.mg_settled.specs.Prefix.{StreamPrefix, appended}
use Rattle.mg_feed.specs.Graph.{GraphInputs, place_of}
use Rattle.mg_feed.specs.Form.{Named}
use Rattle.mg_feed.specs.Value.{plain_of}
use Rattle.mg_feed.specs.Accepted.{stepped_at}
use Rattle.mg_feed.specs.declared.feed_stream.FeedStream.{FeedStream}
use Rattle.mg_feed.specs.declared.due.Due.{Due}
use Rattle.mg_feed.specs.declared.streams.TheConstants.{MOST_PACKETS}

-- how many packets a stream has room for, with those that it has
abbrev pub packets_room : FeedStream → ℕ
packets_room s = min (vec_capacity s.packets) MOST_PACKETS

-- the stream at this place, if there is one, has room for so many further packets
abbrev pub RoomIn : ℕ → List FeedStream → ℕ → Type 0
RoomIn n [] place = ⊤
RoomIn n (s ∷ ss) zero = vec_len s.packets + n ≤ packets_room s
RoomIn n (s ∷ ss) (suc place) = RoomIn n ss place

-- the stream at this place, if there is a place, has room for so many further packets
abbrev pub HasRoom : ℕ → List FeedStream → Option ℕ → Type 0
HasRoom n ss None = ⊤
HasRoom n ss (Some place) = RoomIn n ss place

-- the stream of each packet has room for so many further packets
abbrev pub AllRoom : ℕ → List FeedStream → List Due → Type 0
AllRoom n ss [] = ⊤
AllRoom n ss (d ∷ ds) = HasRoom n ss d.place × AllRoom n ss ds

-- the streams after each packet was put at the end of its stream
abbrev pub with_due : List Due → List (StreamPrefix Plain) → List (StreamPrefix Plain)
with_due [] ss = ss
with_due (d ∷ ds) ss = with_due ds (stepped_at d.place (λ s. appended s d.packet) ss)

-- the packets are those that a line's named values make at a time
abbrev pub AreDue : GraphInputs → Option ℕ → List Named → List Due → Type 0
AreDue graph time [] [] = ⊤
AreDue graph time [] (d ∷ ds) = ⊥
AreDue graph time (v ∷ vs) [] = ⊥
AreDue graph time (v ∷ vs) (d ∷ ds) =
    (d.place ≡ place_of graph.streams v.name) × (d.packet ≡ record { at = unwrap_or time 0; value = plain_of v.value }) × AreDue graph time vs ds
