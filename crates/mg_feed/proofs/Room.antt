-- Room in streams, and packets that are laid there.
use Rattle.std.proofs.Common.{◌≡◌, ◌<◌, ◌≤◌, ◌+◌, ℕ, zero, suc, List, [], ◌∷◌, ◌++◌, true, Option, Some, None, length, get_or, unwrap_or, vec_len, refl, ap, ◌∙◌, subst, arith}
use Rattle.std.proofs.Math.ListN.{set}
use Rattle.mg_value.specs.Payload.{Plain}
use Rattle.mg_value.specs.Packet.{Stamped}
use Rattle.mg_settled.specs.Prefix.{StreamPrefix, appended}
use Rattle.mg_feed.specs.Graph.{GraphInputs, place_of}
use Rattle.std.specs.List.{list_all}
use Rattle.serde_json.specs.Data.{Data}
use Rattle.mg_feed.specs.Form.{Named, packets, time_of}
use Rattle.mg_feed.specs.Accepted.{stepped_at, with_packets, with_form, is_stream, first_refusal, several_refusals, form_refusals}
use Rattle.mg_feed.specs.View.{View, before_seen, with_streams, with_given}
use Rattle.mg_feed.specs.Value.{plain_of}
use Rattle.mg_feed.specs.Code.Due.{packets_room, RoomIn, HasRoom, AllRoom, with_due, AreDue}
use Rattle.mg_feed.specs.declared.feed_stream.FeedStream.{FeedStream}
use Rattle.mg_feed.specs.declared.due.Due.{Due}

-- one stream is written
pub room-here : (n : ℕ) (ss : List FeedStream) (i : ℕ) (y : FeedStream) → vec_len y.packets + n ≤ packets_room y → RoomIn n (set ss i y) i
room-here n [] i y room = tt
room-here n (s ∷ ss) zero y room = room
room-here n (s ∷ ss) (suc i) y room = room-here n ss i y room

pub room-past : (n : ℕ) (ss : List FeedStream) (i : ℕ) → length ss ≤ i → RoomIn n ss i
room-past n [] i past = tt
room-past n (s ∷ ss) zero past = absurd (omega arith)
room-past n (s ∷ ss) (suc i) past = room-past n ss i (omega arith)

pub room-there : (n : ℕ) (ss : List FeedStream) (i : ℕ) (d : FeedStream) → i < length ss → RoomIn n ss i → vec_len (get_or ss i d).packets + n ≤ packets_room (get_or ss i d)
room-there n [] i d lt room = absurd (omega arith)
room-there n (s ∷ ss) zero d lt room = room
room-there n (s ∷ ss) (suc i) d lt room = room-there n ss i d (omega arith) room

-- if another stream has room for m packets before, it has room for n afterwards
pub room-after : (m n : ℕ) (ss : List FeedStream) (i j : ℕ) (y d : FeedStream) → n ≤ m
    → (vec_len (get_or ss i d).packets + m ≤ packets_room (get_or ss i d) → vec_len y.packets + n ≤ packets_room y)
    → RoomIn m ss j → RoomIn n (set ss i y) j
room-after m n [] i j y d le new room = tt
room-after m n (s ∷ ss) zero zero y d le new room = new room
room-after m n (s ∷ ss) zero (suc j) y d le new room = room-less m n ss j le room
  where
    room-less : (m n : ℕ) (ss : List FeedStream) (j : ℕ) → n ≤ m → RoomIn m ss j → RoomIn n ss j
    room-less m n [] j le room = tt
    room-less m n (s ∷ ss) zero le room = omega arith
    room-less m n (s ∷ ss) (suc j) le room = room-less m n ss j le room
room-after m n (s ∷ ss) (suc i) zero y d le new room = omega arith
room-after m n (s ∷ ss) (suc i) (suc j) y d le new room = room-after m n ss i j y d le new room

pub room-fewer : (n : ℕ) (ss : List FeedStream) (p : Option ℕ) → HasRoom (n + 1) ss p → HasRoom n ss p
room-fewer n ss None room = tt
room-fewer n ss (Some j) room = fewer n ss j room
  where
    fewer : (n : ℕ) (ss : List FeedStream) (j : ℕ) → RoomIn (n + 1) ss j → RoomIn n ss j
    fewer n [] j room = tt
    fewer n (s ∷ ss) zero room = omega arith
    fewer n (s ∷ ss) (suc j) room = fewer n ss j room

pub has_room-after : (m n : ℕ) (ss : List FeedStream) (i : ℕ) (p : Option ℕ) (y d : FeedStream) → n ≤ m
    → (vec_len (get_or ss i d).packets + m ≤ packets_room (get_or ss i d) → vec_len y.packets + n ≤ packets_room y)
    → HasRoom m ss p → HasRoom n (set ss i y) p
has_room-after m n ss i None y d le new room = tt
has_room-after m n ss i (Some j) y d le new room = room-after m n ss i j y d le new room

-- one at least
pub room-one : (n : ℕ) (ss : List FeedStream) (p : Option ℕ) → 1 ≤ n → HasRoom n ss p → HasRoom 1 ss p
room-one n ss None le room = tt
room-one n ss (Some j) le room = one n ss j le room
  where
    one : (n : ℕ) (ss : List FeedStream) (j : ℕ) → 1 ≤ n → RoomIn n ss j → RoomIn 1 ss j
    one n [] j le room = tt
    one n (s ∷ ss) zero le room = omega arith
    one n (s ∷ ss) (suc j) le room = one n ss j le room

-- all packets have room, if their streams are changed so
pub all_room-after : (m n : ℕ) (ss tt' : List FeedStream) (ds : List Due) → ((p : Option ℕ) → HasRoom m ss p → HasRoom n tt' p) → AllRoom m ss ds → AllRoom n tt' ds
all_room-after m n ss tt' [] step room = tt
all_room-after m n ss tt' (d ∷ ds) step room = (step d.place room.0, all_room-after m n ss tt' ds step room.1)

pub all_room-push : (n : ℕ) (ss : List FeedStream) (ds : List Due) (d : Due) → AllRoom n ss ds → HasRoom n ss d.place → AllRoom n ss (ds ++ d ∷ [])
all_room-push n ss [] d room one = (one, tt)
all_room-push n ss (e ∷ ds) d room one = (room.0, all_room-push n ss ds d room.1 one)

-- the packets of named values, laid
laid-due-by : (graph : GraphInputs) (time : Option ℕ) (vs : List Named) (ds : List Due) (ss : List (StreamPrefix Plain)) → AreDue graph time vs ds
    → with_due ds ss ≡ with_packets graph (unwrap_or time 0) vs ss
laid-due-by graph time [] [] ss due = refl
laid-due-by graph time [] (d ∷ ds) ss due = absurd due
laid-due-by graph time (v ∷ vs) [] ss due = absurd due
laid-due-by graph time (v ∷ vs) (d ∷ ds) ss due =
    laid-due-by graph time vs ds (stepped_at d.place (λ s. appended s d.packet) ss) due.2
    ∙ ap (λ (p : Option ℕ). with_packets graph (unwrap_or time 0) vs (stepped_at p (λ s. appended s d.packet) ss)) due.0
    ∙ ap (λ (q : Stamped Plain). with_packets graph (unwrap_or time 0) vs (stepped_at (place_of graph.streams v.name) (λ s. appended s q) ss)) due.1

pub laid-due : (graph : GraphInputs) (time : Option ℕ) (vs : List Named) (ds : List Due) (ss : List (StreamPrefix Plain)) → AreDue graph time vs ds
    → with_due ds ss ≡ with_packets graph (unwrap_or time 0) vs ss
laid-due = laid-due-by

pub due-push : (graph : GraphInputs) (time : Option ℕ) (vs : List Named) (ds : List Due) (v : Named) (d : Due) → AreDue graph time vs ds
    → d.place ≡ place_of graph.streams v.name → d.packet ≡ record { at = unwrap_or time 0; value = plain_of v.value }
    → AreDue graph time (vs ++ v ∷ []) (ds ++ d ∷ [])
due-push graph time [] [] v d due place packet = (place, packet, tt)
due-push graph time [] (e ∷ ds) v d due place packet = absurd due
due-push graph time (u ∷ vs) [] v d due place packet = absurd due
due-push graph time (u ∷ vs) (e ∷ ds) v d due place packet = (due.0, due.1, due-push graph time vs ds v d due.2 place packet)

-- once one packet is laid, the other packets have room
pub room-next : (ss tt' : List FeedStream) (items rest : List Due) (d : Due) → items ≡ d ∷ rest → AllRoom (length items) ss items
    → ((n : ℕ) (p : Option ℕ) → HasRoom (n + 1) ss p → HasRoom n tt' p) → AllRoom (length rest) tt' rest
room-next ss tt' items rest d cut room step =
    let all : AllRoom (length (d ∷ rest)) ss (d ∷ rest) = subst (λ (l : List Due). AllRoom (length l) ss l) cut room in
    let more : length (d ∷ rest) ≡ length rest + 1 = omega arith in
    all_room-after (length rest + 1) (length rest) ss tt' rest (step (length rest)) (subst (λ (n : ℕ). AllRoom n ss rest) more all.1)

pub room-first : (ss : List FeedStream) (items rest : List Due) (d : Due) → items ≡ d ∷ rest → AllRoom (length items) ss items → HasRoom 1 ss d.place
room-first ss items rest d cut room =
    let all : AllRoom (length (d ∷ rest)) ss (d ∷ rest) = subst (λ (l : List Due). AllRoom (length l) ss l) cut room in
    room-one (length (d ∷ rest)) ss d.place (omega arith) all.0

-- all packets of a line are laid
pub packets-heard : (old new : View) (t : Data) (vs : List Named) (due : List Due)
    → list_all (λ v. is_stream (before_seen old) v.name) vs ≡ true → first_refusal (several_refusals (before_seen old) (time_of t) vs) ≡ None
    → AreDue old.graph (time_of t) vs due → new ≡ with_streams old (with_due due old.given.streams)
    → (first_refusal (form_refusals (before_seen old) (packets t vs)) ≡ None) × (new ≡ with_given old (with_form old.graph old.given (packets t vs)))
packets-heard old new t vs due known none are is =
    (rw known none, is ∙ ap (with_streams old) (laid-due old.graph (time_of t) vs due old.given.streams are))
