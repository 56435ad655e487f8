-- A queue holds the packets of a stream that wait at one input, after the page Synchronization of the MediaPipe
-- framework. Definitions see how many packets are gone, the list that waits, the bound, and for how many more packets
-- there is room.
use Rattle.std.specs.Prelude.{◌≡◌, ℕ, ◌+◌, ◌≤◌, List, [], ◌∷◌, ◌++◌, length, take, drop, max, is_some, if◌then◌else◌}
use Rattle.mg_time.specs.Time.{pre_stream, post_stream, IsAllowed, next}
use Rattle.mg_value.specs.Packet.{Stamped}
use Rattle.mg_settled.specs.Prefix.{StreamPrefix, IsPrefix}
pub use Rattle.mg_settled.specs.FirstSet.{front_at}

-- a queue: how many packets are gone, those that wait, the bound, and for how many more packets there is room
pub record Waiting (X : Type 0) : Type 0 where
  pub gone : ℕ
  pub packets : List (Stamped X)
  pub bound : ℕ
  pub spare : ℕ

-- what waits, and the bound, as a prefix of the rest of the stream
abbrev pub rest_of : {X : Type 0} → Waiting X → StreamPrefix X
rest_of q = record { packets = q.packets; bound = q.bound }

-- how many packets came: those that are gone and those that wait
abbrev pub count_of : {X : Type 0} → Waiting X → ℕ
count_of q = q.gone + length q.packets

-- two queues differ in nothing but their room
pub record IsLike {X : Type 0} (q r : Waiting X) : Type 0 where
  pub gone : q.gone ≡ r.gone
  pub packets : q.packets ≡ r.packets
  pub bound : q.bound ≡ r.bound

-- a queue to which nothing came yet
abbrev pub empty_queue : {X : Type 0} → Waiting X
empty_queue = record { gone = 0; packets = []; bound = pre_stream; spare = 0 }

-- a queue stands for a prefix of its stream. As many first packets of the prefix are gone as the queue counts. The packets that
-- wait are the others, and the bound is the prefix's
pub record StandsFor {X : Type 0} (q : Waiting X) (s : StreamPrefix X) : Type 0 where
  pub prefix : IsPrefix s
  pub gone : q.gone ≤ length s.packets
  pub waiting : q.packets ≡ drop q.gone s.packets
  pub bound : q.bound ≡ s.bound

-- a packet may come at a time: the time is allowed and not below the bound, and at PostStream it is the first of all
pub record MayCome {X : Type 0} (q : Waiting X) (t : ℕ) : Type 0 where
  pub allowed : IsAllowed t
  pub above : q.bound ≤ t
  pub alone : t ≡ post_stream → count_of q ≡ 0

-- a queue with one more packet after those that wait
abbrev pub with_packet : {X : Type 0} → Waiting X → Stamped X → Waiting X
with_packet q p = record q { packets = q.packets ++ p ∷ []; bound = next p.at }

-- a queue raised to a bound
abbrev pub raised_to : {X : Type 0} → Waiting X → ℕ → Waiting X
raised_to q b = record q { bound = max q.bound b }

-- a queue without its first packet, and with room for one more
abbrev pub popped : {X : Type 0} → Waiting X → Waiting X
popped q = record { gone = q.gone + 1; packets = drop 1 q.packets; bound = q.bound; spare = q.spare + 1 }

-- a queue without its first packet if that packet stands at a time, and otherwise the queue itself
abbrev pub popped_at : {X : Type 0} → ℕ → Waiting X → Waiting X
popped_at t q = if is_some (front_at t q.packets) then popped q else q

-- a queue with the first `waiting` of its waiting packets, without the others, and with another bound
abbrev pub cut_back : {X : Type 0} → ℕ → ℕ → Waiting X → Waiting X
cut_back waiting bound q = record q { packets = take waiting q.packets; bound = bound }

-- what holds of every queue. What waits is itself a prefix of a stream, and no more packets came than there are times below the
-- bound
pub record IsQueue {X : Type 0} (q : Waiting X) : Type 0 where
  pub rest : IsPrefix (rest_of q)
  pub counted : count_of q + pre_stream ≤ q.bound
