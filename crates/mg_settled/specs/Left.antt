-- What is left of a node's input streams once its first settled sets are claimed. Definitions speak of the whole prefixes
-- of these streams, one per port, and of how many of their first packets are gone.
use Rattle.std.specs.Prelude.{ℕ, Bool, true, false, not, List, map, take, drop, length, zip, All, IsTrue, IsSome, slice_index_or, filter, ◌≡◌, ◌+◌, ◌-◌, ◌<◌, ◌≤◌, ◌==◌, nat_le}
use Rattle.std.specs.List.{list_any}
use Rattle.mg_value.specs.Payload.{Plain}
use Rattle.mg_value.specs.declared.policy.Policy.{Policy}
use Rattle.mg_value.specs.declared.policy.Policy.TheVariants.{Default, Mux}
use Rattle.mg_settled.specs.Prefix.{StreamPrefix}
use Rattle.mg_settled.specs.Settled.{settled_sets, port_of, packet_at, is_among}

-- the times of the settled sets
abbrev pub set_times : Policy → List (StreamPrefix Plain) → List ℕ
set_times policy ss = map (λ e. e.at) (settled_sets policy ss)

-- whether the packets at a time go when the sets at some times are claimed. By default they go if one of the sets stands at
-- that time, and under Mux if one stands there or above
abbrev pub goes : Policy → List ℕ → ℕ → Bool
goes Default ts t = is_among ts t
goes Mux ts t = list_any (λ u. nat_le t u) ts

-- a prefix without its packets at the times that pass a test
abbrev pub without : {X : Type 0} → (ℕ → Bool) → StreamPrefix X → StreamPrefix X
without test s = record { packets = filter (λ p. not (test p.at)) s.packets; bound = s.bound }

-- what is left of some prefixes when their first k settled sets are claimed
abbrev pub after_sets : Policy → ℕ → List (StreamPrefix Plain) → List (StreamPrefix Plain)
after_sets policy k ss = map (without (goes policy (take k (set_times policy ss)))) ss

-- some prefixes, each without its first packets, whose numbers are given
abbrev pub without_first : {X : Type 0} → List ℕ → List (StreamPrefix X) → List (StreamPrefix X)
without_first gone ss = map (λ e. record { packets = drop e.0 e.1.packets; bound = e.1.bound }) (zip gone ss)

-- the sums of numbers of packets that are gone, and of further ones that go of what is left
abbrev pub sums : List ℕ → List ℕ → List ℕ
sums gone more = map (λ e. e.0 + e.1) (zip gone more)

-- whether a port leads, of so many ports: by default each does, and under Mux SELECT alone. What comes at a port that
-- doesn't lead may come too late for the sets that are claimed
abbrev pub leads : Policy → ℕ → ℕ → Bool
leads Default ports i = true
leads Mux ports i = i + 1 == ports

-- some port that leads has a packet at this time
pub record HasLeadingPacket (policy : Policy) (ss : List (StreamPrefix Plain)) (t : ℕ) : Type 0 where
  pub port : ℕ
  pub there : port < length ss
  pub lead : IsTrue (leads policy (length ss) port)
  pub packet : IsSome (packet_at t (port_of ss port).packets)

-- this many first packets of a prefix may be gone once the sets at some times are claimed. Each of them goes with these sets.
-- If the port leads, no other packet goes with them
pub record MayBeGone {X : Type 0} (policy : Policy) (lead : Bool) (ts : List ℕ) (s : StreamPrefix X) (gone : ℕ) : Type 0 where
  pub within : gone ≤ length s.packets
  pub go : All (λ p. IsTrue (goes policy ts p.at)) (take gone s.packets)
  pub stay : IsTrue lead → All (λ p. goes policy ts p.at ≡ false) (drop gone s.packets)

-- the numbers of first packets that are gone of some prefixes once their first k settled sets are claimed
pub record AreGone (policy : Policy) (k : ℕ) (ss : List (StreamPrefix Plain)) (gone : List ℕ) : Type 0 where
  pub ports : length gone ≡ length ss
  pub claimed : k ≤ length (settled_sets policy ss)
  pub each : (i : ℕ) → i < length ss
      → MayBeGone policy (leads policy (length ss) i) (take k (set_times policy ss)) (port_of ss i) (slice_index_or gone i 0)

-- how many packets of each of some prefixes are gone, if these are left of them
abbrev pub gone_of : {X : Type 0} → List (StreamPrefix X) → List (StreamPrefix X) → List ℕ
gone_of ss rs = map (λ e. length e.0.packets - length e.1.packets) (zip ss rs)

-- what is left of some prefixes when their first k settled sets are claimed, told by how many packets are gone
pub record AreLeft (policy : Policy) (k : ℕ) (ss rs : List (StreamPrefix Plain)) : Type 0 where
  pub gone : List ℕ
  pub are : AreGone policy k ss gone
  pub left : rs ≡ without_first gone ss
