-- Settled sets, according to the page Synchronization of the MediaPipe framework. A node is shown its input sets one after the
-- other, each once nothing can change it any more. Its input policy says when that is, and what is in a set. Definitions speak
-- of the whole prefixes of a node's input streams, one per port.
use Rattle.std.specs.Prelude.{ℕ, Bool, true, false, List, map, length, drop, replicate, min, Option, Some, None, IsTrue, IsSomeAnd, option_map, unwrap_or, slice_index_or, slice_set, All, pos, [], ◌∷◌, ◌++◌, ◌+◌, ◌-◌, ◌<◌, ◌==◌, ◌||◌, nat_lt, filter, find, if◌then◌else◌}
use Rattle.std.specs.List.{take_while, list_any}
use Rattle.mg_time.specs.Time.{done}
use Rattle.mg_value.specs.Payload.{Plain, int}
use Rattle.mg_value.specs.declared.policy.Policy.{Policy}
use Rattle.mg_value.specs.declared.policy.Policy.TheVariants.{Default, Mux}
use Rattle.mg_value.specs.Packet.{Stamped}
use Rattle.mg_settled.specs.Prefix.{StreamPrefix, empty_prefix, closed, first_time}

-- a set at its time: for each port a packet, or none
pub record TimedSet (X : Type 0) : Type 0 where
  pub at : ℕ
  pub set : List (Option (Stamped X))

-- the packet at a time, or none
abbrev pub packet_at : {X : Type 0} → ℕ → List (Stamped X) → Option (Stamped X)
packet_at t ps = find (λ p. p.at == t) ps

-- The default policy: a time is settled once no further packet can come at it on any port.

-- the least bound of some prefixes, and Done if there are none: the times below it are settled
abbrev pub low : {X : Type 0} → List (StreamPrefix X) → ℕ
low [] = done
low (s ∷ ss) = min s.bound (low ss)

-- the times of some packets
abbrev pub times_of : {X : Type 0} → List (Stamped X) → List ℕ
times_of ps = map (λ p. p.at) ps

-- the times of all packets of some prefixes
abbrev pub all_times : {X : Type 0} → List (StreamPrefix X) → List ℕ
all_times [] = []
all_times (s ∷ ss) = times_of s.packets ++ all_times ss

-- a time put in its place among times in order, if it isn't there yet
abbrev pub with_time : ℕ → List ℕ → List ℕ
with_time t [] = t ∷ []
with_time t (u ∷ us) = if nat_lt t u then t ∷ u ∷ us else if t == u then u ∷ us else u ∷ with_time t us

-- some times in order, each once
abbrev pub in_order : List ℕ → List ℕ
in_order [] = []
in_order (t ∷ ts) = with_time t (in_order ts)

-- whether a time is among some times
abbrev pub is_among : List ℕ → ℕ → Bool
is_among ts t = list_any (λ u. u == t) ts

-- the settled times: the times of packets below the least bound, in order, each once
abbrev pub settled_times : {X : Type 0} → List (StreamPrefix X) → List ℕ
settled_times ss = in_order (filter (λ t. nat_lt t (low ss)) (all_times ss))

-- the set at a time: for each port the packet at that time, or none
abbrev pub set_at : {X : Type 0} → ℕ → List (StreamPrefix X) → List (Option (Stamped X))
set_at t ss = map (λ s. packet_at t s.packets) ss

-- The mux policy: the last port is SELECT, and each of its packets makes a set. The set also has what the port that the packet
-- selects has at the packet's time.

-- the prefix of a port by its number, and a closed one without packets if there is no such port
abbrev pub port_of : {X : Type 0} → List (StreamPrefix X) → ℕ → StreamPrefix X
port_of ss i = slice_index_or ss i (closed empty_prefix)

-- the prefixes of a node's inputs, one per port, if the ports have the streams with these numbers
abbrev pub inputs_of : {X : Type 0} → List (StreamPrefix X) → List ℕ → List (StreamPrefix X)
inputs_of streams ports = map (port_of streams) ports

-- the prefix of SELECT, the last port
abbrev pub select_of : {X : Type 0} → List (StreamPrefix X) → StreamPrefix X
select_of ss = port_of ss (length ss - 1)

-- the port that a payload selects, of so many ports: the one with that number, if there is one and it isn't the last
abbrev pub selected : ℕ → Plain → Option ℕ
selected ports (int (pos n)) = if nat_lt (n + 1) ports then Some n else None
selected ports _ = None

-- whether a packet of SELECT is settled: it selects no port, or its time is below the bound of the port that it selects
abbrev pub is_settled : List (StreamPrefix Plain) → Stamped Plain → Bool
is_settled ss p = unwrap_or (option_map (λ i. nat_lt p.at (port_of ss i).bound) (selected (length ss) p.value)) true

-- the packets of SELECT that are settled: those before the first that isn't
abbrev pub settled_selects : List (StreamPrefix Plain) → List (Stamped Plain)
settled_selects ss = take_while (is_settled ss) (select_of ss).packets

-- the set in which only SELECT has a packet
abbrev pub select_alone : List (StreamPrefix Plain) → Stamped Plain → List (Option (Stamped Plain))
select_alone ss p = slice_set (replicate (length ss) None) (length ss - 1) (Some p)

-- the set of a packet of SELECT: that packet, at the port that it selects the packet at its time, and nothing else
abbrev pub select_set : List (StreamPrefix Plain) → Stamped Plain → List (Option (Stamped Plain))
select_set ss p = unwrap_or
    (option_map (λ i. slice_set (select_alone ss p) i (packet_at p.at (port_of ss i).packets)) (selected (length ss) p.value))
    (select_alone ss p)

-- Both policies.

-- the settled sets, in order: by default those at the settled times, and under Mux those of the packets of SELECT that are
-- settled
abbrev pub settled_sets : Policy → List (StreamPrefix Plain) → List (TimedSet Plain)
settled_sets Default ss = map (λ t. record { at = t; set = set_at t ss }) (settled_times ss)
settled_sets Mux ss = map (λ p. record { at = p.at; set = select_set ss p }) (settled_selects ss)

-- whether the packet of SELECT at a time selects a port
abbrev pub is_selected : List (StreamPrefix Plain) → ℕ → ℕ → Bool
is_selected ss t i = unwrap_or
    (option_map (λ p. unwrap_or (option_map (λ j. j == i) (selected (length ss) p.value)) false) (packet_at t (select_of ss).packets))
    false

-- whether the set at a time shows what a port has then. By default it shows that of each port. Under Mux it shows that of
-- SELECT and of the port that is selected
abbrev pub shows : Policy → List (StreamPrefix Plain) → ℕ → ℕ → Bool
shows Default ss t i = true
shows Mux ss t i = (i + 1 == length ss) || is_selected ss t i

-- how far the settled sets reach: each further set stands there or above. By default that is the least bound, and under
-- Mux the time of the first packet of SELECT that isn't settled, or else SELECT's bound
abbrev pub reach : Policy → List (StreamPrefix Plain) → ℕ
reach Default ss = low ss
reach Mux ss = first_time (drop (length (settled_selects ss)) (select_of ss).packets) (select_of ss).bound

-- a time is below the bounds that a policy asks for. By default it is below the bound of every port. Under Mux it is below
-- SELECT's bound, and SELECT has a packet at it. If that packet selects a port, the time is also below that port's bound
abbrev pub IsBelowBounds : Policy → List (StreamPrefix Plain) → ℕ → Type 0
IsBelowBounds Default ss t = All (λ s. t < s.bound) ss
IsBelowBounds Mux ss t = (t < (select_of ss).bound)
    × IsSomeAnd (packet_at t (select_of ss).packets) (λ p. IsTrue (is_settled ss p))
