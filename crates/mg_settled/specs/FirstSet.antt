-- The first settled set of some prefixes, as it is told by what stands first in each: an inbox looks at no more. The packets that
-- go when it is claimed stand first too.
use Rattle.std.specs.Prelude.{ℕ, Bool, true, false, List, [], ◌∷◌, length, drop, min, Option, Some, None, option_map, option_and_then, unwrap_or, slice_get, ◌+◌, ◌==◌, ◌||◌, nat_lt, nat_le, if◌then◌else◌}
use Rattle.std.specs.List.{prefix_len}
use Rattle.mg_time.specs.Time.{done}
use Rattle.mg_value.specs.Payload.{Plain}
use Rattle.mg_value.specs.declared.policy.Policy.{Policy}
use Rattle.mg_value.specs.declared.policy.Policy.TheVariants.{Default, Mux}
use Rattle.mg_value.specs.Packet.{Stamped}
use Rattle.mg_settled.specs.Prefix.{StreamPrefix, first_time}
use Rattle.mg_settled.specs.Settled.{low, select_of, selected, is_settled}

-- the least time of a first packet, and Done if no prefix has a packet
abbrev pub earliest : {X : Type 0} → List (StreamPrefix X) → ℕ
earliest [] = done
earliest (s ∷ ss) = min (first_time s.packets done) (earliest ss)

-- the first of some packets, if it stands at a time
abbrev pub front_at : {X : Type 0} → ℕ → List (Stamped X) → Option (Stamped X)
front_at t [] = None
front_at t (p ∷ ps) = if p.at == t then Some p else None

-- the time of the first settled set. By default it is the earliest time, if that is below the least bound. Under Mux it is the
-- time of SELECT's first packet, if that packet is settled
abbrev pub first_set_time : Policy → List (StreamPrefix Plain) → Option ℕ
first_set_time Default ss = if nat_lt (earliest ss) (low ss) then Some (earliest ss) else None
first_set_time Mux ss = option_and_then (λ p. if is_settled ss p then Some p.at else None) (slice_get (select_of ss).packets 0)

-- the port that SELECT's first packet selects
abbrev pub chosen_port : Policy → List (StreamPrefix Plain) → Option ℕ
chosen_port Default ss = None
chosen_port Mux ss = option_and_then (λ p. selected (length ss) p.value) (slice_get (select_of ss).packets 0)

-- whether the first set shows a port, of so many: by default each, and under Mux SELECT and the port that is chosen
abbrev pub is_shown : Policy → ℕ → Option ℕ → ℕ → Bool
is_shown Default ports chosen i = true
is_shown Mux ports chosen i = (i + 1 == ports) || unwrap_or (option_map (λ j. j == i) chosen) false

-- a prefix without its first packets that stand before a time
abbrev pub from : {X : Type 0} → ℕ → StreamPrefix X → StreamPrefix X
from t s = record { packets = drop (prefix_len (λ p. nat_lt p.at t) s.packets) s.packets; bound = s.bound }

-- a prefix without its first packets that stand at a time or before it
abbrev pub behind : {X : Type 0} → ℕ → StreamPrefix X → StreamPrefix X
behind t s = record { packets = drop (prefix_len (λ p. nat_le p.at t) s.packets) s.packets; bound = s.bound }
