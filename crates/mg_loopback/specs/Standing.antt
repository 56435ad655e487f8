-- What a loopback stands for, in whole streams: the prefixes of MAIN and LOOP, with their first answers given.
use Rattle.std.specs.Prelude.{◌≡◌, ℕ, zero, suc, ◌≤◌, ◌<◌, List, take, drop, length, All, Option, None, IsSomeAnd, option_map, slice_get, ◌==◌, if◌then◌else◌}
use Rattle.std.specs.List.{filter_map}
use Rattle.mg_value.specs.Packet.{Stamped}
use Rattle.mg_settled.specs.Prefix.{StreamPrefix, first_time}
use Rattle.mg_settled.specs.Loopback.{replies, packet_of}
use Rattle.mg_stream.specs.Queue.{StandsFor}
use Rattle.mg_loopback.specs.Loopback.{Held}

-- the time of the last of the first k packets, and none if k is 0
abbrev pub time_before : {X : Type 0} → ℕ → List (Stamped X) → Option ℕ
time_before zero ps = None
time_before (suc k) ps = option_map (λ p. p.at) (slice_get ps k)

-- a loopback stands for the prefixes of MAIN and LOOP with k answers given. Each queue stands for its prefix. Of MAIN k packets
-- are gone, each of them answered. The predecessor's time is the time of the last of them. A packet of LOOP is gone only if it
-- stands below that time
pub record StandsAfter {X : Type 0} (k : ℕ) (held : Held X) (main loop : StreamPrefix X) : Type 0 where
  pub at_main : StandsFor held.main main
  pub at_loop : StandsFor held.loop loop
  pub gone : held.main.gone ≡ k
  pub answered : k ≤ length (replies main loop)
  pub previous : held.previous ≡ time_before k main.packets
  pub below : All (λ p. IsSomeAnd held.previous (λ t. p.at < t)) (take held.loop.gone loop.packets)

-- the prefix of MAIN once the stream of a port has gone a step: the new prefix if that port is MAIN
abbrev pub main_stepped : {X : Type 0} → ℕ → StreamPrefix X → StreamPrefix X → StreamPrefix X
main_stepped port stepped main = if port == 0 then main else stepped

-- the prefix of LOOP once the stream of a port has gone a step: the new prefix if that port is LOOP
abbrev pub loop_stepped : {X : Type 0} → ℕ → StreamPrefix X → StreamPrefix X → StreamPrefix X
loop_stepped port stepped loop = if port == 0 then stepped else loop

-- the output stream as far as its first k answers tell it. Its packets are the answers that aren't nothing. Its bound is the
-- time of the packet of MAIN after the answered ones, or MAIN's bound
abbrev pub after_replies : {X : Type 0} → ℕ → StreamPrefix X → StreamPrefix X → StreamPrefix X
after_replies k main loop = record {
  packets = filter_map packet_of (take k (replies main loop));
  bound = first_time (drop k main.packets) main.bound;
}
