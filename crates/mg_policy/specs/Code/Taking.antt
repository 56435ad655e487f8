-- Queues without their first packets, as these leave with a set.
use Rattle.std.specs.Prelude.{ℕ, drop, ◌+◌, nat_lt, nat_le}
use Rattle.std.specs.List.{prefix_len}
use Rattle.mg_stream.specs.Queue.{Waiting}

-- a queue without its first n packets, which leave room for as many others
abbrev pub dropped : {X : Type 0} → ℕ → Waiting X → Waiting X
dropped n q = record { gone = q.gone + n; packets = drop n q.packets; bound = q.bound; spare = q.spare + n }

-- a queue without its first packets that stand before a time
abbrev pub dropped_before : {X : Type 0} → ℕ → Waiting X → Waiting X
dropped_before t q = dropped (prefix_len (λ p. nat_lt p.at t) q.packets) q

-- a queue without its first packets that stand at a time or before it
abbrev pub dropped_through : {X : Type 0} → ℕ → Waiting X → Waiting X
dropped_through t q = dropped (prefix_len (λ p. nat_le p.at t) q.packets) q
