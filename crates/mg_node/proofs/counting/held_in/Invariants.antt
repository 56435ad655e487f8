use Rattle.std.proofs.Common.{◌≡◌, ◌-◌, ◌^◌, length, min, take, sum_by}
use Rattle.mg_value.specs.Payload.{Plain}
use Rattle.mg_stream.specs.Pool.{Backlog}
use Rattle.mg_node.proofs.counting.held_in.Given as goal

abbrev pub invariant-loop-port : goal.invariant-loop-port
invariant-loop-port l = l.held ≡ min (sum_by (λ (b : Backlog Plain). length b.packets) (take l.port l.inbox.pool.ports)) (2 ^ 64 - 1)
