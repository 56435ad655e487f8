use Rattle.std.proofs.Common.{◌-◌, ◌^◌, length, arith}
use Rattle.mg_value.specs.Payload.{Plain}
use Rattle.mg_stream.specs.Pool.{Backlog, empty_backlog}
use Rattle.mg_node.proofs.Held.{held_more, held_all}
use Rattle.mg_node.proofs.counting.held_in.Goals as goal

pub loop-port-preserved : goal.loop-port-preserved
loop-port-preserved c =
    held_more (λ (b : Backlog Plain). length b.packets) c.args.inbox.now.pool.ports c.loop-port.port empty_backlog c.loop-port.held _ _ (2 ^ 64 - 1) (omega arith) c.waiting.ensures c.loop-port.invariant c.saturating_add-held.ensures

pub returns : goal.returns
returns c = held_all (λ (b : Backlog Plain). length b.packets) c.args.inbox.now.pool.ports c.loop-port.port _ (2 ^ 64 - 1) (omega arith) c.loop-port.invariant
