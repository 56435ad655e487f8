use Rattle.std.proofs.Common.{◌<◌, ◌∙◌, ap, length, sym, arith, rules, length-set}
use Rattle.mg_value.specs.Payload.{Plain}
use Rattle.mg_stream.specs.Queue.{Waiting, popped_at}
use Rattle.mg_stream.specs.Pool.{Pooled, queue_at, backlog_of}
use Rattle.mg_stream.proofs.Laid.{queue_at-with_queue}
use Rattle.mg_policy.specs.Code.Taking.{dropped_before}
use Rattle.mg_policy.proofs.Drops.{drop_step, with_queue-again}
use Rattle.mg_policy.proofs.taking.drop_before.Goals as goal

pub loop-first-preserved-else-ge : goal.loop-first-preserved-else-ge
loop-first-preserved-else-ge c =
    let port = c.args.port in
    let pool = c.loop-first.pool in
    let first = c.in-Some.first in
    let before : first < c.args.at = search rules in
    let there : port < length pool.ports = (let in_old = c.requires in omega (arith, in_old, ap (λ (v : Pooled Plain). length v.ports) c.loop-first.invariant.others, length-set c.args.pool.now.ports port (backlog_of (queue_at pool port)))) in
    let popped = c.pop_at.ensures.popped in
    record {
      left =
          ap (λ (v : Pooled Plain). dropped_before c.args.at (queue_at v port)) popped
          ∙ ap (λ (q : Waiting Plain). dropped_before c.args.at q) (queue_at-with_queue pool port (popped_at first (queue_at pool port)) there)
          ∙ drop_step c.args.at first (queue_at pool port) (sym c.in-Some.ensures.first) before
          ∙ c.loop-first.invariant.left;
      others = with_queue-again c.args.pool.now pool c.pop_at.new.self port _ _ there c.loop-first.invariant.others popped;
    }
