use Rattle.std.proofs.Common.{◌+◌, ℕ, length, ap, ◌∙◌, arith}
use Rattle.mg_throttle.specs.Throttle.{QueueLimits, noted}
use Rattle.mg_sched.proofs.Noting.{noted_next, noted_end, noted_long}
use Rattle.mg_sched.proofs.net.claiming.note_each.Goals as goal

pub overflow_add-first : goal.overflow_add-first
overflow_add-first c =
    (let within = c.loop-port-test.true in let ends = c.ports-port-end.ensures in let queues = c.requires.queues in let short = c.requires.short in
    omega (arith, within, ends, queues, short))

pub loop-port-preserved : goal.loop-port-preserved
loop-port-preserved c = (
  let within = c.loop-port-test.true in let ends = c.ports-port-end.ensures in
      noted_next c.loop-port.limits c.note.new.self c.args.limits.now c.args.intake.now.waits c.args.first c.loop-port.port (omega (arith, within, ends))
      (c.note.ensures.noted ∙ ap (λ (n : ℕ). record c.loop-port.limits { queues = noted c.loop-port.limits.queues (c.args.first + c.loop-port.port) n }) c.waiting.ensures)
      c.loop-port.invariant.0,
  ap (λ (t : QueueLimits). length t.queues) c.note.ensures.noted ∙ noted_long c.loop-port.limits.queues (c.args.first + c.loop-port.port) c.waiting.result ∙ c.loop-port.invariant.1,
)

pub returns : goal.returns
returns c =
    (let past = c.loop-port-test.false in let upto = c.loop-port.auto.port-end in let ends = c.ports-port-end.ensures in
    noted_end c.loop-port.limits c.args.limits.now c.args.intake.now.waits c.args.first c.loop-port.port (omega (arith, past, upto, ends)) c.loop-port.invariant.0)
