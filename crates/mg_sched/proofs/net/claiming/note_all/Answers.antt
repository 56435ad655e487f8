use Rattle.std.proofs.Common.{sym, ◌∙◌}
use Rattle.mg_sched.proofs.Noting.{noted_only}
use Rattle.mg_sched.proofs.net.claiming.note_all.Goals as goal

pub returns-then-ports-eq1 : goal.returns-then-ports-eq1
returns-then-ports-eq1 c = noted_only c.note.new.self c.args.limits.now c.args.intake.now.waits c.args.first _ (sym c.ports.ensures ∙ c.if-ports-eq1.true) c.waiting.ensures c.note.ensures.noted
