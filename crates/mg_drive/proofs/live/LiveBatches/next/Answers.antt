use Rattle.std.proofs.Common.{length, inl, inr, sym, subst}
use Rattle.mg_calc.specs.declared.plan.Plan.{Plan}
use Rattle.mg_drive.specs.Code.Readers.{AreReaders}
use Rattle.mg_drive.proofs.LiveBatches.{opened_as, live_first, live_first_came, live_more, live_more_came, given_so_far, came_so_far, given_head, live_fewer}
use Rattle.mg_drive.proofs.live.LiveBatches.next.Goals as goal

pub returns-clause-first : goal.returns-clause-first
returns-clause-first g c = λ laws core valid fresh.
    live_first (g.B.Batches.gives laws) (g.B.Batches.came laws) g.B.Batches.is_fresh g.B.Batches.is_due core (record { batches = c.args.self.now.batches; plan = c.args.self.now.whole.plan.now; whole = c.args.self.now.whole.plan.now; nodes = c.args.self.now.whole.nodes.now; streams = c.args.self.now.whole.streams.now; ended = c.args.self.now.end; rested = c.args.self.now.rested; frees = c.args.self.now.nodes.free; takers = c.args.self.now.nodes.takers.items }) c.next.new.self (g.S.Source.told c.args.input.now) (g.S.Source.told c.next.new.input) c.in_ok-batch.batch.end c.ended_by-self.result c.in_ok-batch.batch.inputs c.in_ok-inputs.inputs c.ended_by-self.ensures
    fresh.0 (c.in_ok-batch.ensures.first_came laws c.args.self.now.whole.plan.now fresh.0.of.valid fresh.0.fresh) (opened_as c.in_ok-batch.batch.inputs c.in_ok-inputs.inputs c.len-count.result (length c.args.self.now.nodes.takers.items) c.len-count.ensures c.in_ok-inputs.ensures)

pub returns-clause-goes_on : goal.returns-clause-goes_on
returns-clause-goes_on g c = λ laws began core first so_far valid l due.
    live_more (g.B.Batches.gives laws) (g.B.Batches.came laws) g.B.Batches.is_due began.batches core (record { batches = c.args.self.now.batches; plan = began.whole.plan.now; whole = c.args.self.now.whole.plan.now; nodes = c.args.self.now.whole.nodes.now; streams = c.args.self.now.whole.streams.now; ended = c.args.self.now.end; rested = c.args.self.now.rested; frees = c.args.self.now.nodes.free; takers = c.args.self.now.nodes.takers.items }) c.next.new.self first (g.S.Source.told c.args.input.now) (g.S.Source.told c.next.new.input) c.in_ok-batch.batch.end c.ended_by-self.result so_far c.in_ok-batch.batch.inputs c.in_ok-inputs.inputs c.ended_by-self.ensures
    l due (c.in_ok-batch.ensures.comes_on laws began.batches c.args.self.now.whole.plan.now first l.base l.earlier l.of.valid (came_so_far (g.B.Batches.gives laws) (g.B.Batches.came laws) g.B.Batches.is_due began.batches core (record { batches = c.args.self.now.batches; plan = began.whole.plan.now; whole = c.args.self.now.whole.plan.now; nodes = c.args.self.now.whole.nodes.now; streams = c.args.self.now.whole.streams.now; ended = c.args.self.now.end; rested = c.args.self.now.rested; frees = c.args.self.now.nodes.free; takers = c.args.self.now.nodes.takers.items }) first (g.S.Source.told c.args.input.now) so_far l due) (l.of.due c.args.self.now.batches c.args.self.now.whole.plan.now l.base))
    (opened_as c.in_ok-batch.batch.inputs c.in_ok-inputs.inputs c.len-count.result (length c.args.self.now.nodes.takers.items) c.len-count.ensures c.in_ok-inputs.ensures)

pub returns-clause-first_came : goal.returns-clause-first_came
returns-clause-first_came g c = λ laws core valid fresh. live_first_came (g.B.Batches.gives laws) (g.B.Batches.came laws) g.B.Batches.is_due c.args.self.now.batches _ core (g.S.Source.told c.args.input.now) (g.S.Source.told c.next.new.input) c.in_ok-inputs.inputs (returns-clause-first g c laws core valid fresh)

pub returns-clause-comes_on : goal.returns-clause-comes_on
returns-clause-comes_on g c = λ laws began core first so_far earlier valid l due.
    live_more_came (g.B.Batches.gives laws) (g.B.Batches.came laws) g.B.Batches.is_due began.batches _ core first (g.S.Source.told c.next.new.input) so_far c.in_ok-inputs.inputs earlier
    (returns-clause-goes_on g c laws began core first so_far valid (given_head (g.B.Batches.gives laws) (g.B.Batches.came laws) g.B.Batches.is_due began.batches (record { batches = c.args.self.now.batches; plan = began.whole.plan.now; whole = c.args.self.now.whole.plan.now; nodes = c.args.self.now.whole.nodes.now; streams = c.args.self.now.whole.streams.now; ended = c.args.self.now.end; rested = c.args.self.now.rested; frees = c.args.self.now.nodes.free; takers = c.args.self.now.nodes.takers.items }) core first (g.S.Source.told c.args.input.now) so_far earlier l) due)

pub returns-clause-fewer : goal.returns-clause-fewer
returns-clause-fewer g c = λ laws began core first so_far l due more.
    live_fewer c.args.self.now.end c.in_ok-batch.batch.end c.ended_by-self.result (g.B.Batches.left c.args.self.now.batches) (g.B.Batches.left c.next.new.self) _ due.0 c.ended_by-self.ensures
    (λ some. c.in_ok-batch.ensures.fewer laws began.batches c.args.self.now.whole.plan.now first l.base (given_so_far (g.B.Batches.gives laws) (g.B.Batches.came laws) g.B.Batches.is_due began.batches core (record { batches = c.args.self.now.batches; plan = began.whole.plan.now; whole = c.args.self.now.whole.plan.now; nodes = c.args.self.now.whole.nodes.now; streams = c.args.self.now.whole.streams.now; ended = c.args.self.now.end; rested = c.args.self.now.rested; frees = c.args.self.now.nodes.free; takers = c.args.self.now.nodes.takers.items }) first (g.S.Source.told c.args.input.now) so_far l due) (l.of.due c.args.self.now.batches c.args.self.now.whole.plan.now l.base) some)

pub returns-in_err-batch-clause-further : goal.returns-in_err-batch-clause-further
returns-in_err-batch-clause-further g c = λ core first may. (elim may [ inl fresh ↦ fresh.0.unended | inr due ↦ due.1.0 ], λ inner. c.in_err-batch.ensures.further c.args.self.now.whole.plan.now first inner)

pub returns-in_err-inputs-clause-further : goal.returns-in_err-inputs-clause-further
returns-in_err-inputs-clause-further g c = λ core first may. (elim may [ inl fresh ↦ fresh.0.unended | inr due ↦ due.1.0 ], λ inner. c.in_ok-batch.ensures.further c.args.self.now.whole.plan.now first inner)

pub returns-clause-further : goal.returns-clause-further
returns-clause-further g c = λ core first may. (elim may [ inl fresh ↦ fresh.0.unended | inr due ↦ due.1.0 ], λ inner. c.in_ok-batch.ensures.further c.args.self.now.whole.plan.now first inner)

pub returns-clause-knows : goal.returns-clause-knows
returns-clause-knows g c = λ laws net k. record { are = k.are; idle = λ place free taker undue. absurd (c.wake_all.ensures place undue) }

pub returns-clause-knows_first : goal.returns-clause-knows_first
returns-clause-knows_first g c = λ laws core net fresh same. record {
  are = subst (λ (p : Plan). AreReaders p c.args.self.now.nodes.free c.args.self.now.readers) (sym same) fresh.1;
  idle = λ place free taker undue. absurd (c.wake_all.ensures place undue);
}
