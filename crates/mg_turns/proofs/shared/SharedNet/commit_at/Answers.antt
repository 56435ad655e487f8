use Rattle.std.proofs.Common.{arith, refl, sym, ◌∙◌}
use Rattle.mg_turns.specs.Calls.{key_of}
use Rattle.mg_turns.proofs.Backs.{work_out, some_engine, laid_back, same_back, committed_by, commit_facts}
use Rattle.mg_turns.proofs.shared.SharedNet.commit_at.Goals as goal

pub commit-requires-clause-lawful : goal.commit-requires-clause-lawful
commit-requires-clause-lawful g c = rw c.deref_mut.ensures.value (some_engine c.args.seat.now.seat.me c.take.new.seat.me (key_of c.args.self.now) c.node.result c.in-Some.held.part c.into_engine-engine.result.value c.args.outcome.work c.requires.of.1 c.args.seat.now.idle.1 (omega (arith, c.requires.node, c.node.ensures)) c.in-Some.ensures.taken c.into_engine-engine.ensures c.requires.has (sym c.node.ensures) c.requires.some)

pub give_laid-requires-clause-gives : goal.give_laid-requires-clause-gives
give_laid-requires-clause-gives g c =
    let l = c.in-Ok.ensures in let e = c.deref_mut.ensures.value in
    rw c.of_engine.ensures (laid_back c.args.seat.now.seat.me c.take.new.seat.me (key_of c.args.self.now) c.node.result c.in-Some.held.part c.into_engine-engine.result.value c.args.outcome.work c.requires.of.1 c.args.seat.now.idle.1 (omega (arith, c.requires.node, c.node.ensures)) c.in-Some.ensures.taken c.into_engine-engine.ensures c.requires.has (sym c.node.ensures) c.commit.new.self
    (commit_facts (key_of c.args.self.now) c.node.result c.args.outcome c.in-Ok.laid c.into_engine-engine.result.value c.commit.new.self (work_out c.args.seat.now.seat.me c.take.new.seat.me (key_of c.args.self.now) c.node.result c.in-Some.held.part c.into_engine-engine.result.value c.args.outcome.work c.requires.of.1 c.args.seat.now.idle.1 (omega (arith, c.requires.node, c.node.ensures)) c.in-Some.ensures.taken c.into_engine-engine.ensures c.requires.has (sym c.node.ensures)) (some_engine c.args.seat.now.seat.me c.take.new.seat.me (key_of c.args.self.now) c.node.result c.in-Some.held.part c.into_engine-engine.result.value c.args.outcome.work c.requires.of.1 c.args.seat.now.idle.1 (omega (arith, c.requires.node, c.node.ensures)) c.in-Some.ensures.taken c.into_engine-engine.ensures c.requires.has (sym c.node.ensures) c.requires.some) c.requires.lawful (rw e at l.commits) (rw e at l.grows) (rw e at l.lawful)))

pub give_plain-requires-clause-gives : goal.give_plain-requires-clause-gives
give_plain-requires-clause-gives g c = rw c.of_engine-in-Err.ensures (same_back c.args.seat.now.seat.me c.take.new.seat.me (key_of c.args.self.now) c.node.result c.in-Some.held.part c.into_engine-engine.result.value c.args.outcome.work c.requires.of.1 c.args.seat.now.idle.1 (omega (arith, c.requires.node, c.node.ensures)) c.in-Some.ensures.taken c.into_engine-engine.ensures c.requires.has (sym c.node.ensures) c.commit.new.self (c.in-Err.ensures.unchanged ∙ c.deref_mut.ensures.value))

pub returns-in-Ok-clause-tried : goal.returns-in-Ok-clause-tried
returns-in-Ok-clause-tried g c =
    let l = c.in-Ok.ensures in let e = c.deref_mut.ensures.value in
    committed_by c.args.seat.now.seat.me c.take.new.seat.me (key_of c.args.self.now) c.node.result c.in-Some.held.part c.into_engine-engine.result.value c.args.outcome.work c.requires.of.1 c.args.seat.now.idle.1 (omega (arith, c.requires.node, c.node.ensures)) c.in-Some.ensures.taken c.into_engine-engine.ensures c.requires.has (sym c.node.ensures)
    c.args.outcome c.in-Ok.laid c.commit.new.self refl (rw e at l.commits) c.give_laid.new.seat.me (rw c.of_engine.ensures at c.give_laid.ensures.gave)
