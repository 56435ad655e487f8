use Rattle.std.proofs.Common.{arith, sym}
use Rattle.mg_turns.specs.Calls.{key_of}
use Rattle.mg_turns.proofs.Backs.{work_out, laid_back, shelve_facts}
use Rattle.mg_turns.proofs.shared.SharedNet.shelve_at.Goals as goal

pub give_laid-requires-clause-gives : goal.give_laid-requires-clause-gives
give_laid-requires-clause-gives g c =
    let l = c.shelve.ensures in let e = c.deref_mut.ensures.value in
    rw c.of_engine.ensures (laid_back c.args.seat.now.seat.me c.take.new.seat.me (key_of c.args.self.now) c.node.result c.in-Some.held.part c.into_engine-engine.result.value c.args.outcome.work c.requires.of.1 c.args.seat.now.idle.1 (omega (arith, c.requires.node, c.node.ensures)) c.in-Some.ensures.taken c.into_engine-engine.ensures c.requires.has (sym c.node.ensures) c.shelve.new.self
    (shelve_facts (key_of c.args.self.now) c.node.result c.args.outcome c.into_engine-engine.result.value c.shelve.new.self (work_out c.args.seat.now.seat.me c.take.new.seat.me (key_of c.args.self.now) c.node.result c.in-Some.held.part c.into_engine-engine.result.value c.args.outcome.work c.requires.of.1 c.args.seat.now.idle.1 (omega (arith, c.requires.node, c.node.ensures)) c.in-Some.ensures.taken c.into_engine-engine.ensures c.requires.has (sym c.node.ensures)) c.requires.lawful (rw e at l.shelved) (rw e at l.grows) (rw e at l.lawful)))
