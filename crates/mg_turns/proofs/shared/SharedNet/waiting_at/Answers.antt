use Rattle.std.proofs.Common.{arith, ◌*◌}
use Rattle.mg_turns.proofs.Ends.{has_none}
use Rattle.mg_turns.specs.Calls.{key_of}
use Rattle.mg_turns.proofs.Counting.{it_is_intake, port_there, looked_at, has_counted}
use Rattle.mg_turns.proofs.shared.SharedNet.waiting_at.Goals as goal

pub overflow_mul-word : goal.overflow_mul-word
overflow_mul-word g c = (let n = c.requires.edges.consumers c.args._number c.args.edge c.requires.edge in let f = c.args.self.now.laid_out in let z = c.args.self.now.sized in omega (arith, n, f.0, f.2, z.2))

pub take-requires : goal.take-requires
take-requires g c = (let n = c.requires.edges.consumers c.args._number c.args.edge c.requires.edge in let f = c.args.self.now.laid_out in (c.requires.of.0, omega (arith, n, f.0, f.2), c.args.seat.now.idle.0, has_none (2 * c.args.edge.node) c.args.seat.now.seat.me.0 c.args.seat.now.idle.1))

pub into_intake-intake-requires : goal.into_intake-intake-requires
into_intake-intake-requires g c = it_is_intake c.args.seat.now.seat.me c.take.new.seat.me (key_of c.args.self.now) c.args._number c.args.edge c.in-Some.held.part c.requires.of.1 c.requires.edges c.requires.edge c.in-Some.ensures.taken

pub waiting-waiting-requires : goal.waiting-waiting-requires
waiting-waiting-requires g c = rw c.deref.ensures (port_there c.args.seat.now.seat.me c.take.new.seat.me (key_of c.args.self.now) c.args._number c.args.edge c.in-Some.held.part c.requires.of.1 c.requires.edges c.requires.edge c.in-Some.ensures.taken c.into_intake-intake.result.value c.into_intake-intake.ensures c.requires.some)

pub give_plain-requires-clause-gives : goal.give_plain-requires-clause-gives
give_plain-requires-clause-gives g c = rw c.of_intake.ensures (looked_at c.args.seat.now.seat.me c.take.new.seat.me (key_of c.args.self.now) c.args._number c.args.edge c.in-Some.held.part c.requires.of.1 c.requires.edges c.requires.edge c.in-Some.ensures.taken c.into_intake-intake.result.value c.into_intake-intake.ensures)

pub returns-clause-tried : goal.returns-clause-tried
returns-clause-tried g c =
    has_counted c.args.seat.now.seat.me c.take.new.seat.me (key_of c.args.self.now) c.args._number c.args.edge c.in-Some.held.part c.requires.of.1 c.requires.edges c.requires.edge c.in-Some.ensures.taken c.into_intake-intake.result.value c.into_intake-intake.ensures
    c.waiting-waiting.result (rw c.deref.ensures at c.waiting-waiting.ensures) c.give_plain.new.seat.me (rw c.of_intake.ensures at c.give_plain.ensures.gave)
