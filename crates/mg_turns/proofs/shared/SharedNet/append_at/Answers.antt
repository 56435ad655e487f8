use Rattle.std.proofs.Common.{arith, ◌*◌}
use Rattle.mg_turns.specs.Calls.{key_of}
use Rattle.mg_turns.specs.Parts.{tally_since}
use Rattle.mg_turns.proofs.Bringing.{source_there, ends_apart, from_engine, to_intake, edge_leads, back_engine, back_intake, brought_counted, has_brought}
use Rattle.mg_turns.proofs.shared.SharedNet.append_at.Goals as goal

pub overflow_mul-node : goal.overflow_mul-node
overflow_mul-node g c = (let n = c.requires.edges.consumers c.args.number c.args.edge c.requires.edge.0 in let f = c.args.self.now.laid_out in let z = c.args.self.now.sized in omega (arith, n, f.0, f.2, z.2))

pub take_pair-requires-clause-id : goal.take_pair-requires-clause-id
take_pair-requires-clause-id g c =
    let n = c.requires.edges.consumers c.args.number c.args.edge c.requires.edge.0 in let f = c.args.self.now.laid_out in (
      c.requires.of.0,
      source_there (key_of c.args.self.now) c.args.number c.args.edge c.args.source _ c.requires.edges c.requires.edge.0 c.requires.edge.1 f.1,
      omega (arith, n, f.0, f.2),
      ends_apart (key_of c.args.self.now) c.args.number c.args.edge c.args.source c.requires.edges c.requires.edge.0 c.requires.edge.1,
    )

pub into_engine-engine-requires : goal.into_engine-engine-requires
into_engine-engine-requires g c = from_engine c.args.seat.now.seat.me c.take_pair.new.seat.me (key_of c.args.self.now) c.args.number c.args.edge c.args.source c.in-Ok.pair.engine.part c.in-Ok.pair.intake.part c.in-Ok.pair.engine.word c.in-Ok.pair.intake.word c.requires.of.1 c.args.seat.now.idle.1 c.requires.edges c.requires.edge.0 c.requires.edge.1 c.in-Ok.ensures.taken

pub into_intake-intake-requires : goal.into_intake-intake-requires
into_intake-intake-requires g c = to_intake c.args.seat.now.seat.me c.take_pair.new.seat.me (key_of c.args.self.now) c.args.number c.args.edge c.args.source c.in-Ok.pair.engine.part c.in-Ok.pair.intake.part c.in-Ok.pair.engine.word c.in-Ok.pair.intake.word c.requires.of.1 c.args.seat.now.idle.1 c.requires.edges c.requires.edge.0 c.requires.edge.1 c.in-Ok.ensures.taken

pub deliver-delivered-requires : goal.deliver-delivered-requires
deliver-delivered-requires g c = rw (c.deref.ensures, c.deref_mut.ensures.value) (edge_leads c.args.seat.now.seat.me c.take_pair.new.seat.me (key_of c.args.self.now) c.args.number c.args.edge c.args.source c.in-Ok.pair.engine.part c.in-Ok.pair.intake.part c.in-Ok.pair.engine.word c.in-Ok.pair.intake.word c.requires.of.1 c.args.seat.now.idle.1 c.requires.edges c.requires.edge.0 c.requires.edge.1 c.in-Ok.ensures.taken c.into_engine-engine.result.value c.into_intake-intake.result.value c.into_engine-engine.ensures c.into_intake-intake.ensures c.requires.some)

pub give_brought-requires-clause-word : goal.give_brought-requires-clause-word
give_brought-requires-clause-word g c =
    let l = c.deliver-delivered.ensures in let e = c.deref.ensures in let i = c.deref_mut.ensures.value in
    rw c.of_intake.ensures (brought_counted c.args.seat.now.seat.me c.take_pair.new.seat.me (key_of c.args.self.now) c.args.number c.args.edge c.args.source c.in-Ok.pair.engine.part c.in-Ok.pair.intake.part c.in-Ok.pair.engine.word c.in-Ok.pair.intake.word c.requires.of.1 c.args.seat.now.idle.1 c.requires.edges c.requires.edge.0 c.requires.edge.1 c.in-Ok.ensures.taken c.into_engine-engine.result.value c.into_intake-intake.result.value c.into_engine-engine.ensures c.into_intake-intake.ensures c.requires.some c.deliver-delivered.result c.deliver-delivered.new.intake (rw (e, i) at l.moved) c.counted.result
    (rw (c.from.ensures, c.packets_of.ensures) at (c.counted.ensures (tally_since c.args.seat.now.seat.me.0.key (2 * c.args.edge.node) c.in-Ok.pair.intake.part) c.in-Ok.ensures.taken.4)))

pub give_brought-requires-clause-gives : goal.give_brought-requires-clause-gives
give_brought-requires-clause-gives g c =
    let l = c.deliver-delivered.ensures in let e = c.deref.ensures in let i = c.deref_mut.ensures.value in
    rw c.of_intake.ensures (back_intake c.args.seat.now.seat.me c.take_pair.new.seat.me (key_of c.args.self.now) c.args.number c.args.edge c.args.source c.in-Ok.pair.engine.part c.in-Ok.pair.intake.part c.in-Ok.pair.engine.word c.in-Ok.pair.intake.word c.requires.of.1 c.args.seat.now.idle.1 c.requires.edges c.requires.edge.0 c.requires.edge.1 c.in-Ok.ensures.taken c.into_engine-engine.result.value c.into_intake-intake.result.value c.into_engine-engine.ensures c.into_intake-intake.ensures c.requires.some c.deliver-delivered.result c.deliver-delivered.new.intake (rw (e, i) at l.moved) (rw i at l.claimed) (rw i at l.grows) (rw (e, i) at l.lawful))

pub give_plain-requires-clause-gives : goal.give_plain-requires-clause-gives
give_plain-requires-clause-gives g c = rw c.of_engine.ensures (back_engine c.args.seat.now.seat.me c.take_pair.new.seat.me (key_of c.args.self.now) c.args.number c.args.edge c.args.source c.in-Ok.pair.engine.part c.in-Ok.pair.intake.part c.in-Ok.pair.engine.word c.in-Ok.pair.intake.word c.requires.of.1 c.args.seat.now.idle.1 c.requires.edges c.requires.edge.0 c.requires.edge.1 c.in-Ok.ensures.taken c.into_engine-engine.result.value c.into_intake-intake.result.value c.into_engine-engine.ensures c.into_intake-intake.ensures c.requires.some c.give_brought.new.seat.me _ c.give_brought.ensures.gave)

pub returns-clause-tried : goal.returns-clause-tried
returns-clause-tried g c =
    let l = c.deliver-delivered.ensures in let e = c.deref.ensures in let i = c.deref_mut.ensures.value in
    has_brought c.args.seat.now.seat.me c.take_pair.new.seat.me (key_of c.args.self.now) c.args.number c.args.edge c.args.source c.in-Ok.pair.engine.part c.in-Ok.pair.intake.part c.in-Ok.pair.engine.word c.in-Ok.pair.intake.word c.requires.of.1 c.args.seat.now.idle.1 c.requires.edges c.requires.edge.0 c.requires.edge.1 c.in-Ok.ensures.taken c.into_engine-engine.result.value c.into_intake-intake.result.value c.into_engine-engine.ensures c.into_intake-intake.ensures c.requires.some c.deliver-delivered.result c.deliver-delivered.new.intake (rw (e, i) at l.moved) (rw i at l.claimed) c.give_brought.new.seat.me c.give_plain.new.seat.me (rw c.of_intake.ensures at c.give_brought.ensures.gave) (rw c.of_engine.ensures at c.give_plain.ensures.gave)
