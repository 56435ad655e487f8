use Rattle.mg_value.specs.Payload.{Plain}
use Rattle.mg_free.specs.Free.{Arrival}
use Rattle.mg_free.specs.Logs.{flow_of}
use Rattle.mg_live.proofs.RestTaken.{counted_of, taken_with}
use Rattle.mg_live.proofs.taker.Taker.take.Goals as goal

pub note-requires-clause-some : goal.note-requires-clause-some
note-requires-clause-some c = (c.requires.some.0, counted_of c.args.free.now c.requires.some.0 c.args.self.now c.requires.some.1)

pub returns-clause-taken : goal.returns-clause-taken
returns-clause-taken c = λ taken has.
    let a : Arrival Plain = record { port = c.args.port; packet = c.args.packet.now } in
    taken_with c.args.free.now taken c.args.self.now c.note.new.self a has (c.in_ok-note.ensures.counted taken (counted_of c.args.free.now taken c.args.self.now has))
    (c.in_ok-note.ensures.arrived (flow_of c.args.free.now.law taken.log) has.flow)
