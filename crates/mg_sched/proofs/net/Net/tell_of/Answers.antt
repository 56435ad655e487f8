use Rattle.std.proofs.Common.{◌+◌, arith}
use Rattle.mg_sched.proofs.PuttingTogether.{queues_short, few_wait, ports_fit, intake_there, engine_there, marks_there, told_noted, told_stopped, told_back}
use Rattle.mg_sched.proofs.net.Net.tell_of.Goals as goal

pub note_ports-requires-clause-there : goal.note_ports-requires-clause-there
note_ports-requires-clause-there g c = (let less = c.requires.there in intake_there c.args.self.now c.args.node c.requires.parts (omega (arith, less)))

pub note_ports-requires-clause-queues : goal.note_ports-requires-clause-queues
note_ports-requires-clause-queues g c = λ intake at. ports_fit c.args.self.now c.args.node intake c.requires.parts at

pub note_ports-requires-clause-short : goal.note_ports-requires-clause-short
note_ports-requires-clause-short g c = queues_short c.args.self.now c.requires.parts

pub note_ports-requires-clause-few : goal.note_ports-requires-clause-few
note_ports-requires-clause-few g c = λ intake port at. few_wait c.args.self.now c.args.node port intake c.requires.parts at

pub stop_ended-requires-clause-engine : goal.stop_ended-requires-clause-engine
stop_ended-requires-clause-engine g c = engine_there c.args.self.now c.note_ports.new.self c.args.node c.requires.parts c.requires.there c.note_ports.ensures

pub stop_ended-requires-clause-reached : goal.stop_ended-requires-clause-reached
stop_ended-requires-clause-reached g c = marks_there c.args.self.now c.note_ports.new.self c.args.node c.requires.parts c.requires.there c.note_ports.ensures

pub returns : goal.returns
returns g c = λ start h t.
    (let less = told_back start c.args.self.now c.args.node c.args.node c.args.node t c.requires.there in
    told_stopped start c.note_ports.new.self c.stop_ended.new.self (c.args.node + 1) c.args.node h less
    (told_noted start c.args.self.now c.note_ports.new.self c.args.node c.args.node h (omega (arith, less)) t c.note_ports.ensures) c.stop_ended.ensures)
