use Rattle.std.proofs.Common.{◌<◌, length, sym, subst, arith}
use Rattle.mg_sched.specs.Views.{NetView}
use Rattle.mg_sched.proofs.Finding.{intake_read_at}
use Rattle.mg_sched.proofs.Hearing.{room_there, noted_is}
use Rattle.mg_sched.proofs.net.Net.note_ports.Goals as goal

pub index-requires : goal.index-requires
index-requires g c = (let within = subst (λ (v : NetView). c.args.place < length v.intakes) (sym c.self.view_is) c.requires.there in let ok = c.self.inside.intakes.ok.0 in omega (arith, within, ok))

pub note_all-requires-clause-queues : goal.note_all-requires-clause-queues
note_all-requires-clause-queues g c = room_there _ c.args.self.now c.args.place c.index.result.now c.first_edge-first.result c.self.view_is
    (c.requires.queues c.index.result.now (intake_read_at _ c.args.self.now c.args.place _ c.self.view_is c.requires.there c.index.ensures)) c.first_edge-first.ensures

pub note_all-requires-clause-few : goal.note_all-requires-clause-few
note_all-requires-clause-few g c = λ port. c.requires.few c.index.result.now port (intake_read_at _ c.args.self.now c.args.place _ c.self.view_is c.requires.there c.index.ensures)

pub returns : goal.returns
returns g c = λ intake at. noted_is _ c.args.self.now c.args.place _ intake c.first_edge-first.result c.note_all.new.limits c.self.view_is c.requires.there c.index.ensures at c.first_edge-first.ensures c.note_all.ensures
