use Rattle.std.proofs.Common.{◌+◌, ◌<◌, ◌≤◌, length, ap, sym, subst, ◌∙◌, arith}
use Rattle.mg_node.specs.Views.{IntakeView}
use Rattle.mg_node.specs.Ports.{ports_in}
use Rattle.mg_node.specs.Lawful.{LawfulIntake}
use Rattle.mg_node.proofs.Lemmas.{few_packets, put_there}
use Rattle.mg_sched.specs.Views.{NetView}
use Rattle.mg_sched.specs.Places.{first_edge, with_engine, with_intake, lengths_of}
use Rattle.mg_sched.specs.Acts.{with_noted}
use Rattle.mg_sched.specs.Code.AtOnce.{ShowsAt}
use Rattle.mg_sched.proofs.Finding.{are_cell, engine_read, intake_read, engine_fits, intake_fits, intake_there, put_here, put_long}
use Rattle.mg_sched.proofs.Carrying.{ports_fit, queues_short}
use Rattle.mg_sched.proofs.ShowingAtOnce.{intake_shown, shows_none, shows_some}
use Rattle.mg_sched.proofs.net.Net.show.Goals as goal

pub index_mut-requires : goal.index_mut-requires
index_mut-requires g c = engine_fits _ c.args.self.now c.args.node _ c.self.view_is c.requires.stands c.requires.there c.self.inside.engines.ok.0

pub index_mut-requires-2 : goal.index_mut-requires-2
index_mut-requires-2 g c = intake_fits _ c.args.self.now c.args.node _ c.self.view_is c.requires.stands c.requires.there c.self.inside.intakes.ok.0

pub work_at_once-done-requires : goal.work_at_once-done-requires
work_at_once-done-requires g c = record {
  cell = are_cell c.args.self.now c.args.node _ _ c.requires.stands c.requires.running c.requires.there
      (engine_read _ c.args.self.now c.args.node _ c.self.view_is c.requires.stands c.requires.there c.index_mut.ensures.value)
      (intake_read _ c.args.self.now c.args.node _ c.self.view_is c.requires.stands c.requires.there c.index_mut-2.ensures.value);
}

pub note_ports-requires-clause-there : goal.note_ports-requires-clause-there
note_ports-requires-clause-there g c =
    (let within = subst (λ (v : NetView). c.args.node < length v.intakes) (sym c.self.view_is) (intake_there c.args.self.now c.args.node c.requires.stands c.requires.there) in
    let long = put_long c.self.inside.intakes.items c.args.node c.work_at_once-done.new.intake in
    omega (arith, within, long))

pub note_ports-requires-clause-queues : goal.note_ports-requires-clause-queues
note_ports-requires-clause-queues g c = λ intake at.
    (let lawful = intake_shown c.args.self.now c.args.node _ c.work_at_once-done.new.self _ _ c.requires.stands c.requires.running c.requires.there
    (engine_read _ c.args.self.now c.args.node _ c.self.view_is c.requires.stands c.requires.there c.index_mut.ensures.value)
    (intake_read _ c.args.self.now c.args.node _ c.self.view_is c.requires.stands c.requires.there c.index_mut-2.ensures.value) c.work_at_once-done.ensures.lawful in
    let fit = subst (λ (v : NetView). first_edge v.plan c.args.node + ports_in c.work_at_once-done.new.intake.waits ≤ length v.limits.queues) (sym c.self.view_is) (ports_fit c.args.self.now c.args.node c.work_at_once-done.new.intake c.requires.stands c.requires.there lawful) in
    subst (λ (i : IntakeView). first_edge c.self.inside.plan c.args.node + ports_in i.waits ≤ length c.self.inside.limits.queues) (sym (put_there c.self.inside.intakes.items c.args.node c.work_at_once-done.new.intake intake at)) fit)

pub note_ports-requires-clause-short : goal.note_ports-requires-clause-short
note_ports-requires-clause-short g c = subst (λ (v : NetView). length v.limits.queues < 4294967296) (sym c.self.view_is) (queues_short c.args.self.now c.requires.stands)

pub note_ports-requires-clause-few : goal.note_ports-requires-clause-few
note_ports-requires-clause-few g c = λ intake port at.
    (let lawful = intake_shown c.args.self.now c.args.node _ c.work_at_once-done.new.self _ _ c.requires.stands c.requires.running c.requires.there
    (engine_read _ c.args.self.now c.args.node _ c.self.view_is c.requires.stands c.requires.there c.index_mut.ensures.value)
    (intake_read _ c.args.self.now c.args.node _ c.self.view_is c.requires.stands c.requires.there c.index_mut-2.ensures.value) c.work_at_once-done.ensures.lawful in
    few_packets c.requires.stands.job c.args.node port intake (subst (λ (i : IntakeView). LawfulIntake c.requires.stands.job c.args.node i) (sym (put_there c.self.inside.intakes.items c.args.node c.work_at_once-done.new.intake intake at)) lawful))

pub returns : goal.returns
returns g c = shows_some c.work_at_once-done.result c.args.node c.args.self.now c.note_ports.new.self (sym c.did_nothing.ensures ∙ c.if-did_nothing.false) (record {
  engine = c.index_mut.result.now;
  at = engine_read _ c.args.self.now c.args.node _ c.self.view_is c.requires.stands c.requires.there c.index_mut.ensures.value;
  intake = c.index_mut-2.result.now;
  to = intake_read _ c.args.self.now c.args.node _ c.self.view_is c.requires.stands c.requires.there c.index_mut-2.ensures.value;
  engine_now = c.work_at_once-done.new.self;
  intake_now = c.work_at_once-done.new.intake;
  does = c.work_at_once-done.ensures.does;
  now_is = c.note_ports.ensures c.work_at_once-done.new.intake
      (put_here c.self.inside.intakes.items c.args.node c.work_at_once-done.new.intake (subst (λ (v : NetView). c.args.node < length v.intakes) (sym c.self.view_is) (intake_there c.args.self.now c.args.node c.requires.stands c.requires.there)))
      ∙ ap (λ (v : NetView). with_noted (with_intake (with_engine v c.args.node c.work_at_once-done.new.self) c.args.node c.work_at_once-done.new.intake) (first_edge v.plan c.args.node) (lengths_of c.work_at_once-done.new.intake.waits)) c.self.view_is;
})

pub returns-then-did_nothing : goal.returns-then-did_nothing
returns-then-did_nothing g c =
    let at = engine_read _ c.args.self.now c.args.node _ c.self.view_is c.requires.stands c.requires.there c.index_mut.ensures.value in
    let to = intake_read _ c.args.self.now c.args.node _ c.self.view_is c.requires.stands c.requires.there c.index_mut-2.ensures.value in
    subst (λ (v : NetView). ShowsAt g.C.NodeCalculator.laws c.args.node c.work_at_once-done.result c.args.self.now v)
    (sym (ap (λ (v : NetView). with_intake (with_engine v c.args.node c.work_at_once-done.new.self) c.args.node c.work_at_once-done.new.intake) c.self.view_is))
    (shows_none c.work_at_once-done.result c.args.node c.args.self.now c.requires.stands c.requires.running c.requires.there c.index_mut.result.now c.work_at_once-done.new.self c.index_mut-2.result.now c.work_at_once-done.new.intake at to
    (sym c.did_nothing.ensures ∙ c.if-did_nothing.true) c.work_at_once-done.ensures.does)
