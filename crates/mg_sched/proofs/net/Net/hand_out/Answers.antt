use Rattle.std.proofs.Common.{◌+◌, ◌<◌, ◌≤◌, length, ap, sym, subst, ◌∙◌, arith}
use Rattle.mg_node.specs.Views.{IntakeView}
use Rattle.mg_node.specs.Ports.{ports_in}
use Rattle.mg_node.specs.Lawful.{LawfulIntake}
use Rattle.mg_node.proofs.Lemmas.{few_packets, put_there}
use Rattle.mg_sched.specs.Views.{NetView}
use Rattle.mg_sched.specs.Places.{first_edge, with_engine, with_intake, lengths_of}
use Rattle.mg_sched.specs.Acts.{with_noted}
use Rattle.mg_sched.proofs.Finding.{are_cell, engine_read, intake_read, engine_fits, intake_fits, intake_there, put_here, put_long}
use Rattle.mg_sched.proofs.Carrying.{ports_fit, queues_short}
use Rattle.mg_sched.proofs.WorkingAtOnce.{intake_claimed, took_nothing}
use Rattle.mg_sched.proofs.net.Net.hand_out.Goals as goal

pub index_mut-requires : goal.index_mut-requires
index_mut-requires g c = engine_fits _ c.args.self.now c.args.node _ c.self.view_is c.requires.stands c.requires.there c.self.inside.engines.ok.0

pub index_mut-requires-2 : goal.index_mut-requires-2
index_mut-requires-2 g c = intake_fits _ c.args.self.now c.args.node _ c.self.view_is c.requires.stands c.requires.there c.self.inside.intakes.ok.0

pub claim-claimed-requires : goal.claim-claimed-requires
claim-claimed-requires g c = record {
  cell = are_cell c.args.self.now c.args.node _ _ c.requires.stands c.requires.running c.requires.there
      (engine_read _ c.args.self.now c.args.node _ c.self.view_is c.requires.stands c.requires.there c.index_mut.ensures.value)
      (intake_read _ c.args.self.now c.args.node _ c.self.view_is c.requires.stands c.requires.there c.index_mut-2.ensures.value);
}

pub note_ports-requires-clause-there : goal.note_ports-requires-clause-there
note_ports-requires-clause-there g c =
    (let within = subst (λ (v : NetView). c.args.node < length v.intakes) (sym c.self.view_is) (intake_there c.args.self.now c.args.node c.requires.stands c.requires.there) in
    let long = put_long c.self.inside.intakes.items c.args.node c.claim-claimed.new.intake in
    omega (arith, within, long))

pub note_ports-requires-clause-queues : goal.note_ports-requires-clause-queues
note_ports-requires-clause-queues g c = λ intake at.
    (let lawful = intake_claimed c.args.self.now c.args.node _ _ _ _ c.claim-claimed.result c.requires.stands c.requires.running c.requires.there
    (engine_read _ c.args.self.now c.args.node _ c.self.view_is c.requires.stands c.requires.there c.index_mut.ensures.value)
    (intake_read _ c.args.self.now c.args.node _ c.self.view_is c.requires.stands c.requires.there c.index_mut-2.ensures.value) c.claim-claimed.ensures.lawful in
    let fit = subst (λ (v : NetView). first_edge v.plan c.args.node + ports_in c.claim-claimed.new.intake.waits ≤ length v.limits.queues) (sym c.self.view_is) (ports_fit c.args.self.now c.args.node c.claim-claimed.new.intake c.requires.stands c.requires.there lawful) in
    subst (λ (i : IntakeView). first_edge c.self.inside.plan c.args.node + ports_in i.waits ≤ length c.self.inside.limits.queues) (sym (put_there c.self.inside.intakes.items c.args.node c.claim-claimed.new.intake intake at)) fit)

pub note_ports-requires-clause-short : goal.note_ports-requires-clause-short
note_ports-requires-clause-short g c = subst (λ (v : NetView). length v.limits.queues < 4294967296) (sym c.self.view_is) (queues_short c.args.self.now c.requires.stands)

pub note_ports-requires-clause-few : goal.note_ports-requires-clause-few
note_ports-requires-clause-few g c = λ intake port at.
    (let lawful = intake_claimed c.args.self.now c.args.node _ _ _ _ c.claim-claimed.result c.requires.stands c.requires.running c.requires.there
    (engine_read _ c.args.self.now c.args.node _ c.self.view_is c.requires.stands c.requires.there c.index_mut.ensures.value)
    (intake_read _ c.args.self.now c.args.node _ c.self.view_is c.requires.stands c.requires.there c.index_mut-2.ensures.value) c.claim-claimed.ensures.lawful in
    few_packets c.requires.stands.job c.args.node port intake (subst (λ (i : IntakeView). LawfulIntake c.requires.stands.job c.args.node i) (sym (put_there c.self.inside.intakes.items c.args.node c.claim-claimed.new.intake intake at)) lawful))

pub returns : goal.returns
returns g c = record {
  engine = c.index_mut.result.now;
  at = engine_read _ c.args.self.now c.args.node _ c.self.view_is c.requires.stands c.requires.there c.index_mut.ensures.value;
  intake = c.index_mut-2.result.now;
  to = intake_read _ c.args.self.now c.args.node _ c.self.view_is c.requires.stands c.requires.there c.index_mut-2.ensures.value;
  engine_now = c.claim-claimed.new.self;
  intake_now = c.claim-claimed.new.intake;
  claims = c.claim-claimed.ensures.claims;
  now_is = c.note_ports.ensures c.claim-claimed.new.intake
      (put_here c.self.inside.intakes.items c.args.node c.claim-claimed.new.intake (subst (λ (v : NetView). c.args.node < length v.intakes) (sym c.self.view_is) (intake_there c.args.self.now c.args.node c.requires.stands c.requires.there)))
      ∙ ap (λ (v : NetView). with_noted (with_intake (with_engine v c.args.node c.claim-claimed.new.self) c.args.node c.claim-claimed.new.intake) (first_edge v.plan c.args.node) (lengths_of c.claim-claimed.new.intake.waits)) c.self.view_is;
}

pub returns-then-took_none : goal.returns-then-took_none
returns-then-took_none g c =
    let at = engine_read _ c.args.self.now c.args.node _ c.self.view_is c.requires.stands c.requires.there c.index_mut.ensures.value in
    let to = intake_read _ c.args.self.now c.args.node _ c.self.view_is c.requires.stands c.requires.there c.index_mut-2.ensures.value in
    record {
      engine = c.index_mut.result.now;
      at = at;
      intake = c.index_mut-2.result.now;
      to = to;
      engine_now = c.claim-claimed.new.self;
      intake_now = c.claim-claimed.new.intake;
      claims = c.claim-claimed.ensures.claims;
      now_is = ap (λ (v : NetView). with_intake (with_engine v c.args.node c.claim-claimed.new.self) c.args.node c.claim-claimed.new.intake) c.self.view_is
          ∙ took_nothing c.claim-claimed.result c.args.node c.args.self.now c.requires.stands c.requires.running c.requires.there c.index_mut.result.now c.claim-claimed.new.self c.index_mut-2.result.now c.claim-claimed.new.intake at to
          (sym c.took_none.ensures ∙ c.if-took_none.true) c.claim-claimed.ensures.claims;
    }
