use Rattle.std.proofs.Common.{◌<◌, ℕ, length, ap, sym, subst, ◌∙◌, arith}
use Rattle.mg_node.specs.Ports.{port_queue}
use Rattle.mg_throttle.specs.Throttle.{QueueLimits, noted}
use Rattle.mg_sched.specs.Views.{NetView}
use Rattle.mg_sched.specs.Places.{with_intake, with_limits}
use Rattle.mg_sched.proofs.Finding.{valid, engine_read_at, intake_read_at}
use Rattle.mg_sched.proofs.Carrying.{leads, source_there, target_there, queue_there, port_there, still_lawful}
use Rattle.mg_node.proofs.Lemmas.{few_packets}
use Rattle.mg_sched.proofs.PlanEdges.{edge_stream}
use Rattle.mg_sched.proofs.net.Net.bring.Goals as goal

pub source_of-place-requires : goal.source_of-place-requires
source_of-place-requires g c = edge_stream c.args.self.now.plan (valid c.args.self.now c.requires.stands) c.args.number c.args.edge c.requires.there

pub index-engine-requires : goal.index-engine-requires
index-engine-requires g c =
    (let within = subst (λ (v : NetView). c.source_of-place.result < length v.engines) (sym c.self.view_is) (source_there c.args.self.now c.args.number c.source_of-place.result c.args.edge c.requires.stands c.requires.there c.source_of-place.ensures) in
    let ok = c.self.inside.engines.ok.0 in omega (arith, within, ok))

pub index_mut-intake-requires : goal.index_mut-intake-requires
index_mut-intake-requires g c =
    (let within = subst (λ (v : NetView). c.args.edge.node < length v.intakes) (sym c.self.view_is) (target_there c.args.self.now c.args.number c.args.edge c.requires.stands c.requires.there) in
    let ok = c.self.inside.intakes.ok.0 in omega (arith, within, ok))

pub deliver-delivered-requires : goal.deliver-delivered-requires
deliver-delivered-requires g c = leads c.args.self.now c.args.number c.source_of-place.result c.args.edge _ _ c.requires.stands c.requires.running c.requires.there c.source_of-place.ensures
    (engine_read_at _ c.args.self.now c.source_of-place.result _ c.self.view_is (source_there c.args.self.now c.args.number c.source_of-place.result c.args.edge c.requires.stands c.requires.there c.source_of-place.ensures) c.index-engine.ensures)
    (intake_read_at _ c.args.self.now c.args.edge.node _ c.self.view_is (target_there c.args.self.now c.args.number c.args.edge c.requires.stands c.requires.there) c.index_mut-intake.ensures.value)

pub waiting-requires : goal.waiting-requires
waiting-requires g c = port_there c.requires.stands.job c.args.self.now c.args.number c.args.edge c.deliver-delivered.new.intake c.requires.stands.stands c.requires.there
    (still_lawful c.requires.stands.job c.args.self.now c.args.number c.source_of-place.result c.args.edge c.index-engine.result.now c.index_mut-intake.result.now c.deliver-delivered.new.intake c.requires.stands.stands c.requires.running c.requires.there c.source_of-place.ensures
    (engine_read_at _ c.args.self.now c.source_of-place.result _ c.self.view_is (source_there c.args.self.now c.args.number c.source_of-place.result c.args.edge c.requires.stands c.requires.there c.source_of-place.ensures) c.index-engine.ensures)
    (intake_read_at _ c.args.self.now c.args.edge.node _ c.self.view_is (target_there c.args.self.now c.args.number c.args.edge c.requires.stands c.requires.there) c.index_mut-intake.ensures.value)
    (c.deliver-delivered.ensures.lawful c.requires.stands.job))

pub note-requires-clause-edge : goal.note-requires-clause-edge
note-requires-clause-edge g c =
    subst (λ (v : NetView). c.args.number < length v.limits.queues) (sym c.self.view_is) (queue_there c.args.self.now c.args.number c.args.edge c.requires.stands c.requires.there)

pub note-requires-clause-packets : goal.note-requires-clause-packets
note-requires-clause-packets g c =
    (let few = few_packets c.requires.stands.job c.args.edge.node c.args.edge.port c.deliver-delivered.new.intake (still_lawful c.requires.stands.job c.args.self.now c.args.number c.source_of-place.result c.args.edge c.index-engine.result.now c.index_mut-intake.result.now c.deliver-delivered.new.intake c.requires.stands.stands c.requires.running c.requires.there c.source_of-place.ensures
    (engine_read_at _ c.args.self.now c.source_of-place.result _ c.self.view_is (source_there c.args.self.now c.args.number c.source_of-place.result c.args.edge c.requires.stands c.requires.there c.source_of-place.ensures) c.index-engine.ensures)
    (intake_read_at _ c.args.self.now c.args.edge.node _ c.self.view_is (target_there c.args.self.now c.args.number c.args.edge c.requires.stands c.requires.there) c.index_mut-intake.ensures.value)
    (c.deliver-delivered.ensures.lawful c.requires.stands.job)) in
    let is = c.waiting.ensures in omega (arith, few, is))

pub returns : goal.returns
returns g c = record {
  place = c.source_of-place.result;
  from = c.source_of-place.ensures;
  engine = c.index-engine.result.now;
  at = engine_read_at _ c.args.self.now c.source_of-place.result _ c.self.view_is (source_there c.args.self.now c.args.number c.source_of-place.result c.args.edge c.requires.stands c.requires.there c.source_of-place.ensures) c.index-engine.ensures;
  intake = c.index_mut-intake.result.now;
  to = intake_read_at _ c.args.self.now c.args.edge.node _ c.self.view_is (target_there c.args.self.now c.args.number c.args.edge c.requires.stands c.requires.there) c.index_mut-intake.ensures.value;
  answer = c.deliver-delivered.result;
  intake_now = c.deliver-delivered.new.intake;
  moved = c.deliver-delivered.ensures.moved;
  claimed = c.deliver-delivered.ensures.claimed;
  still = c.deliver-delivered.ensures.still;
  effect_is = c.effect_of.ensures;
  now_is = ap (λ (v : NetView). with_limits (with_intake v c.args.edge.node c.deliver-delivered.new.intake) c.note.new.self) c.self.view_is
      ∙ ap (λ (t : QueueLimits). with_limits (with_intake c.args.self.now c.args.edge.node c.deliver-delivered.new.intake) t)
      (c.note.ensures.noted ∙ ap (λ (n : ℕ). record c.self.inside.limits { queues = noted c.self.inside.limits.queues c.args.number n }) c.waiting.ensures
      ∙ ap (λ (v : NetView). record v.limits { queues = noted v.limits.queues c.args.number (length (port_queue c.deliver-delivered.new.intake.waits c.args.edge.port).packets) }) c.self.view_is);
}
