use Rattle.std.proofs.Common.{refl, sym, ◌∙◌}
use Rattle.mg_sched.proofs.Taking.{last_fits, last_at, set_fits, has_intake, ports_known, short_kept, queues_kept, few_kept, next_taken, in_order, shown_and, none_next, nothing_taken, nothing_stands, take_stands}
use Rattle.mg_sched.proofs.TouchedOutside.{taken_none, touches_kept, touches_rests}
use Rattle.mg_sched.proofs.net.Net.take_out.Goals as goal

pub index_mut-requires : goal.index_mut-requires
index_mut-requires g c = last_fits _ c.args.self.now c.len-place.result _ c.self.view_is c.requires.stands c.len-place.ensures c.self.inside.intakes.ok.0

pub claim-requires-clause-places : goal.claim-requires-clause-places
claim-requires-clause-places g c =
    c.requires.places ∙ sym (ports_known c.args.self.now c.index_mut.result.now c.requires.stands (last_at _ c.args.self.now c.len-place.result c.index_mut.result.now c.self.view_is c.requires.stands c.len-place.ensures c.index_mut.ensures.value))

pub claim-requires-clause-lawful : goal.claim-requires-clause-lawful
claim-requires-clause-lawful g c = has_intake c.args.self.now c.index_mut.result.now c.requires.stands (last_at _ c.args.self.now c.len-place.result c.index_mut.result.now c.self.view_is c.requires.stands c.len-place.ensures c.index_mut.ensures.value)

pub note_ports-requires-clause-there : goal.note_ports-requires-clause-there
note_ports-requires-clause-there g c = set_fits _ c.args.self.now c.len-place.result c.claim.new.self c.self.view_is c.requires.stands c.len-place.ensures

pub note_ports-requires-clause-queues : goal.note_ports-requires-clause-queues
note_ports-requires-clause-queues g c = λ intake at. queues_kept _ c.args.self.now c.len-place.result c.index_mut.result.now c.claim.new.self intake c.self.view_is c.requires.stands c.len-place.ensures c.index_mut.ensures.value c.claim.ensures.ports at

pub note_ports-requires-clause-short : goal.note_ports-requires-clause-short
note_ports-requires-clause-short g c = short_kept _ c.args.self.now c.self.view_is c.requires.stands

pub note_ports-requires-clause-few : goal.note_ports-requires-clause-few
note_ports-requires-clause-few g c = λ intake port at. few_kept _ c.args.self.now c.len-place.result c.index_mut.result.now c.claim.new.self intake port c.self.view_is c.requires.stands c.len-place.ensures c.index_mut.ensures.value (c.claim.ensures.stays_lawful g.C.NodeCalculator.laws) at

pub returns-clause-taken : goal.returns-clause-taken
returns-clause-taken g c = next_taken _ c.args.self.now c.len-place.result c.index_mut.result.now c.claim.new.self c.claim.new.into c.note_ports.new.self c.self.view_is c.requires.stands c.len-place.ensures c.index_mut.ensures.value
    (record {
      shown = shown_and _ _ (c.if-not-claim.ensures.claimed.0 refl) c.if-not-claim.ensures.shown;
      counted = c.if-not-claim.ensures.counted;
      grows = c.claim.ensures.grows;
      left = c.if-not-claim.ensures.left;
      ports = c.claim.ensures.ports;
      counts = c.claim.ensures.counts;
      bounds = c.claim.ensures.bounds;
      stays_lawful = λ job consumer lawful. c.claim.ensures.stays_lawful _ job consumer lawful;
      in_solution = λ job consumer streams solves lawful. c.if-not-claim.ensures.in_solution _ job consumer streams solves lawful;
    }) c.note_ports.ensures

pub returns-clause-stands : goal.returns-clause-stands
returns-clause-stands g c = λ job h. take_stands job c.args.self.now c.note_ports.new.self c.claim.new.into (returns-clause-taken g c) h

pub returns-clause-in_solution : goal.returns-clause-in_solution
returns-clause-in_solution g c = λ job streams solves h. in_order job streams c.args.self.now c.note_ports.new.self c.claim.new.into (returns-clause-taken g c) solves h

pub returns-then-not-claim-clause-taken : goal.returns-then-not-claim-clause-taken
returns-then-not-claim-clause-taken g c = nothing_taken _ c.args.self.now c.len-place.result c.index_mut.result.now c.claim.new.self c.args.into.now c.claim.new.into c.self.view_is c.requires.stands c.len-place.ensures c.index_mut.ensures.value
    (none_next _ c.if-not-claim.ensures.claimed.1) c.if-not-claim.ensures.unchanged.0 c.if-not-claim.ensures.unchanged.1

pub returns-then-not-claim-clause-stands : goal.returns-then-not-claim-clause-stands
returns-then-not-claim-clause-stands g c = λ job h. nothing_stands job c.args.self.now _ c.args.into.now c.claim.new.into (returns-then-not-claim-clause-taken g c) h

pub invariant_of-self : goal.invariant_of-self
invariant_of-self g c = (
  c.self.invariant.0,
  c.self.invariant.1,
  c.self.invariant.2,
  c.self.invariant.3,
  c.self.invariant.4,
  λ is. taken_none c.self.inside.plan c.self.inside.engines.items c.self.inside.intakes.items c.self.inside.work_queues.items c.len-place.result c.index_mut.result.now c.claim.new.self c.self.inside.agenda c.index_mut.ensures.value c.if-not-claim.ensures.unchanged.0
      (last_fits _ c.args.self.now c.len-place.result _ c.self.view_is c.requires.stands c.len-place.ensures refl) (c.self.invariant.5 is),
)

pub invariant_of-self-2 : goal.invariant_of-self-2
invariant_of-self-2 g c = (
  c.self.invariant.0,
  c.self.invariant.1,
  c.self.invariant.2,
  c.self.invariant.3,
  touches_kept c.self.inside.plan c.len-place.result c.self.inside.agenda c.touch.new.kept c.touch.ensures c.self.invariant.4,
  λ is. touches_rests c.self.inside.plan c.self.inside.engines.items c.self.inside.intakes.items c.self.inside.work_queues.items c.len-place.result c.claim.new.self c.self.inside.agenda c.touch.new.kept c.touch.ensures (c.self.invariant.5 is),
)
