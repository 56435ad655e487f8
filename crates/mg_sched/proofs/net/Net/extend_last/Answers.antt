use Rattle.std.proofs.Common.{◌≡◌, length, ap, ◌∙◌}
use Rattle.std.proofs.lemmas.List.{with_items_is}
use Rattle.mg_sched.specs.Extends.{for_last}
use Rattle.mg_sched.proofs.ExtendedNets.{pieces_fit, may_each, extends_shown, same_shown, extended_stands}
use Rattle.mg_sched.proofs.TouchedOutside.{may_stands, fit_all, last_fit, wakes_kept, extend_rests}
use Rattle.mg_sched.proofs.net.Net.extend_last.Goals as goal

pub extend_last-requires-clause-room : goal.extend_last-requires-clause-room
extend_last-requires-clause-room g c = pieces_fit c.args.pieces.now _ c.args.self.now c.deref_mut.result.now c.self.view_is c.requires.may c.deref_mut.ensures.value

pub extend_last-requires-clause-may : goal.extend_last-requires-clause-may
extend_last-requires-clause-may g c = may_each c.args.pieces.now _ c.args.self.now c.deref_mut.result.now c.self.view_is c.requires.may c.deref_mut.ensures.value

pub returns-clause-extends : goal.returns-clause-extends
returns-clause-extends g c =
    let long : length c.extend_last.new.engines ≡ c.self.inside.engines.len = c.in_ok-extend_last.ensures.longer.places ∙ c.deref_mut.ensures.len in
    extends_shown c.args.pieces.now _ c.args.self.now c.deref_mut.result.now c.extend_last.new.engines _ c.self.view_is c.requires.may c.deref_mut.ensures.value c.in_ok-extend_last.ensures.longer
    (with_items_is c.self.inside.engines c.extend_last.new.engines long)

pub returns-in_err-extend_last-clause-unchanged : goal.returns-in_err-extend_last-clause-unchanged
returns-in_err-extend_last-clause-unchanged g c =
    let long : length c.extend_last.new.engines ≡ c.self.inside.engines.len = ap length c.in_err-extend_last.ensures.unchanged ∙ c.deref_mut.ensures.len in
    same_shown c.from_residual.result _ c.args.self.now c.deref_mut.result.now c.extend_last.new.engines _ c.self.view_is c.deref_mut.ensures.value c.in_err-extend_last.ensures.unchanged
    (with_items_is c.self.inside.engines c.extend_last.new.engines long)

pub returns-clause-stands : goal.returns-clause-stands
returns-clause-stands g c = λ first later goes_on stands. extended_stands (for_last (length c.args.self.now.plan.inputs) c.args.pieces.now) first later c.args.self.now _ goes_on (returns-clause-extends g c) stands

pub wake_last-requires : goal.wake_last-requires
wake_last-requires g c = last_fit _ c.args.self.now c.self.inside.agenda c.len.result c.self.view_is (may_stands (for_last (length c.args.self.now.plan.inputs) c.args.pieces.now) c.args.self.now c.requires.may) c.self.invariant.4
    (fit_all _ c.args.self.now c.deref_mut.result.now c.args.pieces.now c.len.result c.self.view_is c.deref_mut.ensures.value (pieces_fit c.args.pieces.now _ c.args.self.now c.deref_mut.result.now c.self.view_is c.requires.may c.deref_mut.ensures.value) c.len.ensures)

pub invariant_of-self-2 : goal.invariant_of-self-2
invariant_of-self-2 g c =
    let long : length c.extend_last.new.engines ≡ c.self.inside.engines.len = c.in_ok-extend_last.ensures.longer.places ∙ c.deref_mut.ensures.len in (
      c.self.invariant.0,
      c.self.invariant.1,
      c.self.invariant.2,
      c.self.invariant.3,
      wakes_kept c.self.inside.plan c.len.result c.self.inside.agenda c.wake_last.new.kept c.wake_last.ensures c.self.invariant.4,
      λ is. extend_rests _ c.args.self.now c.deref_mut.result.now c.extend_last.new.engines _ c.args.pieces.now c.len.result c.self.inside.agenda c.wake_last.new.kept c.self.view_is
          (may_stands (for_last (length c.args.self.now.plan.inputs) c.args.pieces.now) c.args.self.now c.requires.may) c.deref_mut.ensures.value (with_items_is c.self.inside.engines c.extend_last.new.engines long) c.len.ensures (pieces_fit c.args.pieces.now _ c.args.self.now c.deref_mut.result.now c.self.view_is c.requires.may c.deref_mut.ensures.value)
          c.wake_last.ensures c.in_ok-extend_last.ensures.longer c.self.invariant.4 (c.self.invariant.5 is),
    )
