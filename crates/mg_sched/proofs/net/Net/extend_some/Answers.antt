use Rattle.std.proofs.Common.{◌≡◌, length, ◌∙◌}
use Rattle.std.proofs.lemmas.List.{with_items_is}
use Rattle.mg_sched.proofs.ExtendedNets.{extended_stands}
use Rattle.mg_sched.proofs.ExtendedAt.{some_there, some_may, some_shown, may_stands_at, wakes_at_kept, some_fit, some_rest}
use Rattle.mg_sched.proofs.net.Net.extend_some.Goals as goal

pub extend_some-requires-clause-there : goal.extend_some-requires-clause-there
extend_some-requires-clause-there g c = some_there c.args.inputs.now c.args.pieces.now _ c.args.self.now c.deref_mut.result.now c.len-from.result c.self.view_is c.len-from.ensures c.deref_mut.ensures.value c.requires.may

pub extend_some-requires-clause-may : goal.extend_some-requires-clause-may
extend_some-requires-clause-may g c = some_may c.args.inputs.now c.args.pieces.now _ c.args.self.now c.deref_mut.result.now c.len-from.result c.self.view_is c.len-from.ensures c.deref_mut.ensures.value c.requires.may

pub returns-clause-extends : goal.returns-clause-extends
returns-clause-extends g c = λ more first later comes goes_on stands.
    (let long : length c.extend_some.new.engines ≡ c.self.inside.engines.len = c.in_ok-extend_some.ensures.longer.places ∙ c.deref_mut.ensures.len in
    some_shown more first later c.args.inputs.now c.args.pieces.now _ c.args.self.now c.deref_mut.result.now c.extend_some.new.engines _ c.len-from.result c.self.view_is c.len-from.ensures c.deref_mut.ensures.value c.in_ok-extend_some.ensures.longer
    (with_items_is c.self.inside.engines c.extend_some.new.engines long) comes goes_on stands)

pub returns-clause-stands : goal.returns-clause-stands
returns-clause-stands g c = λ more first later comes goes_on stands. extended_stands more first later c.args.self.now _ goes_on (returns-clause-extends g c more first later comes goes_on stands) stands

pub wake_some-requires : goal.wake_some-requires
wake_some-requires g c =
    some_fit _ c.args.self.now c.self.inside.agenda c.len-from.result c.args.inputs.now c.deref_mut.result.now c.self.view_is (may_stands_at c.args.inputs.now c.args.pieces.now c.args.self.now c.requires.may) c.self.invariant.4 c.deref_mut.ensures.value
    (some_there c.args.inputs.now c.args.pieces.now _ c.args.self.now c.deref_mut.result.now c.len-from.result c.self.view_is c.len-from.ensures c.deref_mut.ensures.value c.requires.may)

pub invariant_of-self-2 : goal.invariant_of-self-2
invariant_of-self-2 g c =
    let long : length c.extend_some.new.engines ≡ c.self.inside.engines.len = c.in_ok-extend_some.ensures.longer.places ∙ c.deref_mut.ensures.len in (
      c.self.invariant.0,
      c.self.invariant.1,
      c.self.invariant.2,
      c.self.invariant.3,
      wakes_at_kept c.self.inside.plan c.len-from.result c.args.inputs.now c.self.inside.agenda c.wake_some.new.kept c.wake_some.ensures c.self.invariant.4,
      λ is. some_rest c.self.inside.plan c.deref_mut.result.now c.extend_some.new.engines _ c.self.inside.engines.items _ _ c.len-from.result c.args.inputs.now c.args.pieces.now c.self.inside.agenda c.wake_some.new.kept c.deref_mut.ensures.value (with_items_is c.self.inside.engines c.extend_some.new.engines long)
          c.wake_some.ensures c.in_ok-extend_some.ensures.longer (c.self.invariant.5 is),
    )
