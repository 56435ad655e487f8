use Rattle.std.proofs.Common.{ℕ, List, ◌∙◌, Contains, refl, sym, subst}
use Rattle.mg_ready.specs.Ready.{ReadyNodes, IsEmpty}
use Rattle.mg_sched.proofs.Priorities.{highest_there}
use Rattle.mg_sched.proofs.Pouring.{pours_none, pours_more, poured}
use Rattle.mg_sched.proofs.agenda.pour.Goals as goal

pub loop-place-init : goal.loop-place-init
loop-place-init c = (refl, refl, pours_none c.args.from.now c.args.into.now)

pub put-requires : goal.put-requires
put-requires c =
    let place = c.in-Some.place in
    let there = subst (λ (l : List ℕ). Contains l place) c.loop-place.invariant.0 (highest_there c.loop-place.from place c.in-Some.ensures.highest) in
    subst (λ (l : List ℕ). Contains l place) (sym c.loop-place.invariant.1) (c.requires place there)

pub loop-place-preserved : goal.loop-place-preserved
loop-place-preserved c = (
  c.in-Some.ensures.only.order ∙ c.loop-place.invariant.0,
  c.put.ensures.only.order ∙ c.loop-place.invariant.1,
  pours_more c.args.from.now c.loop-place.from c.take.new.self c.args.into.now c.loop-place.into c.put.new.self c.in-Some.place c.loop-place.invariant.2 c.in-Some.ensures.highest c.in-Some.ensures.only c.put.ensures.put
      c.put.ensures.only,
)

pub returns-clause-none : goal.returns-clause-none
returns-clause-none c = subst (λ (r : ReadyNodes). IsEmpty r) (sym c.in_default.ensures.unchanged) c.in_default.ensures.none

pub returns-clause-all : goal.returns-clause-all
returns-clause-all c = poured c.args.from.now c.loop-place.from c.args.into.now c.loop-place.into c.loop-place.invariant.2 c.in_default.ensures.none
