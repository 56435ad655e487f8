use Rattle.mg_throttle.proofs.Listing.{relaxes_none, relaxes_on, relaxes_all}
use Rattle.mg_throttle.proofs.limits.relax_listed.Goals as goal

pub loop-number-init : goal.loop-number-init
loop-number-init c = relaxes_none c.args.queues.now c.args.listed.now c.requires.listed

pub loop-number-preserved : goal.loop-number-preserved
loop-number-preserved c =
    relaxes_on c.args.queues.now c.loop-number.queues c.args.listed.now c.loop-number.listed c.take.new.self c.loop-number.any c.is_full-any.result c.in-Some.number _ c.relaxed.result c.loop-number.invariant c.requires.listed.numbers
    c.in-Some.ensures.highest c.in-Some.ensures.taken c.in-Some.ensures.only c.is_full-any.ensures c.relaxed.ensures

pub returns-clause-relaxed : goal.returns-clause-relaxed
returns-clause-relaxed c = (relaxes_all _ _ _ c.loop-number.listed _ c.loop-number.invariant c.in_default.ensures.none).0

pub returns-clause-any : goal.returns-clause-any
returns-clause-any c = (relaxes_all _ _ _ c.loop-number.listed _ c.loop-number.invariant c.in_default.ensures.none).1
