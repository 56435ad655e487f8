use Rattle.mg_crew.proofs.Sharing.{has_work, committed_ends, missed_still, found_none_still, ends_on}
use Rattle.mg_crew.proofs.commits.commit.Goals as goal

pub loop-init : goal.loop-init
loop-init g c = has_work c.args.net.now c.args.seat.now c.args.outcome c.requires.has c.requires.lawful

pub returns-in-Laid : goal.returns-in-Laid
returns-in-Laid g c = committed_ends _ _ _ _ _ _ c.loop.invariant c.in-Laid.ensures.of c.in-Laid.ensures.tried c.in-Laid.ensures.keeps

pub loop-preserved : goal.loop-preserved
loop-preserved g c = missed_still _ _ _ _ _ _ _ _ c.loop.invariant c.in-Busy.ensures.of c.in-Busy.ensures.tried c.in-Busy.ensures.keeps

pub shelve-requires-clause-has : goal.shelve-requires-clause-has
shelve-requires-clause-has g c = (found_none_still c.args.net.now c.args.seat.now c.loop.seat c.try_commit.new.seat c.loop.outcome _ c.loop.invariant c.in-OutOfMemory.ensures.of c.in-OutOfMemory.ensures.tried c.in-OutOfMemory.ensures.keeps).has

pub shelve-requires-clause-lawful : goal.shelve-requires-clause-lawful
shelve-requires-clause-lawful g c = (found_none_still c.args.net.now c.args.seat.now c.loop.seat c.try_commit.new.seat c.loop.outcome _ c.loop.invariant c.in-OutOfMemory.ensures.of c.in-OutOfMemory.ensures.tried c.in-OutOfMemory.ensures.keeps).lawful

pub returns-in-OutOfMemory : goal.returns-in-OutOfMemory
returns-in-OutOfMemory g c =
    let h = found_none_still c.args.net.now c.args.seat.now c.loop.seat c.try_commit.new.seat c.loop.outcome _ c.loop.invariant c.in-OutOfMemory.ensures.of c.in-OutOfMemory.ensures.tried c.in-OutOfMemory.ensures.keeps in
    ends_on _ _ _ _ h.portion c.shelve.ensures
