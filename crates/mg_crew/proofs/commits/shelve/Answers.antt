use Rattle.mg_crew.proofs.Sharing.{has_work, shelved_ends, missed_still}
use Rattle.mg_crew.proofs.commits.shelve.Goals as goal

pub loop-init : goal.loop-init
loop-init g c = has_work c.args.net.now c.args.seat.now c.args.outcome c.requires.has c.requires.lawful

pub returns-in-Shelved : goal.returns-in-Shelved
returns-in-Shelved g c = shelved_ends _ _ _ _ _ c.loop.invariant c.in-Shelved.ensures.of c.in-Shelved.ensures.tried c.in-Shelved.ensures.keeps

pub loop-preserved : goal.loop-preserved
loop-preserved g c = missed_still _ _ _ _ _ _ _ _ c.loop.invariant c.in-Busy.ensures.of c.in-Busy.ensures.tried c.in-Busy.ensures.keeps
