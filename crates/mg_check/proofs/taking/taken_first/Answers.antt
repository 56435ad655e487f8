use Rattle.mg_check.proofs.OrderingNext.{IsAfter-first}
use Rattle.mg_check.proofs.taking.taken_first.Goals as goal

pub returns-clause-after : goal.returns-clause-after
returns-clause-after c =
    IsAfter-first c.args.count c.args.links.now c.args.sources.now c.in_ok-taken.taken.items c.deref.result.now c.deref-2.result.now
    c.in_ok-waiting.waiting.items c.deref-3.result.now c.in_ok-ready.ready c.requires.links c.in_ok-taken.ensures c.deref.ensures.value c.in_ok-waiting.ensures
    c.deref-2.ensures.value c.deref-3.ensures.value c.in_ok-ready.ensures
