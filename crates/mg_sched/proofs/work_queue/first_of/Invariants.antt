-- The first is among those that are left.
use Rattle.std.proofs.Common.{◌≡◌, map}
use Rattle.std.specs.Vec.Iter.{into_iter_items}
use Rattle.mg_node.specs.Views.{WorkView}
use Rattle.mg_node.proofs.Lemmas.{first_told}
use Rattle.mg_sched.proofs.work_queue.first_of.Given as goal

abbrev pub invariant-loop-work : goal.invariant-loop-work
invariant-loop-work g l = first_told (map (λ (w : WorkView). w.context.told) (into_iter_items l.work-iterator)) ≡ first_told (map (λ (w : WorkView). w.context.told) l.fn.works.items)
