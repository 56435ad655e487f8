use Rattle.std.proofs.Common.{◌≡◌, ◌+◌, ◌<◌, ◌++◌, List, Some, length, take, drop, slice_get, ap, refl, sym, subst, ◌∙◌}
use Rattle.std.proofs.lemmas.Option.{slice_get_read}
use Rattle.mg_node.specs.Views.{WorkView}
use Rattle.mg_sched.specs.Views.{WorkQueueView}
use Rattle.mg_sched.proofs.WorkQueuePlaces.{taken_from, found_has, found_there}
use Rattle.mg_sched.proofs.work_queue.WorkQueue.take.Goals as goal

pub returns-clause-taken : goal.returns-clause-taken
returns-clause-taken g c =
    let place = c.in_ok-place.place in
    let found = c.in_ok-place.ensures.found in
    let at : slice_get c.self.inside.works.items place ≡ Some c.remove.result =
    slice_get_read c.self.inside.works.items (length c.self.inside.works.items) place c.remove.result refl (subst (λ (ws : List WorkView). place < length ws) c.deref.ensures.value (found_there (λ (w : WorkView). w.number ≡ c.args.number) _ place found)) c.remove.ensures.value in
    taken_from c.args.number place c.remove.result c.args.self.now _
    (subst (λ (d : WorkQueueView). slice_get d.works place ≡ Some c.remove.result) c.self.view_is at)
    (found_has (λ (w : WorkView). w.number ≡ c.args.number) _ place c.remove.result found (subst (λ (ws : List WorkView). slice_get ws place ≡ Some c.remove.result) (sym c.deref.ensures.value) at))
    (ap (λ (ws : List WorkView). record { room = c.self.inside.room; works = ws }) c.remove.ensures.by_index.2 ∙ ap (λ (d : WorkQueueView). record d { works = take place d.works ++ drop (place + 1) d.works }) c.self.view_is)
