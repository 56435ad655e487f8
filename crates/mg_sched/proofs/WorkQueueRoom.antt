-- No more works lie in a work queue than its window has entries.
use Rattle.mg_calc.specs.Rules.{Laws}
use Rattle.std.proofs.Common.{◌≡◌, ◌≢◌, ℕ, ◌-◌, ◌<◌, ◌≤◌, Bool, true, false, List, [], ◌∷◌, length, map, AllPairs, ⊎_elim, refl, inl, inr, arith, ◌||◌, ◌⊎◌, eqb, Decides}
use Rattle.std.specs.List.{AllByRecursion, list_any}
use Rattle.std.proofs.lemmas.Bool.Decides.{nat_tests}
use Rattle.std.proofs.lemmas.List.{length-map, get_or-map}
use Rattle.std.proofs.lemmas.List.Elements.{recursion_from_All}
use Rattle.std.proofs.lemmas.Option.{slice_get_within}
use Rattle.std.proofs.lemmas.Map.Made.{IsDistinct-from_AllPairs}
use Rattle.std.proofs.lemmas.Map.Steps.{length-le_from_distinct_below}
use Rattle.mg_node.specs.Views.{WorkView, EngineView}
use Rattle.mg_node.specs.Job.{LoggedJob}
use Rattle.mg_node.specs.Lawful.{of_node, LawfulEngine}
use Rattle.mg_node.specs.Shelves.{IsOut}
use Rattle.mg_node.proofs.Lemmas.{engine_known, engine_there}
use Rattle.mg_sched.specs.Views.{WorkQueueView}
use Rattle.mg_sched.specs.StandsFor.{HasWorks}
use Rattle.mg_sched.proofs.Finding.{found}

decided : (a b : ℕ) → Decides (eqb a b) (a ≡ b)
decided a b = (λ t. grind (arith, nat_tests, t), λ e. grind (arith, nat_tests, e))

-- the place of a work in its window
abbrev place_in : EngineView → WorkView → ℕ
place_in engine work = work.number - engine.laid

below : (engine : EngineView) (ws : List WorkView) → AllByRecursion (IsOut engine) ws → (q : ℕ) → list_any (eqb q) (map (place_in engine) ws) ≡ true → q < length engine.window
below engine [] out q has = absurd cc
below engine (w ∷ ws) out q has =
    let within = slice_get_within engine.window (w.number - engine.laid) out.0.entry out.0.there in
    ⊎_elim
    (λ here. let same : q ≡ place_in engine w = grind (arith, nat_tests, here) in omega (arith, same, within))
    (λ later. below engine ws out.1 q later)
    (either (eqb q (place_in engine w)) (list_any (eqb q) (map (place_in engine) ws)) has)
  where
    either : (a b : Bool) → (a || b) ≡ true → (a ≡ true) ⊎ (b ≡ true)
    either true b h = inl refl
    either false b h = inr h

pub works_fit : {laws : Laws} (job : LoggedJob laws) (engine : EngineView) (work_queue : WorkQueueView) → HasWorks job engine work_queue → length work_queue.works ≤ length engine.window
works_fit {laws} job engine work_queue h =
    let f = place_in engine in
    let long = length-map work_queue.works f in
    let apart : AllPairs (λ x y. x ≢ y) (map f work_queue.works) = λ i j d less within same.
    (let there = found work_queue.works j (omega (arith, within, long)) in
    let w = there.0 in
    let one = get_or-map f work_queue.works i w d (omega (arith, less, within, long)) in
    let two = get_or-map f work_queue.works j w d (omega (arith, within, long)) in
    let out_i = (h.out i w (omega (arith, less, within, long))).laid in
    let out_j = (h.out j w (omega (arith, within, long))).laid in
    h.apart i j w less (omega (arith, within, long)) (omega (arith, one, two, same, out_i, out_j))) in
    let few = length-le_from_distinct_below (map f work_queue.works) (length engine.window) (IsDistinct-from_AllPairs decided (map f work_queue.works) apart) (below engine work_queue.works (recursion_from_All (IsOut engine) work_queue.works h.out)) in
    omega (arith, few, long)

-- and no more than may be in flight
pub window_fits : {laws : Laws} (job : LoggedJob laws) (node : ℕ) (engine : EngineView) → LawfulEngine job (of_node node) engine → length engine.window ≤ engine.in_flight
window_fits {laws} job node engine h =
    let at = found job.job.plan.nodes node (engine_there job node engine h) in
    let contexts = (engine_known job node engine at.0 h at.1).contexts in
    omega (arith, contexts)
