-- What is left to do of an engine whose window or outputs are others.
use Rattle.mg_calc.specs.Rules.{Laws}
use Rattle.std.proofs.Common.{◌≡◌, ℕ, zero, suc, ◌+◌, ◌-◌, ◌*◌, ◌^◌, ◌<◌, ◌≤◌, ◌||◌, Bool, true, false, List, [], ◌∷◌, length, set, get_or, Option, Some, None, IfSome, IsSome, slice_get, sum_by, ap, sym, refl, subst, ◌∙◌, arith, if◌then◌else◌}
use Rattle.std.specs.List.{list_any}
use Rattle.std.proofs.lemmas.List.Sums.{sum_by-cons}
use Rattle.mg_time.specs.Time.{done}
use Rattle.mg_value.specs.Payload.{Plain}
use Rattle.mg_stream.specs.Pool.{Backlog, queue_of, empty_backlog}
use Rattle.mg_node.specs.Views.{WorkView, OutcomeView, EntryView, EngineView}
use Rattle.mg_node.specs.Job.{LoggedJob}
use Rattle.mg_node.specs.Lawful.{of_node, is_close, LawfulEngine}
use Rattle.mg_node.specs.Windows.{has_ended}
use Rattle.mg_node.specs.Shelves.{IsOut}
use Rattle.mg_node.specs.IntakeStanding.{HasGrown}
use Rattle.mg_sched.specs.Code.Left.{came_left, entry_left, engine_left}
use Rattle.mg_sched.proofs.SumsFall.{sum_put}

-- Close may still be claimed, unless the node has ended or Close is in its window
abbrev pub close_by : Bool → ℕ
close_by gone = if gone then 0 else 4

abbrev pub closes : EntryView → Bool
closes entry = is_close entry.phase

-- of a window, and of the Close that isn't in it
abbrev pub window_left : Bool → List EntryView → ℕ
window_left ended window = sum_by entry_left window + close_by (ended || list_any closes window)

abbrev pub bounds_left : List (Backlog Plain) → ℕ
bounds_left bs = sum_by (λ b. done - b.bound) bs

engine_numbers : (c c_now w w_now k k_now o o_now : ℕ) → c_now ≡ c → w_now + k_now < w + k → o_now ≤ o → 4 * (2 ^ 65 - c_now) + w_now + k_now + o_now < 4 * (2 ^ 65 - c) + w + k + o
engine_numbers c c_now w w_now k k_now o o_now same less fewer = omega arith

-- if its window has less to do, and its outputs have no more
pub window_less : (engine now : EngineView) → now.claimed ≡ engine.claimed → window_left (has_ended now) now.window < window_left (has_ended engine) engine.window → bounds_left now.outputs ≤ bounds_left engine.outputs → engine_left now < engine_left engine
window_less engine now claimed window outputs =
    engine_numbers engine.claimed now.claimed (sum_by entry_left engine.window) (sum_by entry_left now.window) (close_by (has_ended engine || list_any closes engine.window)) (close_by (has_ended now || list_any closes now.window)) (bounds_left engine.outputs)
    (bounds_left now.outputs) claimed window outputs

-- some element passes if one did before, as long as the element at the place passes as before
pub any_put : {X : Type 0} (p : X → Bool) (xs : List X) (i : ℕ) (x y : X) → slice_get xs i ≡ Some x → p y ≡ p x → list_any p (set xs i y) ≡ list_any p xs
any_put p [] i x y at same = refl
any_put {X} p (z ∷ xs) zero x y at same = (let one : Some z ≡ Some x = at in let is : z ≡ x = cc in ap (λ (b : Bool). b || list_any p xs) (same ∙ ap p (sym is)))
any_put p (z ∷ xs) (suc i) x y at same = ap (λ (b : Bool). p z || b) (any_put p xs i x y at same)

-- another entry of the same phase stands at a place
pub entry_less : (engine : EngineView) (place : ℕ) (entry now : EntryView) → slice_get engine.window place ≡ Some entry → now.phase ≡ entry.phase → entry_left now < entry_left entry → engine_left (record engine { window = set engine.window place now }) < engine_left engine
entry_less engine place entry now at phase less =
    let sums = sum_put entry_left engine.window place entry now at in
    let close : close_by (has_ended engine || list_any closes (set engine.window place now)) ≡ close_by (has_ended engine || list_any closes engine.window) =
    ap (λ (b : Bool). close_by (has_ended engine || b)) (any_put closes engine.window place entry now at (ap is_close phase)) in
    window_less engine (record engine { window = set engine.window place now }) refl (omega (arith, sums, close, less)) (omega arith)

-- outputs that only grow
outputs_step : (b : Backlog Plain) (bs : List (Backlog Plain)) → bounds_left (b ∷ bs) ≡ (done - b.bound) + bounds_left bs
outputs_step b bs = sum_by-cons (λ (x : Backlog Plain). done - x.bound) b bs

pub outputs_less : (before now : List (Backlog Plain)) → length now ≡ length before → ((output : ℕ) → HasGrown (queue_of 0 (get_or before output empty_backlog)) (queue_of 0 (get_or now output empty_backlog))) → bounds_left now ≤ bounds_left before
outputs_less [] [] long grown = omega arith
outputs_less [] (n ∷ now) long grown = absurd (omega (arith, long))
outputs_less (b ∷ before) [] long grown = absurd (omega (arith, long))
outputs_less (b ∷ before) (n ∷ now) long grown =
    let first : b.bound ≤ n.bound = (grown 0).bound in
    let later = outputs_less before now (omega (arith, long)) (λ output. grown (suc output)) in
    let one = outputs_step b before in
    let two = outputs_step n now in
    omega (arith, first, later, one, two)

-- the entry of a work that is out has to be performed and committed
none_left : (committed : Bool) (o : Option OutcomeView) → o ≡ None → (committed ≡ true → IsSome o × IfSome o (λ x. IsSome x.answer)) → (if committed then 0 else came_left o) ≡ 2
none_left true o is h = absurd (let some : IsSome o = (h refl).0 in let none : IsSome (let z : Option OutcomeView = None in z) = subst IsSome is some in cc)
none_left false o is h = ap came_left is

pub out_left : {laws : Laws} (job : LoggedJob laws) (node : ℕ) (engine : EngineView) (work : WorkView) (out : IsOut engine work) → LawfulEngine job (of_node node) engine → entry_left out.entry ≡ 2
unfolding LawfulEngine
out_left {laws} job node engine work out h = none_left out.entry.committed out.entry.outcome out.out (h.entries (work.number - engine.laid) out.entry out.there).committed
