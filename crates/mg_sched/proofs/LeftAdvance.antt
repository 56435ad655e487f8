-- An advance leaves less to raise.
use Rattle.std.proofs.Common.{◌≡◌, ℕ, suc, ◌-◌, ◌<◌, ◌≤◌, Bool, true, false, List, [], ◌∷◌, map, length, sum_by, All, max, Option, Some, None, slice_get, nat_lt, sym, refl, subst, arith, if◌then◌else◌}
use Rattle.std.proofs.lemmas.Bool.Decides.{nat_tests}
use Rattle.mg_time.specs.Time.{done}
use Rattle.mg_value.specs.Payload.{Plain}
use Rattle.mg_stream.specs.Pool.{Backlog}
use Rattle.mg_calc.specs.Rules.{Laws}
use Rattle.mg_calc.specs.declared.event.Effect.{Effect}
use Rattle.mg_calc.specs.declared.event.Effect.TheVariants.{Did}
use Rattle.mg_calc.proofs.Earlier.{get_map}
use Rattle.mg_node.specs.Views.{EngineView}
use Rattle.mg_node.specs.Advances.{raised_output, any_moved, any_moved_by, advance_bound, advanced, is_advanced}
use Rattle.mg_node.specs.Job.{LoggedJob}
use Rattle.mg_node.specs.Lawful.{of_node}
use Rattle.mg_node.proofs.Lemmas.{advance_lawful, bounds_small}
use Rattle.mg_sched.specs.Views.{NetView}
use Rattle.mg_sched.specs.Places.{with_engine}
use Rattle.mg_sched.specs.StandsFor.{StandsFor, IsRunning}
use Rattle.mg_sched.specs.Acts.{NodeAdvances}
use Rattle.mg_sched.specs.Code.Left.{engine_left, left_in}
use Rattle.mg_sched.proofs.Finding.{cell_at, found}
use Rattle.mg_sched.proofs.PlanEdges.{all_at}
use Rattle.mg_sched.proofs.SumsFall.{sums_no_more, sums_fall, sum_mapped}
use Rattle.mg_sched.proofs.LeftParts.{engine_put, put_less, put_no_more, did_so}

-- how far an output may be raised
abbrev output_left : Backlog Plain → ℕ
output_left b = done - b.bound

raised_low : (bound : Option ℕ) (b : Backlog Plain) → output_left (raised_output bound b) ≤ output_left b
raised_low None b = omega arith
raised_low (Some n) b = omega arith

outputs_low : (bound : Option ℕ) (outputs : List (Backlog Plain)) → sum_by output_left (map (raised_output bound) outputs) ≤ sum_by output_left outputs
outputs_low bound outputs =
    let low = sums_no_more output_left (λ (b : Backlog Plain). output_left (raised_output bound b)) outputs (λ i b at. raised_low bound b) in
    omega (arith, low, sum_mapped output_left (raised_output bound) outputs)

-- an output below a bound
record IsMoved (bound : ℕ) (outputs : List (Backlog Plain)) : Type 0 where
  pub place : ℕ
  pub output : Backlog Plain
  pub at : slice_get outputs place ≡ Some output
  pub below : output.bound < bound

moved_first : (bound : ℕ) (b : Backlog Plain) (bs : List (Backlog Plain)) (test : Bool) → nat_lt b.bound bound ≡ test → (if test then true else any_moved bound bs) ≡ true → (any_moved bound bs ≡ true → IsMoved bound bs) → IsMoved bound (b ∷ bs)
moved_first bound b bs true is moved rest = record { place = 0; output = b; at = refl; below = grind (arith, nat_tests, is) }
moved_first bound b bs false is moved rest = (let later = rest moved in record { place = suc later.place; output = later.output; at = later.at; below = later.below })

moved_at : (bound : ℕ) (outputs : List (Backlog Plain)) → any_moved bound outputs ≡ true → IsMoved bound outputs
moved_at bound [] moved = absurd cc
moved_at bound (b ∷ bs) moved = moved_first bound b bs (nat_lt b.bound bound) refl moved (moved_at bound bs)

outputs_fall : (bound : Option ℕ) (outputs : List (Backlog Plain)) → any_moved_by bound outputs ≡ true → All (λ b. b.bound ≤ done) (map (raised_output bound) outputs) → sum_by output_left (map (raised_output bound) outputs) < sum_by output_left outputs
outputs_fall None outputs moved small = absurd cc
outputs_fall (Some n) outputs moved small =
    let m = moved_at n outputs moved in
    let top : max m.output.bound n ≤ done = all_at (λ (b : Backlog Plain). b.bound ≤ done) (map (raised_output (Some n)) outputs) m.place (raised_output (Some n) m.output) (get_map (raised_output (Some n)) outputs m.place m.output m.at) small in
    let below = m.below in
    let fall = sums_fall output_left (λ (b : Backlog Plain). output_left (raised_output (Some n) b)) outputs m.place m.output (λ i b at. raised_low (Some n) b) m.at (omega (arith, top, below)) in
    omega (arith, fall, sum_mapped output_left (raised_output (Some n)) outputs)

engine_falls : (e : EngineView) (outputs : List (Backlog Plain)) → sum_by output_left outputs < sum_by output_left e.outputs → engine_left (record e { outputs = outputs }) < engine_left e
engine_falls e outputs fall = omega (arith, fall)

engine_low : (e : EngineView) (outputs : List (Backlog Plain)) → sum_by output_left outputs ≤ sum_by output_left e.outputs → engine_left (record e { outputs = outputs }) ≤ engine_left e
engine_low e outputs low = omega (arith, low)

pub advance_less : {laws : Laws} (job : LoggedJob laws) (node : ℕ) (before now : NetView) → node < length before.plan.nodes → IsRunning before → StandsFor job before → NodeAdvances node Did before now → left_in now < left_in before
unfolding StandsFor
advance_less {laws} job node before now within running h a =
    let long = h.work_queues in
    let work_queue = found before.work_queues node (omega (arith, within, long)) in
    let cell = cell_at job before node a.engine a.intake work_queue.0 h running within a.at a.to work_queue.1 in
    let engine_now = advanced a.engine a.intake.waits in
    let small = bounds_small job (of_node node) engine_now (advance_lawful job node a.engine a.intake cell.lawful_engine cell.lawful_intake cell.agree) in
    let moved = did_so (is_advanced a.engine a.intake.waits) a.effect_is in
    let fall = outputs_fall (advance_bound a.engine a.intake.waits) a.engine.outputs moved small in
    subst (λ (v : NetView). left_in v < left_in before) (sym a.now_is)
    (put_less (left_in (with_engine before node engine_now)) (left_in before) (engine_left engine_now) (engine_left a.engine) (engine_put before node a.engine engine_now a.at) (engine_falls a.engine engine_now.outputs fall))

pub advance_no_more : (node : ℕ) (effect : Effect) (before now : NetView) → NodeAdvances node effect before now → left_in now ≤ left_in before
advance_no_more node effect before now a =
    let engine_now = advanced a.engine a.intake.waits in
    subst (λ (v : NetView). left_in v ≤ left_in before) (sym a.now_is)
    (put_no_more (left_in (with_engine before node engine_now)) (left_in before) (engine_left engine_now) (engine_left a.engine) (engine_put before node a.engine engine_now a.at)
    (engine_low a.engine engine_now.outputs (outputs_low (advance_bound a.engine a.intake.waits) a.engine.outputs)))
