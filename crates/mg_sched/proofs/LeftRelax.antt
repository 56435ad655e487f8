-- Limits that are relaxed may be relaxed less often.
use Rattle.std.proofs.Common.{◌≡◌, ℕ, ◌+◌, ◌<◌, ◌≤◌, ◌^◌, ◌&&◌, Bool, true, false, length, map, sum_by, Option, Some, None, slice_get, inl, inr, sym, refl, subst, arith, if◌then◌else◌}
use Rattle.std.proofs.lemmas.Bool.{cases_Bool}
use Rattle.std.proofs.lemmas.Bool.Decides.{nat_tests}
use Rattle.std.proofs.lemmas.List.Folds.{Any-from_list_any}
use Rattle.std.proofs.lemmas.Option.{slice_get_within, slice_get_read}
use Rattle.mg_calc.specs.Rules.{Laws}
use Rattle.mg_calc.specs.declared.event.Effect.{Effect}
use Rattle.mg_calc.specs.declared.event.Effect.TheVariants.{Did}
use Rattle.mg_node.specs.Job.{LoggedJob}
use Rattle.mg_node.proofs.Lemmas.{few_packets}
use Rattle.mg_throttle.specs.declared.queue.Queue.{Queue}
use Rattle.mg_throttle.specs.Throttle.{is_limit_reached, is_full, relaxed}
use Rattle.mg_sched.specs.Views.{NetView}
use Rattle.mg_sched.specs.StandsFor.{StandsFor, StandsForSome}
use Rattle.mg_sched.specs.Acts.{IsAnyFull, LimitsRelax}
use Rattle.mg_sched.specs.Code.Left.{limit_left, left_in}
use Rattle.mg_sched.proofs.Finding.{found, valid}
use Rattle.mg_sched.proofs.PlanEdges.{edge_ends}
use Rattle.mg_sched.proofs.Carrying.{intake_of, queues_long, target_there}
use Rattle.mg_sched.proofs.SumsFall.{sums_fall, sum_mapped}
use Rattle.mg_sched.proofs.LeftParts.{queue_left, not_idle}

-- few packets wait in a queue
few_there : {laws : Laws} (job : LoggedJob laws) (net : NetView) (number : ℕ) (q : Queue) → StandsFor job net → slice_get net.limits.queues number ≡ Some q → q.waiting + 1 < 2 ^ 64
unfolding StandsFor
few_there {laws} job net number q h at =
    let some : StandsForSome laws net = record { job = job; stands = h } in
    let within = slice_get_within net.limits.queues number q at in
    let long = queues_long net some in
    let e = found net.plan.edges number (omega (arith, within, long)) in
    let upto = (edge_ends net.plan (valid net some) number e.0 e.1).0 in
    let i = found net.intakes e.0.node (target_there net number e.0 some e.1) in
    let known = (h.limits.queues number e.0 q e.1 at).waiting i.0 i.1 in
    let few = few_packets job e.0.node e.0.port i.0 (intake_of job net e.0.node i.0 h upto i.1) in
    omega (arith, known, few)

both_so : (a b : Bool) → (a && b) ≡ true → b ≡ true
both_so true b e = e
both_so false b e = absurd cc

at_limit : (limit : Option ℕ) (waiting : ℕ) → is_limit_reached limit waiting ≡ true → waiting + 1 < 2 ^ 64 → limit_left (Some (waiting + 1)) < limit_left limit
at_limit None waiting e few = absurd cc
at_limit (Some limit) waiting e few = (let low : limit ≤ waiting = grind (arith, nat_tests, e) in omega (arith, low, few))

full_falls : (q : Queue) → q.waiting + 1 < 2 ^ 64 → is_full q ≡ true → queue_left (relaxed q) < queue_left q
full_falls q few is =
    subst (λ (b : Bool). queue_left (let x : Queue = if b then record q { limit = Some (q.waiting + 1) } else q in x) < queue_left q) (sym is)
    (at_limit q.limit q.waiting (both_so q.counts (is_limit_reached q.limit q.waiting) is) few)

queue_low : (q : Queue) → q.waiting + 1 < 2 ^ 64 → queue_left (relaxed q) ≤ queue_left q
queue_low q few = elim (cases_Bool (is_full q)) [
  | inl full ↦ (let less = full_falls q few full in omega (arith, less))
  | inr free ↦ subst (λ (b : Bool). queue_left (let x : Queue = if b then record q { limit = Some (q.waiting + 1) } else q in x) ≤ queue_left q) (sym free) (omega arith)
]

queues_fall : {laws : Laws} (job : LoggedJob laws) (net : NetView) → StandsFor job net → IsAnyFull net.limits → sum_by queue_left (map relaxed net.limits.queues) < sum_by queue_left net.limits.queues
queues_fall {laws} job net h full =
    let qs = net.limits.queues in
    let some = Any-from_list_any is_full qs full in
    let at : slice_get qs some.0 ≡ Some some.1 = slice_get_read qs (length qs) some.0 some.1 refl some.2 (sym some.3) in
    let fall = sums_fall queue_left (λ (q : Queue). queue_left (relaxed q)) qs some.0 some.1 (λ j q there. queue_low q (few_there job net j q h there)) at (full_falls some.1 (few_there job net some.0 some.1 h at) some.4) in
    omega (arith, fall, sum_mapped queue_left relaxed qs)

pub relax_less : {laws : Laws} (job : LoggedJob laws) (before now : NetView) → StandsFor job before → LimitsRelax Did before now → left_in now < left_in before
relax_less {laws} job before now h r = elim r [
  | inl none ↦ absurd (not_idle none.1.idle)
  | inr some ↦ (let fall = queues_fall job before h some.0 in subst (λ (v : NetView). left_in v < left_in before) (sym some.2) (omega (arith, fall)))
]

pub relax_no_more : {laws : Laws} (job : LoggedJob laws) (effect : Effect) (before now : NetView) → StandsFor job before → LimitsRelax effect before now → left_in now ≤ left_in before
relax_no_more {laws} job effect before now h r = elim r [
  | inl none ↦ subst (λ (v : NetView). left_in v ≤ left_in before) (sym none.1.same) (omega arith)
  | inr some ↦ (let fall = queues_fall job before h some.0 in subst (λ (v : NetView). left_in v ≤ left_in before) (sym some.2) (omega (arith, fall)))
]
