-- What is left to do in a net whose parts are others: the part at a place alone counts.
use Rattle.std.proofs.Common.{◌≡◌, ℕ, zero, suc, ◌+◌, ◌<◌, ◌≤◌, Bool, true, false, List, [], ◌∷◌, sum_by, Some, slice_get, ap, refl, ◌∙◌, arith, if◌then◌else◌}
use Rattle.std.proofs.lemmas.List.Sums.{sum_by-cons}
use Rattle.mg_calc.specs.declared.event.Effect.TheVariants.{Did, Idle, OutOfMemory}
use Rattle.mg_node.specs.Views.{IntakeView, EngineView}
use Rattle.mg_throttle.specs.declared.queue.Queue.{Queue}
use Rattle.mg_throttle.specs.Throttle.{noted}
use Rattle.mg_sched.specs.Views.{NetView}
use Rattle.mg_sched.specs.Places.{with_engine, with_intake}
use Rattle.mg_sched.specs.Acts.{all_noted, with_noted}
use Rattle.mg_sched.specs.Code.Left.{engine_left, intake_left, limit_left, left_in}
use Rattle.mg_sched.proofs.SumsFall.{sum_put}

abbrev pub queue_left : Queue → ℕ
queue_left q = limit_left q.limit

pub engine_put : (net : NetView) (place : ℕ) (old now : EngineView) → slice_get net.engines place ≡ Some old → left_in (with_engine net place now) + engine_left old ≡ left_in net + engine_left now
engine_put net place old now at = (let put = sum_put engine_left net.engines place old now at in omega (arith, put))

pub intake_put : (net : NetView) (place : ℕ) (old now : IntakeView) → slice_get net.intakes place ≡ Some old → left_in (with_intake net place now) + intake_left old ≡ left_in net + intake_left now
intake_put net place old now at = (let put = sum_put intake_left net.intakes place old now at in omega (arith, put))

-- what limits are told doesn't count
noted_left : (qs : List Queue) (k n : ℕ) → sum_by queue_left (noted qs k n) ≡ sum_by queue_left qs
noted_left [] k n = refl
noted_left (q ∷ qs) zero n = (let one = sum_by-cons queue_left (record q { waiting = n }) qs in let two = sum_by-cons queue_left q qs in omega (arith, one, two))
noted_left (q ∷ qs) (suc k) n =
    (let rest = noted_left qs k n in let one = sum_by-cons queue_left q (noted qs k n) in let two = sum_by-cons queue_left q qs in omega (arith, rest, one, two))

all_noted_left : (ns : List ℕ) (qs : List Queue) (k : ℕ) → sum_by queue_left (all_noted qs k ns) ≡ sum_by queue_left qs
all_noted_left [] qs k = refl
all_noted_left (n ∷ ns) qs k = all_noted_left ns (noted qs k n) (k + 1) ∙ noted_left qs k n

pub noted_same : (net : NetView) (k : ℕ) (ns : List ℕ) → left_in (with_noted net k ns) ≡ left_in net
noted_same net k ns = ap (λ (n : ℕ). sum_by engine_left net.engines + sum_by intake_left net.intakes + n) (all_noted_left ns net.limits.queues k)

-- less is left in all if less is left in the place of a part
pub put_less : (now before new old : ℕ) → now + old ≡ before + new → new < old → now < before
put_less now before new old is less = omega (arith, is, less)

pub put_no_more : (now before new old : ℕ) → now + old ≡ before + new → new ≤ old → now ≤ before
put_no_more now before new old is low = omega (arith, is, low)

-- what did something wasn't idle
pub not_idle : Did ≡ Idle → ⊥
not_idle e = cc

pub not_without : Did ≡ OutOfMemory → ⊥
not_without e = cc

pub did_so : (b : Bool) → Did ≡ (if b then Did else Idle) → b ≡ true
did_so true e = refl
did_so false e = absurd (not_idle e)
