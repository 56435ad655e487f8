-- What the limits hear of an intake, read of a net as it is kept.
use Rattle.std.proofs.Common.{◌≡◌, ℕ, ◌+◌, ◌<◌, ◌≤◌, Bool, true, false, length, map, Some, slice_get, get_or, inl, inr, ap, sym, refl, ◌∙◌, arith, if◌then◌else◌}
use Rattle.std.specs.List.{list_any}
use Rattle.std.proofs.lemmas.Bool.{false≢true}
use Rattle.std.proofs.lemmas.Option.{same_Some}
use Rattle.mg_node.specs.Ports.{ports_in}
use Rattle.mg_node.specs.Views.{IntakeView}
use Rattle.mg_calc.specs.declared.event.Effect.{Effect}
use Rattle.mg_calc.specs.declared.event.Effect.TheVariants.{Did, Idle}
use Rattle.mg_throttle.specs.Throttle.{QueueLimits, is_full, relaxed}
use Rattle.mg_sched.specs.Acts.{all_noted, with_noted, LimitsRelax}
use Rattle.mg_sched.specs.Places.{first_edge, lengths_of, with_limits}
use Rattle.mg_sched.specs.Views.{NetView}
use Rattle.mg_sched.proofs.Finding.{intake_read_at}

pub room_there : (shown net : NetView) (place : ℕ) (intake : IntakeView) (first : ℕ) → shown ≡ net → first_edge net.plan place + ports_in intake.waits ≤ length net.limits.queues → first ≡ first_edge net.plan place
    → first + ports_in intake.waits ≤ length shown.limits.queues
room_there shown net place intake first is room first_is =
    (let long = ap (λ (v : NetView). length v.limits.queues) is in omega (arith, room, first_is, long))

pub noted_is : (shown net : NetView) (place : ℕ) (read intake : IntakeView) (first : ℕ) (limits : QueueLimits) → shown ≡ net → place < length net.intakes → read ≡ get_or shown.intakes place read → slice_get net.intakes place ≡ Some intake
    → first ≡ first_edge net.plan place → limits ≡ record shown.limits { queues = all_noted shown.limits.queues first (lengths_of read.waits) } → with_limits shown limits ≡ with_noted net (first_edge net.plan place) (lengths_of intake.waits)
noted_is shown net place read intake first limits is there value at first_is limits_is =
    let same : read ≡ intake = same_Some read intake (sym (intake_read_at shown net place read is there value) ∙ at) in
    ap (with_limits shown) limits_is
    ∙ ap (λ (v : NetView). with_noted v first (lengths_of read.waits)) is
    ∙ ap (λ (k : ℕ). with_noted net k (lengths_of read.waits)) first_is
    ∙ ap (λ (i : IntakeView). with_noted net (first_edge net.plan place) (lengths_of i.waits)) same

-- limits are relaxed, or none is full
pub relaxed_by : (any : Bool) (effect : Effect) (before now : NetView) (limits : QueueLimits) → any ≡ list_any is_full before.limits.queues → effect ≡ (if any then Did else Idle) → now ≡ with_limits before limits
    → limits ≡ record before.limits { queues = map relaxed before.limits.queues } → (any ≡ false → limits ≡ before.limits) → LimitsRelax effect before now
relaxed_by true effect before now limits some is now_is limits_are none = inr (sym some, is, now_is ∙ ap (with_limits before) limits_are)
relaxed_by false effect before now limits some is now_is limits_are none = inl ((λ full. false≢true (some ∙ full)), record { idle = is; same = now_is ∙ ap (with_limits before) (none refl) })
