-- What becomes of a net by steps. It is of the same plan, it still runs, and it still stands for its job. The calculators that no node uses
-- lie as they lay. As many sets of its outputs were taken from the collector as before.
use Rattle.std.proofs.Common.{◌≡◌, ℕ, zero, suc, ◌<◌, List, [], ◌∷◌, length, set, Option, Some, None, option_map, unwrap_or, slice_get, inl, inr, ap, sym, refl, subst, ◌∙◌, arith}
use Rattle.mg_calc.specs.Rules.{Laws}
use Rattle.mg_calc.specs.declared.event.Event.{Event}
use Rattle.mg_calc.specs.declared.event.Event.TheVariants.{Deliver, Advance, Claim, Perform, Commit, Relax}
use Rattle.mg_calc.specs.declared.event.Effect.{Effect}
use Rattle.mg_calc.specs.declared.event.Effect.TheVariants.{Did, Idle, OutOfMemory}
use Rattle.mg_node.specs.Views.{IntakeView, PerformedView, EngineView}
use Rattle.mg_node.specs.Job.{LoggedJob}
use Rattle.mg_node.specs.Shelves.{shelf_at}
use Rattle.mg_node.proofs.Lemmas.{get_other}
use Rattle.mg_sched.specs.Views.{WorkQueueView, NetView}
use Rattle.mg_sched.specs.StandsFor.{StandsFor, StandsForSome, IsRunning}
use Rattle.mg_sched.specs.Acts.{IsEventOf, Rests, Performs, CommittedAt, Acts}
use Rattle.mg_sched.specs.Taking.{taken_out}
use Rattle.mg_sched.specs.Sweeps.{Becomes, itself, step}
use Rattle.mg_sched.proofs.ActsRun.{acts_run}
use Rattle.mg_sched.proofs.ActsStand.{acts_stand}

-- What no step changes: the plan, what lies in places, how many nodes are begun, and how many sets were taken from the collector.
abbrev taken_at : NetView → Option ℕ
taken_at net = option_map (λ i. i.claimed) (slice_get net.intakes (length net.plan.nodes))

record Stays (before now : NetView) : Type 0 where
  pub plan : now.plan ≡ before.plan
  pub spare : now.spare ≡ before.spare
  pub begun : now.begun ≡ before.begun
  pub taken : taken_at now ≡ taken_at before

stays_so : (net : NetView) → Stays net net
stays_so net = record { plan = refl; spare = refl; begun = refl; taken = refl }

stays_by : (before next now : NetView) → now ≡ next → Stays before next → Stays before now
stays_by before next now is h = subst (λ (v : NetView). Stays before v) (sym is) h

rest_stays : (effect : Effect) (before now : NetView) → Rests effect before now → Stays before now
rest_stays effect before now r = stays_by before before now r.same (stays_so before)

-- packets that come claim nothing
same_claimed : (is : List IntakeView) (k n : ℕ) (i now : IntakeView) → slice_get is k ≡ Some i → now.claimed ≡ i.claimed → option_map (λ x. x.claimed) (slice_get (set is k now) n) ≡ option_map (λ x. x.claimed) (slice_get is n)
same_claimed [] k n i now at same = refl
same_claimed (x ∷ is) zero zero i now at same = (let one : x ≡ i = cc in ap Some (same ∙ ap (λ (v : IntakeView). v.claimed) (sym one)))
same_claimed (x ∷ is) zero (suc n) i now at same = refl
same_claimed (x ∷ is) (suc k) zero i now at same = refl
same_claimed (x ∷ is) (suc k) (suc n) i now at same = same_claimed is k n i now at same

-- a node's claim isn't the collector's
other_claimed : (is : List IntakeView) (k n : ℕ) (now : IntakeView) → k < n → option_map (λ x. x.claimed) (slice_get (set is k now) n) ≡ option_map (λ x. x.claimed) (slice_get is n)
other_claimed is k n now less = ap (λ (o : Option IntakeView). option_map (λ x. x.claimed) o) (get_other is k n now (λ e. omega (arith, e, less)))

performs_stays : {laws : Laws} (node number : ℕ) (effect : Effect) (work_queue : WorkQueueView) (before now : NetView) → Performs laws node number effect work_queue before now → Stays before now
performs_stays {laws} node number Did work_queue before now p = stays_by before _ now p.performed.2 (record { plan = refl; spare = refl; begun = refl; taken = refl })
performs_stays {laws} node number Idle work_queue before now p = absurd p.performed
performs_stays {laws} node number OutOfMemory work_queue before now p = stays_by before before now p.performed (stays_so before)

commits_stays : (node number : ℕ) (shelf : Option PerformedView) (effect : Effect) (engine : EngineView) (before now : NetView) → CommittedAt node number shelf effect engine before now → Stays before now
commits_stays node number None effect engine before now r = rest_stays effect before now r
commits_stays node number (Some p) Did engine before now c = stays_by before _ now c.now_is (record { plan = refl; spare = refl; begun = refl; taken = refl })
commits_stays node number (Some p) Idle engine before now c = absurd c
commits_stays node number (Some p) OutOfMemory engine before now c = stays_by before before now c (stays_so before)

acts_stay : (laws : Laws) (event : Event) (effect : Effect) (before now : NetView) → IsEventOf before event → Acts laws event effect before now → Stays before now
acts_stay laws (Deliver edge) effect before now of a = elim a.delivered [
  | inl held ↦ rest_stays effect before now held.1
  | inr brings ↦ (let b = brings.1 in stays_by before _ now b.now_is (record { plan = refl; spare = refl; begun = refl; taken = same_claimed before.intakes a.edge.node (length before.plan.nodes) b.intake b.intake_now b.to b.claimed }))
]
acts_stay laws (Advance node) effect before now of a = stays_by before _ now a.now_is (record { plan = refl; spare = refl; begun = refl; taken = refl })
acts_stay laws (Claim node) effect before now of a = elim a [
  | inl held ↦ rest_stays effect before now held.1
  | inr claims ↦ (let c = claims.1 in stays_by before _ now c.now_is (record { plan = refl; spare = refl; begun = refl; taken = other_claimed before.intakes node (length before.plan.nodes) c.intake_now of }))
]
acts_stay laws (Perform node number) effect before now of a = elim a.performed [
  | inl none ↦ rest_stays effect before now none.1
  | inr performs ↦ performs_stays node number effect a.work_queue before now performs
]
acts_stay laws (Commit node number) effect before now of a = commits_stays node number (shelf_at a.engine number) effect a.engine before now a.committed
acts_stay laws Relax effect before now of a = elim a [
  | inl none ↦ rest_stays effect before now none.1
  | inr full ↦ stays_by before _ now full.2 (record { plan = refl; spare = refl; begun = refl; taken = refl })
]

-- Steps one after the other.

pub becomes_trans : {laws : Laws} (a b c : NetView) → Becomes laws a b → Becomes laws b c → Becomes laws a c
becomes_trans {laws} a b c ab itself = ab
becomes_trans {laws} a b c ab (step event effect between now bc of acts) = step event effect between now (becomes_trans a b between ab bc) of acts

pub becomes_one : {laws : Laws} (event : Event) (effect : Effect) (before now : NetView) → IsEventOf before event → Acts laws event effect before now → Becomes laws before now
becomes_one {laws} event effect before now of acts = step event effect before now itself of acts

pub becomes_runs : {laws : Laws} (before now : NetView) → IsRunning before → Becomes laws before now → IsRunning now
becomes_runs {laws} before now running itself = running
becomes_runs {laws} before now running (step event effect between after h of acts) = acts_run laws event effect between after (becomes_runs before between running h) acts

pub becomes_stands : {laws : Laws} (job : LoggedJob laws) (before now : NetView) → IsRunning before → StandsFor job before → Becomes laws before now → StandsFor job now
becomes_stands {laws} job before now running stands itself = stands
becomes_stands {laws} job before now running stands (step event effect between after h of acts) =
    acts_stand job event effect between after of (becomes_runs before between running h) (becomes_stands job before between running stands h) acts

pub becomes_some : {laws : Laws} (before now : NetView) → IsRunning before → StandsForSome laws before → Becomes laws before now → StandsForSome laws now
becomes_some {laws} before now running some h = record { job = some.job; stands = becomes_stands some.job before now running some.stands h }

becomes_stay : {laws : Laws} (before now : NetView) → Becomes laws before now → Stays before now
becomes_stay {laws} before now itself = stays_so before
becomes_stay {laws} before now (step event effect between after h of acts) =
    let first = becomes_stay before between h in
    let last = acts_stay laws event effect between after of acts in
    record { plan = last.plan ∙ first.plan; spare = last.spare ∙ first.spare; begun = last.begun ∙ first.begun; taken = last.taken ∙ first.taken }

pub becomes_plan : {laws : Laws} (before now : NetView) → Becomes laws before now → now.plan ≡ before.plan
becomes_plan {laws} before now h = (becomes_stay before now h).plan

pub becomes_taken : {laws : Laws} (before now : NetView) → Becomes laws before now → taken_out now ≡ taken_out before
becomes_taken {laws} before now h = ap (λ (o : Option ℕ). unwrap_or o 0) (becomes_stay before now h).taken

pub becomes_spare : {laws : Laws} (before now : NetView) → Becomes laws before now → now.spare ≡ before.spare
becomes_spare {laws} before now h = (becomes_stay before now h).spare

pub becomes_begun : {laws : Laws} (before now : NetView) → Becomes laws before now → now.begun ≡ before.begun
becomes_begun {laws} before now h = (becomes_stay before now h).begun
