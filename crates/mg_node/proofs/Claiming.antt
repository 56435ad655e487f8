-- A claim of an intake: it counts one more, and the set is that of its number in the solution.
use Rattle.std.proofs.Common.{◌≡◌, ℕ, zero, suc, ◌+◌, ◌<◌, ◌≤◌, List, [], ◌∷◌, length, map, take, All, Option, Some, slice_get, Bool, true, false, ap, sym, subst, ◌∙◌, arith}
use Rattle.std.proofs.lemmas.List.{length-map}
use Rattle.std.proofs.lemmas.List.Elements.{recursion_from_All}
use Rattle.std.proofs.lemmas.Option.{slice_get_within}
use Rattle.std.specs.Bool.{OnTrue}
use Rattle.std.specs.List.{AllByRecursion}
use Rattle.mg_time.specs.Time.{done}
use Rattle.mg_value.specs.Payload.{Plain}
use Rattle.mg_value.specs.Packet.{Stamped}
use Rattle.mg_value.specs.declared.policy.Policy.{Policy}
use Rattle.mg_settled.specs.Prefix.{StreamPrefix, IsPrefix}
use Rattle.mg_settled.specs.Extension.{AreExtendedBy}
use Rattle.mg_settled.specs.Left.{set_times}
use Rattle.mg_settled.specs.Settled.{TimedSet, settled_sets, reach}
use Rattle.mg_settled.proofs.Lemmas.{Rises, sets-stay, times-rise, below-reach, reach-most}
use Rattle.mg_stream.specs.Pool.{queues_of}
use Rattle.mg_policy.specs.Inbox.{Gathered, StandAfter, ShowsNext}
use Rattle.mg_policy.proofs.Standing.{all_prefixes}
use Rattle.mg_node.specs.declared.pending.Pending.{Pending}
use Rattle.mg_node.specs.Views.{IntakeView}
use Rattle.mg_node.specs.Intakes.{SomeJobHasIntake, HasSet, ClaimsSet}
use Rattle.mg_node.specs.Job.{LoggedJob, Solves, ports_of, streams_at}
use Rattle.mg_node.specs.Lawful.{HoldsSets, HoldsWaits, IsIntakeOf, LawfulIntake}
use Rattle.mg_calc.specs.Rules.{Laws}
use Rattle.mg_calc.proofs.Solutions.{one_solution}

-- there are at most as many rising times as there are below a bound
pub few_rise : (a b : ℕ) (ts : List ℕ) → Rises a ts → AllByRecursion (λ t. t < b) ts → a ≤ b → length ts + a ≤ b
few_rise a b [] r below le = omega (arith, le)
few_rise a b (t ∷ ts) r below le = (let first = r.0 in let here = below.0 in let later = few_rise (t + 1) b ts r.1 below.1 (omega (arith, here)) in omega (arith, later, first))

times_below : (b : ℕ) (sets : List (TimedSet Plain)) → AllByRecursion (λ e. e.at < b) sets → AllByRecursion (λ t. t < b) (map (λ e. e.at) sets)
times_below b [] a = tt
times_below b (e ∷ sets) a = (a.0, times_below b sets a.1)

-- so there are at most as many sets as times
pub few_sets : (policy : Policy) (ss : List (StreamPrefix Plain)) → All IsPrefix ss → length (settled_sets policy ss) ≤ done
few_sets policy ss is =
    let below = times_below (reach policy ss) (settled_sets policy ss) (recursion_from_All (λ (e : TimedSet Plain). e.at < reach policy ss) (settled_sets policy ss) (below-reach policy ss is)) in
    let few = few_rise 0 (reach policy ss) (set_times policy ss) (times-rise policy ss is) below (omega arith) in
    let most = reach-most policy ss is in
    let long = length-map (settled_sets policy ss) (λ (e : TimedSet Plain). e.at) in
    omega (arith, few, most, long)

-- a set that stands at a number in some prefixes stands there in those that extend them
pub stays_at : (policy : Policy) (ss ts : List (StreamPrefix Plain)) (k : ℕ) (e : TimedSet Plain) → AreExtendedBy ss ts → slice_get (settled_sets policy ss) k ≡ Some e → slice_get (settled_sets policy ts) k ≡ Some e
stays_at policy ss ts k e ext is =
    let first : take (length (settled_sets policy ss)) (settled_sets policy ts) ≡ settled_sets policy ss = sets-stay policy ss ts ext in
    of_first (length (settled_sets policy ss)) (settled_sets policy ts) k e (ap (λ (sets : List (TimedSet Plain)). slice_get sets k) first ∙ is)
  where
    of_first : {X : Type 0} (n : ℕ) (xs : List X) (i : ℕ) (x : X) → slice_get (take n xs) i ≡ Some x → slice_get xs i ≡ Some x
    of_first zero xs i x h = absurd cc
    of_first (suc n) [] i x h = absurd cc
    of_first (suc n) (y ∷ xs) zero x h = h
    of_first (suc n) (y ∷ xs) (suc i) x h = of_first n xs i x h

-- the next set is claimed
pub claimed_sets : {laws : Laws} (job : LoggedJob laws) (streams : List (StreamPrefix Plain)) (consumer k : ℕ) (old new : Gathered) (set : List (Option (Stamped Plain))) (h : HoldsSets job streams consumer k old) → new.policy ≡ old.policy
    → ((at : ℕ) × ShowsNext old.policy k h.came at set) × StandAfter old.policy (k + 1) (queues_of new.pool) h.came
    → HoldsSets job streams consumer (k + 1) new × ((k + 1 ≤ done) × HasSet job streams consumer k set)
claimed_sets {laws} job streams consumer k old new set h policy c =
    let ss = streams_at streams (ports_of job.job.plan consumer) in
    let e : TimedSet Plain = record { at = c.0.0; set = set } in
    let is : slice_get (settled_sets old.policy h.came) k ≡ Some e = c.0.1.next in
    let within = slice_get_within (settled_sets old.policy h.came) k e is in
    let few = few_sets old.policy h.came (all_prefixes (queues_of new.pool) h.came c.1.each) in (
      record {
        policy = policy ∙ h.policy;
        came = h.came;
        extended = h.extended;
        stands = subst (λ (p : Policy). StandAfter p (k + 1) (queues_of new.pool) h.came) (sym policy) c.1;
      },
      (
        omega (arith, within, few),
        record { at = c.0.0; is = subst (λ (p : Policy). slice_get (settled_sets p ss) k ≡ Some e) h.policy (stays_at old.policy h.came ss k e h.extended is) },
      ),
    )

pub on_true : {A B : Type 0} (b : Bool) → (A → B) → OnTrue b A → OnTrue b B
on_true true f a = f a
on_true false f a = a

-- of an intake, for its job
claims_by : {laws : Laws} (job : LoggedJob laws) (consumer : ℕ) (view : IntakeView) (now : Pending) (set : List (Option (Stamped Plain))) (h : IsIntakeOf job consumer view) → ClaimsSet job h.streams consumer view.claimed now set → IsIntakeOf job consumer (record { claimed = view.claimed + 1; waits = now })
claims_by {laws} job consumer view now set h c = record { streams = h.streams; solves = h.solves; is_there = h.is_there; holds = c.holds }

abbrev ClaimsAll : Pending → Pending → List (Option (Stamped Plain)) → Type 0
ClaimsAll old now set = (laws : Laws) (job : LoggedJob laws) (streams : List (StreamPrefix Plain)) (consumer k : ℕ) → HoldsWaits job streams consumer k old → ClaimsSet job streams consumer k now set

pub claim_lawful : {laws : Laws} (job : LoggedJob laws) (consumer : ℕ) (view : IntakeView) (now : Pending) (set : List (Option (Stamped Plain))) → ClaimsAll view.waits now set → LawfulIntake job consumer view → LawfulIntake job consumer (record { claimed = view.claimed + 1; waits = now })
unfolding LawfulIntake
claim_lawful {laws} job consumer view now set all h = claims_by job consumer view now set h (all laws job h.streams consumer view.claimed h.holds)

claim_fits_by : {laws : Laws} (job : LoggedJob laws) (consumer : ℕ) (view : IntakeView) (now : Pending) (set : List (Option (Stamped Plain))) → ClaimsAll view.waits now set → LawfulIntake job consumer view → view.claimed + 1 ≤ done
unfolding LawfulIntake
claim_fits_by {laws} job consumer view now set all i = (all laws job i.streams consumer view.claimed i.holds).few

pub claim_fits : (view : IntakeView) (now : Pending) (set : List (Option (Stamped Plain))) → ClaimsAll view.waits now set → SomeJobHasIntake view → view.claimed + 1 ≤ done
claim_fits view now set all h = claim_fits_by h.job h.consumer view now set all h.lawful

pub claim_shows : {laws : Laws} (job : LoggedJob laws) (consumer : ℕ) (streams : List (StreamPrefix Plain)) (view : IntakeView) (now : Pending) (set : List (Option (Stamped Plain))) → ClaimsAll view.waits now set → Solves job streams → LawfulIntake job consumer view
    → HasSet job streams consumer view.claimed set
unfolding LawfulIntake
claim_shows {laws} job consumer streams view now set all solves h =
    let same : h.streams ≡ streams = one_solution job.job h.streams streams h.solves.solution solves.solution in
    subst (λ (ss : List (StreamPrefix Plain)). HasSet job ss consumer view.claimed set) same (all laws job h.streams consumer view.claimed h.holds).shows
