-- What isn't laid stands at the time up to which outputs are raised, or above: sets that are claimed, sets that aren't, and answers.
use Rattle.std.proofs.Common.{◌≡◌, ℕ, zero, suc, ◌+◌, ◌<◌, ◌≤◌, min, List, [], ◌∷◌, length, take, drop, All, Option, Some, IfSome, option_map, unwrap_or, slice_get, ap, ap₂, sym, refl, subst, ◌∙◌, arith}
use Rattle.std.specs.List.{AllByRecursion, filter_map}
use Rattle.std.proofs.lemmas.List.Elements.{recursion_from_All}
use Rattle.std.proofs.lemmas.Option.{slice_get_past}
use Rattle.mg_value.specs.Payload.{Plain}
use Rattle.mg_value.specs.Packet.{Stamped}
use Rattle.mg_value.specs.declared.policy.Policy.{Policy}
use Rattle.mg_value.specs.declared.policy.Policy.TheVariants.{Default}
use Rattle.mg_settled.specs.Prefix.{StreamPrefix, IsPrefix, empty_prefix}
use Rattle.mg_settled.specs.Extension.{IsExtendedBy, AreExtendedBy}
use Rattle.mg_settled.specs.Loopback.{Reply, replies, packet_of, loopback}
use Rattle.mg_settled.specs.Settled.{TimedSet, settled_sets, reach}
use Rattle.mg_settled.proofs.Lemmas.{extended_further, sets-stay, sets-further, reach-rises, below-reach, loopback_extends}
use Rattle.mg_settled.proofs.Extending.{all_appended_behind}
use Rattle.mg_stream.specs.Queue.{Waiting}
use Rattle.mg_stream.specs.Pool.{queues_of}
use Rattle.mg_policy.specs.Inbox.{rests, next_set, StandAfter}
use Rattle.mg_policy.proofs.Standing.{all_prefixes, what_is_next, what_is_the_reach}
use Rattle.mg_loopback.specs.Loopback.{Held, reached}
use Rattle.mg_loopback.specs.Standing.{StandsAfter, after_replies}
use Rattle.mg_loopback.proofs.Standing.{reached_is}
use Rattle.mg_loopback.proofs.Streams.{first_stay, told_extended}
use Rattle.mg_calc.specs.Rules.{Laws}
use Rattle.mg_calc.specs.declared.law.Law.{Law}
use Rattle.mg_calc.specs.declared.law.Law.TheVariants.{Count, SideOnce}
use Rattle.mg_calc.specs.declared.node_fault.Phase.{Phase}
use Rattle.mg_calc.specs.declared.node_fault.Phase.TheVariants.{Open, Call as SourceCall, Process, Close}
use Rattle.mg_calc.specs.declared.plan_node.PlanNode.{PlanNode}
use Rattle.mg_calc.specs.Equations.{Job, inputs_of}
use Rattle.mg_calc.specs.Shape.{IsOuter, IsSource}
use Rattle.mg_node.specs.declared.role.Role.TheVariants.{Sets as SetsRole}
use Rattle.mg_node.specs.declared.pending.Pending.{Pending}
use Rattle.mg_node.specs.declared.pending.Pending.TheVariants.{Sets, Loop}
use Rattle.mg_node.specs.Views.{EntryView}
use Rattle.mg_node.specs.Ports.{next_time, horizon_of}
use Rattle.mg_node.specs.Advances.{until_phase, until_claimed}
use Rattle.mg_node.specs.Job.{LoggedJob, ports_of, streams_at, role_of, sets_of, answered, IsTask}
use Rattle.mg_node.specs.Lawful.{HoldsWaits, IsEntry}
use Rattle.mg_node.proofs.Closing.{law_is_loop}
use Rattle.mg_node.proofs.Stages.{outer_count}

-- Of sets that aren't claimed.

-- the next one stands below the reach
next_within : (n r : ℕ) (sets : List (TimedSet Plain)) → AllByRecursion (λ e. e.at < r) sets → next_time (slice_get sets n) r ≤ r
next_within n r [] below = omega arith
next_within zero r (e ∷ sets) below = (let here = below.0 in omega (arith, here))
next_within (suc n) r (e ∷ sets) below = next_within n r sets below.1

-- among all sets, the next one stands at that time or above
next_ahead : (n r : ℕ) (sets all : List (TimedSet Plain)) → take (length sets) all ≡ sets → n ≤ length sets → AllByRecursion (λ e. r ≤ e.at) (drop (length sets) all) → IfSome (slice_get all n) (λ e. next_time (slice_get sets n) r ≤ e.at)
next_ahead zero r [] [] first le further = tt
next_ahead zero r [] (x ∷ all) first le further = further.0
next_ahead (suc n) r [] all first le further = absurd (omega (arith, le))
next_ahead n r (e ∷ sets) [] first le further = absurd cc
next_ahead zero r (e ∷ sets) (x ∷ all) first le further = (let same : x ≡ e = cc in let at = ap (λ (y : TimedSet Plain). y.at) same in omega (arith, at))
next_ahead (suc n) r (e ∷ sets) (x ∷ all) first le further = (let later : take (length sets) all ≡ sets = cc in next_ahead n r sets all later (omega (arith, le)) further)

first_behind : {X : Type 0} (n : ℕ) (xs : List X) → slice_get (drop n xs) 0 ≡ slice_get xs n
first_behind zero xs = refl
first_behind (suc n) [] = refl
first_behind (suc n) (x ∷ xs) = first_behind n xs

-- no set comes below a time
abbrev pub NoneBelow : ℕ → ℕ → Policy → List (StreamPrefix Plain) → Type 0
NoneBelow t n policy ss = (t ≤ reach policy ss) × IfSome (slice_get (settled_sets policy ss) n) (λ e. t ≤ e.at)

none_waits_below : (policy : Policy) (k : ℕ) (qs : List (Waiting Plain)) (came ss : List (StreamPrefix Plain)) → All IsPrefix ss → AreExtendedBy came ss → StandAfter policy k qs came → NoneBelow (next_time (next_set policy qs) (reach policy (rests qs))) k policy ss
none_waits_below policy k qs came ss prefixes extended stands =
    let sets = settled_sets policy came in
    let r = reach policy came in
    let time : next_time (slice_get sets k) r ≡ next_time (next_set policy qs) (reach policy (rests qs)) =
    ap₂ next_time (sym (ap (λ (es : List (TimedSet Plain)). slice_get es 0) (what_is_next policy k qs came stands) ∙ first_behind k sets)) (sym (what_is_the_reach policy k qs came stands)) in
    let below = recursion_from_All (λ (e : TimedSet Plain). e.at < r) sets (below-reach policy came (all_prefixes qs came stands.each)) in
    let within = next_within k r sets below in
    let rises = reach-rises policy came ss prefixes extended in
    let further = recursion_from_All (λ (e : TimedSet Plain). r ≤ e.at) (drop (length sets) (settled_sets policy ss)) (sets-further policy came ss prefixes extended) in
    subst (λ (t : ℕ). NoneBelow t k policy ss) time
    (omega (arith, within, rises), next_ahead k r sets (settled_sets policy ss) (sets-stay policy came ss extended) stands.gone.claimed further)

-- of a node
pub none_comes_below : {laws : Laws} (job : LoggedJob laws) (number : ℕ) (streams : List (StreamPrefix Plain)) (node : PlanNode) (k : ℕ) (w : Pending) → All IsPrefix (inputs_of streams node) → slice_get job.job.plan.nodes number ≡ Some node → role_of node.law ≡ SetsRole → HoldsWaits job streams number k w
    → NoneBelow (horizon_of w) k node.policy (inputs_of streams node)
none_comes_below {laws} job number streams node k (Sets inbox) prefixes there role holds =
    let h = holds.1 in
    let policy : inbox.policy ≡ node.policy = h.policy ∙ ap (λ (o : Option PlanNode). unwrap_or (option_map (λ n. n.policy) o) Default) there in
    let at : streams_at streams (ports_of job.job.plan number) ≡ inputs_of streams node = ap (λ (o : Option PlanNode). streams_at streams (unwrap_or (option_map (λ n. n.inputs) o) job.job.plan.outputs)) there in
    let extended : AreExtendedBy h.came (inputs_of streams node) = subst (AreExtendedBy h.came) at h.extended in
    subst (λ (p : Policy). NoneBelow (horizon_of (Sets inbox)) k p (inputs_of streams node)) policy (none_waits_below inbox.policy k (queues_of inbox.pool) h.came (inputs_of streams node) prefixes extended h.stands)
none_comes_below {laws} job number streams node k (Loop held) prefixes there role holds =
    absurd (let role_is = subst (λ (l : Law). role_of l ≡ SetsRole) (law_is_loop (slice_get job.job.plan.nodes number) node there holds.0) role in cc)

-- Of sets that are claimed: the first of them is the first that isn't laid.
phase_least : (phase : Phase) (t : ℕ) → until_phase phase t ≤ t
phase_least (Process at) t = omega arith
phase_least phase t = omega arith

pub until_least : (window : List EntryView) (t : ℕ) → until_claimed window t ≤ t
until_least [] t = omega arith
until_least (entry ∷ entries) t = phase_least entry.phase t

not_source : (law : Law) → IsOuter law → IsSource law → ⊥
not_source (Count count start apart) is source = is
not_source (SideOnce at) is source = is
not_source law is source = source

module _ (job : Job) (streams : List (StreamPrefix Plain)) (node : PlanNode) (outer : IsOuter node.law) where
  none_at_phase : (n t : ℕ) (phase : Phase) (set : List (Option (Stamped Plain))) → IsTask job streams node n phase set → IfSome (slice_get (sets_of streams node) n) (λ e. until_phase phase t ≤ e.at)
  none_at_phase n t Open set task = absurd task
  none_at_phase n t (SourceCall number) set task = absurd (not_source node.law outer task.0)
  none_at_phase n t (Process at) set task = subst (λ (o : Option (TimedSet Plain)). IfSome o (λ e. min at t ≤ e.at)) (sym task.1) (omega arith)
  none_at_phase n t Close set task =
      let count = outer_count node.law streams node outer in
      let all = task.all in
      subst (λ (o : Option (TimedSet Plain)). IfSome o (λ e. t ≤ e.at)) (sym (slice_get_past (sets_of streams node) n (omega (arith, count, all)))) tt

none_claimed_below : {laws : Laws} (job : LoggedJob laws) (streams : List (StreamPrefix Plain)) (node : PlanNode) (laid owner t : ℕ) (window : List EntryView) → IsOuter node.law
    → ((i : ℕ) (entry : EntryView) → slice_get window i ≡ Some entry → IsEntry job streams node laid (laid + i) owner entry) → (window ≡ [] → IfSome (slice_get (sets_of streams node) laid) (λ e. t ≤ e.at))
    → IfSome (slice_get (sets_of streams node) laid) (λ e. until_claimed window t ≤ e.at)
none_claimed_below {laws} job streams node laid owner t [] outer entries none = none refl
none_claimed_below {laws} job streams node laid owner t (entry ∷ window) outer entries none =
    let first = entries 0 entry refl in
    let same : laid + 0 ≡ laid = omega arith in
    none_at_phase job.job streams node outer laid t entry.phase first.set (subst (λ (n : ℕ). IsTask job.job streams node n entry.phase first.set) same first.task)

-- no set that isn't laid stands below
pub none_left_below : {laws : Laws} (job : LoggedJob laws) (streams : List (StreamPrefix Plain)) (node : PlanNode) (laid owner t : ℕ) (window : List EntryView) → IsOuter node.law
    → ((i : ℕ) (entry : EntryView) → slice_get window i ≡ Some entry → IsEntry job streams node laid (laid + i) owner entry) → t ≤ reach node.policy (inputs_of streams node)
    → (window ≡ [] → IfSome (slice_get (sets_of streams node) laid) (λ e. t ≤ e.at)) → NoneBelow (until_claimed window t) laid node.policy (inputs_of streams node)
none_left_below {laws} job streams node laid owner t window outer entries le none =
    (let least = until_least window t in omega (arith, least, le), none_claimed_below job streams node laid owner t window outer entries none)

-- Of a loopback: its answers tell its stream as far as it is reached.
pub record Tells (k t : ℕ) (wider more u : StreamPrefix Plain) : Type 0 where
  pub extended : IsExtendedBy u (loopback wider more)
  pub packets : (answered k wider more).packets ≡ u.packets
  pub bound : t ≡ u.bound

pub answers_tell : (k : ℕ) (held : Held Plain) (main loop wider more : StreamPrefix Plain) → IsPrefix wider → StandsAfter k held main loop → IsExtendedBy main wider → IsExtendedBy loop more → Tells k (reached held) wider more (after_replies k main loop)
answers_tell k held main loop wider more is stands e f = record {
  extended = extended_further (after_replies k main loop) (loopback main loop) (loopback wider more) (told_extended k held main loop stands) (loopback_extends main wider loop more is e f);
  packets = all_appended_behind empty_prefix (filter_map packet_of (take k (replies wider more))) ∙ ap (λ (rs : List (Reply Plain)). filter_map packet_of rs) (first_stay k held main wider loop more stands e f);
  bound = reached_is k held main loop stands;
}
