-- What the answers of the calls on a node say of what the seat knows.
use Rattle.mg_calc.specs.Rules.{Laws}
use Rattle.std.proofs.Common.{◌≡◌, ℕ, zero, suc, ◌+◌, ◌*◌, ◌<◌, ◌≤◌, Bool, true, List, [], ◌∷◌, length, length-drop, drop, map, All, Option, Some, None, option_map, IfSome, slice_get, slice_index_or, inl, inr, refl, ap, sym, subst, ◌∙◌, arith, if◌then◌else◌, nat_lt}
use Rattle.std.proofs.lemmas.Bool.{ltb-true, cases_Bool, false≢true}
use Rattle.std.proofs.lemmas.List.{nil_from_length}
use Rattle.std.proofs.Math.Nat.{le-max_right}
use Rattle.mg_time.specs.Time.{done}
use Rattle.mg_value.specs.Payload.{Plain}
use Rattle.mg_value.specs.declared.policy.Policy.{Policy}
use Rattle.mg_settled.specs.Prefix.{StreamPrefix, IsPrefix}
use Rattle.mg_settled.specs.Settled.{TimedSet, settled_sets}
use Rattle.mg_settled.proofs.Lemmas.{first-time, all_without_first}
use Rattle.mg_stream.specs.Queue.{Waiting, StandsFor}
use Rattle.mg_stream.specs.Pool.{Backlog, empty_backlog, queues_of}
use Rattle.mg_policy.specs.Inbox.{rests, next_set, IsOver as IsOverInbox, StandAfter, TellsOf}
use Rattle.mg_policy.specs.declared.readiness.Readiness.TheVariants.{Close as AtEnd, NotReady as NotYet}
use Rattle.mg_policy.proofs.Answered.{tells_close, none_next}
use Rattle.mg_policy.proofs.Readinesses.{over_none}
use Rattle.mg_policy.proofs.Standing.{gone_of, all_prefixes, rests-left, what_is_the_reach}
use Rattle.mg_loopback.proofs.Standing.{all_told}
use Rattle.mg_node.specs.Views.{IntakeView, OutcomeView, EngineView}
use Rattle.mg_node.specs.declared.role.Role.{Role}
use Rattle.mg_node.specs.declared.role.Role.TheVariants.{Source}
use Rattle.mg_node.specs.declared.pending.Pending.{Pending}
use Rattle.mg_node.specs.declared.pending.Pending.TheVariants.{Sets as WaitingSets, Loop as WaitingLoop}
use Rattle.mg_node.specs.declared.claimed.Claimed.{Claimed}
use Rattle.mg_node.specs.declared.claimed.Claimed.TheVariants.{Work, Answered, NotReady, InFlightFull, Draining, Ended, OutOfMemory}
use Rattle.mg_node.specs.Job.{LoggedJob}
use Rattle.mg_node.specs.Lawful.{of_node, LawfulEngine}
use Rattle.mg_node.specs.Ports.{IsNext}
use Rattle.mg_node.specs.Windows.{has_ended}
use Rattle.mg_node.specs.Outputs.{laid_at}
use Rattle.mg_node.specs.Claims.{IsOver, IsEarly, Claims}
use Rattle.mg_node.specs.Advances.{raised_output, advance_bound, advanced, any_moved, any_moved_by}
use Rattle.mg_turns.specs.Parts.{LayoutView, nodes_in, an_engine, an_intake, FitsSome}
use Rattle.mg_turns.specs.Sights.{sight}
use Rattle.mg_turns.specs.Standings.{laid_bound_in, sets_in, known_laid_bound, known_sets}
use Rattle.mg_turns.specs.Calls.{HasClaimed, TriesClaim, TriesRaise, TriesRun, TriesCommit}
use Rattle.mg_turns.specs.Told.{RaiseTells, AllTells, IsStill, MayClose, claimed_to, ClaimSays, AnswerTells, ClaimTells, RunTells, CommitTells}
use Rattle.mg_turns.specs.declared.view.View.{View}
use Rattle.mg_turns.specs.declared.tried.Tried.{Tried}
use Rattle.mg_turns.specs.declared.tried.Tried.TheVariants.{Done, Busy}
use Rattle.mg_turns.specs.declared.tried.TriedCommit.{TriedCommit}
use Rattle.mg_turns.specs.declared.tried.TriedCommit.TheVariants.{Laid, Busy as CommitBusy, OutOfMemory as CommitNone}
use Rattle.mg_turns.proofs.Claims.{lawful_e}
use Rattle.mg_turns.proofs.Committed.{commit_past}
use Rattle.mg_turns.proofs.Standings.{most_below, last_counts, laid_bound_rises, sets_rise}

-- What all that came tells.

none_there : {X : Type 0} (xs : List X) → slice_get xs 0 ≡ None → xs ≡ []
none_there [] none = refl
none_there (x ∷ xs) none = absurd cc

prefixes_left : (qs : List (Waiting Plain)) (came : List (StreamPrefix Plain)) (policy : Policy) (k : ℕ) → StandAfter policy k qs came → All IsPrefix (rests qs)
prefixes_left qs came policy k stands = subst (All IsPrefix) (sym (rests-left qs came stands.each)) (all_without_first came (gone_of qs) (all_prefixes qs came stands.each))

sets_still : (policy : Policy) (k : ℕ) (qs : List (Waiting Plain)) (came : List (StreamPrefix Plain)) → StandAfter policy k qs came → next_set policy qs ≡ None → ¬ IsOverInbox policy qs → TellsOf policy k came NotYet
sets_still policy k qs came stands none more =
    let prefixes = prefixes_left qs came policy k stands in
    let first = sym (first-time policy (rests qs) prefixes) ∙ ap (option_map (λ (e : TimedSet Plain). e.at)) none in (
      none_next policy k qs came stands (none_there (settled_sets policy (rests qs)) none),
      (λ end. more (tells_close policy qs prefixes first (what_is_the_reach policy k qs came stands ∙ end))),
    )

sets_end : (policy : Policy) (k : ℕ) (qs : List (Waiting Plain)) (came : List (StreamPrefix Plain)) → StandAfter policy k qs came → IsOverInbox policy qs → TellsOf policy k came AtEnd
sets_end policy k qs came stands over =
    (none_next policy k qs came stands (none_there (settled_sets policy (rests qs)) (over_none policy qs over)), sym (what_is_the_reach policy k qs came stands) ∙ over.closed)

none_waits : (k : ℕ) (q : Waiting Plain) (s : StreamPrefix Plain) → StandsFor q s → q.gone ≡ k → length s.packets ≡ k → q.packets ≡ []
none_waits k q s stands gone all = nil_from_length q.packets (let w = ap length stands.waiting in omega (arith, w, length-drop q.gone s.packets, gone, all))

all_gone : (k : ℕ) (q : Waiting Plain) (s : StreamPrefix Plain) → StandsFor q s → q.gone ≡ k → q.packets ≡ [] → length s.packets ≡ k
all_gone k q s stands gone none =
    let w : length (drop q.gone s.packets) ≡ 0 = ap length (sym stands.waiting ∙ none) in
    let few = stands.gone in
    omega (arith, w, length-drop q.gone s.packets, gone, few)

still_by : (k : ℕ) (w : Pending) → IsNext w NotYet → AllTells NotYet k w
still_by k (WaitingSets inbox) h = λ came stands. sets_still inbox.policy k (queues_of inbox.pool) came stands h.0 h.1
still_by k (WaitingLoop held) h = λ main loop stands. (
  sym (all_told k held main loop stands h.0),
  (λ all end. h.1 (none_waits k held.main main stands.at_main stands.gone all, stands.at_main.bound ∙ end)),
)

end_by : (k : ℕ) (w : Pending) → IsNext w AtEnd → AllTells AtEnd k w
end_by k (WaitingSets inbox) h = λ came stands. sets_end inbox.policy k (queues_of inbox.pool) came stands h
end_by k (WaitingLoop held) h = λ main loop stands. (all_gone k held.main main stands.at_main stands.gone h.0, sym stands.at_main.bound ∙ h.1)

is_still : (role : Role) (i : IntakeView) → IsEarly role i.waits → IsStill role i
is_still (Source calls) i h = h
is_still role i h = still_by i.claimed i.waits h

may_close : (role : Role) (claimed : ℕ) (i : IntakeView) → IsOver role claimed i.waits → MayClose role claimed i
may_close (Source calls) claimed i h = h
may_close role claimed i h = end_by i.claimed i.waits h

-- Claims.

full : {laws : Laws} (job : LoggedJob laws) (n : ℕ) (e : EngineView) → LawfulEngine job (of_node n) e → e.in_flight ≤ length e.window → claimed_to e ≡ e.laid + e.in_flight
unfolding LawfulEngine
full {laws} job n e h room = (let contexts = h.contexts in omega (arith, contexts, room))

claim_says : {laws : Laws} {X : Type 0} (job : LoggedJob laws) (n : ℕ) (r : Claimed X) (e f : EngineView) (i k : IntakeView) → LawfulEngine job (of_node n) e → Claims {C = X} r e f i k → ClaimSays r f k
claim_says {laws} job n (Work w) e f i k h c = tt
claim_says {laws} job n Answered e f i k h c = tt
claim_says {laws} job n NotReady e f i k h c =
    subst (λ (x : EngineView). IsStill x.role k) (sym c.2.same_engine) (subst (λ (x : IntakeView). IsStill e.role x) (sym c.2.same_intake) (is_still e.role i c.1))
claim_says {laws} job n InFlightFull e f i k h c = subst (λ (x : EngineView). claimed_to x ≡ x.laid + x.in_flight) (sym c.3.same_engine) (full job n e h c.2)
claim_says {laws} job n Draining e f i k h c =
    let some = c.2 in
    subst (λ (x : EngineView). (x.laid < claimed_to x) × MayClose x.role x.claimed k) (sym c.3.same_engine)
    (subst (λ (x : IntakeView). (e.laid < claimed_to e) × MayClose e.role e.claimed x) (sym c.3.same_intake) (omega (arith, some), may_close e.role e.claimed i c.1))
claim_says {laws} job n Ended e f i k h c = subst (λ (x : EngineView). has_ended x ≡ true) (sym c.1.same_engine) c.0
claim_says {laws} job n OutOfMemory e f i k h c = tt

answer_tells : {laws : Laws} {X : Type 0} (r : Claimed X) (n : ℕ) (v w : View) → HasClaimed laws r n v w → AnswerTells r n v w
answer_tells {laws} (Work x) n v w h = tt
answer_tells {laws} Answered n v w h =
    let before = most_below sets_in sets_rise (2 * n + 1) (an_engine h.engine) v.seen h.found.engine_found.sights in
    let laid = ap (λ (x : EngineView). x.laid) h.claims.1.now in
    let now : h.engine_now.laid ≤ known_sets w n = subst (λ (x : View). h.engine_now.laid ≤ known_sets x n) (sym h.left) (last_counts sets_in (2 * n + 1) (an_engine h.engine_now) (sight (2 * n) (an_intake h.intake_now) ∷ v.seen)) in
    omega (arith, before, laid, now)
answer_tells {laws} NotReady n v w h = tt
answer_tells {laws} InFlightFull n v w h = tt
answer_tells {laws} Draining n v w h = tt
answer_tells {laws} Ended n v w h = tt
answer_tells {laws} OutOfMemory n v w h = tt

pub claim_tells : {laws : Laws} {X : Type 0} (result : Tried (Claimed X)) (key : LayoutView) (n : ℕ) (v w : View) → v.key ≡ key → n < nodes_in key → FitsSome laws key → TriesClaim laws result n v w → ClaimTells result n v w
claim_tells {laws} (Done r) key n v w key-is within exists h =
    let fits = subst (FitsSome laws) (sym key-is) exists in
    let lawful = lawful_e v.key fits.job n (an_engine h.engine) h.engine fits.fits h.found.engine_found.follows (subst (λ (x : LayoutView). n < nodes_in x) (sym key-is) within) refl in (
      record { engine = h.engine_now; intake = h.intake_now; seen = ap (λ (x : View). x.seen) h.left; says = claim_says fits.job n r h.engine h.engine_now h.intake h.intake_now lawful h.claims },
      answer_tells r n v w h,
    )
claim_tells {laws} (Busy word) key n v w key-is within exists h = tt

-- Raises.

raised_enough : (o : Option ℕ) (outputs : List (Backlog Plain)) (output : ℕ) → output < length (map (raised_output o) outputs) → IfSome o (λ b. b ≤ (slice_index_or (map (raised_output o) outputs) output empty_backlog).bound)
raised_enough None outputs output within = tt
raised_enough (Some b) [] output within = absurd (omega (arith, within))
raised_enough (Some b) (x ∷ xs) zero within = le-max_right x.bound b
raised_enough (Some b) (x ∷ xs) (suc n) within = raised_enough (Some b) xs n (omega (arith, within))

still_less : (o : Option ℕ) (m n : ℕ) → m ≤ n → IfSome o (λ b. b ≤ m) → IfSome o (λ b. b ≤ n)
still_less None m n more h = tt
still_less (Some b) m n more h = omega (arith, more, h)

abbrev Rose : Option ℕ → List (Backlog Plain) → ℕ → Type 0
Rose o outputs output = (slice_index_or outputs output empty_backlog).bound < (slice_index_or (map (raised_output o) outputs) output empty_backlog).bound

rose_by : (b : ℕ) (outputs : List (Backlog Plain)) → any_moved b outputs ≡ true → (output : ℕ) × Rose (Some b) outputs output
rose_by b [] moved = absurd (false≢true moved)
rose_by b (x ∷ xs) moved = elim (cases_Bool (nat_lt x.bound b)) [
  | inl less ↦ (0, (let low = ltb-true x.bound b less in omega (arith, low)))
  | inr not ↦ (let later = rose_by b xs (ap (λ (t : Bool). if t then true else any_moved b xs) (sym not) ∙ moved) in (suc later.0, later.1))
]

rose : (o : Option ℕ) (outputs : List (Backlog Plain)) → any_moved_by o outputs ≡ true → (output : ℕ) × Rose o outputs output
rose None outputs moved = absurd (false≢true moved)
rose (Some b) outputs moved = rose_by b outputs moved

pub raise_tells : (laws : Laws) (result : Tried Bool) (n : ℕ) (v w : View) → TriesRaise laws result n v w → RaiseTells result n v w
raise_tells laws (Done moved) n v w h =
    let e = h.engine in let i = h.intake in
    let f : EngineView = advanced e i.waits in
    let later = sight (2 * n) (an_intake i) ∷ v.seen in
    let seen = ap (λ (x : View). x.seen) h.left in
    let now : (output : ℕ) → (laid_at f output).bound ≤ known_laid_bound w (2 * n + 1) output = λ output.
    subst (λ (x : View). (laid_at f output).bound ≤ known_laid_bound x (2 * n + 1) output) (sym h.left) (last_counts (λ p. laid_bound_in p output) (2 * n + 1) (an_engine f) later) in (
      record {
        engine = f;
        intake = i;
        seen = seen;
        says = λ output within. still_less (advance_bound e i.waits) (laid_at f output).bound (known_laid_bound w (2 * n + 1) output) (now output) (raised_enough (advance_bound e i.waits) e.outputs output within);
      },
      (λ is.
          let at = rose (advance_bound e i.waits) e.outputs (sym h.moved ∙ is) in
          let before = most_below (λ p. laid_bound_in p at.0) (laid_bound_rises at.0) (2 * n + 1) (an_engine e) v.seen h.found.engine_found.sights in
          let higher = now at.0 in
          let rises = at.1 in
          record { output = at.0; rose = omega (arith, before, higher, rises) }),
    )
raise_tells laws (Busy word) n v w h = tt

-- Runs.

pub run_tells : (laws : Laws) (result : Tried ℕ) (most n : ℕ) (v w : View) → TriesRun laws result most n v w → RunTells result most n v w
run_tells laws (Done done) most n v w h =
    let before = most_below sets_in sets_rise (2 * n + 1) (an_engine h.engine) v.seen h.found.engine_found.sights in
    let all = h.committed in
    record {
      engine = h.engine_now;
      intake = h.intake_now;
      seen = ap (λ (x : View). x.seen) h.left;
      says = record { committed = omega (arith, before, all); ends = h.ends };
    }
run_tells laws (Busy word) most n v w h = tt

-- Commits.

pub commit_tells : {laws : Laws} {X : Type 0} (result : TriedCommit X) (key : LayoutView) (outcome : OutcomeView) (v w : View) → v.key ≡ key → outcome.work.node < nodes_in key → FitsSome laws key → TriesCommit laws result outcome v w → CommitTells result outcome v w
commit_tells {laws} (Laid n) key outcome v w key-is within exists h =
    let node = outcome.work.node in
    let fits = subst (FitsSome laws) (sym key-is) exists in
    let lawful = lawful_e v.key fits.job node (an_engine h.engine) h.engine fits.fits h.found.follows (subst (λ (x : LayoutView). node < nodes_in x) (sym key-is) within) refl in
    let before = most_below sets_in sets_rise (2 * node + 1) (an_engine h.engine) v.seen h.found.sights in
    let laid = h.commits.counted in
    let now : h.engine_now.laid ≤ known_sets w node = subst (λ (x : View). h.engine_now.laid ≤ known_sets x node) (sym h.left) (last_counts sets_in (2 * node + 1) (an_engine h.engine_now) v.seen) in
    record {
      engine = h.engine_now;
      seen = ap (λ (x : View). x.seen) h.left;
      more = omega (arith, before, laid, now);
      past = commit_past fits.job node outcome n h.engine h.engine_now lawful h.out h.commits;
    }
commit_tells {laws} (CommitBusy word o) key outcome v w key-is within exists h = tt
commit_tells {laws} (CommitNone o) key outcome v w key-is within exists h = tt
