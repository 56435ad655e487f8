-- What the calls on a shared net leave of a seat: it is still one of the net, and has a work or none.
use Rattle.std.proofs.Common.{inl, inr, ◌≡◌, ℕ, ◌<◌, ◌∙◌, Some, None, length, ap, sym, refl, subst}
use Rattle.std.proofs.lemmas.Option.{slice_get_within}
use Rattle.mg_calc.specs.Rules.{Laws}
use Rattle.mg_calc.specs.declared.node_calculator.NodeCalculator.{Ghosts}
use Rattle.mg_calc.specs.declared.plan.Plan.{Plan}
use Rattle.mg_node.specs.Views.{WorkView, PerformedView, OutcomeView}
use Rattle.mg_node.specs.Job.{LoggedJob}
use Rattle.mg_node.specs.Lawful.{LawfulWork}
use Rattle.mg_node.specs.Running.{IsPerformed, SomeJobHas}
use Rattle.mg_node.specs.declared.claimed.Claimed.{Claimed}
use Rattle.mg_turns.specs.Parts.{LayoutView, nodes_in, FitsSome}
use Rattle.mg_turns.specs.Sights.{Missed, MissedOne, has_after}
use Rattle.mg_turns.specs.Calls.{key_of, view_of, IsSeatOf, HasClaimed, HasCommitted, FoundNone, HasShelved}
use Rattle.mg_turns.specs.Standings.{Keeps}
use Rattle.mg_turns.specs.declared.view.View.{View}
use Rattle.mg_turns.specs.declared.shared.SharedNet.{SharedNet}
use Rattle.mg_turns.specs.declared.seat.NetSeat.{NetSeat}
use Rattle.mg_workers.specs.Shared.{IsShared, StaysShared, IsSharedWith}
use Rattle.mg_crew.specs.Code.Seats.{FitsWork, FitsOutcome, HasWork}

-- The work that a seat has after a call.

pub claim_left : {laws : Laws} {X : Type 0} (result : Claimed X) (node : ℕ) (v w : View) → HasClaimed laws result node v w → w.work ≡ has_after result v.work
claim_left {laws} result node v w h = ap (λ (u : View). u.work) h.left

pub missed_work : {laws : Laws} (first second word : ℕ) (v w : View) → Missed laws first second word v w → w.work ≡ v.work
missed_work {laws} first second word v w missed = elim missed [ inl m ↦ ap (λ (u : View). u.work) m.1 | inr m ↦ ap (λ (u : View). u.work) m.3 ]

missed_one_work : (only word : ℕ) (v w : View) → MissedOne only word v w → w.work ≡ v.work
missed_one_work only word v w m = ap (λ (u : View). u.work) m.1

-- a lawful work is of a node of its job
node_there : {laws : Laws} (job : LoggedJob laws) (work : WorkView) → LawfulWork job work → work.node < length job.job.plan.nodes
unfolding LawfulWork
node_there {laws} job work lawful = slice_get_within job.job.plan.nodes work.node lawful.node lawful.there

pub node_within : {laws : Laws} (key : LayoutView) (work : WorkView) → FitsSome laws key → FitsWork laws key work → work.node < nodes_in key
node_within {laws} key work some lawful = subst (λ (p : Plan). work.node < length p.nodes) some.fits.plan (node_there some.job work (lawful some.job some.fits))

pub some_job_has : {laws : Laws} (key : LayoutView) (work : WorkView) → FitsSome laws key → FitsWork laws key work → SomeJobHas laws work
some_job_has {laws} key work some lawful = record { job = some.job; lawful = lawful some.job some.fits }

module _ {laws : Laws} {X : Type 0} {g : Ghosts X} (net : SharedNet X) (before now : NetSeat X g) where
  -- a seat that has no work, after a call either
  pub stays_shared : IsShared laws net before → IsSeatOf net now → (view_of now).work ≡ (view_of before).work → Keeps (view_of before) (view_of now) → StaysShared laws net before now
  stays_shared h of same keeps = record {
    shared = record { of = of; some = h.some; edges = h.edges; free = same ∙ h.free };
    portion = keeps.portion;
  }

  -- a seat that has a work since
  pub has_claimed : (work : WorkView) → IsShared laws net before → IsSeatOf net now → (view_of now).work ≡ Some work → FitsWork laws (key_of net) work → IsSharedWith laws net now work
  has_claimed work h of has lawful = record {
    of = of;
    some = h.some;
    edges = h.edges;
    has = record { it = work; there = has; node = refl; number = refl; phase = refl };
    node = node_within (key_of net) work h.some lawful;
  }

module _ {laws : Laws} {X : Type 0} {g : Ghosts X} (net : SharedNet X) (first before now : NetSeat X g) (outcome : OutcomeView) where
  -- the work went back
  freed : HasWork laws net first before outcome → IsSeatOf net now → (view_of now).work ≡ None → Keeps (view_of before) (view_of now) → StaysShared laws net first now
  freed h of free keeps = record {
    shared = record { of = of; some = h.has.some; edges = h.has.edges; free = free };
    portion = keeps.portion ∙ h.portion;
  }

  pub shelved_ends : HasWork laws net first before outcome → IsSeatOf net now → HasShelved laws outcome (view_of before) (view_of now) → Keeps (view_of before) (view_of now) → StaysShared laws net first now
  shelved_ends h of s keeps = freed h of (ap (λ (u : View). u.work) s.left) keeps

  pub committed_ends : (laid : ℕ) → HasWork laws net first before outcome → IsSeatOf net now → HasCommitted laws laid outcome (view_of before) (view_of now) → Keeps (view_of before) (view_of now) → StaysShared laws net first now
  committed_ends laid h of s keeps = freed h of (ap (λ (u : View). u.work) s.left) keeps

  -- the seat has its work still
  still : HasWork laws net first before outcome → IsSeatOf net now → (view_of now).work ≡ (view_of before).work → Keeps (view_of before) (view_of now) → HasWork laws net first now outcome
  still h of same keeps = record {
    has = record {
      of = of;
      some = h.has.some;
      edges = h.has.edges;
      has = record { it = h.has.has.it; there = same ∙ h.has.has.there; node = h.has.has.node; number = h.has.has.number; phase = h.has.has.phase };
      node = h.has.node;
    };
    lawful = h.lawful;
    portion = keeps.portion ∙ h.portion;
  }

  pub missed_still : (back : OutcomeView) (only word : ℕ) → HasWork laws net first before outcome → IsSeatOf net now → MissedOne only word (view_of before) (view_of now) × (back ≡ outcome) → Keeps (view_of before) (view_of now) → HasWork laws net first now back
  missed_still back only word h of m keeps =
      subst (λ (o : OutcomeView). HasWork laws net first now o) (sym m.1) (still h of (missed_one_work only word (view_of before) (view_of now) m.0) keeps)

  pub found_none_still : (back : OutcomeView) → HasWork laws net first before outcome → IsSeatOf net now → FoundNone laws outcome (view_of before) (view_of now) × (back ≡ outcome) → Keeps (view_of before) (view_of now) → HasWork laws net first now back
  found_none_still back h of m keeps = subst (λ (o : OutcomeView). HasWork laws net first now o) (sym m.1) (still h of (ap (λ (u : View). u.work) m.0.left) keeps)

module _ {laws : Laws} {X : Type 0} {g : Ghosts X} (net : SharedNet X) where
  pub has_work : (seat : NetSeat X g) (outcome : OutcomeView) → IsSharedWith laws net seat outcome.work → FitsOutcome laws (key_of net) outcome → HasWork laws net seat seat outcome
  has_work seat outcome has lawful = record { has = has; lawful = lawful; portion = refl }

  -- a work that the seat had went back
  pub ends_on : (first second third : NetSeat X g) → (view_of second).portion ≡ (view_of first).portion → StaysShared laws net second third → StaysShared laws net first third
  ends_on first second third same h = record { shared = h.shared; portion = h.portion ∙ same }

  pub stays_itself : (seat : NetSeat X g) → IsShared laws net seat → StaysShared laws net seat seat
  stays_itself seat h = record { shared = h; portion = refl }

  pub stays_on : (first second third : NetSeat X g) → StaysShared laws net first second → StaysShared laws net second third → StaysShared laws net first third
  stays_on first second third h k = record { shared = k.shared; portion = k.portion ∙ h.portion }

  -- the work of a seat, once its calculator has answered
  pub performed_work : (seat : NetSeat X g) (work : WorkView) (performed : PerformedView) → IsPerformed laws work performed → IsSharedWith laws net seat work → IsSharedWith laws net seat performed.work
  performed_work seat work performed p h = record {
    of = h.of;
    some = h.some;
    edges = h.edges;
    has = record {
      it = h.has.it;
      there = h.has.there;
      node = h.has.node ∙ sym (ap (λ (w : WorkView). w.node) p.same);
      number = h.has.number ∙ sym (ap (λ (w : WorkView). w.number) p.same);
      phase = h.has.phase ∙ sym (ap (λ (w : WorkView). w.phase) p.same);
    };
    node = subst (λ (n : ℕ). n < nodes_in (key_of net)) (sym (ap (λ (w : WorkView). w.node) p.same)) h.node;
  }
