-- A work queue has the works of its engine that are out, whatever is claimed, performed and committed.
use Rattle.mg_calc.specs.Rules.{Laws}
use Rattle.std.proofs.Common.{◌≡◌, ◌≢◌, ℕ, ◌+◌, List, [], ◌∷◌, ◌++◌, get_or, All, inl, inr, sym, subst, ◌∙◌}
use Rattle.std.specs.Prelude.{AllPairs, Any}
use Rattle.std.proofs.lemmas.List.Elements.{All-push, All-weaker}
use Rattle.std.proofs.lemmas.List.Quantifiers.{all_pairs_push, Any-push}
use Rattle.mg_node.specs.Views.{WorkView, EngineView}
use Rattle.mg_node.specs.Job.{LoggedJob}
use Rattle.mg_node.specs.Lawful.{LawfulWork}
use Rattle.mg_node.specs.Shelves.{IsOut}
use Rattle.mg_sched.specs.Views.{WorkQueueView}
use Rattle.mg_sched.specs.StandsFor.{HasWorks}
use Rattle.mg_sched.proofs.Middles.{all_middle, any_middle, any_first, pairs_middle, pairs_with, all_both}
use Rattle.mg_node.specs.Out.{IsMissing, GoesOut, ComesBack, KeepsOut}

-- a work that is missing in the window lies in the work queue
missing_there : {laws : Laws} (job : LoggedJob laws) (engine : EngineView) (work_queue : WorkQueueView) (number : ℕ) → HasWorks job engine work_queue → IsMissing engine number → Any (λ w. w.number ≡ number) work_queue.works
missing_there {laws} job engine work_queue number h m = subst (λ (n : ℕ). Any (λ w. w.number ≡ n) work_queue.works) (sym m.number_is) (h.complete m.place m.entry m.there m.missing)

-- the same works are out
pub works_kept : {laws : Laws} (job : LoggedJob laws) (before now : EngineView) (work_queue : WorkQueueView) → now.in_flight ≡ before.in_flight → KeepsOut before now → HasWorks job before work_queue → HasWorks job now work_queue
works_kept {laws} job before now work_queue flight k h = record {
  room = h.room ∙ sym flight;
  out = All-weaker (IsOut before) (IsOut now) k.stays work_queue.works h.out;
  lawful = h.lawful;
  apart = h.apart;
  complete = λ place entry at none. missing_there job before work_queue (now.laid + place) h (k.only place entry at none);
}

-- one more work
pub works_more : {laws : Laws} (job : LoggedJob laws) (before now : EngineView) (work_queue : WorkQueueView) (work : WorkView) → now.in_flight ≡ before.in_flight → GoesOut before now work → LawfulWork job work → HasWorks job before work_queue
    → HasWorks job now (record work_queue { works = work_queue.works ++ work ∷ [] })
works_more {laws} job before now work_queue work flight g lawful h = record {
  room = h.room ∙ sym flight;
  out = All-push (IsOut now) work_queue.works work (All-weaker (IsOut before) (IsOut now) g.stays work_queue.works h.out) g.out;
  lawful = All-push (LawfulWork job) work_queue.works work h.lawful lawful;
  apart = all_pairs_push (λ (a b : WorkView). a.number ≢ b.number) work_queue.works work h.apart (λ k d less. g.apart (get_or work_queue.works k d) (h.out k d less));
  complete = λ place entry at none. elim (g.only place entry at none) [
    | inl own ↦ Any-push (λ (w : WorkView). w.number ≡ now.laid + place) work_queue.works work own
    | inr missing ↦ any_first (λ (w : WorkView). w.number ≡ now.laid + place) work_queue.works (work ∷ []) (missing_there job before work_queue (now.laid + place) h missing)
  ];
}

not_turned : (a b : WorkView) → a.number ≢ b.number → b.number ≢ a.number
not_turned a b other = λ e. other (sym e)

-- a work that comes back
pub works_fewer : {laws : Laws} (job : LoggedJob laws) (before now : EngineView) (work_queue : WorkQueueView) (front back : List WorkView) (work : WorkView) → now.in_flight ≡ before.in_flight → ComesBack before now work.number → work_queue.works ≡ front ++ work ∷ back
    → HasWorks job before work_queue → HasWorks job now (record work_queue { works = front ++ back })
works_fewer {laws} job before now work_queue front back work flight c works h =
    let all = all_middle (IsOut before) front back work (subst (All (IsOut before)) works h.out) in
    let lawful = all_middle (LawfulWork job) front back work (subst (All (LawfulWork job)) works h.lawful) in
    let pairs = subst (AllPairs (λ (a b : WorkView). a.number ≢ b.number)) works h.apart in
    let others = pairs_with (λ (a b : WorkView). a.number ≢ b.number) not_turned front back work pairs in
    record {
      room = h.room ∙ sym flight;
      out = all_both (IsOut before) (λ (w : WorkView). w.number ≢ work.number) (IsOut now) (front ++ back) c.stays all.0 others;
      lawful = lawful.0;
      apart = (pairs_middle (λ (a b : WorkView). a.number ≢ b.number) not_turned front back work pairs).0;
      complete = λ place entry at none.
          let only = c.only place entry at none in
          any_middle (λ (w : WorkView). w.number ≡ now.laid + place) front back work (λ e. only.1 (sym e))
          (subst (Any (λ (w : WorkView). w.number ≡ now.laid + place)) works (missing_there job before work_queue (now.laid + place) h only.0));
    }

-- a work that is found in its window, and comes back once more
pub works_through : {laws : Laws} (job : LoggedJob laws) (before mid now : EngineView) (work_queue : WorkQueueView) (work : WorkView) → now.in_flight ≡ before.in_flight → GoesOut before mid work → ComesBack mid now work.number → HasWorks job before work_queue → HasWorks job now work_queue
works_through {laws} job before mid now work_queue work flight g c h = record {
  room = h.room ∙ sym flight;
  out = All-weaker (IsOut before) (IsOut now) (λ w o. c.stays w (g.stays w o) (g.apart w o)) work_queue.works h.out;
  lawful = h.lawful;
  apart = h.apart;
  complete = λ place entry at none.
      let only = c.only place entry at none in
      let m = only.0 in
      elim (g.only m.place m.entry m.there m.missing) [
        | inl own ↦ absurd (only.1 (m.number_is ∙ sym own))
        | inr missing ↦ subst (λ (n : ℕ). Any (λ w. w.number ≡ n) work_queue.works) (sym m.number_is) (missing_there job before work_queue (mid.laid + m.place) h missing)
      ];
}
