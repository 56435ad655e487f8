-- What some sets leave of a cell.
use Rattle.mg_calc.specs.Rules.{Laws}
use Rattle.std.proofs.Common.{◌≡◌, ◌+◌, Bool, true, false, MatchBool, suc, ℕ, refl, ap, ◌∙◌, sym, subst, inl, inr, arith, Option, None}
use Rattle.mg_node.specs.declared.role.Role.{Role}
use Rattle.mg_node.specs.declared.claimed.Claimed.{Claimed}
use Rattle.mg_node.specs.declared.claimed.Claimed.TheVariants.{Work}
use Rattle.mg_node.specs.Views.{IntakeView, WorkView, PerformedView, OutcomeView, EngineView}
use Rattle.mg_node.specs.Job.{LoggedJob}
use Rattle.mg_node.specs.Lawful.{of_node, AgreeBy, LawfulEngine, LawfulIntake, LawfulWork, LawfulOutcome, Agree, AreCell}
use Rattle.mg_node.specs.IntakeStanding.{IntakeGrows}
use Rattle.mg_node.specs.Standing.{EngineGrows}
use Rattle.mg_node.specs.Running.{IsPerformed}
use Rattle.mg_node.specs.Shelves.{IsOut, shelved, outcome_of}
use Rattle.mg_node.specs.Claims.{Claims, GivesOut, LawfulClaim}
use Rattle.mg_node.specs.Commits.{SomeJobHasEngine, Commits}
use Rattle.mg_node.proofs.Growing.{engine_further}
use Rattle.mg_node.specs.Out.{IsMissing, ComesBack}
use Rattle.mg_node.proofs.StaysOut.{committed_back, shelved_back}
use Rattle.mg_turns.specs.Parts.{PartView, LayoutView, at, an_engine, an_intake, FitsSome, IsOutIn, IsMissingAt, IsMissingIn}
use Rattle.mg_turns.specs.Code.Running.{Returned, CellSteps, IsDone, IsPutBack, SomeRound}
use Rattle.mg_turns.specs.Rounds.{CellRounds, Stops}
use Rattle.mg_turns.specs.Sights.{has_after}
use Rattle.std.proofs.lemmas.Option.{none-some}
use Rattle.mg_turns.proofs.Grows.{intake_further}
use Rattle.mg_turns.proofs.Claims.{gones, engine_of_part, missing_by, ap_first, claim_stays, claim_gone, claim_outs, work_goes, CellParts, ClaimFacts, facts_by}

returned_by : {laws : Laws} (e f : EngineView) (number : ℕ) (Good : LoggedJob laws → Type 0) → ComesBack e f number → f.role ≡ e.role → f.claimed ≡ e.claimed → f.first ≡ e.first → gones f ≡ gones e → EngineGrows e f
    → ((job : LoggedJob laws) (owner : ℕ) → LawfulEngine job (of_node owner) e → Good job → LawfulEngine job (of_node owner) f) → Returned laws e f number Good
returned_by {laws} e f number Good b role claimed first gone grows lawful = record {
  out = b.stays;
  only = λ n m. let r = b.only m.place m.entry m.there m.missing in (missing_by e n (subst (λ (k : ℕ). IsMissing e k) (sym m.number_is) r.0), λ same. r.1 (sym m.number_is ∙ same));
  role = role;
  claimed = claimed;
  first = first;
  gone = gone;
  grows = grows;
  lawful = lawful;
}

pub commit_returns : {laws : Laws} (outcome : OutcomeView) (laid : ℕ) (e f : EngineView) → IsOut e outcome.work → SomeJobHasEngine laws e → Commits outcome laid e f → EngineGrows e f
    → ((job : LoggedJob laws) (owner : ℕ) → LawfulEngine job (of_node owner) e → LawfulOutcome job outcome → LawfulEngine job (of_node owner) f) → Returned laws e f outcome.work.number (λ job. LawfulOutcome job outcome)
commit_returns {laws} outcome laid e f out exists commits grows lawful = returned_by e f outcome.work.number (λ job. LawfulOutcome job outcome) (committed_back exists.job exists.number outcome laid e f out exists.lawful commits)
    (ap (λ (v : EngineView). v.role) commits.others) (ap (λ (v : EngineView). v.claimed) commits.others) (ap (λ (v : EngineView). v.first) commits.others) commits.given_up grows lawful

pub shelve_returns : {laws : Laws} (outcome : OutcomeView) (e f : EngineView) → IsOut e outcome.work → f ≡ shelved e outcome → EngineGrows e f
    → ((job : LoggedJob laws) (owner : ℕ) → LawfulEngine job (of_node owner) e → LawfulOutcome job outcome → LawfulEngine job (of_node owner) f) → Returned laws e f outcome.work.number (λ job. LawfulOutcome job outcome)
shelve_returns {laws} outcome e f out is grows lawful = returned_by e f outcome.work.number (λ job. LawfulOutcome job outcome) (subst (λ (v : EngineView). ComesBack e v outcome.work.number) (sym is) (shelved_back e outcome out))
    (ap (λ (v : EngineView). v.role) is) (ap (λ (v : EngineView). v.claimed) is) (ap (λ (v : EngineView). v.first) is) (ap gones is) grows lawful

-- a work that came back, told by another number that is equal and another property that follows
pub returns_by : {laws : Laws} (e f : EngineView) (number number' : ℕ) (Good Good' : LoggedJob laws → Type 0) → number ≡ number' → ((job : LoggedJob laws) → Good' job → Good job) → Returned laws e f number Good → Returned laws e f number' Good'
returns_by {laws} e f number number' Good Good' same implies r = subst (λ (n : ℕ). Returned laws e f n Good') same (record {
  out = r.out;
  only = r.only;
  role = r.role;
  claimed = r.claimed;
  first = r.first;
  gone = r.gone;
  grows = r.grows;
  lawful = λ job owner h good. r.lawful job owner h (implies job good);
})

pub steps_further : {laws : Laws} (e f g : EngineView) (i j k : IntakeView) → CellSteps laws e f i j → CellSteps laws f g j k → CellSteps laws e g i k
steps_further {laws} e f g i j k a b = record {
  out = λ x o. b.out x (a.out x o);
  only = λ n m. a.only n (b.only n m);
  first = b.first ∙ a.first;
  gone = b.gone ∙ a.gone;
  grows = engine_further e f g a.grows b.grows;
  intake_grows = intake_further i j k a.intake_grows b.intake_grows;
  ports = λ port. (let x = a.ports port in let y = b.ports port in record { count = y.count ∙ x.count; bound = y.bound ∙ x.bound });
  lawful = λ job owner h. b.lawful job owner (a.lawful job owner h);
}

pub cell_again : {laws : Laws} (e f : EngineView) (i k : IntakeView) → AreCell laws e i → CellSteps laws e f i k → AreCell laws f k
cell_again {laws} e f i k c s = (let l = s.lawful c.job c.number (record { engine = c.lawful_engine; intake = c.lawful_intake; agree = c.agree }) in
    record { job = c.job; number = c.number; lawful_engine = l.engine; lawful_intake = l.intake; agree = l.agree })

-- a claim that gives no work
pub claim_steps : {laws : Laws} {X : Type 0} (r : Claimed X) (e f : EngineView) (i k : IntakeView) → has_after r None ≡ None → AreCell laws e i → Claims {C = X} r e f i k → GivesOut {C = X} r f → EngineGrows e f → IntakeGrows i k
    → ((job : LoggedJob laws) (number : ℕ) → LawfulEngine job (of_node number) e → LawfulIntake job number i → Agree e i → LawfulClaim {C = X} job number r f k) → CellSteps laws e f i k
claim_steps {laws} {X} r e f i k none c claims out grows grows_i lawful =
    let p : PartView = an_engine e in
    let l = lawful c.job c.number c.lawful_engine c.lawful_intake c.agree in
    let outs = claim_outs {X = X} c.job c.number p r e f i k refl c.lawful_engine c.lawful_intake c.agree l.lawful_engine claims out in
    let same : ((x : WorkView) → IsOutIn p x → IsOutIn (an_engine f) x) × ((n : ℕ) → IsMissingIn (an_engine f) n → IsMissingIn p n) = elim outs [
      | inl q ↦ (q.1, q.2)
      | inr q ↦ absurd (none-some q.0 (sym none ∙ q.2))
    ] in
    record {
      out = λ x o. (let y = same.0 x (e, refl, o) in subst (λ (v : EngineView). IsOut v x) (engine_of_part (an_engine f) y.0 f y.1 refl) y.2);
      only = λ n m. (let y = same.1 n (f, refl, m) in subst (λ (v : EngineView). IsMissingAt v n) (engine_of_part (an_engine e) y.0 e y.1 refl) y.2);
      first = ap_first X r e f i k claims;
      gone = claim_gone {X = X} r e f i k claims;
      grows = grows;
      intake_grows = grows_i;
      ports = claim_stays X r e f i k claims;
      lawful = λ job owner h. (let b = lawful job owner h.engine h.intake h.agree in record { engine = b.lawful_engine; intake = b.lawful_intake; agree = b.agree });
    }

-- a work that is claimed and comes back
pub work_steps : {laws : Laws} {X : Type 0} (w : WorkView) (e f g : EngineView) (i k : IntakeView) → AreCell laws e i → Claims {C = X} (Work w) e f i k → IsOut f w → EngineGrows e f → IntakeGrows i k
    → ((job : LoggedJob laws) (number : ℕ) → LawfulEngine job (of_node number) e → LawfulIntake job number i → Agree e i → LawfulClaim {C = X} job number (Work w) f k) → Returned laws f g w.number (λ job. LawfulWork job w) → CellSteps laws e g i k
work_steps {laws} {X} w e f g i k c claims out grows grows_i lawful r =
    let l = lawful c.job c.number c.lawful_engine c.lawful_intake c.agree in
    let goes = work_goes X c.job c.number w e f i k c.lawful_engine l.lawful_engine out claims in
    record {
      out = λ x o. r.out x (goes.stays x o) (goes.apart x o);
      only = λ n m.
          let back = r.only n m in let at = back.0 in
          elim (goes.only at.place at.entry at.there at.missing) [
            | inl here ↦ absurd (back.1 (at.number_is ∙ sym here))
            | inr old ↦ missing_by e n (subst (λ (q : ℕ). IsMissing e q) (sym at.number_is) old)
          ];
      first = r.first ∙ ap_first X (Work w) e f i k claims;
      gone = r.gone ∙ claim_gone {X = X} (Work w) e f i k claims;
      grows = engine_further e f g grows r.grows;
      intake_grows = grows_i;
      ports = claim_stays X (Work w) e f i k claims;
      lawful = λ job owner h.
          let b = lawful job owner h.engine h.intake h.agree in
          record {
            engine = r.lawful job owner b.lawful_engine b.work;
            intake = b.lawful_intake;
            agree = subst (λ (x : Role). AgreeBy x g.claimed k.claimed) (sym r.role) (subst (λ (n : ℕ). AgreeBy f.role n k.claimed) (sym r.claimed) b.agree);
          };
    }

pub performed_number : {laws : Laws} (w : WorkView) (p : PerformedView) (o : OutcomeView) → IsPerformed laws w p → o ≡ outcome_of p → o.work.number ≡ w.number
performed_number {laws} w p o done is = ap (λ (x : OutcomeView). x.work.number) is ∙ ap (λ (x : WorkView). x.number) done.same

-- what the steps make of the parts of a node in a table
pub step_facts : {laws : Laws} (key : LayoutView) (n : ℕ) (p q : PartView) (e f : EngineView) (i k : IntakeView) → CellParts laws key n p q e i → FitsSome laws key → CellSteps laws e f i k → (had : Option WorkView) → ClaimFacts laws key n p q (an_engine f) (an_intake k) had had
step_facts {laws} key n p q e f i k c exists s had = facts_by key n p q e f i k had had c exists s.first s.gone s.grows s.intake_grows s.ports
    (λ job h hi agree. let l = s.lawful job n (record { engine = h; intake = hi; agree = agree }) in (l.engine, l.intake, l.agree))
    (inl (
      refl,
      (λ x o. (f, refl, s.out x (subst (λ (v : EngineView). IsOut v x) (engine_of_part p o.0 e o.1 c.engine_is) o.2))),
      λ m h. (e, c.engine_is, s.only m (subst (λ (v : EngineView). IsMissingAt v m) (engine_of_part (an_engine f) h.0 f h.1 refl) h.2)),
    ))

-- the outcome that a commit handed back, put into the engine that it left as it was
pub shelve_back : {laws : Laws} (outcome back : OutcomeView) (e e' f : EngineView) → IsOut e outcome.work → back ≡ outcome → e' ≡ e → f ≡ shelved e' back → EngineGrows e' f
    → ((job : LoggedJob laws) (owner : ℕ) → LawfulEngine job (of_node owner) e' → LawfulOutcome job back → LawfulEngine job (of_node owner) f) → Returned laws e f outcome.work.number (λ job. LawfulOutcome job outcome)
shelve_back {laws} outcome back e e' f out same-o same-e is grows lawful = shelve_returns outcome e f out
    (is ∙ (ap (λ (x : EngineView). shelved x back) same-e ∙ ap (λ (x : OutcomeView). shelved e x) same-o))
    (subst (λ (x : EngineView). EngineGrows x f) same-e grows)
    (λ job owner h good. lawful job owner (subst (λ (x : EngineView). LawfulEngine job (of_node owner) x) (sym same-e) h) (subst (λ (x : OutcomeView). LawfulOutcome job x) (sym same-o) good))

pub ran_by : {A B A' B' : Type 0} (b : Bool) → (A → A') → (B → B') → MatchBool b A B → MatchBool b A' B'
ran_by true f g x = f x
ran_by false f g x = g x

pub done_round : {laws : Laws} (X : Type 0) (w : WorkView) (e f g : EngineView) (i k : IntakeView) → Claims {C = X} (Work w) e f i k → IsDone laws w f g → SomeRound laws e g i k
done_round {laws} X w e f g i k claims d = (d.1, inl (record { work = w; claimed = f; performed = d.0; claims = claims; performs = d.2; commits = d.3 }))

pub back_stops : {laws : Laws} (X : Type 0) (w : WorkView) (e f g : EngineView) (i k : IntakeView) → Claims {C = X} (Work w) e f i k → IsPutBack laws w f g → Stops laws e g i k
back_stops {laws} X w e f g i k claims d = inr (record { work = w; claimed = f; outcome = d.0; claims = claims; of = d.1; shelves = d.2 })

pub one_more_round : {laws : Laws} (n a : ℕ) (e m f : EngineView) (i l k : IntakeView) → CellRounds laws n a e m i l → SomeRound laws m f l k → (laid : ℕ) × CellRounds laws (n + 1) laid e f i k
one_more_round {laws} n a e m f i l k before more =
    let same : suc n ≡ n + 1 = omega arith in
    (a + more.0, subst (λ (x : ℕ). CellRounds laws x (a + more.0) e f i k) same (a, more.0, m, l, refl, before, more.1))
