-- What a work that comes back leaves of its engine, and what the seat may give back then.
use Rattle.mg_calc.specs.Rules.{Laws}
use Rattle.std.proofs.Common.{◌≡◌, ◌<◌, ◌≤◌, ◌+◌, ◌-◌, ◌*◌, ℕ, refl, ◌∷◌, List, length, ap, ◌∙◌, sym, subst, Some, None, slice_get}
use Rattle.atomic_table.specs.Table.{rest}
use Rattle.mg_node.specs.declared.role.Role.{Role}
use Rattle.mg_node.specs.Views.{IntakeView, WorkView, OutcomeView, EngineView}
use Rattle.mg_node.specs.Job.{LoggedJob}
use Rattle.mg_node.specs.Lawful.{of_node, AgreeBy, LawfulEngine, LawfulOutcome, Agree}
use Rattle.mg_node.specs.Standing.{EngineGrows}
use Rattle.mg_node.specs.Shelves.{IsOut, shelved}
use Rattle.mg_node.specs.Commits.{SomeJobHasEngine, Commits}
use Rattle.mg_node.specs.Out.{ComesBack}
use Rattle.mg_node.proofs.StaysOut.{committed_back, shelved_back}
use Rattle.mg_turns.specs.Parts.{PartView, LayoutView, at, nodes_in, an_engine, PartGrows, Fits, FitsSome, Follows, IsMissingAt}
use Rattle.mg_turns.specs.Turns.{Turn}
use Rattle.mg_turns.specs.Sights.{Finds, left_one}
use Rattle.mg_turns.specs.Code.Plays.{Sat, turn_of_word, Back, HoldsTurn, GivesPlainly, GivesLaid, laid_view}
use Rattle.mg_turns.specs.Calls.{HasOutcome, HasCommitted}
use Rattle.mg_turns.proofs.Grows.{part_same, like_self, joins_self}
use Rattle.mg_turns.proofs.Ends.{nil}
use Rattle.mg_turns.proofs.Claims.{gones, engine_of_part, engine_kind, missing_by, lawful_e, engine_joins, engine_follows_on}
use Rattle.mg_turns.proofs.Words.{engine_at}

-- what a step leaves of an engine to which a work came back
pub record BackFacts (laws : Laws) (job_fits : LoggedJob laws → Type 0) (n number : ℕ) (e f : EngineView) : Type 0 where
  pub back : ComesBack e f number
  pub role : f.role ≡ e.role
  pub claimed : f.claimed ≡ e.claimed
  pub first : f.first ≡ e.first
  pub gone : gones f ≡ gones e
  pub grows : EngineGrows e f
  pub lawful : (job : LoggedJob laws) → job_fits job → LawfulEngine job (of_node n) e → LawfulEngine job (of_node n) f

agree_on : (e f : EngineView) (i : IntakeView) → f.role ≡ e.role → f.claimed ≡ e.claimed → Agree e i → Agree f i
agree_on e f i role claimed agree = subst (λ (r : Role). AgreeBy r f.claimed i.claimed) (sym role) (subst (λ (c : ℕ). AgreeBy e.role c i.claimed) (sym claimed) agree)

back_in : (p : PartView) (e f : EngineView) (w : WorkView) → p.engine ≡ Some e → f.role ≡ e.role → f.claimed ≡ e.claimed → ComesBack e f w.number → Back p (an_engine f) w
back_in p e f w is role claimed b = record {
  agree = λ r agree x i is' at. subst (λ (v : EngineView). Agree v i) (engine_of_part (an_engine f) f x refl is') (agree_on e f i role claimed (agree e i is at));
  out = λ x o apart. (f, refl, b.stays x (subst (λ (v : EngineView). IsOut v x) (engine_of_part p o.0 e o.1 is) o.2) apart);
  only = λ k m.
      let at : IsMissingAt f k = subst (λ (v : EngineView). IsMissingAt v k) (engine_of_part (an_engine f) m.0 f m.1 refl) m.2 in
      let r = b.only at.place at.entry at.there at.missing in
      ((e, is, subst (λ (y : ℕ). IsMissingAt e y) (sym at.number_is) (missing_by e (f.laid + at.place) r.0)), λ same. r.1 (sym at.number_is ∙ same));
}

follows_back : {laws : Laws} (key : LayoutView) (n number : ℕ) (p : PartView) (e f : EngineView) → n < nodes_in key → Follows laws key (2 * n + 1) p → p.engine ≡ Some e → BackFacts laws (λ job. Fits job key) n number e f → PartGrows p (an_engine f) × Follows laws key (2 * n + 1) (an_engine f)
follows_back {laws} key n number p e f within h is b =
    engine_follows_on key (2 * n + 1) (of_node n) p e f h (engine_at (nodes_in key) n within) is b.grows b.first b.gone (λ job fits. b.lawful job fits (lawful_e key job n p e fits h within is))

pub named_out : (e : EngineView) (w x : WorkView) → w.node ≡ x.node → w.number ≡ x.number → w.phase ≡ x.phase → IsOut e w → IsOut e x
named_out e w x node number phase o = record {
  node_is = sym node ∙ o.node_is;
  laid = subst (λ (k : ℕ). e.laid ≤ k) number o.laid;
  entry = o.entry;
  there = ap (λ (k : ℕ). slice_get e.window (k - e.laid)) (sym number) ∙ o.there;
  out = o.out;
  phase_is = o.phase_is ∙ phase;
}

module _ {laws : Laws} (m n₁ : Sat) (key : LayoutView) (n : ℕ) (p : PartView) (e : EngineView) (work : WorkView) (key-is : m.0.key ≡ key) (idle : length m.0.turns ≡ 0) (within : n < nodes_in key)
    (one : HoldsTurn laws m (2 * n + 1) p n₁) (is : p.engine ≡ Some e) (has : HasOutcome m.0.work work) (node-is : work.node ≡ n) where
  found_follows : Follows laws key (2 * n + 1) p
  found_follows = subst (λ (k : LayoutView). Follows laws k (2 * n + 1) p) key-is one.1.follows

  -- the seat's work is out of the engine that it found
  pub work_out : IsOut e work
  work_out =
      let o = one.1.out has.it has.there (ap (λ (x : ℕ). 2 * x + 1) (has.node ∙ node-is)) in
      named_out e has.it work has.node has.number has.phase (subst (λ (v : EngineView). IsOut v has.it) (engine_of_part p o.0 e o.1 is) o.2)

  pub some_engine : FitsSome laws key → SomeJobHasEngine laws e
  some_engine exists = record { job = exists.job; number = n; lawful = lawful_e key exists.job n p e exists.fits found_follows within is }

  pub laid_back : (f : EngineView) → BackFacts laws (λ job. Fits job key) n work.number e f → GivesLaid laws n₁ (2 * n + 1) (an_engine f)
  laid_back f b =
      let g = follows_back key n work.number p e f within found_follows is b in
      subst (λ (s : Sat). GivesLaid laws s (2 * n + 1) (an_engine f)) (sym one.0) (record {
        w = has.it;
        node = ap (λ (x : ℕ). 2 * x + 1) (sym (has.node ∙ node-is));
        t = turn_of_word m.0.key (2 * n + 1) p;
        gives = record {
          slot = refl;
          turns = ap (λ (l : List Turn). turn_of_word m.0.key (2 * n + 1) p ∷ l) (nil m.0.turns idle);
          word_is = refl;
          grows = g.0;
          follows = subst (λ (k : LayoutView). Follows laws k (2 * n + 1) (an_engine f)) (sym key-is) g.1;
        };
        within = subst (λ (k : LayoutView). has.it.node < nodes_in k) (sym key-is) (subst (λ (k : ℕ). k < nodes_in key) (sym (has.node ∙ node-is)) within);
        had = has.there;
        joins = engine_joins p e f is b.first b.grows;
        back = back_in p e f has.it is b.role b.claimed (subst (λ (k : ℕ). ComesBack e f k) (sym has.number) b.back);
      })

  -- the engine is as it was found
  pub same_back : (f : EngineView) → f ≡ e → GivesPlainly laws n₁ (2 * n + 1) (an_engine f)
  same_back f same =
      let p-is : p ≡ an_engine f = engine_kind key (2 * n + 1) (of_node n) p e found_follows (engine_at (nodes_in key) n within) is ∙ ap an_engine (sym same) in
      subst (λ (x : PartView). GivesPlainly laws n₁ (2 * n + 1) x) p-is (subst (λ (s : Sat). GivesPlainly laws s (2 * n + 1) p) (sym one.0)
      (turn_of_word m.0.key (2 * n + 1) p, m.0.turns, record { slot = refl; turns = refl; word_is = refl; grows = part_same p; follows = one.1.follows }, like_self p, joins_self p))

  -- a work is committed
  pub committed_by : (outcome : OutcomeView) (laid : ℕ) (f : EngineView) → outcome.work ≡ work → Commits outcome laid e f → (n₂ : Sat) → n₂ ≡ (laid_view n₁.0 (2 * n + 1) (an_engine f), rest n₁.1) → HasCommitted laws laid outcome m.0 n₂.0
  committed_by outcome laid f same commits n₂ after =
      let p-is : p ≡ an_engine e = engine_kind key (2 * n + 1) (of_node n) p e found_follows (engine_at (nodes_in key) n within) is in
      let node : n ≡ outcome.work.node = sym (ap (λ (w : WorkView). w.node) same ∙ node-is) in
      let found : Finds laws m.0 (2 * n + 1) (an_engine e) = subst (λ (x : PartView). Finds laws m.0 (2 * n + 1) x) p-is (record { follows = one.1.follows; sights = one.1.sights }) in
      let left : n₂.0 ≡ left_one m.0 (2 * n + 1) (an_engine f) None = ap (λ (s : Sat). s.0) after ∙ ap (λ (s : Sat). laid_view s.0 (2 * n + 1) (an_engine f)) one.0 in
      record {
        engine = e;
        engine_now = f;
        found = subst (λ (k : ℕ). Finds laws m.0 (2 * k + 1) (an_engine e)) node found;
        out = subst (λ (w : WorkView). IsOut e w) (sym same) work_out;
        commits = commits;
        left = subst (λ (k : ℕ). n₂.0 ≡ left_one m.0 (2 * k + 1) (an_engine f) None) node left;
      }

pub commit_facts : {laws : Laws} (key : LayoutView) (n : ℕ) (outcome : OutcomeView) (laid : ℕ) (e f : EngineView) → IsOut e outcome.work → SomeJobHasEngine laws e → ((job : LoggedJob laws) → Fits job key → LawfulOutcome job outcome)
    → Commits outcome laid e f → EngineGrows e f → ((job : LoggedJob laws) (number : ℕ) → LawfulEngine job (of_node number) e → LawfulOutcome job outcome → LawfulEngine job (of_node number) f)
    → BackFacts laws (λ job. Fits job key) n outcome.work.number e f
commit_facts {laws} key n outcome laid e f out exists lawful commits grows keeps = record {
  back = committed_back exists.job exists.number outcome laid e f out exists.lawful commits;
  role = ap (λ (v : EngineView). v.role) commits.others;
  claimed = ap (λ (v : EngineView). v.claimed) commits.others;
  first = ap (λ (v : EngineView). v.first) commits.others;
  gone = commits.given_up;
  grows = grows;
  lawful = λ job fits h. keeps job n h (lawful job fits);
}

pub shelve_facts : {laws : Laws} (key : LayoutView) (n : ℕ) (outcome : OutcomeView) (e f : EngineView) → IsOut e outcome.work → ((job : LoggedJob laws) → Fits job key → LawfulOutcome job outcome)
    → f ≡ shelved e outcome → EngineGrows e f → ((job : LoggedJob laws) (number : ℕ) → LawfulEngine job (of_node number) e → LawfulOutcome job outcome → LawfulEngine job (of_node number) f)
    → BackFacts laws (λ job. Fits job key) n outcome.work.number e f
shelve_facts {laws} key n outcome e f out lawful is grows keeps = record {
  back = subst (λ (v : EngineView). ComesBack e v outcome.work.number) (sym is) (shelved_back e outcome out);
  role = ap (λ (v : EngineView). v.role) is;
  claimed = ap (λ (v : EngineView). v.claimed) is;
  first = ap (λ (v : EngineView). v.first) is;
  gone = ap gones is;
  grows = grows;
  lawful = λ job fits h. keeps job n h (lawful job fits);
}
