-- No call loses what a seat knows.
use Rattle.std.proofs.Common.{◌≡◌, ℕ, ◌*◌, ◌+◌, Bool, refl, ap, sym, subst, inl, inr, arith, Option}
use Rattle.mg_calc.specs.Rules.{Laws}
use Rattle.mg_calc.specs.declared.edge.Edge.{Edge}
use Rattle.mg_calc.specs.declared.plan.Plan.{Plan}
use Rattle.mg_node.specs.Views.{WorkView, OutcomeView}
use Rattle.mg_node.specs.declared.claimed.Claimed.{Claimed}
use Rattle.mg_node.specs.declared.delivered.Delivered.{Delivered}
use Rattle.mg_turns.specs.Parts.{PartView, an_engine, an_intake}
use Rattle.mg_turns.specs.Sights.{sight, Missed, MissedOne, left_one, left_two, joined}
use Rattle.mg_turns.specs.Standings.{KnowsToo, Keeps}
use Rattle.mg_turns.specs.Calls.{TriesClaim, TriesRaise, TriesRun, TriesAppend, TriesWaiting, TriesCommit, TriesShelve}
use Rattle.mg_turns.specs.declared.view.View.{View}
use Rattle.mg_turns.specs.declared.tried.Tried.{Tried}
use Rattle.mg_turns.specs.declared.tried.Tried.TheVariants.{Done, Busy}
use Rattle.mg_turns.specs.declared.tried.TriedCommit.{TriedCommit}
use Rattle.mg_turns.specs.declared.tried.TriedCommit.TheVariants.{Laid, Busy as CommitBusy, OutOfMemory}
use Rattle.mg_turns.specs.declared.tried.TriedShelf.{TriedShelf}
use Rattle.mg_turns.specs.declared.tried.TriedShelf.TheVariants.{Shelved, Busy as ShelfBusy}
use Rattle.mg_turns.proofs.Standings.{others_count, further_count, first_count, both_count}

one_keeps : (v w : View) (word : ℕ) (p : PartView) (work : Option WorkView) → w ≡ left_one v word p work → Keeps v w
one_keeps v w word p work is = subst (λ (x : View). Keeps v x) (sym is) (record { key = refl; portion = refl; splits = refl; knows = λ number other. others_count number other (sight word p) v.seen })

two_keep : (v w : View) (word : ℕ) (p : PartView) (second : ℕ) (q : PartView) (work : Option WorkView) → w ≡ left_two v word p second q work → Keeps v w
two_keep v w word p second q work is = subst (λ (x : View). Keeps v x) (sym is) (record { key = refl; portion = refl; splits = refl; knows = λ number other. further_count number other (sight word p) (sight second q) v.seen })

missed_keeps : {laws : Laws} (first second word : ℕ) (v w : View) → Missed laws first second word v w → Keeps v w
missed_keeps {laws} first second word v w m = elim m [
  | inl one ↦ subst (λ (x : View). Keeps v x) (sym one.1) (record { key = refl; portion = refl; splits = refl; knows = λ number other. omega arith })
  | inr two ↦ subst (λ (x : View). Keeps v x) (sym two.3) (record { key = refl; portion = refl; splits = refl; knows = λ number other. others_count number other (sight first two.1) v.seen })
]

only_missed_keeps : (only word : ℕ) (v w : View) → MissedOne only word v w → Keeps v w
only_missed_keeps only word v w m = subst (λ (x : View). Keeps v x) (sym m.1) (record { key = refl; portion = refl; splits = refl; knows = λ number other. omega arith })

pub claim_keeps : (laws : Laws) {X : Type 0} (result : Tried (Claimed X)) (node : ℕ) (v w : View) → TriesClaim laws result node v w → Keeps v w
claim_keeps laws (Done r) node v w h = two_keep v w (2 * node + 1) (an_engine h.engine_now) (2 * node) (an_intake h.intake_now) _ h.left
claim_keeps laws (Busy word) node v w h = missed_keeps (2 * node + 1) (2 * node) word v w h

pub raise_keeps : (laws : Laws) (result : Tried Bool) (node : ℕ) (v w : View) → TriesRaise laws result node v w → Keeps v w
raise_keeps laws (Done r) node v w h = two_keep v w (2 * node + 1) _ (2 * node) (an_intake h.intake) v.work h.left
raise_keeps laws (Busy word) node v w h = missed_keeps (2 * node + 1) (2 * node) word v w h

pub run_keeps : (laws : Laws) (result : Tried ℕ) (most node : ℕ) (v w : View) → TriesRun laws result most node v w → Keeps v w
run_keeps laws (Done r) most node v w h = two_keep v w (2 * node + 1) (an_engine h.engine_now) (2 * node) (an_intake h.intake_now) v.work h.left
run_keeps laws (Busy word) most node v w h = missed_keeps (2 * node + 1) (2 * node) word v w h

pub append_keeps : (laws : Laws) (result : Tried Delivered) (plan : Plan) (edge : Edge) (v w : View) → TriesAppend laws result plan edge v w → Keeps v w
append_keeps laws (Done r) plan edge v w h = two_keep v w _ (an_engine h.engine) (2 * edge.node) (an_intake h.intake_now) v.work h.left
append_keeps laws (Busy word) plan edge v w h = missed_keeps _ (2 * edge.node) word v w h

pub waiting_keeps : (laws : Laws) (result : Tried ℕ) (edge : Edge) (v w : View) → TriesWaiting laws result edge v w → Keeps v w
waiting_keeps laws (Done n) edge v w h = one_keeps v w (2 * edge.node) (an_intake h.intake) v.work h.left
waiting_keeps laws (Busy word) edge v w h = only_missed_keeps (2 * edge.node) word v w h

pub commit_keeps : (laws : Laws) {X : Type 0} (result : TriedCommit X) (outcome : OutcomeView) (v w : View) → TriesCommit laws result outcome v w → Keeps v w
commit_keeps laws (Laid n) outcome v w h = one_keeps v w (2 * outcome.work.node + 1) (an_engine h.engine_now) _ h.left
commit_keeps laws (CommitBusy word o) outcome v w h = only_missed_keeps (2 * outcome.work.node + 1) word v w h.0
commit_keeps laws (OutOfMemory o) outcome v w h = one_keeps v w (2 * outcome.work.node + 1) (an_engine h.0.engine) v.work h.0.left

pub shelve_keeps : (laws : Laws) {X : Type 0} (result : TriedShelf X) (outcome : OutcomeView) (v w : View) → TriesShelve laws result outcome v w → Keeps v w
shelve_keeps laws Shelved outcome v w h = one_keeps v w (2 * outcome.work.node + 1) _ _ h.left
shelve_keeps laws (ShelfBusy word o) outcome v w h = only_missed_keeps (2 * outcome.work.node + 1) word v w h.0

-- Calls that leave a seat its work.

missed_work : {laws : Laws} (first second word : ℕ) (v w : View) → Missed laws first second word v w → w.work ≡ v.work
missed_work {laws} first second word v w m = elim m [
  | inl one ↦ ap (λ (x : View). x.work) one.1
  | inr two ↦ ap (λ (x : View). x.work) two.3
]

pub raise_work : (laws : Laws) (result : Tried Bool) (node : ℕ) (v w : View) → TriesRaise laws result node v w → w.work ≡ v.work
raise_work laws (Done r) node v w h = ap (λ (x : View). x.work) h.left
raise_work laws (Busy word) node v w h = missed_work (2 * node + 1) (2 * node) word v w h

pub run_work : (laws : Laws) (result : Tried ℕ) (most node : ℕ) (v w : View) → TriesRun laws result most node v w → w.work ≡ v.work
run_work laws (Done r) most node v w h = ap (λ (x : View). x.work) h.left
run_work laws (Busy word) most node v w h = missed_work (2 * node + 1) (2 * node) word v w h

pub append_work : (laws : Laws) (result : Tried Delivered) (plan : Plan) (edge : Edge) (v w : View) → TriesAppend laws result plan edge v w → w.work ≡ v.work
append_work laws (Done r) plan edge v w h = ap (λ (x : View). x.work) h.left
append_work laws (Busy word) plan edge v w h = missed_work _ (2 * edge.node) word v w h

pub waiting_work : (laws : Laws) (result : Tried ℕ) (edge : Edge) (v w : View) → TriesWaiting laws result edge v w → w.work ≡ v.work
waiting_work laws (Done n) edge v w h = ap (λ (x : View). x.work) h.left
waiting_work laws (Busy word) edge v w h = ap (λ (x : View). x.work) h.1

pub join_knows : (v u w : View) → w ≡ joined v u → KnowsToo v w × KnowsToo u w
join_knows v u w is = subst (λ (x : View). KnowsToo v x × KnowsToo u x) (sym is) (λ number word. first_count number word v.seen u.seen, λ number word. both_count number word v.seen u.seen)
