-- A net that keeps a stream stands for what it stood for.
use Rattle.mg_calc.specs.Rules.{Laws}
use Rattle.std.proofs.Common.{◌≡◌, ℕ, zero, suc, ◌+◌, ◌<◌, ◌≤◌, Bool, true, false, if◌then◌else◌, List, [], ◌∷◌, length, length-set, get_or, set, get_or-set_same, get_or-set_other, inl, inr, ap, sym, refl, subst, ◌∙◌, arith}
use Rattle.std.proofs.lemmas.Bool.{cases_eq, cases_lt}
use Rattle.mg_node.specs.Job.{LoggedJob}
use Rattle.mg_sched.specs.Views.{NetView}
use Rattle.mg_sched.specs.StandsFor.{IsNetOf, StandsFor, StandsForSome}
use Rattle.mg_sched.specs.Trims.{Keeps}

-- Numbers that are set to none, one by one.

abbrev pub none_if : Bool → ℕ → ℕ
none_if kept n = if kept then 0 else n

pub record Spared (kept : List Bool) (before now : List ℕ) (upto : ℕ) : Type 0 where
  pub count : length now ≡ length before
  pub spared : (s : ℕ) → s < upto → get_or now s 0 ≡ none_if (get_or kept s false) (get_or before s 0)
  pub rest : (s : ℕ) → upto ≤ s → get_or now s 0 ≡ get_or before s 0

pub none_spared : (kept : List Bool) (got : List ℕ) → Spared kept got got 0
none_spared kept got = record { count = refl; spared = λ s less. absurd (omega (arith, less)); rest = λ s le. refl }

pub one_spared : (kept : List Bool) (before now : List ℕ) (i value : ℕ) → i < length kept → length before ≡ length kept → value ≡ none_if (get_or kept i false) (get_or now i 0) → Spared kept before now i
    → Spared kept before (set now i value) (i + 1)
one_spared kept before now i value within long is h =
    let count = h.count in
    let here : i < length now = omega (arith, within, long, count) in
    let was : get_or now i 0 ≡ get_or before i 0 = h.rest i (omega arith) in
    record {
      count = length-set now i value ∙ h.count;
      spared = λ s less. elim (cases_eq s i) [
        | inl same ↦
            ap (λ (k : ℕ). get_or (set now i value) k 0) same ∙ get_or-set_same now i value 0 here ∙ is ∙ ap (none_if (get_or kept i false)) was
            ∙ ap (λ (k : ℕ). none_if (get_or kept k false) (get_or before k 0)) (sym same)
        | inr other ↦ get_or-set_other now i s value 0 other ∙ h.spared s (omega (arith, less, other))
      ];
      rest = λ s le. get_or-set_other now i s value 0 (λ same. omega (arith, same, le)) ∙ h.rest s (omega (arith, le));
    }

past_all : (kept : List Bool) (s : ℕ) → length kept ≤ s → get_or kept s false ≡ false
past_all [] s le = refl
past_all (k ∷ kept) zero le = absurd (omega (arith, le))
past_all (k ∷ kept) (suc s) le = past_all kept s (omega (arith, le))

pub all_spared : (kept : List Bool) (before now : List ℕ) (upto : ℕ) → length kept ≤ upto → Spared kept before now upto → (s : ℕ) → get_or now s 0 ≡ none_if (get_or kept s false) (get_or before s 0)
all_spared kept before now upto all h s = elim (cases_lt s upto) [
  | inl less ↦ h.spared s less
  | inr past ↦ h.rest s past ∙ ap (λ (b : Bool). none_if b (get_or before s 0)) (sym (past_all kept s (omega (arith, past, all))))
]

-- there is a mark for each stream
marks_of : {laws : Laws} (job : LoggedJob laws) (net : NetView) → StandsFor job net → length net.kept ≡ length net.plan.streams
unfolding StandsFor
marks_of {laws} job net h = h.kept

pub marks_long : {laws : Laws} (net : NetView) → StandsForSome laws net → length net.kept ≡ length net.plan.streams
marks_long {laws} net h = marks_of h.job net h.stands

pub keeps_one : (shown before now : NetView) (stream : ℕ) → shown ≡ before → now ≡ record shown { kept = now.kept } → now.kept ≡ set shown.kept stream true → stream < length shown.kept → Keeps stream before now
keeps_one shown before now stream is parts marks within = subst (λ (v : NetView). Keeps stream v now) is (record {
  parts = parts;
  kept = ap (λ (ks : List Bool). get_or ks stream false) marks ∙ get_or-set_same shown.kept stream true false within;
  others = λ other not. ap (λ (ks : List Bool). get_or ks other false) marks ∙ get_or-set_other shown.kept stream other true false not;
})

pub kept_stands : {laws : Laws} (job : LoggedJob laws) (before now : NetView) → now ≡ record before { kept = now.kept } → length now.kept ≡ length before.kept → StandsFor job before → StandsFor job now
unfolding StandsFor
kept_stands {laws} job before now parts long h = subst (λ (v : NetView). IsNetOf job v) (sym parts) (record {
  is_job = h.is_job;
  plan = h.plan;
  given = h.given;
  engines = h.engines;
  intakes = h.intakes;
  work_queues = h.work_queues;
  cells = h.cells;
  inputs = h.inputs;
  collector = h.collector;
  edges = h.edges;
  limits = record {
    of_plan = h.limits.of_plan;
    queues = λ number e q at_edge at_q. (let knows = h.limits.queues number e q at_edge at_q in record { waiting = knows.waiting; counts = knows.counts });
  };
  spare = h.spare;
  kept = long ∙ h.kept;
  begun = h.begun;
  not_wound = h.not_wound;
})
