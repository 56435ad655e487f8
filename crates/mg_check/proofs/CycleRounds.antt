-- If again and again the nodes go that read nothing from the nodes left, the largest set of nodes that feeds itself is left.
use Rattle.std.proofs.Common.{◌≡◌, ℕ, ◌<◌, ◌≤◌, zero, suc, Bool, true, not, ◌&&◌, cond, eqb, List, [], ◌∷◌, length, filter, get_or, All, Contains, inl, inr, ◌∙◌, sym, ap, subst, refl, arith}
use Rattle.std.specs.List.Sorted.{IsStrictlyIncreasing}
use Rattle.std.proofs.lemmas.Bool.{cases_Bool, cases_lt, false≢true, eqb-true, eq-eqb, and_parts, or_cases}
use Rattle.std.proofs.lemmas.List.{get_or_default}
use Rattle.std.proofs.lemmas.List.Elements.{All-cons, All-contains, All-weaker}
use Rattle.std.proofs.lemmas.List.Filters.{length-filter_both}
use Rattle.std.proofs.lemmas.List.Folds.{list_any_at}
use Rattle.std.proofs.lemmas.List.FromFn.{length-range_with_len, get_or-range_with_len}
use Rattle.std.proofs.lemmas.List.Kept.{IsStrictlyIncreasing-filter}
use Rattle.std.proofs.lemmas.Map.Views.{any-filter_same}
use Rattle.mg_calc.specs.Plan.{numbers}
use Rattle.mg_check.specs.declared.ordering.Link.{Link}
use Rattle.mg_check.specs.Order.{is_among, IsBetween}
use Rattle.mg_check.specs.Cycle.{IsFedBy, FeedsItself, IsLargestCycle, is_fed_by, left_after, largest_cycle}
use Rattle.mg_check.proofs.OrderFacts.{among-Contains, Contains-among}
use Rattle.mg_check.proofs.LargestCycle.{rises}

-- ---- filters of numbers
kept : (p : ℕ → Bool) (ns : List ℕ) (n : ℕ) → Contains ns n → p n ≡ true → Contains (filter p ns) n
kept p ns n there passes =
    among-Contains (filter p ns) n
    (any-filter_same (λ m. eqb n m) p true (λ m same. subst (λ k. p k ≡ true) (eqb-true n m same) passes) ns ∙ Contains-among ns n there)

passing : (p : ℕ → Bool) (ns : List ℕ) → All (λ n. p n ≡ true) (filter p ns)
passing p [] = λ k d within. absurd (omega (arith, within))
passing p (n ∷ ns) = elim (cases_Bool (p n)) [
  | inl is ↦ subst (λ b. All (λ m. p m ≡ true) (cond b (n ∷ filter p ns) (filter p ns))) (sym is) (All-cons (λ m. p m ≡ true) n (filter p ns) is (passing p ns))
  | inr fails ↦ subst (λ b. All (λ m. p m ≡ true) (cond b (n ∷ filter p ns) (filter p ns))) (sym fails) (passing p ns)
]

shorter : (p : ℕ → Bool) (ns : List ℕ) → length (filter p ns) ≤ length ns
shorter p ns = omega (arith, length-filter_both p (λ n. not (p n)) (λ _. refl) ns)

-- if none goes, all stay
none_goes : (p : ℕ → Bool) (ns : List ℕ) → length ns ≤ length (filter p ns) → filter p ns ≡ ns
none_goes p [] full = refl
none_goes p (n ∷ ns) full = elim (cases_Bool (p n)) [
  | inl is ↦
      let more : length (n ∷ ns) ≤ length (n ∷ filter p ns) = subst (λ b. length (n ∷ ns) ≤ length (cond b (n ∷ filter p ns) (filter p ns))) is full in
      subst (λ b. cond b (n ∷ filter p ns) (filter p ns) ≡ n ∷ ns) (sym is) (ap (λ ms. n ∷ ms) (none_goes p ns (omega (arith, more))))
  | inr fails ↦
      let less : length (n ∷ ns) ≤ length (filter p ns) = subst (λ b. length (n ∷ ns) ≤ length (cond b (n ∷ filter p ns) (filter p ns))) fails full in
      absurd (omega (arith, less, shorter p ns))
]

-- ---- a node that is fed, by a test and by its link
fed_of : (links : List Link) (ns : List ℕ) (n : ℕ) → is_fed_by links ns n ≡ true → IsFedBy links ns n
fed_of [] ns n is = absurd (false≢true is)
fed_of (l ∷ links) ns n is = elim (or_cases (eqb l.to n && is_among ns l.from) (is_fed_by links ns n) is) [
  | inl here ↦
      let parts = and_parts (eqb l.to n) (is_among ns l.from) here in
      record { link = l; is = (zero, omega arith, refl); to = eqb-true l.to n parts.0; from = among-Contains ns l.from parts.1 }
  | inr later ↦
      let w = fed_of links ns n later in
      record { link = w.link; is = (let i = w.is in (suc i.0, (let b = i.1 in omega arith), i.2)); to = w.to; from = w.from }
]

is_fed : (links : List Link) (ns ms : List ℕ) (n : ℕ) → All (Contains ns) ms → IsFedBy links ms n → is_fed_by links ns n ≡ true
is_fed links ns ms n all f =
    let test : Link → Bool = λ l. eqb l.to n && is_among ns l.from in
    let here : test f.link ≡ true =
    ap (λ b. b && is_among ns f.link.from) (eq-eqb f.link.to n f.to) ∙ Contains-among ns f.link.from (All-contains (Contains ns) ms f.link.from all f.from) in
    list_any_at test links f.is.0 f.link f.is.1 (subst (λ l. test l ≡ true) (sym f.is.2) here)

-- ---- round by round
stays : (more : ℕ) (links : List Link) (ns : List ℕ) → filter (is_fed_by links ns) ns ≡ ns → left_after more links ns ≡ ns
stays zero links ns same = refl
stays (suc more) links ns same = ap (left_after more links) same ∙ stays more links ns same

-- after as many rounds as there are nodes none goes any more
settles : (more : ℕ) (links : List Link) (ns : List ℕ) → length ns ≤ more → filter (is_fed_by links (left_after more links ns)) (left_after more links ns) ≡ left_after more links ns
settles zero links [] few = refl
settles zero links (n ∷ ns) few = absurd (omega (arith, few))
settles (suc more) links ns few = elim (cases_lt (length (filter (is_fed_by links ns) ns)) (length ns)) [
  | inl less ↦ settles more links (filter (is_fed_by links ns) ns) (omega arith)
  | inr full ↦
      let same : filter (is_fed_by links ns) ns ≡ ns = none_goes (is_fed_by links ns) ns (omega arith) in
      subst (λ ms. filter (is_fed_by links ms) ms ≡ ms) (sym (ap (left_after more links) same ∙ stays more links ns same)) same
]

ascends : (more : ℕ) (links : List Link) (ns : List ℕ) → IsStrictlyIncreasing ns → IsStrictlyIncreasing (left_after more links ns)
ascends zero links ns up = up
ascends (suc more) links ns up = ascends more links (filter (is_fed_by links ns) ns) (IsStrictlyIncreasing-filter (is_fed_by links ns) ns up)

all_from : (ms : List ℕ) {P : ℕ → Type 0} → ((m : ℕ) → Contains ms m → P m) → All P ms
all_from ms {P} each = λ k d within. each (get_or ms k d) (k, within, get_or_default ms k (get_or ms k d) d within)

-- a set that feeds itself stays
keeps : (more : ℕ) (links : List Link) (ns ms : List ℕ) → FeedsItself links ms → All (Contains ns) ms → All (Contains (left_after more links ns)) ms
keeps zero links ns ms feeds all = all
keeps (suc more) links ns ms feeds all =
    keeps more links (filter (is_fed_by links ns) ns) ms feeds
    (all_from ms (λ m in_ms. kept (is_fed_by links ns) ns m (All-contains (Contains ns) ms m all in_ms) (is_fed links ns ms m all (All-contains (IsFedBy links ms) ms m feeds in_ms))))

in_numbers : (count n : ℕ) → n < count → Contains (numbers count) n
in_numbers count n within = (n, (let l = length-range_with_len 0 count in omega (arith, l)), (let e = get_or-range_with_len 0 count n n within in omega (arith, e)))

pub rounds_leave_the_largest : (count : ℕ) (links : List Link) → All (IsBetween count) links → IsLargestCycle links (largest_cycle count links)
rounds_leave_the_largest count links between =
    let left = largest_cycle count links in
    let few : length (numbers count) ≤ count = (let l = length-range_with_len 0 count in omega (arith, l)) in
    let same : filter (is_fed_by links left) left ≡ left = settles count links (numbers count) few in
    record {
      ascending = ascends count links (numbers count) (rises 0 count);
      feeds = All-weaker (λ n. is_fed_by links left n ≡ true) (IsFedBy links left) (λ n is. fed_of links left n is) left
          (subst (λ ns. All (λ n. is_fed_by links left n ≡ true) ns) same (passing (is_fed_by links left) left));
      largest = λ ms feeds. keeps count links (numbers count) ms feeds (all_from ms (λ m in_ms. in_numbers count m (inside ms feeds m in_ms)));
    }
  where
    inside : (ms : List ℕ) → FeedsItself links ms → (m : ℕ) → Contains ms m → m < count
    inside ms feeds m in_ms =
        let f = All-contains (IsFedBy links ms) ms m feeds in_ms in
        subst (λ k. k < count) f.to (All-contains (IsBetween count) links f.link between f.is).to
