-- The nodes that the order leaves out are the largest set that feeds itself. Each node of such a set reads what a node of the set writes.
use Rattle.std.proofs.Common.{◌≡◌, ◌≢◌, ℕ, ◌+◌, ◌<◌, ◌≤◌, zero, suc, Bool, true, false, not, ◌||◌, ◌&&◌, cond, eqb, List, [], ◌∷◌, ◌++◌, length, filter, get_or, find, All, AllPairs, Contains, Some, None, inl, inr, ◌⊎◌, ◌∙◌, sym, ap, subst, refl, arith}
use Rattle.std.specs.List.{list_all, range_with_len}
use Rattle.std.specs.List.Sorted.{IsStrictlyIncreasing}
use Rattle.std.proofs.lemmas.Bool.{cases_Bool, cases_eq, false≢true, eqb-true, eq-eqb, and_parts, not-true}
use Rattle.std.proofs.lemmas.List.{length-append}
use Rattle.std.proofs.lemmas.List.Elements.{All-push, All-cons, All-contains}
use Rattle.std.proofs.lemmas.List.Sums.{AllPass-from_list_all}
use Rattle.std.proofs.lemmas.Option.{none-some}
use Rattle.std.proofs.lemmas.List.Quantifiers.{all_pairs_push}
use Rattle.std.proofs.lemmas.List.Kept.{AllPairs-from_increasing, IsStrictlyIncreasing-filter}
use Rattle.std.proofs.lemmas.List.FromFn.{length-range_with_len, get_or-range_with_len}
use Rattle.std.proofs.lemmas.List.{get_or_default}
use Rattle.std.proofs.lemmas.Map.Made.{IsDistinct-from_AllPairs}
use Rattle.std.proofs.lemmas.Bool.Decides.{Decides-eqb}
use Rattle.std.proofs.lemmas.Map.Steps.{length-le_from_distinct_below}
use Rattle.mg_calc.specs.Plan.{numbers}
use Rattle.mg_check.specs.declared.ordering.Link.{Link}
use Rattle.mg_check.specs.Order.{is_among, is_next, then_next, taken_on, order_of, left_out, IsBetween}
use Rattle.mg_check.specs.Cycle.{IsFedBy, FeedsItself, IsLargestCycle}
use Rattle.mg_check.proofs.OrderFacts.{among-Contains, Contains-among, among-push, find-first, cases_Option, order_keeps}

-- ---- what a filter of numbers in a row holds

kept_in : (p : ℕ → Bool) (low len n : ℕ) → low ≤ n → n < low + len → p n ≡ true → Contains (filter p (range_with_len low len)) n
kept_in p low zero n above below passes = absurd (omega arith)
kept_in p low (suc len) n above below passes = elim (cases_Bool (p low)) [
  | inl is ↦ subst (λ b. Contains (cond b (low ∷ filter p (range_with_len (low + 1) len)) (filter p (range_with_len (low + 1) len))) n) (sym is)
      (elim (cases_eq low n) [
        | inl same ↦ (zero, omega arith, same)
        | inr other ↦ (let rest = kept_in p (low + 1) len n (omega arith) (omega arith) passes in (suc rest.0, (let r = rest.1 in omega arith), rest.2))
      ])
  | inr fails ↦ subst (λ b. Contains (cond b (low ∷ filter p (range_with_len (low + 1) len)) (filter p (range_with_len (low + 1) len))) n) (sym fails)
      (elim (cases_eq low n) [
        | inl same ↦ absurd (false≢true (sym fails ∙ ap p same ∙ passes))
        | inr other ↦ kept_in p (low + 1) len n (omega arith) (omega arith) passes
      ])
]

pub kept_all : (p : ℕ → Bool) (P : ℕ → Type 0) (low len : ℕ) → ((n : ℕ) → low ≤ n → n < low + len → p n ≡ true → P n) → All P (filter p (range_with_len low len))
kept_all p P low zero each = λ k d within. absurd (omega (arith, within))
kept_all p P low (suc len) each =
    let rest : All P (filter p (range_with_len (low + 1) len)) = kept_all p P (low + 1) len (λ n above below passes. each n (omega arith) (omega arith) passes) in
    elim (cases_Bool (p low)) [
      | inl is ↦ subst (λ b. All P (cond b (low ∷ filter p (range_with_len (low + 1) len)) (filter p (range_with_len (low + 1) len)))) (sym is)
          (All-cons P low (filter p (range_with_len (low + 1) len)) (each low (omega arith) (omega arith) is) rest)
      | inr fails ↦ subst (λ b. All P (cond b (low ∷ filter p (range_with_len (low + 1) len)) (filter p (range_with_len (low + 1) len)))) (sym fails) rest
    ]

pub rises : (low len : ℕ) → IsStrictlyIncreasing (range_with_len low len)
rises low len k within =
    let at_k = get_or-range_with_len low len k 0 (let l = length-range_with_len low len in omega (arith, l, within)) in
    let at_next = get_or-range_with_len low len (k + 1) 0 (let l = length-range_with_len low len in omega (arith, l, within)) in
    omega (arith, at_k, at_next)

-- ---- the left-out nodes
left_is : (count : ℕ) (order : List ℕ) (n : ℕ) → n < count → is_among order n ≡ false → Contains (left_out count order) n
left_is count order n below out = kept_in (λ m. not (is_among order m)) 0 count n (omega arith) (omega arith) (ap not out)

-- ---- none is next at the end
find-all : (p : ℕ → Bool) (low len : ℕ) → find p (range_with_len low len) ≡ None → (n : ℕ) → low ≤ n → n < low + len → p n ≡ false
find-all p low zero none n above below = absurd (omega arith)
find-all p low (suc len) none n above below = elim (cases_Bool (p low)) [
  | inl is ↦ absurd (some_none low (sym (ap (λ b. cond b (Some low) (find p (range_with_len (low + 1) len))) is) ∙ none))
  | inr fails ↦ elim (cases_eq low n) [
    | inl same ↦ subst (λ m. p m ≡ false) same fails
    | inr other ↦ find-all p (low + 1) len (sym (ap (λ b. cond b (Some low) (find p (range_with_len (low + 1) len))) fails) ∙ none) n (omega arith) (omega arith)
  ]
]
  where
    some_none : (x : ℕ) → Some x ≡ None → ⊥
    some_none x same = absurd (none-some x (sym same))

-- as many different numbers below a count as the count says are all numbers below it
all_there : (count : ℕ) (taken : List ℕ) → AllPairs ◌≢◌ taken → All (λ n. n < count) taken → count ≤ length taken → (n : ℕ) → n < count → is_among taken n ≡ true
all_there count taken once below full n within = elim (cases_Bool (is_among taken n)) [
  | inl is ↦ is
  | inr out ↦ absurd (
      let more : AllPairs ◌≢◌ (taken ++ n ∷ []) = all_pairs_push ◌≢◌ taken n once
      (λ k d inside same. false≢true (sym out ∙ Contains-among taken n (k, inside, sym (get_or_default taken k d n inside) ∙ same))) in
      let under : All (λ m. m < count) (taken ++ n ∷ []) = All-push (λ m. m < count) taken n below within in
      let few : length (taken ++ n ∷ []) ≤ count = length-le_from_distinct_below (taken ++ n ∷ []) count (IsDistinct-from_AllPairs Decides-eqb (taken ++ n ∷ []) more)
      (λ q there. All-contains (λ m. m < count) (taken ++ n ∷ []) q under (among-Contains (taken ++ n ∷ []) q there)) in
      let long = length-append taken (n ∷ []) in
      omega (arith, few, long, full))
]

record IsTaken (count : ℕ) (taken : List ℕ) : Type 0 where
  once : AllPairs ◌≢◌ taken
  below : All (λ n. n < count) taken

-- what the order takes at each step is new and below the count
taken_more : (count : ℕ) (links : List Link) (taken : List ℕ) (n : ℕ) → IsTaken count taken → n < count → is_next links taken n ≡ true → IsTaken count (taken ++ n ∷ [])
taken_more count links taken n old within next =
    let new : is_among taken n ≡ false = not-true (is_among taken n) (and_parts (not (is_among taken n)) (list_all (λ link. not (eqb link.to n) || is_among taken link.from) links) next).0 in
    record {
      once = all_pairs_push ◌≢◌ taken n old.once (λ k d inside same. false≢true (sym new ∙ Contains-among taken n (k, inside, sym (get_or_default taken k d n inside) ∙ same)));
      below = All-push (λ m. m < count) taken n old.below within;
    }

ends : (more count : ℕ) (links : List Link) (taken : List ℕ) → IsTaken count taken → count ≤ length taken + more → (n : ℕ) → n < count → is_next links (taken_on more count links taken) n ≡ false
ends zero count links taken held full n within =
    ap (λ b. not b && list_all (λ link. not (eqb link.to n) || is_among taken link.from) links) (all_there count taken held.once held.below (omega (arith, full)) n within)
ends (suc more) count links taken held full n within = elim (cases_Option (find (is_next links taken) (numbers count))) [
  | inl none ↦ subst (λ o. is_next links (then_next taken (λ m. taken_on more count links (taken ++ m ∷ [])) o) n ≡ false) (sym none)
      (find-all (is_next links taken) 0 count none n (omega arith) (omega arith))
  | inr found ↦
      let first = find-first (is_next links taken) 0 count found.0 found.1 in
      let below : found.0 < count = (let b = first.below in omega arith) in
      let long = length-append taken (found.0 ∷ []) in
      subst (λ o. is_next links (then_next taken (λ m. taken_on more count links (taken ++ m ∷ [])) o) n ≡ false) (sym found.1)
      (ends more count links (taken ++ found.0 ∷ []) (taken_more count links taken found.0 held below first.passes) (omega (arith, full, long)) n within)
]

-- ---- what isn't next and isn't taken waits for a node that isn't taken
record Waits (links : List Link) (taken : List ℕ) (n : ℕ) : Type 0 where
  link : Link
  is : Contains links link
  to : link.to ≡ n
  from : is_among taken link.from ≡ false

waits_for : (links : List Link) (taken : List ℕ) (n : ℕ) → list_all (λ link. not (eqb link.to n) || is_among taken link.from) links ≡ false → Waits links taken n
waits_for [] taken n fails = absurd (false≢true (sym fails))
waits_for (l ∷ links) taken n fails = elim (cases_Bool (eqb l.to n)) [
  | inl same ↦ elim (cases_Bool (is_among taken l.from)) [
    | inl there ↦ later (waits_for links taken n
        (sym (ap (λ b. (not b || is_among taken l.from) && list_all (λ link. not (eqb link.to n) || is_among taken link.from) links) same
        ∙ ap (λ b. b && list_all (λ link. not (eqb link.to n) || is_among taken link.from) links) there) ∙ fails))
    | inr out ↦ record { link = l; is = (zero, omega arith, refl); to = eqb-true l.to n same; from = out }
  ]
  | inr other ↦ later (waits_for links taken n
      (sym (ap (λ b. (not b || is_among taken l.from) && list_all (λ link. not (eqb link.to n) || is_among taken link.from) links) other) ∙ fails))
]
  where
    later : Waits links taken n → Waits (l ∷ links) taken n
    later w = record { link = w.link; is = (let i = w.is in (suc i.0, (let b = i.1 in omega arith), i.2)); to = w.to; from = w.from }

-- ---- a set that feeds itself is never taken
record IsApart (ms taken : List ℕ) : Type 0 where
  apart : (m : ℕ) → Contains ms m → is_among taken m ≡ false

never_taken : (count : ℕ) (links : List Link) (ms : List ℕ) → FeedsItself links ms → (taken : List ℕ) (n : ℕ) → IsApart ms taken → n < count → is_next links taken n ≡ true → IsApart ms (taken ++ n ∷ [])
never_taken count links ms feeds taken n old within next = record {
  apart = λ m in_ms. among-push taken n m ∙ ap (λ b. b || eqb m n) (old.apart m in_ms) ∙ elim (cases_Bool (eqb m n)) [
    | inr other ↦ other
    | inl same ↦ absurd (
        let fed = All-contains (IsFedBy links ms) ms m feeds in_ms in
        let all = (and_parts (not (is_among taken n)) (list_all (λ l. not (eqb l.to n) || is_among taken l.from) links) next).1 in
        let here : (not (eqb fed.link.to n) || is_among taken fed.link.from) ≡ true =
        All-contains (λ l. (not (eqb l.to n) || is_among taken l.from) ≡ true) links fed.link (AllPass-from_list_all (λ l. not (eqb l.to n) || is_among taken l.from) links all) fed.is in
        let to_n : eqb fed.link.to n ≡ true = eq-eqb fed.link.to n (fed.to ∙ eqb-true m n same) in
        false≢true (sym (ap (λ b. not b || is_among taken fed.link.from) to_n ∙ old.apart fed.link.from fed.from) ∙ here))
  ];
}

pub largest_left_out : (count : ℕ) (sources : List ℕ) (links : List Link) → All (λ n. n < count) sources → AllPairs ◌≢◌ sources
    → All (IsBetween count) links → All (λ link. is_among sources link.to ≡ false) links
    → IsLargestCycle links (left_out count (order_of count sources links))
largest_left_out count sources links below once between unfed =
    let order = order_of count sources links in
    record {
      ascending = IsStrictlyIncreasing-filter (λ n. not (is_among order n)) (numbers count) (rises 0 count);
      feeds = kept_all (λ n. not (is_among order n)) (IsFedBy links (left_out count order)) 0 count (λ n above within passes. fed n (omega arith) (not-true (is_among order n) passes));
      largest = λ ms feeds. All-from ms (λ m in_ms. left_is count order m (inside ms feeds m in_ms) (out ms feeds m in_ms));
    }
  where
    done : (n : ℕ) → n < count → is_next links (order_of count sources links) n ≡ false
    done = ends count count links sources (record { once = once; below = below }) (omega arith)

    fed : (n : ℕ) → n < count → is_among (order_of count sources links) n ≡ false → IsFedBy links (left_out count (order_of count sources links)) n
    fed n within out =
        let order = order_of count sources links in
        let w = waits_for links order n (sym (ap (λ b. not b && list_all (λ link. not (eqb link.to n) || is_among order link.from) links) out) ∙ done n within) in
        let from : w.link.from < count = (All-contains (IsBetween count) links w.link between w.is).from in
        record { link = w.link; is = w.is; to = w.to; from = left_is count order w.link.from from w.from }

    inside : (ms : List ℕ) → FeedsItself links ms → (m : ℕ) → Contains ms m → m < count
    inside ms feeds m in_ms =
        let f = All-contains (IsFedBy links ms) ms m feeds in_ms in
        subst (λ k. k < count) f.to (All-contains (IsBetween count) links f.link between f.is).to

    apart_first : (ms : List ℕ) → FeedsItself links ms → IsApart ms sources
    apart_first ms feeds = record {
      apart = λ m in_ms. (let f = All-contains (IsFedBy links ms) ms m feeds in_ms in
          subst (λ k. is_among sources k ≡ false) f.to (All-contains (λ link. is_among sources link.to ≡ false) links f.link unfed f.is));
    }

    out : (ms : List ℕ) → FeedsItself links ms → (m : ℕ) → Contains ms m → is_among (order_of count sources links) m ≡ false
    out ms feeds m in_ms = (order_keeps (IsApart ms) count links (never_taken count links ms feeds) count sources (apart_first ms feeds)).apart m in_ms

    All-from : (ms : List ℕ) {P : ℕ → Type 0} → ((m : ℕ) → Contains ms m → P m) → All P ms
    All-from ms {P} each = λ k d within. each (get_or ms k d) (k, within, get_or_default ms k (get_or ms k d) d within)

-- ---- there is one such set
head_of : (x : ℕ) (xs : List ℕ) → AllPairs ◌<◌ (x ∷ xs) → All (λ y. x < y) xs
head_of x xs up k d within = up zero (suc k) d (omega arith) (omega arith)

rest_of : (x : ℕ) (xs : List ℕ) → AllPairs ◌<◌ (x ∷ xs) → AllPairs ◌<◌ xs
rest_of x xs up i j d less within = up (suc i) (suc j) d (omega arith) (omega arith)

-- a member of a list is its first element or among the rest
first_or : (x : ℕ) (xs : List ℕ) (n : ℕ) → Contains (x ∷ xs) n → (x ≡ n) ⊎ Contains xs n
first_or x xs n (zero, within, is) = inl is
first_or x xs n (suc k, within, is) = inr (k, omega arith, is)

least : (x : ℕ) (xs : List ℕ) (n : ℕ) → AllPairs ◌<◌ (x ∷ xs) → Contains (x ∷ xs) n → x ≤ n
least x xs n up there = elim (first_or x xs n there) [
  | inl same ↦ omega (arith, same)
  | inr later ↦ (let less : x < n = All-contains (λ y. x < y) xs n (head_of x xs up) later in omega (arith, less))
]

-- past the same first element the members are the same
others : (x y : ℕ) (xs ys : List ℕ) → x ≡ y → AllPairs ◌<◌ (x ∷ xs) → ((n : ℕ) → Contains (x ∷ xs) n → Contains (y ∷ ys) n) → (n : ℕ) → Contains xs n → Contains ys n
others x y xs ys same up to n there = elim (first_or y ys n (to n (suc there.0, (let b = there.1 in omega arith), there.2))) [
  | inl first ↦ absurd (let less : x < n = All-contains (λ m. x < m) xs n (head_of x xs up) there in omega (arith, less, same, first))
  | inr later ↦ later
]

one_list : (xs ys : List ℕ) → AllPairs ◌<◌ xs → AllPairs ◌<◌ ys → ((n : ℕ) → Contains xs n → Contains ys n) → ((n : ℕ) → Contains ys n → Contains xs n) → xs ≡ ys
one_list [] [] up_x up_y to from = refl
one_list [] (y ∷ ys) up_x up_y to from = absurd (let there = from y (zero, omega arith, refl) in let b = there.1 in omega arith)
one_list (x ∷ xs) [] up_x up_y to from = absurd (let there = to x (zero, omega arith, refl) in let b = there.1 in omega arith)
one_list (x ∷ xs) (y ∷ ys) up_x up_y to from =
    let above : y ≤ x = least y ys x up_y (to x (zero, omega arith, refl)) in
    let under : x ≤ y = least x xs y up_x (from y (zero, omega arith, refl)) in
    let same : x ≡ y = omega (arith, above, under) in
    let rest : xs ≡ ys = one_list xs ys (rest_of x xs up_x) (rest_of y ys up_y) (others x y xs ys same up_x to) (others y x ys xs (sym same) up_y from) in
    ap (λ n. n ∷ xs) same ∙ ap (λ ns. y ∷ ns) rest

pub one_cycle : (links : List Link) (ns ms : List ℕ) → IsLargestCycle links ns → IsLargestCycle links ms → ns ≡ ms
one_cycle links ns ms first second =
    one_list ns ms (AllPairs-from_increasing ns first.ascending) (AllPairs-from_increasing ms second.ascending)
    (λ n there. All-contains (Contains ms) ns n (second.largest ns first.feeds) there)
    (λ n there. All-contains (Contains ns) ms n (first.largest ms second.feeds) there)
