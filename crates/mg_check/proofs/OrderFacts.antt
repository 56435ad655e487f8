-- What holds of the topological order, and of the nodes that it leaves out.
use Rattle.std.proofs.Common.{◌≡◌, ◌≢◌, ℕ, ◌+◌, ◌<◌, ◌≤◌, zero, suc, Bool, true, false, not, ◌||◌, cond, eqb, List, [], ◌∷◌, ◌++◌, length, filter, get_or, slice_get, All, AllPairs, Contains, Option, Some, None, inl, inr, ◌⊎◌, ◌∙◌, sym, ap, subst, refl, arith}
use Rattle.std.proofs.lemmas.Bool.{cases_Bool, cases_lt, cases_eq, false≢true, eqb-true, eq-eqb, and_parts, or_cases, or_left, not-true}
use Rattle.std.proofs.lemmas.List.{length-append, get_or_default}
use Rattle.std.proofs.lemmas.List.Elements.{All-push, All-contains}
use Rattle.std.proofs.lemmas.List.Quantifiers.{all_pairs_push}
use Rattle.std.proofs.lemmas.List.Folds.{list_any-append, list_any_at}
use Rattle.std.proofs.lemmas.List.Sums.{AllPass-from_list_all}
use Rattle.std.proofs.lemmas.Option.{none-some, same_Some, slice_get_within, get_or_from_slice_get}
use Rattle.std.specs.List.{list_all, find, range_with_len}
use Rattle.mg_calc.specs.Plan.{numbers, StandsBefore}
use Rattle.mg_check.specs.declared.ordering.Link.{Link}
use Rattle.mg_check.specs.Order.{is_among, is_next, then_next, taken_on, order_of, left_out}

-- ---- numbers among numbers
pub among-Contains : (ns : List ℕ) (n : ℕ) → is_among ns n ≡ true → Contains ns n
among-Contains [] n is = absurd (false≢true is)
among-Contains (m ∷ ns) n is = elim (or_cases (eqb n m) (is_among ns n) is) [
  | inl same ↦ (zero, omega arith, sym (eqb-true n m same))
  | inr rest ↦ (let there = among-Contains ns n rest in (suc there.0, omega (arith, there.1), there.2))
]

pub Contains-among : (ns : List ℕ) (n : ℕ) → Contains ns n → is_among ns n ≡ true
Contains-among ns n there = list_any_at (λ m. eqb n m) ns there.0 n there.1 (eq-eqb n (get_or ns there.0 n) (sym there.2))

pub among-push : (ns : List ℕ) (m n : ℕ) → is_among (ns ++ m ∷ []) n ≡ (is_among ns n || eqb n m)
among-push ns m n = list_any-append (λ k. eqb n k) ns (m ∷ []) ∙ ap (λ b. is_among ns n || b) (or_false (eqb n m))
  where
    or_false : (b : Bool) → (b || false) ≡ b
    or_false true = refl
    or_false false = refl

-- a number at a place is among the numbers
pub at-among : (ns : List ℕ) (i n : ℕ) → slice_get ns i ≡ Some n → is_among ns n ≡ true
at-among ns i n at = Contains-among ns n (i, slice_get_within ns i n at, get_or_from_slice_get ns i n n at)

-- ---- the first number that passes
pub record IsFirst (p : ℕ → Bool) (low high n : ℕ) : Type 0 where
  pub above : low ≤ n
  pub below : n < high
  pub passes : p n ≡ true
  pub least : (m : ℕ) → low ≤ m → m < n → p m ≡ false

pub find-first : (p : ℕ → Bool) (low len n : ℕ) → find p (range_with_len low len) ≡ Some n → IsFirst p low (low + len) n
find-first p low zero n found = absurd (none-some n found)
find-first p low (suc len) n found = elim (cases_Bool (p low)) [
  | inl passes ↦
      let same : low ≡ n = same_Some low n (sym (ap (λ b. cond b (Some low) (find p (range_with_len (low + 1) len))) passes) ∙ found) in
      record {
        above = omega arith;
        below = omega arith;
        passes = subst (λ m. p m ≡ true) same passes;
        least = λ m le lt. absurd (omega (arith, same, le, lt));
      }
  | inr fails ↦
      let rest = find-first p (low + 1) len n (sym (ap (λ b. cond b (Some low) (find p (range_with_len (low + 1) len))) fails) ∙ found) in
      record {
        above = (let a = rest.above in omega arith);
        below = (let b = rest.below in omega arith);
        passes = rest.passes;
        least = λ m le lt. elim (cases_eq low m) [
          | inl same ↦ subst (λ k. p k ≡ false) same fails
          | inr other ↦ rest.least m (omega arith) lt
        ];
      }
]

pub first-find : (p : ℕ → Bool) (low len n : ℕ) → IsFirst p low (low + len) n → find p (range_with_len low len) ≡ Some n
first-find p low zero n first = absurd (let a = first.above in let b = first.below in omega arith)
first-find p low (suc len) n first = elim (cases_eq low n) [
  | inl same ↦ ap (λ b. cond b (Some low) (find p (range_with_len (low + 1) len))) (subst (λ k. p k ≡ true) (sym same) first.passes) ∙ ap (λ k. Some k) same
  | inr other ↦
      let above : low < n = (let a = first.above in omega arith) in
      let fails : p low ≡ false = first.least low (omega arith) above in
      ap (λ b. cond b (Some low) (find p (range_with_len (low + 1) len))) fails
      ∙ first-find p (low + 1) len n (record {
        above = omega arith;
        below = (let b = first.below in omega arith);
        passes = first.passes;
        least = λ m le lt. first.least m (omega arith) lt;
      })
]

pub none-find : (p : ℕ → Bool) (low len : ℕ) → ((m : ℕ) → low ≤ m → m < low + len → p m ≡ false) → find p (range_with_len low len) ≡ None
none-find p low zero none = refl
none-find p low (suc len) none =
    ap (λ b. cond b (Some low) (find p (range_with_len (low + 1) len))) (none low (omega arith) (omega arith))
    ∙ none-find p (low + 1) len (λ m le lt. none m (omega arith) (omega arith))

pub cases_Option : {X : Type 0} (o : Option X) → (o ≡ None) ⊎ ((x : X) × (o ≡ Some x))
cases_Option None = inl refl
cases_Option (Some x) = inr (x, refl)

-- ---- what each step keeps, the order has
pub order_keeps : (P : List ℕ → Type 0) (count : ℕ) (links : List Link)
    → ((taken : List ℕ) (n : ℕ) → P taken → n < count → is_next links taken n ≡ true → P (taken ++ n ∷ []))
    → (more : ℕ) (taken : List ℕ) → P taken → P (taken_on more count links taken)
order_keeps P count links step zero taken holds = holds
order_keeps P count links step (suc more) taken holds = elim (cases_Option (find (is_next links taken) (numbers count))) [
  | inl none ↦ subst (λ o. P (then_next taken (λ n. taken_on more count links (taken ++ n ∷ [])) o)) (sym none) holds
  | inr found ↦
      let first = find-first (is_next links taken) 0 count found.0 found.1 in
      let below : found.0 < count = (let b = first.below in omega arith) in
      subst (λ o. P (then_next taken (λ n. taken_on more count links (taken ++ n ∷ [])) o)) (sym found.1)
      (order_keeps P count links step more (taken ++ found.0 ∷ []) (step taken found.0 holds below first.passes))
]

-- each number of the order is below the count
pub order_below : (count : ℕ) (sources : List ℕ) (links : List Link) → All (λ n. n < count) sources → All (λ n. n < count) (order_of count sources links)
order_below count sources links below =
    order_keeps (λ taken. All (λ n. n < count) taken) count links (λ taken n old within next. All-push (λ m. m < count) taken n old within) count sources below

-- a next node isn't taken yet, so no node stands twice
next_new : (links : List Link) (taken : List ℕ) (n : ℕ) → is_next links taken n ≡ true → is_among taken n ≡ false
next_new links taken n next = not-true (is_among taken n) (and_parts (not (is_among taken n)) (list_all (λ link. not (eqb link.to n) || is_among taken link.from) links) next).0

pub order_once : (count : ℕ) (sources : List ℕ) (links : List Link) → AllPairs ◌≢◌ sources → AllPairs ◌≢◌ (order_of count sources links)
order_once count sources links once =
    order_keeps (λ taken. AllPairs ◌≢◌ taken) count links
    (λ taken n old within next. all_pairs_push ◌≢◌ taken n old
    (λ k d inside same. false≢true (sym (next_new links taken n next) ∙ Contains-among taken n (k, inside, sym (get_or_default taken k d n inside) ∙ same))))
    count sources once

-- each number that isn't left out is in the order
pub left_out_none : (count : ℕ) (order : List ℕ) → left_out count order ≡ [] → (n : ℕ) → n < count → Contains order n
left_out_none count order none n within = among-Contains order n (kept 0 count none n (omega arith) (omega arith))
  where
    kept : (low len : ℕ) → filter (λ m. not (is_among order m)) (range_with_len low len) ≡ [] → (m : ℕ) → low ≤ m → m < low + len → is_among order m ≡ true
    kept low zero none m le lt = absurd (omega arith)
    kept low (suc len) none m le lt = elim (cases_Bool (is_among order low)) [
      | inl there ↦ elim (cases_eq low m) [
        | inl same ↦ subst (λ k. is_among order k ≡ true) same there
        | inr other ↦ kept (low + 1) len (sym (ap (λ b. cond (not b) (low ∷ filter (λ k. not (is_among order k)) (range_with_len (low + 1) len)) (filter (λ k. not (is_among order k)) (range_with_len (low + 1) len))) there) ∙ none)
            m (omega arith) (omega arith)
      ]
      | inr out ↦ absurd (cons-nil low (filter (λ k. not (is_among order k)) (range_with_len (low + 1) len))
          (sym (ap (λ b. cond (not b) (low ∷ filter (λ k. not (is_among order k)) (range_with_len (low + 1) len)) (filter (λ k. not (is_among order k)) (range_with_len (low + 1) len))) out) ∙ none))
    ]
      where
        cons-nil : (x : ℕ) (xs : List ℕ) → x ∷ xs ≡ [] → ⊥
        cons-nil x xs same = (let e = ap length same in omega arith)

-- ---- links lead forward
-- the node that reads is there only after the node that writes
record IsBehind (taken : List ℕ) (link : Link) : Type 0 where
  there : is_among taken link.to ≡ true → is_among taken link.from ≡ true
  before : StandsBefore taken link.from link.to

behind_more : (links : List Link) (taken : List ℕ) (n : ℕ) (link : Link) → Contains links link → IsBehind taken link → is_next links taken n ≡ true → IsBehind (taken ++ n ∷ []) link
behind_more links taken n link of old next =
    let new : is_among taken n ≡ false = next_new links taken n next in
    let ready : link.to ≡ n → is_among taken link.from ≡ true = λ same.
    (let all = (and_parts (not (is_among taken n)) (list_all (λ l. not (eqb l.to n) || is_among taken l.from) links) next).1 in
    let here : (not (eqb link.to n) || is_among taken link.from) ≡ true =
    All-contains (λ l. (not (eqb l.to n) || is_among taken l.from) ≡ true) links link (AllPass-from_list_all (λ l. not (eqb l.to n) || is_among taken l.from) links all) of in
    subst (λ b. (not b || is_among taken link.from) ≡ true) (eq-eqb link.to n same) here) in
    let written : is_among (taken ++ n ∷ []) link.to ≡ true → is_among taken link.from ≡ true = λ is.
    elim (or_cases (is_among taken link.to) (eqb link.to n) (sym (among-push taken n link.to) ∙ is)) [
      | inl old_to ↦ old.there old_to
      | inr same ↦ ready (eqb-true link.to n same)
    ] in
    record {
      there = λ is. among-push taken n link.from ∙ or_left (is_among taken link.from) (eqb link.from n) (written is);
      before = λ i j at_i at_j.
          let from_there : is_among taken link.from ≡ true = written (at-among (taken ++ n ∷ []) j link.to at_j) in
          let len : length (taken ++ n ∷ []) ≡ length taken + 1 = length-append taken (n ∷ []) in
          let in_i : i < length taken + 1 = subst (λ m. i < m) len (slice_get_within (taken ++ n ∷ []) i link.from at_i) in
          let in_j : j < length taken + 1 = subst (λ m. j < m) len (slice_get_within (taken ++ n ∷ []) j link.to at_j) in
          elim (cases_lt i (length taken)) [
            | inl i_old ↦ elim (cases_lt j (length taken)) [
              | inl j_old ↦ old.before i j (sym (slice_get-front taken n i i_old) ∙ at_i) (sym (slice_get-front taken n j j_old) ∙ at_j)
              | inr j_last ↦ omega (arith, i_old, j_last)
            ]
            | inr i_last ↦
                let is : i ≡ length taken = omega arith in
                let same : link.from ≡ n = same_Some link.from n (sym at_i ∙ ap (λ k. slice_get (taken ++ n ∷ []) k) is ∙ slice_get-last taken n) in
                absurd (false≢true (sym new ∙ subst (λ m. is_among taken m ≡ true) same from_there))
          ];
    }
  where
    slice_get-front : (xs : List ℕ) (x k : ℕ) → k < length xs → slice_get (xs ++ x ∷ []) k ≡ slice_get xs k
    slice_get-front [] x k within = absurd (omega arith)
    slice_get-front (y ∷ ys) x zero within = refl
    slice_get-front (y ∷ ys) x (suc k) within = slice_get-front ys x k (omega arith)

    slice_get-last : (xs : List ℕ) (x : ℕ) → slice_get (xs ++ x ∷ []) (length xs) ≡ Some x
    slice_get-last [] x = refl
    slice_get-last (y ∷ ys) x = slice_get-last ys x

-- in the order, a node that writes stands before the node that reads, if that node has inputs
pub order_forward : (count : ℕ) (sources : List ℕ) (links : List Link) (link : Link) → Contains links link → is_among sources link.to ≡ false
    → StandsBefore (order_of count sources links) link.from link.to
order_forward count sources links link of fed =
    (order_keeps (λ taken. IsBehind taken link) count links (λ taken n old within next. behind_more links taken n link of old next) count sources
    (record {
      there = λ is. absurd (false≢true (sym fed ∙ is));
      before = λ i j at_i at_j. absurd (false≢true (sym fed ∙ at-among sources j link.to at_j));
    })).before
