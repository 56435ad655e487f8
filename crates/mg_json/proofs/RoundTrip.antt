-- A JSON value says one payload at most. A value that says a payload has no float, and no fault but for its depth.
use Rattle.std.proofs.Common.{◌≡◌, ℕ, suc, ◌+◌, ◌<◌, ◌≤◌, ◌^◌, ℤ, pos, negsuc, max, List, [], ◌∷◌, ◌++◌, true, false, if◌then◌else◌, Some, nat_lt, FitsSigned, inl, inr, refl, sym, ap, ap₂, ◌∙◌, arith}
use Rattle.std.proofs.lemmas.Bool.{cases_lt}
use Rattle.std.specs.Int.{w64}
use Rattle.serde_json.specs.Data as json
use Rattle.serde_json.specs.Find.{of_integer, is_float}
use Rattle.serde_json.specs.Written.{has_float, items_have_float, members_have_float}
use Rattle.mg_value.specs.Plain.{Plain, flag, int, text, items, entries, Items, no_items, item, Entries, no_entries, entry, depth, items_depth, entries_depth, NumbersFit, ItemsFit, EntriesFit}
use Rattle.mg_json.specs.declared.value_fault.ValueFault.{ValueFault}
use Rattle.mg_json.specs.declared.value_fault.ValueFault.TheVariants.{TooDeep}
use Rattle.mg_json.specs.Json.{json_of, json_items, json_members, number_faults, depth_faults, faults_at, items_faults, members_faults, first}
use Rattle.mg_json.proofs.JsonFaults.{not_too_deep, first-append}

-- ---- one payload at most

abbrev whole : json.Num → ℤ
whole (json.unsigned n) = pos n
whole (json.negative z) = z
whole (json.float x) = pos 0

whole-of_integer : (z : ℤ) → whole (of_integer z) ≡ z
whole-of_integer (pos n) = refl
whole-of_integer (negsuc n) = refl

same_number : (m n : ℤ) → of_integer m ≡ of_integer n → m ≡ n
same_number m n e = sym (whole-of_integer m) ∙ ap whole e ∙ whole-of_integer n

mutual
  pub same_payload : (p q : Plain) → json_of p ≡ json_of q → p ≡ q
  same_payload (flag a) (flag b) e = let s : a ≡ b = cc in ap flag s
  same_payload (int m) (int n) e = let s : of_integer m ≡ of_integer n = cc in ap int (same_number m n s)
  same_payload (text s) (text t) e = let same : s ≡ t = cc in ap text same
  same_payload (items a) (items b) e = let s : json_items a ≡ json_items b = cc in ap items (same_items a b s)
  same_payload (entries a) (entries b) e = let s : json_members a ≡ json_members b = cc in ap entries (same_entries a b s)
  same_payload p q e = absurd (cc)

  same_items : (a b : Items) → json_items a ≡ json_items b → a ≡ b
  same_items no_items no_items e = refl
  same_items (item p a) (item q b) e =
      let s : json_of p ≡ json_of q = cc in let more : json_items a ≡ json_items b = cc in ap₂ item (same_payload p q s) (same_items a b more)
  same_items a b e = absurd (cc)

  same_entries : (a b : Entries) → json_members a ≡ json_members b → a ≡ b
  same_entries no_entries no_entries e = refl
  same_entries (entry j p a) (entry k q b) e =
      let keys : j ≡ k = cc in let s : json_of p ≡ json_of q = cc in let more : json_members a ≡ json_members b = cc in
      λ i. entry (keys i) (same_payload p q s i) (same_entries a b more i)
  same_entries a b e = absurd (cc)

-- ---- no fault but for its depth

-- The faults of a value that nests `nest` deep at depth `depth`. If their sum is at most 17, there is none. Otherwise
-- the first is that the value nests too deep.
pub record At (depth nest : ℕ) (faults : List ValueFault) : Type 0 where
  pub none : depth + nest ≤ 17 → faults ≡ []
  pub deeper : 17 < depth + nest → first faults ≡ Some TooDeep

scalar : (depth : ℕ) (faults : List ValueFault) → depth ≤ 17 → faults ≡ [] → At depth 0 faults
scalar depth faults h e = record { none = λ _. e; deeper = λ over. absurd (omega arith) }

number_at : (n : ℤ) → FitsSigned w64 n → number_faults (of_integer n) ≡ []
number_at (pos n) h = let within : n < 2 ^ 63 = h.sfits in let e : nat_lt n (2 ^ 63) ≡ true = grind arith in rw e refl
number_at (negsuc n) h = refl

too_deep : (depth : ℕ) (inner : List ValueFault) → 16 < depth → first (depth_faults depth ++ inner) ≡ Some TooDeep
too_deep depth inner h = let e : nat_lt 16 depth ≡ true = grind arith in rw e refl

listed : (depth nest : ℕ) (inner : List ValueFault) → depth ≤ 17 → (depth + 1 ≤ 17 → At (depth + 1) nest inner) → At depth (suc nest) (depth_faults depth ++ inner)
listed depth nest inner h at = record {
  none = λ within. (let low : depth ≤ 16 = omega arith in not_too_deep depth inner low ∙ (at (omega arith)).none (omega arith));
  deeper = λ over. elim (cases_lt 16 depth) [
    | inl high ↦ too_deep depth inner high
    | inr low ↦ ap first (not_too_deep depth inner low) ∙ (at (omega arith)).deeper (omega arith)
  ];
}

joined : (depth m n : ℕ) (xs ys : List ValueFault) → At depth m xs → At depth n ys → At depth (max m n) (xs ++ ys)
joined depth m n xs ys one more = record {
  none = λ within. ap (λ zs. zs ++ ys) (one.none (omega arith)) ∙ more.none (omega arith);
  deeper = λ over. elim (cases_lt 17 (depth + m)) [
    | inl high ↦ first-append xs ys TooDeep (one.deeper high)
    | inr low ↦ ap (λ zs. first (zs ++ ys)) (one.none low) ∙ more.deeper (omega arith)
  ];
}

mutual
  pub payload_at : (level : ℕ) (p : Plain) → level ≤ 17 → NumbersFit p → At level (depth p) (faults_at level (json_of p))
  payload_at level (flag b) h fit = scalar level [] h refl
  payload_at level (int n) h fit = scalar level _ h (number_at n fit)
  payload_at level (text s) h fit = scalar level [] h refl
  payload_at level (items is) h fit = listed level (items_depth is) _ h (λ within. items_at (level + 1) is within fit)
  payload_at level (entries es) h fit = listed level (entries_depth es) _ h (λ within. entries_at (level + 1) es within fit)

  items_at : (level : ℕ) (is : Items) → level ≤ 17 → ItemsFit is → At level (items_depth is) (items_faults level (json_items is))
  items_at level no_items h fit = scalar level [] h refl
  items_at level (item p is) h fit = joined level (depth p) (items_depth is) _ _ (payload_at level p h fit.0) (items_at level is h fit.1)

  entries_at : (level : ℕ) (es : Entries) → level ≤ 17 → EntriesFit es → At level (entries_depth es) (members_faults level (json_members es))
  entries_at level no_entries h fit = scalar level [] h refl
  entries_at level (entry k p es) h fit = joined level (depth p) (entries_depth es) _ _ (payload_at level p h fit.0) (entries_at level es h fit.1)

-- ---- not deeper than its faults let it

open_here : (level : ℕ) (inner : List ValueFault) → depth_faults level ++ inner ≡ [] → (level ≤ 16) × (inner ≡ [])
open_here level inner e = elim (cases_lt 16 level) [
  | inl high ↦ (let deep : nat_lt 16 level ≡ true = grind arith in absurd (cons_is_not_nil _ _ (sym (ap (λ b. (if b then TooDeep ∷ [] else []) ++ inner) deep) ∙ e)))
  | inr low ↦ (low, sym (not_too_deep level inner low) ∙ e)
]
  where
    cons_is_not_nil : (f : ValueFault) (fs : List ValueFault) → f ∷ fs ≡ [] → ⊥
    cons_is_not_nil f fs same = cc

both_nil : (xs ys : List ValueFault) → xs ++ ys ≡ [] → (xs ≡ []) × (ys ≡ [])
both_nil [] ys e = (refl, e)
both_nil (x ∷ xs) ys e = absurd (cc)

mutual
  pub within_levels : (level : ℕ) (p : Plain) → level ≤ 17 → faults_at level (json_of p) ≡ [] → level + depth p ≤ 17
  within_levels level (flag b) h e = omega arith
  within_levels level (int n) h e = omega arith
  within_levels level (text s) h e = omega arith
  within_levels level (items is) h e =
      let here = open_here level (items_faults (level + 1) (json_items is)) e in
      omega (arith, items_within (level + 1) is (omega (arith, here.0)) here.1)
  within_levels level (entries es) h e =
      let here = open_here level (members_faults (level + 1) (json_members es)) e in
      omega (arith, entries_within (level + 1) es (omega (arith, here.0)) here.1)

  items_within : (level : ℕ) (is : Items) → level ≤ 17 → items_faults level (json_items is) ≡ [] → level + items_depth is ≤ 17
  items_within level no_items h e = omega arith
  items_within level (item p is) h e =
      let parts = both_nil (faults_at level (json_of p)) (items_faults level (json_items is)) e in
      omega (arith, within_levels level p h parts.0, items_within level is h parts.1)

  entries_within : (level : ℕ) (es : Entries) → level ≤ 17 → members_faults level (json_members es) ≡ [] → level + entries_depth es ≤ 17
  entries_within level no_entries h e = omega arith
  entries_within level (entry k p es) h e =
      let parts = both_nil (faults_at level (json_of p)) (members_faults level (json_members es)) e in
      omega (arith, within_levels level p h parts.0, entries_within level es h parts.1)

-- ---- no fraction

number_whole : (n : ℤ) → is_float (of_integer n) ≡ false
number_whole (pos n) = refl
number_whole (negsuc n) = refl

mutual
  pub whole_numbers : (p : Plain) → has_float (json_of p) ≡ false
  whole_numbers (flag b) = refl
  whole_numbers (int n) = number_whole n
  whole_numbers (text s) = refl
  whole_numbers (items is) = whole_items is
  whole_numbers (entries es) = whole_entries es

  whole_items : (is : Items) → items_have_float (json_items is) ≡ false
  whole_items no_items = refl
  whole_items (item p is) = rw (whole_numbers p) (whole_items is)

  whole_entries : (es : Entries) → members_have_float (json_members es) ≡ false
  whole_entries no_entries = refl
  whole_entries (entry k p es) = rw (whole_numbers p) (whole_entries es)
