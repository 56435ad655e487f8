-- The node that comes next, and what is kept after it.
use Rattle.std.proofs.Common.{◌≡◌, ℕ, ◌+◌, ◌-◌, zero, suc, take, drop, ◌<◌, ◌≤◌, Bool, true, false, not, ◌&&◌, ◌||◌, cond, eqb, List, [], ◌∷◌, ◌++◌, length, get_or, slice_set, All, Some, None, inl, inr, ◌∙◌, sym, ap, subst, refl, arith}
use Rattle.std.proofs.lemmas.Bool.{cases_Bool, ne_eqb, false≢true, and_parts, not-true, le-ltb}
use Rattle.std.proofs.Math.Seq.{take-append_seam}
use Rattle.std.proofs.lemmas.List.Folds.{sum_by-zero}
use Rattle.std.specs.Prelude.{count_by}
use Rattle.std.specs.List.{list_any, list_all, find}
use Rattle.std.specs.Ordering.{nat_cmp, is_gt}
use Rattle.std.specs.declared.cmp.Ordering.TheVariants.{Less, Equal, Greater}
use Rattle.std.specs.BTreeSet.{BTreeSet, contains, IsLowerBound}
use Rattle.std.specs.BTreeMap.{is_at}
use Rattle.mg_calc.specs.Plan.{numbers}
use Rattle.mg_check.specs.declared.ordering.Link.{Link}
use Rattle.mg_check.specs.Order.{is_among, is_next, taken_on, then_next, IsBetween}
use Rattle.mg_check.specs.Code.Taking.{HasMarks, HasWaits, HasReaders, HasReleased, HasPassing, IsAfter, is_marked, may_be_taken, waits_for, readers_of}
use Rattle.mg_check.proofs.OrderFacts.{first-find, none-find}
use Rattle.mg_check.proofs.OrderingMarks.{HasMarks-push}
use Rattle.mg_check.proofs.OrderingLinks.{HasWaits-taken, HasWaits-same, row_is}

-- ---- what is free comes next
list_all_agree : {X : Type 0} (p q : X → Bool) → ((x : X) → p x ≡ q x) → (xs : List X) → list_all p xs ≡ list_all q xs
list_all_agree p q same [] = refl
list_all_agree p q same (x ∷ xs) = ap (λ b. b && list_all p xs) (same x) ∙ ap (λ b. q x && b) (list_all_agree p q same xs)

waits_none : (taken : ℕ → Bool) (links : List Link) (n : ℕ) → eqb (count_by (waits_for taken n) links) 0 ≡ list_all (λ link. not (eqb link.to n) || taken link.from) links
waits_none taken links n =
    sum_by-zero (λ l. cond (waits_for taken n l) 1 0) links
    ∙ list_all_agree (λ l. eqb (cond (waits_for taken n l) 1 0) 0) (λ l. not (eqb l.to n) || taken l.from) (λ l. one (eqb l.to n) (taken l.from)) links
  where
    one : (a b : Bool) → eqb (cond (a && not b) 1 0) 0 ≡ (not a || b)
    one true true = refl
    one true false = refl
    one false true = refl
    one false false = refl

pub free_is_next : (count : ℕ) (links : List Link) (order : List ℕ) (taken : List Bool) (waiting : List ℕ) (n : ℕ) → n < count → HasMarks count order taken
    → HasWaits count links (is_among order) waiting → may_be_taken taken waiting n ≡ is_next links order n
free_is_next count links order taken waiting n lt marks waits =
    ap (λ b. not b && eqb (get_or waiting n 0) 0) (marks.marked n lt)
    ∙ ap (λ k. not (is_among order n) && eqb k 0) (waits.told n lt)
    ∙ ap (λ b. not (is_among order n) && b) (waits_none (is_among order) links n)

pub ready_is_next : (count : ℕ) (links : List Link) (order : List ℕ) (taken : List Bool) (waiting : List ℕ) (ready : BTreeSet ℕ) → IsAfter count links order taken waiting ready
    → (n : ℕ) → n < count → contains nat_cmp ready n ≡ is_next links order n
ready_is_next count links order taken waiting ready after n lt = after.free.passing n lt ∙ free_is_next count links order taken waiting n lt after.marks after.waits

gt_when : (m q : ℕ) → q < m → is_gt (nat_cmp m q) ≡ true
gt_when m q lt = ap (λ b. is_gt (cond b Less (cond (eqb m q) Equal Greater))) (le-ltb m q (omega arith)) ∙ ap (λ b. is_gt (cond b Equal Greater)) (ne_eqb m q (λ e. omega (arith, e)))

-- the least number of the set comes next
pub next_is_least : (count : ℕ) (links : List Link) (order : List ℕ) (taken : List Bool) (waiting : List ℕ) (ready : BTreeSet ℕ) (m : ℕ)
    → IsAfter count links order taken waiting ready → contains nat_cmp ready m ≡ true → IsLowerBound nat_cmp ready m → find (is_next links order) (numbers count) ≡ Some m
next_is_least count links order taken waiting ready m after member least =
    let below : m < count = after.free.below m member in
    first-find (is_next links order) 0 count m (record {
      above = omega arith;
      below = omega arith;
      passes = sym (ready_is_next count links order taken waiting ready after m below) ∙ member;
      least = λ q low lt. sym (ready_is_next count links order taken waiting ready after q (omega arith)) ∙ elim (cases_Bool (contains nat_cmp ready q)) [
        | inl is ↦ absurd (false≢true (sym (least q is) ∙ gt_when m q lt))
        | inr fails ↦ fails
      ];
    })

pub empty_list : (keys : List ℕ) → (0 < length keys → false ≡ true) → keys ≡ []
empty_list [] none = refl
empty_list (k ∷ keys) none = absurd (false≢true (none (omega arith)))

-- if the set is empty, no node is next
pub next_is_none : (count : ℕ) (links : List Link) (order : List ℕ) (taken : List Bool) (waiting : List ℕ) (ready : BTreeSet ℕ)
    → IsAfter count links order taken waiting ready → ready.keys ≡ [] → find (is_next links order) (numbers count) ≡ None
next_is_none count links order taken waiting ready after none =
    none-find (is_next links order) 0 count (λ n low lt. sym (ready_is_next count links order taken waiting ready after n (omega arith))
    ∙ ap (λ ks. list_any (is_at (nat_cmp n)) ks) none)

-- ---- a node is taken
pub IsAfter-taken : (count : ℕ) (links : List Link) (order : List ℕ) (taken : List Bool) (waiting new : List ℕ) (ready set : BTreeSet ℕ) (m : ℕ) → m < count → is_among order m ≡ false
    → IsAfter count links order taken waiting ready → HasReleased (readers_of links m) waiting new → HasPassing count (may_be_taken (slice_set taken m true) new) set
    → IsAfter count links (order ++ m ∷ []) (slice_set taken m true) new set
IsAfter-taken count links order taken waiting new ready set m inside out after released free = record {
  marks = HasMarks-push count order m taken inside after.marks;
  waits = HasWaits-taken count links order m waiting new out after.waits released;
  free = free;
}

-- a number of the set is below the count, and isn't taken
pub ready_new : (count : ℕ) (links : List Link) (order : List ℕ) (taken : List Bool) (waiting : List ℕ) (ready : BTreeSet ℕ) (m : ℕ)
    → IsAfter count links order taken waiting ready → contains nat_cmp ready m ≡ true → (m < count) × (is_among order m ≡ false)
ready_new count links order taken waiting ready m after member =
    let below : m < count = after.free.below m member in
    let next : is_next links order m ≡ true = sym (ready_is_next count links order taken waiting ready after m below) ∙ member in
    (below, not-true (is_among order m) (and_parts (not (is_among order m)) (list_all (λ link. not (eqb link.to m) || is_among order link.from) links) next).0)

-- the row that is read for it has its readers
pub ready_row : (count : ℕ) (links : List Link) (order : List ℕ) (taken : List Bool) (waiting : List ℕ) (ready : BTreeSet ℕ) (m : ℕ) (rows : List (List ℕ)) (read row : List ℕ)
    → IsAfter count links order taken waiting ready → contains nat_cmp ready m ≡ true → HasReaders count links rows → read ≡ get_or rows m read → row ≡ read → row ≡ readers_of links m
ready_row count links order taken waiting ready m rows read row after member has is_read same =
    same ∙ row_is count links rows m read has (ready_new count links order taken waiting ready m after member).0 is_read

-- the sources alone are taken
pub IsAfter-first : (count : ℕ) (links : List Link) (sources : List ℕ) (taken marks free_marks : List Bool) (waiting free_waiting : List ℕ) (ready : BTreeSet ℕ) → All (IsBetween count) links
    → HasMarks count sources taken → marks ≡ taken → HasWaits count links (is_marked marks) waiting → free_marks ≡ taken → free_waiting ≡ waiting
    → HasPassing count (may_be_taken free_marks free_waiting) ready → IsAfter count links sources taken waiting ready
IsAfter-first count links sources taken marks free_marks waiting free_waiting ready between has same waits same_marks same_waiting free = record {
  marks = has;
  waits = HasWaits-same count links (is_marked marks) (is_among sources) waiting (λ n lt. ap (λ ms. is_marked ms n) same ∙ has.marked n lt) between waits;
  free = subst (λ ms. HasPassing count (may_be_taken ms waiting) ready) same_marks (subst (λ ws. HasPassing count (may_be_taken free_marks ws) ready) same_waiting free);
}

-- ---- what is taken with what comes next
pub taken_on-some : (count : ℕ) (links : List Link) (order all : List ℕ) (k m : ℕ) → k < count → find (is_next links order) (numbers count) ≡ Some m
    → taken_on (count - k) count links order ≡ all → taken_on (count - (k + 1)) count links (order ++ m ∷ []) ≡ all
taken_on-some count links order all k m lt found same =
    let more : ℕ = count - (k + 1) in
    let is_more : suc more ≡ count - k = omega arith in
    ap (λ o. then_next order (λ n. taken_on more count links (order ++ n ∷ [])) o) (sym found) ∙ ap (λ j. taken_on j count links order) is_more ∙ same

pub taken_on-none : (count : ℕ) (links : List Link) (order : List ℕ) (k : ℕ) → find (is_next links order) (numbers count) ≡ None → taken_on k count links order ≡ order
taken_on-none count links order zero found = refl
taken_on-none count links order (suc k) found = ap (λ o. then_next order (λ n. taken_on k count links (order ++ n ∷ [])) o) found

pub taken_on-all : (count : ℕ) (links : List Link) (order all : List ℕ) (k : ℕ) → count ≤ k → taken_on (count - k) count links order ≡ all → order ≡ all
taken_on-all count links order all k le same = ap (λ j. taken_on j count links order) (let e : 0 ≡ count - k = omega arith in e) ∙ same

-- what is lent whole comes back whole
pub whole : {X : Type 0} (n : ℕ) (new old : List X) → length new ≡ n → take n (new ++ drop (length new) old) ≡ new
whole n new old len = rw (← len) (take-append_seam new (drop (length new) old))
