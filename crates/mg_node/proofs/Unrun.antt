-- The first entry whose work came back unrun.
use Rattle.std.proofs.Common.{◌≡◌, ℕ, zero, suc, ◌+◌, ◌-◌, ◌<◌, ◌≤◌, Bool, true, false, List, [], ◌∷◌, length, get_or, set, drop, Some, None, slice_get, inl, inr, ap, sym, ◌∙◌, arith, if◌then◌else◌}
use Rattle.std.proofs.lemmas.Bool.{cases_Bool}
use Rattle.std.proofs.lemmas.List.{drop_more, drop_all}
use Rattle.mg_node.specs.Views.{EntryView, WorkView}
use Rattle.mg_node.specs.Claims.{is_unrun, first_unrun, HandsOut}

pub unrun_here : (xs : List EntryView) (i : ℕ) (x : EntryView) → i < length xs → x ≡ get_or xs i x → is_unrun x ≡ true → first_unrun i (drop i xs) ≡ Some i
unrun_here xs i x there is unrun =
    let here : is_unrun (get_or xs i x) ≡ true = ap is_unrun (sym is) ∙ unrun in
    ap (first_unrun i) (drop_more xs i x there) ∙ ap (λ (b : Bool). if b then Some i else first_unrun (i + 1) (drop (i + 1) xs)) here

pub unrun_next : (xs : List EntryView) (i : ℕ) (x : EntryView) → i < length xs → x ≡ get_or xs i x → is_unrun x ≡ false → first_unrun (i + 1) (drop (i + 1) xs) ≡ first_unrun i (drop i xs)
unrun_next xs i x there is unrun =
    let here : is_unrun (get_or xs i x) ≡ false = ap is_unrun (sym is) ∙ unrun in
    sym (ap (first_unrun i) (drop_more xs i x there) ∙ ap (λ (b : Bool). if b then Some i else first_unrun (i + 1) (drop (i + 1) xs)) here)

pub unrun_none : (xs : List EntryView) (i : ℕ) → length xs ≤ i → first_unrun i (drop i xs) ≡ None
unrun_none xs i end = ap (first_unrun i) (drop_all i xs end)

-- where it stands
pub record StandsUnrun (xs : List EntryView) (n place : ℕ) : Type 0 where
  pub from : n ≤ place
  pub there : place < n + length xs
  pub unrun : (d : EntryView) → is_unrun (get_or xs (place - n) d) ≡ true

pub unrun_stands : (xs : List EntryView) (n place : ℕ) → first_unrun n xs ≡ Some place → StandsUnrun xs n place
unrun_stands [] n place h = absurd cc
unrun_stands (x ∷ xs) n place h = elim (cases_Bool (is_unrun x)) [
  | inl holds ↦
      (let same : n ≡ place = (let e = rw holds at h in cc) in
      let none : place - n ≡ 0 = omega (arith, same) in
      record { from = omega (arith, same); there = omega (arith, same); unrun = (λ d. rw none holds) })
  | inr other ↦
      (let later = unrun_stands xs (n + 1) place (rw other at h) in
      let from = later.from in
      let there = later.there in
      let more : place - n ≡ suc (place - (n + 1)) = omega (arith, from) in
      record { from = omega (arith, from); there = omega (arith, there); unrun = (λ d. rw more (later.unrun d)) })
]

-- at the beginning
pub unrun_within : (xs : List EntryView) (place : ℕ) → first_unrun 0 xs ≡ Some place → place < length xs
unrun_within xs place h = (let there = (unrun_stands xs 0 place h).there in omega (arith, there))

pub unrun_at : (xs : List EntryView) (place : ℕ) (x : EntryView) → first_unrun 0 xs ≡ Some place → x ≡ get_or xs place x → is_unrun x ≡ true
unrun_at xs place x h is =
    let zero_less : place - 0 ≡ place = omega arith in
    ap is_unrun is ∙ ap (λ (n : ℕ). is_unrun (get_or xs n x)) (sym zero_less) ∙ (unrun_stands xs 0 place h).unrun x

get_here : (xs : List EntryView) (place : ℕ) (x : EntryView) → place < length xs → x ≡ get_or xs place x → slice_get xs place ≡ Some x
get_here [] place x le is = absurd (omega (arith, le))
get_here (y ∷ xs) zero x le is = ap Some (sym is)
get_here (y ∷ xs) (suc place) x le is = get_here xs place x (omega (arith, le)) is

pub hands_out : (xs : List EntryView) (place : ℕ) (x y : EntryView) (work : WorkView) → first_unrun 0 xs ≡ Some place → x ≡ get_or xs place x → x.outcome ≡ Some (record { work = work; answer = None })
    → y ≡ record { phase = x.phase; outcome = None; committed = false } → HandsOut xs (set xs place y) place work
hands_out xs place x y work h is outcome left = record {
  entry = x;
  there = get_here xs place x (unrun_within xs place h) is;
  outcome = outcome;
  left = ap (set xs place) left;
}
