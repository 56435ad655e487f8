-- Lists whose members change one after the other.
use Rattle.std.proofs.Common.{◌≡◌, ◌≢◌, ℕ, zero, suc, ◌+◌, ◌-◌, ◌<◌, All, List, [], ◌∷◌, ◌++◌, length, map, set, take, drop, get_or, slice_get, Option, None, Some, sym, refl, ap, ◌∙◌, subst, arith, ⊎_elim}
use Rattle.std.proofs.lemmas.List.{get_or-map, length-set, length-map, map-set, map-append, take_more, length-append, get_or_append_left, get_or_push}
use Rattle.std.proofs.lemmas.List.Elements.{All-get_or, All-set}
use Rattle.std.proofs.lemmas.Option.{slice_get_within, slice_get-get_or}
use Rattle.std.proofs.Math.Nat.{eq-or-lt_of_le}
use Rattle.std.proofs.Math.Seq.{take-length}
use Rattle.mg_levels.specs.declared.hand.Hand.{Hand}
use Rattle.mg_levels.specs.Hands.{HandView, hand_view, took_from, kept_hand, joined, FoundEmpty}
use Rattle.mg_levels.specs.Places.{FoundEmptyFrom, TookLast}
use Rattle.mg_levels.specs.Code.Rows.{joined_all, views_in, portions_in}

module _ {X Y Z : Type 0} (f : X → Z) (g : Y → Z) where
  -- what two lists have in common they have at each place
  pub same_at : (xs : List X) (ys : List Y) (i : ℕ) (x : X) (y : Y) → map f xs ≡ map g ys → i < length xs → i < length ys → y ≡ get_or ys i y → f (get_or xs i x) ≡ g y
  same_at xs ys i x y same there there' is =
      sym (get_or-map f xs i x (g y) there) ∙ ap (λ l. get_or l i (g y)) same ∙ get_or-map g ys i y (g y) there' ∙ ap g (sym is)

  pub same_length : (xs : List X) (ys : List Y) → map f xs ≡ map g ys → length xs ≡ length ys
  same_length xs ys same = sym (length-map xs f) ∙ ap length same ∙ length-map ys g

pub part_at : {X Z : Type 0} (P : Z → Type 0) (f : X → Z) (xs : List X) (i : ℕ) (x : X) → All P (map f xs) → i < length xs → P (f (get_or xs i x))
part_at P f xs i x all there =
    subst P (get_or-map f xs i x (f x) there) (All-get_or P (map f xs) i (f x) (subst (λ n. i < n) (sym (length-map xs f)) there) all)

pub set_here : {X : Type 0} (xs : List X) (i : ℕ) (x : X) → i < length xs → slice_get (set xs i x) i ≡ Some x
set_here [] i x there = absurd (omega (arith, there))
set_here (y ∷ ys) zero x there = refl
set_here (y ∷ ys) (suc i) x there = set_here ys i x (omega (arith, there))

pub set_other : {X : Type 0} (xs : List X) (i j : ℕ) (x : X) → j ≢ i → slice_get (set xs i x) j ≡ slice_get xs j
set_other [] i j x apart = refl
set_other (y ∷ ys) zero zero x apart = absurd (apart refl)
set_other (y ∷ ys) zero (suc j) x apart = refl
set_other (y ∷ ys) (suc i) zero x apart = refl
set_other (y ∷ ys) (suc i) (suc j) x apart = set_other ys i j x (λ same. apart (ap suc same))

some_inj : {X : Type 0} (x y : X) → Some x ≡ Some y → x ≡ y
some_inj x y p = ap (λ o. had o x) p
  where
    had : {X : Type 0} → Option X → X → X
    had None d = d
    had (Some z) d = z

one_up : (i : ℕ) → suc i ≡ i + 1
one_up i = omega arith

-- nothing comes after the last level
pub none_found : (old : List HandView) (n : ℕ) → length old ≡ n → FoundEmptyFrom n old old
none_found old n size = record {
  count = refl;
  empty = λ level h w from at _. let w = slice_get_within old level h at in absurd (omega (arith, w, from, size));
  others = λ level _. refl;
}

-- a level more is found empty
pub found_more : (i : ℕ) (old now : List HandView) (h w : HandView) → FoundEmptyFrom (suc i) old now → slice_get now i ≡ Some h → FoundEmpty h w → FoundEmptyFrom i old (set now i w)
found_more i old now h w later at found = record {
  count = length-set now i w ∙ later.count;
  empty = λ level x y from was is. ⊎_elim
      (λ (same : i ≡ level).
      let x_is : x ≡ h = some_inj x h (sym was ∙ ap (slice_get old) (sym same) ∙ sym (later.others i (omega arith)) ∙ at) in
      let y_is : w ≡ y = some_inj w y (sym (set_here now i w (slice_get_within now i h at)) ∙ ap (slice_get (set now i w)) same ∙ is) in
      subst (λ (p : HandView × HandView). FoundEmpty p.0 p.1) (λ k. (sym x_is k, y_is k)) found)
      (λ (less : i < level).
      later.empty level x y less was (sym (set_other now i level w (λ same. not_below i level less (sym same))) ∙ is))
      (eq-or-lt_of_le from);
  others = λ level below. set_other now i level w (λ same. not_below level i below same) ∙ later.others level (omega (arith, below));
}
  where
    not_below : (a b : ℕ) → a < b → a ≡ b → ⊥
    not_below a b less same = omega (arith, less, same)

took_last : (i place : ℕ) (old now : List HandView) (h : HandView) → FoundEmptyFrom (suc i) old now → slice_get now i ≡ Some h → TookLast place old (set now i (took_from h place))
took_last i place old now h later at = record { level = i; between = now; later = later; hand = h; at = at; taken = refl }

at_view : (hands : List Hand) (i : ℕ) (d : Hand) → i < length hands → slice_get (views_in hands) i ≡ Some (hand_view (get_or hands i d))
at_view hands i d there =
    slice_get-get_or (views_in hands) i (hand_view d) (subst (λ n. i < n) (sym (length-map hands hand_view)) there) ∙ ap Some (get_or-map hand_view hands i d (hand_view d) there)

less_one : (n : ℕ) → 0 < n → n ≡ suc (n - 1)
less_one n some_left = omega (arith, some_left)

-- a place is taken at the last level that has one, told of the hands of the code
pub taken_now : (hands : List Hand) (new d : Hand) (old : List HandView) (place level : ℕ) → 0 < level → level - 1 < length hands → FoundEmptyFrom level old (views_in hands)
    → hand_view new ≡ took_from (hand_view (get_or hands (level - 1) d)) place → TookLast place old (views_in (set hands (level - 1) new))
taken_now hands new d old place level some_left there later took =
    let h = hand_view (get_or hands (level - 1) d) in
    let is : views_in (set hands (level - 1) new) ≡ set (views_in hands) (level - 1) (took_from h place) =
    map-set hand_view hands (level - 1) new ∙ ap (λ w. set (views_in hands) (level - 1) w) took in
    subst (λ l. TookLast place old l) (sym is) (took_last (level - 1) place old (views_in hands) h (subst (λ n. FoundEmptyFrom n old (views_in hands)) (less_one level some_left) later) (at_view hands (level - 1) d there))

pub emptied_now : (hands : List Hand) (new d : Hand) (old : List HandView) (level : ℕ) → 0 < level → level - 1 < length hands → FoundEmptyFrom level old (views_in hands)
    → FoundEmpty (hand_view (get_or hands (level - 1) d)) (hand_view new) → FoundEmptyFrom (level - 1) old (views_in (set hands (level - 1) new))
emptied_now hands new d old level some_left there later found =
    subst (λ l. FoundEmptyFrom (level - 1) old l) (sym (map-set hand_view hands (level - 1) new))
    (found_more (level - 1) old (views_in hands) (hand_view (get_or hands (level - 1) d)) (hand_view new) (subst (λ n. FoundEmptyFrom n old (views_in hands)) (less_one level some_left) later)
    (at_view hands (level - 1) d there) found)

module _ {X : Type 0} (f : X → X) where
  pub mapped_more : (xs : List X) (i : ℕ) (x : X) → i < length xs → set (map f (take i xs) ++ drop i xs) i (f (get_or xs i x)) ≡ map f (take (suc i) xs) ++ drop (suc i) xs
  mapped_more [] i x there = absurd (omega (arith, there))
  mapped_more (y ∷ ys) zero x there = refl
  mapped_more (y ∷ ys) (suc i) x there = ap (λ l. f y ∷ l) (mapped_more ys i x (omega (arith, there)))

  pub mapped_read : (xs : List X) (i : ℕ) (x : X) → i < length xs → get_or (map f (take i xs) ++ drop i xs) i x ≡ get_or xs i x
  mapped_read [] i x there = absurd (omega (arith, there))
  mapped_read (y ∷ ys) zero x there = refl
  mapped_read (y ∷ ys) (suc i) x there = mapped_read ys i x (omega (arith, there))

joined_none : (xs : List HandView) → joined_all xs [] ≡ xs
joined_none [] = refl
joined_none (x ∷ xs) = refl

-- the last of the others is taken in first
pub joined_last : (xs ys : List HandView) (y d : HandView) → length ys < length xs → joined_all xs (ys ++ y ∷ []) ≡ joined_all (set xs (length ys) (joined (get_or xs (length ys) d) y)) ys
joined_last [] ys y d there = absurd (omega (arith, there))
joined_last (x ∷ xs) [] y d there = ap (λ l. joined x y ∷ l) (joined_none xs)
joined_last (x ∷ xs) (z ∷ ys) y d there = ap (λ l. joined x z ∷ l) (joined_last xs ys y d (omega (arith, there)))

module _ (n : ℕ) (first hands : List Hand) (i : ℕ) (d : Hand) (there : i < length first) (here : i < length hands)
    (cut : views_in hands ≡ map (λ (h : HandView). kept_hand h n) (take i (views_in first)) ++ drop i (views_in first)) where
  inside : i < length (views_in first)
  inside = subst (λ m. i < m) (sym (length-map first hand_view)) there

  -- the hand at the next level isn't cut yet
  pub uncut : hand_view (get_or hands i d) ≡ hand_view (get_or first i d)
  uncut =
      sym (get_or-map hand_view hands i d (hand_view d) here) ∙ ap (λ l. get_or l i (hand_view d)) cut
      ∙ mapped_read (λ (h : HandView). kept_hand h n) (views_in first) i (hand_view d) inside
      ∙ get_or-map hand_view first i d (hand_view d) there

  pub has_more : All (λ p. n < p) (portions_in first) → n < (hand_view (get_or hands i d)).portion
  has_more all =
      subst (λ (h : HandView). n < h.portion) (sym uncut) (part_at (λ p. n < p) (λ (h : Hand). h.pass.me.0.client.portion) first i d all there)

  pub cut_more : (new : Hand) → hand_view new ≡ kept_hand (hand_view (get_or hands i d)) n
      → views_in (set hands i new) ≡ map (λ (h : HandView). kept_hand h n) (take (i + 1) (views_in first)) ++ drop (i + 1) (views_in first)
  cut_more new is =
      map-set hand_view hands i new
      ∙ ap (λ w. set (views_in hands) i w) (is ∙ ap (λ h. kept_hand h n) (uncut ∙ sym (get_or-map hand_view first i d (hand_view d) there)))
      ∙ ap (λ l. set l i (kept_hand (get_or (views_in first) i (hand_view d)) n)) cut
      ∙ mapped_more (λ (h : HandView). kept_hand h n) (views_in first) i (hand_view d) inside
      ∙ ap (λ m. map (λ (h : HandView). kept_hand h n) (take m (views_in first)) ++ drop m (views_in first)) (one_up i)

-- the identities of some hands are the first of a list; with one hand more they are one more of them
pub ids_more : {X Z : Type 0} (f : X → Z) (ids : List Z) (xs : List X) (x : X) (i : ℕ) (d : Z) → map f xs ≡ take i ids → i < length ids → f x ≡ get_or ids i d → map f (xs ++ x ∷ []) ≡ take (i + 1) ids
ids_more f ids xs x i d same there is =
    map-append f xs (x ∷ []) ∙ ap (λ l. l ++ f x ∷ []) same ∙ ap (λ z. take i ids ++ z ∷ []) is ∙ sym (take_more ids i d there)

-- The last of a list.

module _ {X Z : Type 0} (f : X → Z) where
  -- if the first of some numbers are those of a list, so are they without the last
  pub last_id : (xs : List X) (x : X) (ids : List Z) (d : Z) → map f (xs ++ x ∷ []) ≡ take (length (xs ++ x ∷ [])) ids
      → (map f xs ≡ take (length xs) ids) × (length xs < length ids) × (f x ≡ get_or ids (length xs) d)
  last_id [] x [] d same = absurd (none_more 0 (ap length same))
    where
      none_more : (n : ℕ) → suc n ≡ 0 → ⊥
      none_more n p = omega (arith, p)
  last_id [] x (z ∷ zs) d same = (refl, omega arith, ap (λ l. get_or l 0 d) same)
  last_id (y ∷ ys) x [] d same = absurd (none_more (length (map f (ys ++ x ∷ []))) (ap length same))
    where
      none_more : (n : ℕ) → suc n ≡ 0 → ⊥
      none_more n p = omega (arith, p)
  last_id (y ∷ ys) x (z ∷ zs) d same =
      let rest = last_id ys x zs d (ap (λ l. drop 1 l) same) in
      ((λ i. ap (λ l. get_or l 0 d) same i ∷ rest.0 i), (let less = rest.1 in omega (arith, less)), rest.2)

  pub all_last : (P : Z → Type 0) (xs : List X) (x : X) → All P (map f (xs ++ x ∷ [])) → All P (map f xs) × P (f x)
  all_last P xs x all =
      let joined_up : All P (map f xs ++ f x ∷ []) = subst (λ l. All P l) (map-append f xs (x ∷ [])) all in
      let long : length (map f xs ++ f x ∷ []) ≡ length (map f xs) + 1 = length-append (map f xs) (f x ∷ []) in (
        (λ k d below. subst P (get_or_append_left (map f xs) (f x ∷ []) d k below) (joined_up k d (omega (arith, long, below)))),
        subst P (get_or_push (map f xs) (f x) (f x) (length (map f xs)) refl) (joined_up (length (map f xs)) (f x) (omega (arith, long))),
      )

-- the last of the others is taken in
pub join_step : (hands xs : List Hand) (x new d : Hand) (i : ℕ) → i ≡ length xs → i < length hands → hand_view new ≡ joined (hand_view (get_or hands i d)) (hand_view x)
    → joined_all (views_in (set hands i new)) (views_in xs) ≡ joined_all (views_in hands) (views_in (xs ++ x ∷ []))
join_step hands xs x new d i is there view_is =
    let n : length (views_in xs) ≡ i = length-map xs hand_view ∙ sym is in
    let wide : length (views_in hands) ≡ length hands = length-map hands hand_view in
    ap (λ v. joined_all v (views_in xs)) (map-set hand_view hands i new
    ∙ ap (λ w. set (views_in hands) i w) (view_is ∙ ap (λ h. joined h (hand_view x)) (sym (get_or-map hand_view hands i d (hand_view d) there)))
    ∙ ap (λ k. set (views_in hands) k (joined (get_or (views_in hands) k (hand_view d)) (hand_view x))) (sym n))
    ∙ sym (joined_last (views_in hands) (views_in xs) (hand_view x) (hand_view d) (omega (arith, n, wide, there)))
    ∙ ap (joined_all (views_in hands)) (sym (map-append hand_view xs (x ∷ [])))

pub joined_end : (hands : List Hand) (xs : List Hand) → xs ≡ [] → joined_all (views_in hands) (views_in xs) ≡ views_in hands
joined_end hands xs none = ap (λ l. joined_all (views_in hands) (views_in l)) none ∙ joined_none (views_in hands)

-- portions stay positive if two are one
pub portions_joined : (hands : List Hand) (i : ℕ) (new : Hand) → 0 < new.pass.me.0.client.portion → All (λ p. 0 < p) (portions_in hands) → All (λ p. 0 < p) (portions_in (set hands i new))
portions_joined hands i new some_left all =
    subst (λ l. All (λ p. 0 < p) l) (sym (map-set (λ (h : Hand). h.pass.me.0.client.portion) hands i new)) (All-set (λ p. 0 < p) (portions_in hands) i new.pass.me.0.client.portion some_left all)

-- no others are left
pub ids_all : {X Y Z : Type 0} (f : X → Z) (g : Y → Z) (xs : List X) (ys : List Y) → map f xs ≡ map g ys → map f xs ≡ take (length xs) (map g ys)
ids_all f g xs ys same = same ∙ sym (take_all (map g ys) (length xs) (sym (ap length same) ∙ length-map xs f))
  where
    take_all : {Z : Type 0} (zs : List Z) (n : ℕ) → length zs ≡ n → take n zs ≡ zs
    take_all zs n size = ap (λ k. take k zs) (sym size) ∙ take-length zs

pub nothing : {X : Type 0} (xs : List X) → length xs ≡ 0 → xs ≡ []
nothing [] none = refl
nothing (x ∷ xs) none = absurd (omega (arith, none))
