-- Lists of times: membership, strictly ascending lists, and `in_order` of the definitions.
use Rattle.std.proofs.Common.{◌≡◌, ℕ, zero, suc, ◌+◌, ◌<◌, ◌≤◌, Bool, true, false, ◌⊎◌, inl, inr, List, [], ◌∷◌, ◌++◌, map, take, drop, length, filter, ap₂, sym, refl, ◌∙◌, arith, eqb, eqb-true, eq-eqb, lt-ltb}
use Rattle.std.proofs.lemmas.Bool.{cases_order, cases_Bool, ne_eqb, le-ltb}
use Rattle.mg_settled.specs.Settled.{with_time, in_order, is_among}

-- a time stands in a list
abbrev pub In : ℕ → List ℕ → Type 0
In t [] = ⊥
In t (u ∷ us) = (u ≡ t) ⊎ In t us

-- times rise strictly, from a least one on
abbrev pub Rises : ℕ → List ℕ → Type 0
Rises a [] = Unit {0}
Rises a (t ∷ ts) = (a ≤ t) × Rises (t + 1) ts

pub Rises-lower : (a b : ℕ) (ts : List ℕ) → a ≤ b → Rises b ts → Rises a ts
Rises-lower a b [] le r = tt
Rises-lower a b (t ∷ ts) le r = (omega (arith, le, r.0), r.1)

pub Rises-least : (a t : ℕ) (ts : List ℕ) → Rises a ts → In t ts → a ≤ t
Rises-least a t [] r i = absurd i
Rises-least a t (u ∷ us) r i = elim i [ inl e ↦ omega (arith, e, r.0) | inr j ↦ let later = Rises-least (u + 1) t us r.1 j in omega (arith, later, r.0) ]

-- rising lists with the same members are equal
pub same_members : (a b : ℕ) (xs ys : List ℕ) → Rises a xs → Rises b ys → ((t : ℕ) → In t xs → In t ys) → ((t : ℕ) → In t ys → In t xs) → xs ≡ ys
same_members a b [] [] rx ry f g = refl
same_members a b [] (y ∷ ys) rx ry f g = absurd (g y (inl refl))
same_members a b (x ∷ xs) [] rx ry f g = absurd (f x (inl refl))
same_members a b (x ∷ xs) (y ∷ ys) rx ry f g =
    let y_first : y ≤ x = Rises-least y x (y ∷ ys) (omega arith, ry.1) (f x (inl refl)) in
    let x_first : x ≤ y = Rises-least x y (x ∷ xs) (omega arith, rx.1) (g y (inl refl)) in
    let heads : x ≡ y = omega (arith, y_first, x_first) in
    let there : (t : ℕ) → In t xs → In t ys = λ t i. elim (f t (inr i)) [ inl e ↦ (let above = Rises-least (x + 1) t xs rx.1 i in absurd (omega (arith, above, e, heads))) | inr j ↦ j ] in
    let back : (t : ℕ) → In t ys → In t xs = λ t i. elim (g t (inr i)) [ inl e ↦ (let above = Rises-least (y + 1) t ys ry.1 i in absurd (omega (arith, above, e, heads))) | inr j ↦ j ] in
    ap₂ (λ (h : ℕ) (rest : List ℕ). h ∷ rest) heads (same_members (x + 1) (y + 1) xs ys rx.1 ry.1 there back)

-- a rising list whose members stand below m, and are the members below m of another rising list, comes first in it
pub first_members : (a b m : ℕ) (xs ys : List ℕ) → Rises a xs → Rises b ys → ((t : ℕ) → In t xs → (t < m) × In t ys) → ((t : ℕ) → t < m → In t ys → In t xs) → ys ≡ xs ++ drop (length xs) ys
first_members a b m [] ys rx ry f g = refl
first_members a b m (x ∷ xs) [] rx ry f g = absurd (f x (inl refl)).1
first_members a b m (x ∷ xs) (y ∷ ys) rx ry f g =
    let fx = f x (inl refl) in
    let y_first : y ≤ x = Rises-least y x (y ∷ ys) (omega arith, ry.1) fx.1 in
    let x_first : x ≤ y = Rises-least x y (x ∷ xs) (omega arith, rx.1) (g y (omega (arith, y_first, fx.0)) (inl refl)) in
    let heads : y ≡ x = omega (arith, y_first, x_first) in
    let there : (t : ℕ) → In t xs → (t < m) × In t ys = λ t i. (
      (f t (inr i)).0,
      elim (f t (inr i)).1 [ inl e ↦ (let above = Rises-least (x + 1) t xs rx.1 i in absurd (omega (arith, above, e, heads))) | inr j ↦ j ],
    ) in
    let back : (t : ℕ) → t < m → In t ys → In t xs = λ t below i. elim (g t below (inr i)) [ inl e ↦ (let above = Rises-least (y + 1) t ys ry.1 i in absurd (omega (arith, above, e, heads))) | inr j ↦ j ] in
    ap₂ (λ (h : ℕ) (rest : List ℕ). h ∷ rest) heads (first_members (x + 1) (y + 1) m xs ys rx.1 ry.1 there back)

-- where a time goes among in_order times
with_time-cases : (t u : ℕ) (us : List ℕ) → ((t < u) × (with_time t (u ∷ us) ≡ t ∷ u ∷ us)) ⊎ (((t ≡ u) × (with_time t (u ∷ us) ≡ u ∷ us)) ⊎ ((u < t) × (with_time t (u ∷ us) ≡ u ∷ with_time t us)))
with_time-cases t u us = elim (cases_order t u) [
  | inl same ↦ inr (inl (same, rw (le-ltb t u (omega (arith, same)), eq-eqb t u same) refl))
  | inr other ↦ elim other [
    | inl below ↦ inl (below, rw (lt-ltb t u below) refl)
    | inr above ↦ inr (inr (above, rw (le-ltb t u (omega (arith, above)), ne_eqb t u (λ e. omega (arith, e, above))) refl))
  ]
]

pub In-with_time_from : (v t : ℕ) (us : List ℕ) → In v (with_time t us) → (t ≡ v) ⊎ In v us
In-with_time_from v t [] i = i
In-with_time_from v t (u ∷ us) i = elim (with_time-cases t u us) [
  | inl h ↦ rw h.1 at i
  | inr other ↦ elim other [
    | inl h ↦ inr (rw h.1 at i)
    | inr h ↦ (let j : In v (u ∷ with_time t us) = rw h.1 at i in
        elim j [ inl e ↦ inr (inl e) | inr k ↦ elim (In-with_time_from v t us k) [ inl e ↦ inl e | inr m ↦ inr (inr m) ] ])
  ]
]

pub In-with_time_to : (v t : ℕ) (us : List ℕ) → (t ≡ v) ⊎ In v us → In v (with_time t us)
In-with_time_to v t [] i = i
In-with_time_to v t (u ∷ us) i = elim (with_time-cases t u us) [
  | inl h ↦ rw h.1 i
  | inr other ↦ elim other [
    | inl h ↦ rw h.1 (elim i [ inl e ↦ inl (sym h.0 ∙ e) | inr j ↦ j ])
    | inr h ↦ rw h.1 (elim i [ inl e ↦ inr (In-with_time_to v t us (inl e)) | inr j ↦ elim j [ inl e ↦ inl e | inr k ↦ inr (In-with_time_to v t us (inr k)) ] ])
  ]
]

pub Rises-with_time : (a t : ℕ) (us : List ℕ) → a ≤ t → Rises a us → Rises a (with_time t us)
Rises-with_time a t [] le r = (le, tt)
Rises-with_time a t (u ∷ us) le r = elim (with_time-cases t u us) [
  | inl h ↦ rw h.1 (le, (omega (arith, h.0), r.1))
  | inr other ↦ elim other [
    | inl h ↦ rw h.1 r
    | inr h ↦ rw h.1 (r.0, Rises-with_time (u + 1) t us (omega (arith, h.0)) r.1)
  ]
]

pub In-in_order_from : (v : ℕ) (ts : List ℕ) → In v (in_order ts) → In v ts
In-in_order_from v [] i = i
In-in_order_from v (t ∷ ts) i = elim (In-with_time_from v t (in_order ts) i) [ inl e ↦ inl e | inr j ↦ inr (In-in_order_from v ts j) ]

pub In-in_order_to : (v : ℕ) (ts : List ℕ) → In v ts → In v (in_order ts)
In-in_order_to v [] i = i
In-in_order_to v (t ∷ ts) i = In-with_time_to v t (in_order ts) (elim i [ inl e ↦ inl e | inr j ↦ inr (In-in_order_to v ts j) ])

pub Rises-in_order : (ts : List ℕ) → Rises 0 (in_order ts)
Rises-in_order [] = tt
Rises-in_order (t ∷ ts) = Rises-with_time 0 t (in_order ts) (omega arith) (Rises-in_order ts)

-- a filter keeps the members that pass
pub In-filter_from : (p : ℕ → Bool) (t : ℕ) (ts : List ℕ) → In t (filter p ts) → (p t ≡ true) × In t ts
In-filter_from p t [] i = absurd i
In-filter_from p t (u ∷ us) i = elim (cases_Bool (p u)) [
  | inl kept ↦ (let j : In t (u ∷ filter p us) = rw kept at i in
      elim j [ inl e ↦ (rw (← e) kept, inl e) | inr k ↦ (let rest = In-filter_from p t us k in (rest.0, inr rest.1)) ])
  | inr fails ↦ (let j : In t (filter p us) = rw fails at i in let rest = In-filter_from p t us j in (rest.0, inr rest.1))
]

pub In-filter_to : (p : ℕ → Bool) (t : ℕ) (ts : List ℕ) → p t ≡ true → In t ts → In t (filter p ts)
In-filter_to p t [] passes i = i
In-filter_to p t (u ∷ us) passes i = elim (cases_Bool (p u)) [
  | inl kept ↦ rw kept (elim i [ inl e ↦ inl e | inr j ↦ inr (In-filter_to p t us passes j) ])
  | inr fails ↦ rw fails (elim i [ inl e ↦ absurd (let clash : p t ≡ false = rw (← e) fails in cc) | inr j ↦ In-filter_to p t us passes j ])
]

pub In-append_from : (t : ℕ) (xs ys : List ℕ) → In t (xs ++ ys) → In t xs ⊎ In t ys
In-append_from t [] ys i = inr i
In-append_from t (x ∷ xs) ys i = elim i [ inl e ↦ inl (inl e) | inr j ↦ elim (In-append_from t xs ys j) [ inl k ↦ inl (inr k) | inr k ↦ inr k ] ]

pub In-append_left : (t : ℕ) (xs ys : List ℕ) → In t xs → In t (xs ++ ys)
In-append_left t [] ys i = absurd i
In-append_left t (x ∷ xs) ys i = elim i [ inl e ↦ inl e | inr j ↦ inr (In-append_left t xs ys j) ]

pub In-append_right : (t : ℕ) (xs ys : List ℕ) → In t ys → In t (xs ++ ys)
In-append_right t [] ys i = i
In-append_right t (x ∷ xs) ys i = inr (In-append_right t xs ys i)

-- the test of membership
pub is_among-In : (t : ℕ) (ts : List ℕ) → is_among ts t ≡ true → In t ts
is_among-In t [] e = absurd cc
is_among-In t (u ∷ us) e = elim (cases_Bool (eqb u t)) [
  | inl kept ↦ inl (eqb-true u t kept)
  | inr fails ↦ inr (is_among-In t us (rw fails at e))
]

pub In-is_among : (t : ℕ) (ts : List ℕ) → In t ts → is_among ts t ≡ true
In-is_among t [] i = absurd i
In-is_among t (u ∷ us) i = elim (cases_Bool (eqb u t)) [
  | inl kept ↦ rw kept refl
  | inr fails ↦ rw fails (elim i [ inl e ↦ absurd (let clash : eqb u t ≡ true = eq-eqb u t e in cc) | inr j ↦ In-is_among t us j ])
]

pub is_among-false : (t : ℕ) (ts : List ℕ) → (In t ts → ⊥) → is_among ts t ≡ false
is_among-false t ts out = elim (cases_Bool (is_among ts t)) [ inl kept ↦ absurd (out (is_among-In t ts kept)) | inr fails ↦ fails ]

-- the first times of a rising list, and the others
pub Rises-drop : (a k : ℕ) (ts : List ℕ) → Rises a ts → Rises a (drop k ts)
Rises-drop a zero ts r = r
Rises-drop a (suc k) [] r = tt
Rises-drop a (suc k) (t ∷ ts) r = Rises-lower a (t + 1) (drop k ts) (omega (arith, r.0)) (Rises-drop (t + 1) k ts r.1)

pub In-drop : (t k : ℕ) (ts : List ℕ) → In t (drop k ts) → In t ts
In-drop t zero ts i = i
In-drop t (suc k) [] i = i
In-drop t (suc k) (u ∷ us) i = inr (In-drop t k us i)

pub not-In-take : (a t k : ℕ) (ts : List ℕ) → Rises a ts → In t (drop k ts) → In t (take k ts) → ⊥
not-In-take a t zero ts r i j = j
not-In-take a t (suc k) [] r i j = j
not-In-take a t (suc k) (u ∷ us) r i j = elim j [
  | inl e ↦ (let above = Rises-least (u + 1) t us r.1 (In-drop t k us i) in omega (arith, above, e))
  | inr m ↦ not-In-take (u + 1) t k us r.1 i m
]

pub In-take_or_drop : (t k : ℕ) (ts : List ℕ) → In t ts → In t (take k ts) ⊎ In t (drop k ts)
In-take_or_drop t zero ts i = inr i
In-take_or_drop t (suc k) [] i = absurd i
In-take_or_drop t (suc k) (u ∷ us) i = elim i [
  | inl e ↦ inl (inl e)
  | inr j ↦ elim (In-take_or_drop t k us j) [ inl m ↦ inl (inr m) | inr m ↦ inr m ]
]

-- functions that agree on the members of a list map it alike
pub map_agree : {Y : Type 0} (f g : ℕ → Y) (ts : List ℕ) → ((t : ℕ) → In t ts → f t ≡ g t) → map f ts ≡ map g ts
map_agree f g [] same = refl
map_agree {Y} f g (t ∷ ts) same = ap₂ (λ (h : Y) (rest : List Y). h ∷ rest) (same t (inl refl)) (map_agree f g ts (λ u i. same u (inr i)))

pub In-take : (t k : ℕ) (ts : List ℕ) → In t (take k ts) → In t ts
In-take t zero ts i = absurd i
In-take t (suc k) [] i = i
In-take t (suc k) (u ∷ us) i = elim i [ inl e ↦ inl e | inr j ↦ inr (In-take t k us j) ]

-- the first times of a rising list stand below the others
pub take-below-drop : (a k u t : ℕ) (ts : List ℕ) → Rises a ts → In u (take k ts) → In t (drop k ts) → u < t
take-below-drop a zero u t ts r i j = absurd i
take-below-drop a (suc k) u t [] r i j = absurd i
take-below-drop a (suc k) u t (v ∷ vs) r i j = elim i [
  | inl e ↦ (let above = Rises-least (v + 1) t vs r.1 (In-drop t k vs j) in omega (arith, e, above))
  | inr m ↦ take-below-drop (v + 1) k u t vs r.1 m j
]
