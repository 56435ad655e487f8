-- What holds of the nodes, edges and numbers that are kept, and of their images.
use Rattle.std.proofs.Common.{◌≡◌, ℕ, zero, suc, Bool, true, false, List, [], ◌∷◌, map, filter, Option, None, Some, refl, sym, ap, subst, inl, inr, arith}
use Rattle.std.specs.List.{AllByRecursion, filter_map, cons_option}
use Rattle.std.proofs.lemmas.Bool.{cases_Bool}
use Rattle.mg_calc.specs.Plan.{StandsBefore}
use Rattle.mg_calc.proofs.Earlier.{some_same}
use Rattle.mg_free.proofs.Placing.{Among, AreApart, filter_in, filter_out, among_at, place_of_among}

-- what holds of each of some things holds of the images of those that are kept
pub all_kept : {X Y : Type 0} (P : X → Type 0) (Q : Y → Type 0) (t : X → Bool) (f : X → Y) (xs : List X) → ((x : X) → t x ≡ true → P x → Q (f x)) → AllByRecursion P xs → AllByRecursion Q (map f (filter t xs))
all_kept P Q t f [] so all = tt
all_kept {X} P Q t f (x ∷ xs) so all = elim (cases_Bool (t x)) [
  | inl is ↦ subst (λ (l : List X). AllByRecursion Q (map f l)) (sym (filter_in t x xs is)) (so x is all.0, all_kept P Q t f xs so all.1)
  | inr isnt ↦ subst (λ (l : List X). AllByRecursion Q (map f l)) (sym (filter_out t x xs isnt)) (all_kept P Q t f xs so all.1)
]

pub all_images : {X Y : Type 0} (P : X → Type 0) (Q : Y → Type 0) (f : X → Y) (xs : List X) → ((x : X) → P x → Q (f x)) → AllByRecursion P xs → AllByRecursion Q (map f xs)
all_images P Q f [] so all = tt
all_images P Q f (x ∷ xs) so all = (so x all.0, all_images P Q f xs so all.1)

-- Numbers that are kept.
pub among_kept : (t : ℕ → Bool) (f : ℕ → ℕ) (n : ℕ) (ns : List ℕ) → Among n ns → t n ≡ true → Among (f n) (map f (filter t ns))
among_kept t f n [] a is = absurd a
among_kept t f n (x ∷ ns) a is = elim (cases_Bool (t x)) [
  | inl passes ↦ subst (λ (l : List ℕ). Among (f n) (map f l)) (sym (filter_in t x ns passes)) (elim a [ inl same ↦ inl (ap f same) | inr later ↦ inr (among_kept t f n ns later is) ])
  | inr isnt ↦ subst (λ (l : List ℕ). Among (f n) (map f l)) (sym (filter_out t x ns isnt)) (elim a [ inl same ↦ absurd (other x same isnt is) | inr later ↦ among_kept t f n ns later is ])
]
  where
    other : (x : ℕ) → x ≡ n → t x ≡ false → t n ≡ true → ⊥
    other x same isnt passes = (let e = ap t same in cc)

-- where an image tells what it is of
pub kept_among : (t : ℕ → Bool) (f : ℕ → ℕ) (n : ℕ) (ns : List ℕ) → ((x : ℕ) → Among x ns → t x ≡ true → f x ≡ f n → x ≡ n) → Among (f n) (map f (filter t ns)) → Among n ns
kept_among t f n [] tells a = absurd a
kept_among t f n (x ∷ ns) tells a =
    let later = kept_among t f n ns (λ y among. tells y (inr among)) in
    elim (cases_Bool (t x)) [
      | inl passes ↦ elim (subst (λ (l : List ℕ). Among (f n) (map f l)) (filter_in t x ns passes) a) [ inl same ↦ inl (tells x (inl refl) passes same) | inr rest ↦ inr (later rest) ]
      | inr isnt ↦ inr (later (subst (λ (l : List ℕ). Among (f n) (map f l)) (filter_out t x ns isnt) a))
    ]

pub kept_apart : (t : ℕ → Bool) (f : ℕ → ℕ) (ns : List ℕ) → ((x y : ℕ) → t x ≡ true → t y ≡ true → Among x ns → Among y ns → f x ≡ f y → x ≡ y) → AreApart ns → AreApart (map f (filter t ns))
kept_apart t f [] tells apart = tt
kept_apart t f (x ∷ ns) tells apart =
    let rest = kept_apart t f ns (λ y z p q among other. tells y z p q (inr among) (inr other)) apart.1 in
    elim (cases_Bool (t x)) [
      | inl passes ↦ subst (λ (l : List ℕ). AreApart (map f l)) (sym (filter_in t x ns passes)) ((λ a. apart.0 (kept_among t f x ns (λ y among is same. tells y x is passes (inr among) (inl refl) same) a)), rest)
      | inr isnt ↦ subst (λ (l : List ℕ). AreApart (map f l)) (sym (filter_out t x ns isnt)) rest
    ]

-- what some of the kept give is among what all give
gives_among : {X : Type 0} (t : X → Bool) (g : X → Option ℕ) (n : ℕ) (xs : List X) → Among n (filter_map g (filter t xs)) → Among n (filter_map g xs)
gives_among t g n [] a = a
gives_among {X} t g n (x ∷ xs) a = elim (cases_Bool (t x)) [
  | inl passes ↦ by (g x) (gives_among t g n xs) (subst (λ (l : List X). Among n (filter_map g l)) (filter_in t x xs passes) a)
  | inr isnt ↦ more (g x) (gives_among t g n xs (subst (λ (l : List X). Among n (filter_map g l)) (filter_out t x xs isnt) a))
]
  where
    more : (o : Option ℕ) → Among n (filter_map g xs) → Among n (cons_option o (filter_map g xs))
    more None b = b
    more (Some k) b = inr b

    by : (o : Option ℕ) → (Among n (filter_map g (filter t xs)) → Among n (filter_map g xs)) → Among n (cons_option o (filter_map g (filter t xs))) → Among n (cons_option o (filter_map g xs))
    by None rest b = rest b
    by (Some k) rest (inl same) = inl same
    by (Some k) rest (inr later) = inr (rest later)

pub gives_apart : {X : Type 0} (t : X → Bool) (g : X → Option ℕ) (xs : List X) → AreApart (filter_map g xs) → AreApart (filter_map g (filter t xs))
gives_apart t g [] apart = tt
gives_apart {X} t g (x ∷ xs) apart = elim (cases_Bool (t x)) [
  | inl passes ↦ subst (λ (l : List X). AreApart (filter_map g l)) (sym (filter_in t x xs passes)) (by (g x) apart (gives_apart t g xs (rest (g x) apart)))
  | inr isnt ↦ subst (λ (l : List X). AreApart (filter_map g l)) (sym (filter_out t x xs isnt)) (gives_apart t g xs (rest (g x) apart))
]
  where
    rest : (o : Option ℕ) → AreApart (cons_option o (filter_map g xs)) → AreApart (filter_map g xs)
    rest None a = a
    rest (Some k) a = a.1

    by : (o : Option ℕ) → AreApart (cons_option o (filter_map g xs)) → AreApart (filter_map g (filter t xs)) → AreApart (cons_option o (filter_map g (filter t xs)))
    by None a b = b
    by (Some k) a b = ((λ among. a.0 (gives_among t g k xs among)), b)

-- One number before another, wherever both stand.
abbrev pub Before : List ℕ → ℕ → ℕ → Type 0
Before [] a b = Unit {0}
Before (x ∷ xs) a b = (x ≡ b → Among a (x ∷ xs) → ⊥) × Before xs a b

pub before_from : (ns : List ℕ) (a b : ℕ) → StandsBefore ns a b → Before ns a b
before_from [] a b h = tt
before_from (x ∷ ns) a b h = (
  (λ same among. let i = place_of_among a (x ∷ ns) among in let l = h i.0 0 i.1 (ap (λ (m : ℕ). Some m) same) in absurd (omega (arith, l))),
  before_from ns a b (λ i j p q. let l = h (suc i) (suc j) p q in omega (arith, l)),
)

pub before_to : (ns : List ℕ) (a b : ℕ) → Before ns a b → StandsBefore ns a b
before_to [] a b h i j p q = absurd cc
before_to (x ∷ ns) a b h i zero p q = absurd (h.0 (some_same x b q) (among_at (x ∷ ns) i a p))
before_to (x ∷ ns) a b h zero (suc j) p q = omega arith
before_to (x ∷ ns) a b h (suc i) (suc j) p q = (let l = before_to ns a b h.1 i j p q in omega (arith, l))

pub before_kept : (t : ℕ → Bool) (f : ℕ → ℕ) (a b : ℕ) (ns : List ℕ) → ((x : ℕ) → Among x ns → t x ≡ true → f x ≡ f a → x ≡ a) → ((x : ℕ) → Among x ns → t x ≡ true → f x ≡ f b → x ≡ b)
    → Before ns a b → Before (map f (filter t ns)) (f a) (f b)
before_kept t f a b [] first second h = tt
before_kept t f a b (x ∷ ns) first second h =
    let rest = before_kept t f a b ns (λ y among. first y (inr among)) (λ y among. second y (inr among)) h.1 in
    elim (cases_Bool (t x)) [
      | inl passes ↦ subst (λ (l : List ℕ). Before (map f l) (f a) (f b)) (sym (filter_in t x ns passes)) (
        (λ same among. h.0 (second x (inl refl) passes same) (kept_among t f a (x ∷ ns) first (subst (λ (l : List ℕ). Among (f a) (map f l)) (sym (filter_in t x ns passes)) among))),
        rest,
      )
      | inr isnt ↦ subst (λ (l : List ℕ). Before (map f l) (f a) (f b)) (sym (filter_out t x ns isnt)) rest
    ]
