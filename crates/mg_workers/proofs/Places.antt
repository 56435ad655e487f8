-- The places of parts in the order of their words.
use Rattle.std.proofs.Common.{◌≡◌, ℕ, zero, suc, ◌+◌, ◌-◌, ◌*◌, ◌/◌, ◌%◌, ◌<◌, ◌≤◌, ◌==◌, ◌⊎◌, List, [], ◌∷◌, map, length, length-append, Some, slice_get, slice_index_or, inl, inr, refl, ap, subst, arith}
use Rattle.std.proofs.lemmas.Bool.{cases_Bool, cases_lt, eqb-true, eqb-false}
use Rattle.std.proofs.lemmas.List.{length-map}
use Rattle.mg_node.specs.Views.{IntakeView, EngineView}
use Rattle.mg_node.proofs.Making.{some_same}
use Rattle.mg_turns.specs.Parts.{PartView, blank_part, an_engine, an_intake}
use Rattle.mg_workers.specs.Woven.{woven}

-- Places.

pub woven_long : (n : ℕ) (es : List EngineView) (is : List IntakeView) → length (woven n es is) ≡ length es + length is
woven_long zero es is = omega (arith, length-append (map an_intake is) (map an_engine es), length-map is an_intake, length-map es an_engine)
woven_long (suc n) [] is = omega (arith, length-map is an_intake)
woven_long (suc n) (e ∷ es) [] = omega (arith, length-map (e ∷ es) an_engine)
woven_long (suc n) (e ∷ es) (i ∷ is) = (let later = woven_long n es is in omega (arith, later))

pub map_slot : {A : Type 0} (f : A → PartView) (xs : List A) (i : ℕ) (x : A) → slice_get xs i ≡ Some x → slice_index_or (map f xs) i blank_part ≡ f x
map_slot f [] i x here = absurd cc
map_slot f (y ∷ ys) zero x here = ap f (some_same (Some y) y x refl here)
map_slot f (y ∷ ys) (suc i) x here = map_slot f ys i x here

pub intake_slot : (n m : ℕ) (es : List EngineView) (is : List IntakeView) (i : IntakeView) → m ≤ n → n ≤ length es → n < length is → slice_get is m ≡ Some i → slice_index_or (woven n es is) (2 * m) blank_part ≡ an_intake i
intake_slot zero zero es [] i few engines intakes here = absurd (omega (arith, intakes))
intake_slot zero zero es (x ∷ is) i few engines intakes here = ap an_intake (some_same (Some x) x i refl here)
intake_slot zero (suc m) es is i few engines intakes here = absurd (omega (arith, few))
intake_slot (suc n) m [] is i few engines intakes here = absurd (omega (arith, engines))
intake_slot (suc n) m (e ∷ es) [] i few engines intakes here = absurd (omega (arith, intakes))
intake_slot (suc n) zero (e ∷ es) (x ∷ is) i few engines intakes here = ap an_intake (some_same (Some x) x i refl here)
intake_slot (suc n) (suc m) (e ∷ es) (x ∷ is) i few engines intakes here =
    let step : suc (suc (2 * m)) ≡ 2 * suc m = omega arith in
    subst (λ (k : ℕ). slice_index_or (woven (suc n) (e ∷ es) (x ∷ is)) k blank_part ≡ an_intake i) step (intake_slot n m es is i (omega (arith, few)) (omega (arith, engines)) (omega (arith, intakes)) here)

pub engine_slot : (n m : ℕ) (es : List EngineView) (is : List IntakeView) (e : EngineView) → m < n → n ≤ length es → n < length is → slice_get es m ≡ Some e → slice_index_or (woven n es is) (2 * m + 1) blank_part ≡ an_engine e
engine_slot zero m es is e few engines intakes here = absurd (omega (arith, few))
engine_slot (suc n) m [] is e few engines intakes here = absurd (omega (arith, engines))
engine_slot (suc n) m (y ∷ es) [] e few engines intakes here = absurd (omega (arith, intakes))
engine_slot (suc n) zero (y ∷ es) (x ∷ is) e few engines intakes here = ap an_engine (some_same (Some y) y e refl here)
engine_slot (suc n) (suc m) (y ∷ es) (x ∷ is) e few engines intakes here =
    let step : suc (suc (2 * m + 1)) ≡ 2 * suc m + 1 = omega arith in
    subst (λ (k : ℕ). slice_index_or (woven (suc n) (y ∷ es) (x ∷ is)) k blank_part ≡ an_engine e) step (engine_slot n m es is e (omega (arith, few)) (omega (arith, engines)) (omega (arith, intakes)) here)

pub input_slot : (n j : ℕ) (es : List EngineView) (is : List IntakeView) (e : EngineView) → n ≤ length es → length is ≡ n + 1 → slice_get es (n + j) ≡ Some e → slice_index_or (woven n es is) (2 * n + 1 + j) blank_part ≡ an_engine e
input_slot zero j es [] e engines intakes here = absurd (omega (arith, intakes))
input_slot zero j es (x ∷ []) e engines intakes here =
    let step : suc j ≡ 2 * 0 + 1 + j = omega arith in
    let place : 0 + j ≡ j = omega arith in
    subst (λ (k : ℕ). slice_index_or (an_intake x ∷ map an_engine es) k blank_part ≡ an_engine e) step (map_slot an_engine es j e (subst (λ (k : ℕ). slice_get es k ≡ Some e) place here))
input_slot zero j es (x ∷ y ∷ is) e engines intakes here = absurd (omega (arith, intakes))
input_slot (suc n) j [] is e engines intakes here = absurd (omega (arith, engines))
input_slot (suc n) j (y ∷ es) [] e engines intakes here = absurd (omega (arith, intakes))
input_slot (suc n) j (y ∷ es) (x ∷ is) e engines intakes here =
    let step : suc (suc (2 * n + 1 + j)) ≡ 2 * suc n + 1 + j = omega arith in
    let place : suc n + j ≡ suc (n + j) = omega arith in
    subst (λ (k : ℕ). slice_index_or (woven (suc n) (y ∷ es) (x ∷ is)) k blank_part ≡ an_engine e) step
    (input_slot n j es is e (omega (arith, engines)) (omega (arith, intakes)) (subst (λ (k : ℕ). slice_get (y ∷ es) k ≡ Some e) place here))

-- Words.

-- each word is that of an intake, of a node's engine, or of an input's
pub word_kind : (n word : ℕ) → ((m : ℕ) × (m ≤ n) × (word ≡ 2 * m)) ⊎ (((m : ℕ) × (m < n) × (word ≡ 2 * m + 1)) ⊎ ((j : ℕ) × (word ≡ 2 * n + 1 + j)))
word_kind n word = elim (cases_lt (2 * n) word) [
  | inl past ↦ inr (inr (word - (2 * n + 1), omega (arith, past)))
  | inr within ↦ elim (cases_Bool (word % 2 == 0)) [
    | inl even ↦ (let e = eqb-true (word % 2) 0 even in inl (word / 2, omega (arith, within, e), omega (arith, e)))
    | inr odd ↦ (let o = eqb-false (word % 2) 0 odd in inr (inl (word / 2, omega (arith, within, o), omega (arith, o))))
  ]
]
