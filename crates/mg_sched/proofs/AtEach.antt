-- What holds of each element of a list by its place, of lists that are made one by one and then changed at single places.
use Rattle.std.proofs.Common.{◌≡◌, ◌≢◌, ℕ, zero, suc, ◌+◌, ◌∙◌, List, [], ◌∷◌, ◌++◌, length, set, length-append, subst, ap, sym, arith}
use Rattle.mg_sched.specs.Code.Made.{AtPlaces}

-- one more at the end
pub one_behind : {X : Type 0} (P : ℕ → X → Type 0) (xs : List X) (x : X) → AtPlaces P xs → P (length xs) x → AtPlaces P (xs ++ x ∷ [])
one_behind {X} P [] x all is zero y there = (let same : x ≡ y = cc in subst (P 0) same is)
one_behind {X} P [] x all is (suc i) y there = absurd cc
one_behind {X} P (z ∷ xs) x all is zero y there = all zero y there
one_behind {X} P (z ∷ xs) x all is (suc i) y there = one_behind (λ n. P (suc n)) xs x (λ j w h. all (suc j) w h) is i y there

pub pushed : {X : Type 0} (P : ℕ → X → Type 0) (xs now : List X) (x : X) (n : ℕ) → now ≡ xs ++ x ∷ [] → AtPlaces P xs → length xs ≡ n → P n x → AtPlaces P now × (length now ≡ n + 1)
pushed {X} P xs now x n is all count here =
    let more : length now ≡ length xs + 1 = ap (λ (ys : List X). length ys) is ∙ length-append xs (x ∷ []) in
    (subst (AtPlaces P) (sym is) (one_behind P xs x all (subst (λ (k : ℕ). P k x) (sym count) here)), omega (arith, more, count))

-- another one at a place
pub one_changed : {X : Type 0} (P Q : ℕ → X → Type 0) (xs : List X) (k : ℕ) (x : X) → AtPlaces P xs → ((i : ℕ) (y : X) → i ≢ k → P i y → Q i y) → Q k x → AtPlaces Q (set xs k x)
one_changed {X} P Q [] k x all others is i y there = absurd cc
one_changed {X} P Q (z ∷ xs) zero x all others is zero y there = (let same : x ≡ y = cc in subst (Q 0) same is)
one_changed {X} P Q (z ∷ xs) zero x all others is (suc i) y there = others (suc i) y (λ e. absurd cc) (all (suc i) y there)
one_changed {X} P Q (z ∷ xs) (suc k) x all others is zero y there = others zero y (λ e. absurd cc) (all zero y there)
one_changed {X} P Q (z ∷ xs) (suc k) x all others is (suc i) y there =
    one_changed (λ n. P (suc n)) (λ n. Q (suc n)) xs k x (λ j w h. all (suc j) w h) (λ j w d p. others (suc j) w (λ e. d (omega (arith, e))) p) is i y there
