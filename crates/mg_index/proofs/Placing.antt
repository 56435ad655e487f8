-- Places in lists that grow at either end.
use Rattle.std.proofs.Common.{ℕ, suc, ◌+◌, ◌≡◌, List, [], ◌∷◌, ◌++◌, Option, None, Some, Bool, true, false, not, ◌&&◌, ◌||◌, cond, if◌then◌else◌, refl, sym, ap, ◌∙◌, subst, ⊎_elim, length, arith, nat_lt}
use Rattle.std.specs.Prelude.{position, option_map}
use Rattle.std.specs.List.{list_any, position_or_len}
use Rattle.std.specs.Str.{bytes_eq}
use Rattle.std.specs.Cmp.Lexicographic.{nat_list_eq_equiv}
use Rattle.std.proofs.lemmas.Bool.{cases_Bool}
use Rattle.std.proofs.lemmas.Bool.Decides.{nat_tests}
use Rattle.std.proofs.lemmas.List.Folds.{list_any-append}
use Rattle.std.proofs.lemmas.Slice.Eq.{bytes_eq-Decides}
use Rattle.mg_index.specs.Places.{is_same, place_of, place_again, earlier}

-- the place of the first element that passes, one more element in front
place_by : (test : Bool) (n count : ℕ) → cond (nat_lt (cond (not test) (1 + n) 0) (suc count)) (Some (cond (not test) (1 + n) 0)) None ≡ (if test then Some 0 else option_map suc (cond (nat_lt n count) (Some n) None))
place_by true n count = grind (arith, nat_tests)
place_by false n count = grind (arith, nat_tests)

pub position-cons : {X : Type 0} (p : X → Bool) (x : X) (xs : List X) → position p (x ∷ xs) ≡ (if p x then Some 0 else option_map suc (position p xs))
position-cons p x xs = place_by (p x) (position_or_len p xs) (length xs)

-- the same, one more element at the end
abbrev pub pushed : Option ℕ → Bool → ℕ → Option ℕ
pushed (Some place) test n = Some place
pushed None test n = if test then Some n else None

pushed_later : (found : Option ℕ) (test : Bool) (n : ℕ) → option_map suc (pushed found test n) ≡ pushed (option_map suc found) test (suc n)
pushed_later (Some place) test n = refl
pushed_later None true n = refl
pushed_later None false n = refl

pushed_by : (first : Bool) (found : Option ℕ) (test : Bool) (n : ℕ) → (if first then Some 0 else option_map suc (pushed found test n)) ≡ pushed (if first then Some 0 else option_map suc found) test (suc n)
pushed_by true found test n = refl
pushed_by false found test n = pushed_later found test n

pushed_alone : (test : Bool) → (if test then Some 0 else None) ≡ pushed None test 0
pushed_alone true = refl
pushed_alone false = refl

pub position-push : {X : Type 0} (p : X → Bool) (xs : List X) (y : X) → position p (xs ++ y ∷ []) ≡ pushed (position p xs) (p y) (length xs)
position-push p [] y = position-cons p y [] ∙ pushed_alone (p y)
position-push p (x ∷ xs) y =
    position-cons p x (xs ++ y ∷ [])
    ∙ (ap (λ o. if p x then Some 0 else option_map suc o) (position-push p xs y)
    ∙ (pushed_by (p x) (position p xs) (p y) (length xs) ∙ ap (λ o. pushed o (p y) (suc (length xs))) (sym (position-cons p x xs))))

pub pushed_past : (found : Option ℕ) (n : ℕ) → pushed found false n ≡ found
pushed_past None n = refl
pushed_past (Some place) n = refl

-- tests that agree find one place
pub position_same : {X : Type 0} (p q : X → Bool) → ((x : X) → p x ≡ q x) → (xs : List X) → position p xs ≡ position q xs
position_same p q same [] = refl
position_same p q same (x ∷ xs) =
    position-cons p x xs
    ∙ (ap (λ b. if b then Some 0 else option_map suc (position p xs)) (same x)
    ∙ (ap (λ o. if q x then Some 0 else option_map suc o) (position_same p q same xs) ∙ sym (position-cons q x xs)))

pub nowhere : {X : Type 0} (p : X → Bool) → ((x : X) → p x ≡ false) → (xs : List X) → position p xs ≡ None
nowhere p none [] = refl
nowhere p none (x ∷ xs) = position-cons p x xs ∙ (ap (λ b. if b then Some 0 else option_map suc (position p xs)) (none x) ∙ ap (option_map suc) (nowhere p none xs))

-- texts that are one name
pub both_off : (a b : Bool) → b ≡ false → (a && b) ≡ false
both_off true b off = off
both_off false b off = refl

pub same_either : (is_name : List ℕ → Bool) (text other : List ℕ) → is_same is_name text other ≡ is_same is_name other text
same_either is_name text other =
    ⊎_elim
    (λ same. subst (λ t. is_same is_name text t ≡ is_same is_name t text) ((bytes_eq-Decides text other).0 same) refl)
    (λ differs. both_off (is_name text) (bytes_eq text other) differs ∙ sym (both_off (is_name other) (bytes_eq other text) (sym (nat_list_eq_equiv.symm text other) ∙ differs)))
    (cases_Bool (bytes_eq text other))

-- a text that is no name is the same as none
pub no_name : (is_name : List ℕ → Bool) (text other : List ℕ) → is_name text ≡ false → is_same is_name text other ≡ false
no_name is_name text other none = ap (λ b. b && bytes_eq text other) none

-- the first place whose name stands again, one more text at the end
earlier_by : (again here : Bool) (place first : Option ℕ)
    → (if again || (here || false) then Some 0 else option_map suc (earlier place first)) ≡ earlier (if again then Some 0 else option_map suc place) (if here then Some 0 else option_map suc first)
earlier_by true true place first = ap Some (omega arith)
earlier_by true false place None = refl
earlier_by true false place (Some n) = ap Some (omega arith)
earlier_by false true None first = refl
earlier_by false true (Some m) first = ap Some (omega arith)
earlier_by false false None first = refl
earlier_by false false (Some m) None = refl
earlier_by false false (Some m) (Some n) = ap Some (omega arith)

again_at : (is_name : List ℕ → Bool) (texts : List (List ℕ)) (text : List ℕ) → place_again is_name (texts ++ text ∷ []) ≡ earlier (place_again is_name texts) (position (λ other. is_same is_name other text) texts)
again_at is_name [] text = refl
again_at is_name (t ∷ texts) text =
    ap (λ b. if b then Some 0 else option_map suc (place_again is_name (texts ++ text ∷ []))) (list_any-append (is_same is_name t) texts (text ∷ []))
    ∙ (ap (λ o. if list_any (is_same is_name t) texts || (is_same is_name t text || false) then Some 0 else option_map suc o) (again_at is_name texts text)
    ∙ (earlier_by (list_any (is_same is_name t) texts) (is_same is_name t text) (place_again is_name texts) (position (λ other. is_same is_name other text) texts)
    ∙ ap (earlier (place_again is_name (t ∷ texts))) (sym (position-cons (λ other. is_same is_name other text) t texts))))

pub again-push : (is_name : List ℕ → Bool) (texts : List (List ℕ)) (text : List ℕ) → place_again is_name (texts ++ text ∷ []) ≡ earlier (place_again is_name texts) (place_of is_name texts text)
again-push is_name texts text =
    again_at is_name texts text
    ∙ ap (earlier (place_again is_name texts)) (position_same (λ other. is_same is_name other text) (is_same is_name text) (λ other. same_either is_name other text) texts)

pub earlier_none : (place : Option ℕ) → earlier place None ≡ place
earlier_none None = refl
earlier_none (Some n) = refl

pub earlier_some : (place : Option ℕ) (n : ℕ) → earlier place (Some n) ≡ None → None ≡ Some n
earlier_some None n none = sym none
earlier_some (Some m) n none = cc
