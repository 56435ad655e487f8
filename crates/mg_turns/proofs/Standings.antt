-- Numbers that a seat knows.
use Rattle.std.proofs.Common.{◌≡◌, ℕ, ◌≤◌, ◌==◌, cond, Bool, true, false, List, [], ◌∷◌, ◌++◌, Option, Some, None, refl, ap, subst, arith}
use Rattle.std.proofs.lemmas.Bool.{eqb-true, eq-eqb}
use Rattle.std.proofs.Math.Nat.{le-max_left, le-max_right, max-le}
use Rattle.mg_node.specs.Views.{IntakeView, EngineView}
use Rattle.mg_node.specs.Standing.{EngineGrows}
use Rattle.mg_node.specs.IntakeStanding.{IntakeGrows}
use Rattle.mg_turns.specs.Parts.{PartView, Grown, PartGrows, arrived_in, arrived_by}
use Rattle.mg_turns.specs.Turns.{Sight}
use Rattle.mg_turns.specs.Rule.{Sights}
use Rattle.mg_turns.specs.Sights.{sight}
use Rattle.mg_turns.specs.Standings.{packets_laid_by, laid_in, laid_bound_by, laid_bound_in, sets_laid_by, sets_in, most_seen}

-- a number that only grows
abbrev pub Rises : (PartView → ℕ) → Type 0
Rises number = (p q : PartView) → PartGrows p q → number p ≤ number q

chosen_by : (t : Bool) (a b n m : ℕ) → (a == b) ≡ t → (a ≡ b → n ≤ m) → cond t n 0 ≤ m
chosen_by true a b n m is low = low (eqb-true a b is)
chosen_by false a b n m is low = omega arith

chosen : (a b n m : ℕ) → (a ≡ b → n ≤ m) → cond (a == b) n 0 ≤ m
chosen a b n m low = chosen_by (a == b) a b n m refl low

-- if a part is no less than each sight of it, the greatest number that was seen is at most the part's number
pub most_below : (number : PartView → ℕ) → Rises number → (word : ℕ) (p : PartView) (xs : List Sight) → Sights word p xs → most_seen number word xs ≤ number p
most_below number rises word p [] s = omega arith
most_below number rises word p (x ∷ xs) s = max-le (chosen x.word word (number x.part) (number p) (λ e. rises x.part p (s.0 e))) (most_below number rises word p xs s.1)

-- the last sight counts, and so do all others
pub last_counts : (number : PartView → ℕ) (word : ℕ) (p : PartView) (xs : List Sight) → number p ≤ most_seen number word (sight word p ∷ xs)
last_counts number word p xs =
    let here : cond (word == word) (number p) 0 ≡ number p = ap (λ (b : Bool). cond b (number p) 0) (eq-eqb word word refl) in
    subst (λ (n : ℕ). n ≤ most_seen number word (sight word p ∷ xs)) here (le-max_left (cond (word == word) (number p) 0) (most_seen number word xs))

pub others_count : (number : PartView → ℕ) (word : ℕ) (x : Sight) (xs : List Sight) → most_seen number word xs ≤ most_seen number word (x ∷ xs)
others_count number word x xs = le-max_right (cond (x.word == word) (number x.part) 0) (most_seen number word xs)

pub second_counts : (number : PartView → ℕ) (word : ℕ) (x : Sight) (p : PartView) (xs : List Sight) → number p ≤ most_seen number word (x ∷ sight word p ∷ xs)
second_counts number word x p xs = (let a = last_counts number word p xs in let b = others_count number word x (sight word p ∷ xs) in omega (arith, a, b))

pub further_count : (number : PartView → ℕ) (word : ℕ) (x y : Sight) (xs : List Sight) → most_seen number word xs ≤ most_seen number word (x ∷ y ∷ xs)
further_count number word x y xs = (let a = others_count number word y xs in let b = others_count number word x (y ∷ xs) in omega (arith, a, b))

-- the greatest number over a list of sights is at most that over the list with further sights after it
pub first_count : (number : PartView → ℕ) (word : ℕ) (xs ys : List Sight) → most_seen number word xs ≤ most_seen number word (xs ++ ys)
first_count number word [] ys = omega arith
first_count number word (x ∷ xs) ys =
    let c = cond (x.word == word) (number x.part) 0 in
    let later = first_count number word xs ys in
    let a = le-max_left c (most_seen number word (xs ++ ys)) in
    let b = le-max_right c (most_seen number word (xs ++ ys)) in
    max-le a (omega (arith, later, b))

pub both_count : (number : PartView → ℕ) (word : ℕ) (xs ys : List Sight) → most_seen number word ys ≤ most_seen number word (xs ++ ys)
both_count number word [] ys = omega arith
both_count number word (x ∷ xs) ys =
    let later = both_count number word xs ys in
    let b = le-max_right (cond (x.word == word) (number x.part) 0) (most_seen number word (xs ++ ys)) in
    omega (arith, later, b)

-- what two sights and those before them show is no more than a number
pub two_below : (number : PartView → ℕ) (word : ℕ) (x y : Sight) (xs : List Sight) (m : ℕ) → (x.word ≡ word → number x.part ≤ m) → (y.word ≡ word → number y.part ≤ m) → most_seen number word xs ≤ m → most_seen number word (x ∷ y ∷ xs) ≤ m
two_below number word x y xs m a b c = max-le (chosen x.word word (number x.part) m a) (max-le (chosen y.word word (number y.part) m b) c)

-- Which numbers grow.

came_by : (a b : Option IntakeView) (port : ℕ) → Grown IntakeGrows a b → arrived_by a port ≤ arrived_by b port
came_by None None port g = omega arith
came_by None (Some y) port g = absurd g
came_by (Some x) None port g = absurd g
came_by (Some x) (Some y) port g = (g.ports port).count

pub came_rises : (port : ℕ) → Rises (λ p. arrived_in p port)
came_rises port p q g = came_by p.intake q.intake port g.intake

laids_by : (a b : Option EngineView) (output : ℕ) → Grown EngineGrows a b → packets_laid_by a output ≤ packets_laid_by b output
laids_by None None output g = omega arith
laids_by None (Some y) output g = absurd g
laids_by (Some x) None output g = absurd g
laids_by (Some x) (Some y) output g = (g.outputs output).count

pub laid_rises : (output : ℕ) → Rises (λ p. laid_in p output)
laid_rises output p q g = laids_by p.engine q.engine output g.engine

laid_bounds_by : (a b : Option EngineView) (output : ℕ) → Grown EngineGrows a b → laid_bound_by a output ≤ laid_bound_by b output
laid_bounds_by None None output g = omega arith
laid_bounds_by None (Some y) output g = absurd g
laid_bounds_by (Some x) None output g = absurd g
laid_bounds_by (Some x) (Some y) output g = (g.outputs output).bound

pub laid_bound_rises : (output : ℕ) → Rises (λ p. laid_bound_in p output)
laid_bound_rises output p q g = laid_bounds_by p.engine q.engine output g.engine

all_sets_by : (a b : Option EngineView) → Grown EngineGrows a b → sets_laid_by a ≤ sets_laid_by b
all_sets_by None None g = omega arith
all_sets_by None (Some y) g = absurd g
all_sets_by (Some x) None g = absurd g
all_sets_by (Some x) (Some y) g = g.laid

pub sets_rise : Rises sets_in
sets_rise p q g = all_sets_by p.engine q.engine g.engine
