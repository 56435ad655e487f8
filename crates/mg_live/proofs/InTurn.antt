-- Free nodes have their turns, one after the other.
use Rattle.std.proofs.Common.{◌≡◌, ℕ, zero, suc, ◌+◌, ◌<◌, ◌≤◌, false, List, [], ◌∷◌, ◌++◌, map, length, length-append, get_or, set, Some, slice_get, inl, inr, refl, sym, ap, ap₂, ◌∙◌, subst, arith, replicate}
use Rattle.std.proofs.lemmas.Bool.{cases_eq}
use Rattle.std.proofs.lemmas.List.{map-append}
use Rattle.std.proofs.lemmas.Option.{same_Some, none-some, slice_get_within, slice_get-get_or}
use Rattle.mg_value.specs.Payload.{Plain}
use Rattle.mg_settled.specs.Prefix.{StreamPrefix}
use Rattle.mg_free.specs.declared.node.FreeNode.{FreeNode}
use Rattle.mg_free.specs.Rounds.{Taken, turn}
use Rattle.mg_live.specs.declared.taker.Taker.{Taker}
use Rattle.mg_live.specs.Takes.{told, HasTaken, HaveTaken, MayTurnIn, MayRound, turns_of, nothing_taken, handed_of}

-- One more.

pub get_other : {X : Type 0} (xs : List X) (i k : ℕ) (x : X) → (k ≡ i → ⊥) → slice_get (set xs i x) k ≡ slice_get xs k
get_other [] i k x other = refl
get_other (z ∷ xs) zero zero x other = absurd (other refl)
get_other (z ∷ xs) zero (suc k) x other = refl
get_other (z ∷ xs) (suc i) zero x other = refl
get_other (z ∷ xs) (suc i) (suc k) x other = get_other xs i k x (λ same. other (ap suc same))

pub get_there : {X : Type 0} (xs : List X) (i : ℕ) → i < length xs → (x : X) × (slice_get xs i ≡ Some x)
get_there [] i less = absurd (omega (arith, less))
get_there (x ∷ xs) zero less = (x, refl)
get_there (x ∷ xs) (suc i) less = get_there xs i (omega (arith, less))

-- All of them.

pub turns_long : (streams : List (StreamPrefix Plain)) (frees : List FreeNode) (takens : List Taken) → length takens ≡ length frees → length (turns_of streams frees takens) ≡ length frees
turns_long streams [] [] long = refl
turns_long streams [] (t ∷ takens) long = absurd (omega (arith, long))
turns_long streams (f ∷ frees) [] long = absurd (omega (arith, long))
turns_long streams (f ∷ frees) (t ∷ takens) long = ap suc (turns_long streams frees takens (omega (arith, long)))

pub turn_at : (streams : List (StreamPrefix Plain)) (frees : List FreeNode) (takens : List Taken) (i : ℕ) (free : FreeNode) (now : Taken) → slice_get frees i ≡ Some free → slice_get (turns_of streams frees takens) i ≡ Some now
    → (taken : Taken) × (slice_get takens i ≡ Some taken) × (now ≡ turn streams free taken)
turn_at streams [] takens i free now at at_now = absurd (none-some free at)
turn_at streams (f ∷ frees) [] i free now at at_now = absurd (none-some now at_now)
turn_at streams (f ∷ frees) (t ∷ takens) zero free now at at_now =
    (t, refl, sym (same_Some (turn streams f t) now at_now) ∙ ap (λ (x : FreeNode). turn streams x t) (same_Some f free at))
turn_at streams (f ∷ frees) (t ∷ takens) (suc i) free now at at_now = turn_at streams frees takens i free now at at_now

pub same_all : (streams : List (StreamPrefix Plain)) (frees : List FreeNode) (takens : List Taken) → length takens ≡ length frees
    → ((place : ℕ) (free : FreeNode) (taken : Taken) → slice_get frees place ≡ Some free → slice_get takens place ≡ Some taken → turn streams free taken ≡ taken) → turns_of streams frees takens ≡ takens
same_all streams [] [] long same = refl
same_all streams [] (t ∷ takens) long same = absurd (omega (arith, long))
same_all streams (f ∷ frees) [] long same = absurd (omega (arith, long))
same_all streams (f ∷ frees) (t ∷ takens) long same =
    ap₂ (λ (x : Taken) (xs : List Taken). x ∷ xs) (same zero f t refl refl) (same_all streams frees takens (omega (arith, long)) (λ place free taken at at_taken. same (suc place) free taken at at_taken))

pub differs : (streams : List (StreamPrefix Plain)) (frees : List FreeNode) (takens : List Taken) (i : ℕ) (free : FreeNode) (taken : Taken) → slice_get frees i ≡ Some free → slice_get takens i ≡ Some taken → turns_of streams frees takens ≡ takens
    → turn streams free taken ≡ taken
differs streams [] takens i free taken at at_taken same = absurd (none-some free at)
differs streams (f ∷ frees) [] i free taken at at_taken same = absurd (none-some taken at_taken)
differs streams (f ∷ frees) (t ∷ takens) zero free taken at at_taken same =
    let head : turn streams f t ≡ t = ap (λ (l : List Taken). (elim l [ [] ↦ t | x ∷ xs ↦ x ])) same in
    ap₂ (λ (x : FreeNode) (y : Taken). turn streams x y) (sym (same_Some f free at)) (sym (same_Some t taken at_taken)) ∙ head ∙ same_Some t taken at_taken
differs streams (f ∷ frees) (t ∷ takens) (suc i) free taken at at_taken same =
    differs streams frees takens i free taken at at_taken (ap (λ (l : List Taken). (elim l [ [] ↦ [] | x ∷ xs ↦ xs ])) same)

-- the node of a place has its turn in what all may do theirs in
pub taken_there : (frees : List FreeNode) (takens : List Taken) (takers : List Taker) (place : ℕ) → HaveTaken frees takens takers → place < length frees → (taken : Taken) × (slice_get takens place ≡ Some taken)
taken_there frees takens takers place h within = get_there takens place (let long = h.takens_long in omega (arith, within, long))

-- Nothing taken yet.
nothing_long : (frees : List FreeNode) → length (nothing_taken frees) ≡ length frees
nothing_long [] = refl
nothing_long (f ∷ frees) = ap suc (nothing_long frees)

nothing_at : (frees : List FreeNode) (i : ℕ) (taken : Taken) → slice_get (nothing_taken frees) i ≡ Some taken → taken ≡ record { log = []; closed = false }
nothing_at [] i taken at = absurd (none-some taken at)
nothing_at (f ∷ frees) zero taken at = sym (same_Some (record { log = []; closed = false }) taken at)
nothing_at (f ∷ frees) (suc i) taken at = nothing_at frees i taken at

pub none_yet : (frees : List FreeNode) (takers : List Taker) → length takers ≡ length frees
    → ((place : ℕ) (free : FreeNode) (taker : Taker) → slice_get frees place ≡ Some free → slice_get takers place ≡ Some taker → HasTaken free (record { log = []; closed = false }) taker) → HaveTaken frees (nothing_taken frees) takers
none_yet frees takers long each = record {
  takers_long = long;
  takens_long = nothing_long frees;
  each = λ place free taken taker at at_taken at_taker. subst (λ (t : Taken). HasTaken free t taker) (sym (nothing_at frees place taken at_taken)) (each place free taker at at_taker);
}

-- The node of a place may have its turn.
pub may_there : {S : Type 0} (are : S → List (StreamPrefix Plain) → Type 0) (has_from : S → ℕ → ℕ → Type 0) (read : S) (frees : List FreeNode) (before takers : List Taker) (place : ℕ) (free : FreeNode) (taker : Taker) → MayRound are has_from read frees before
    → slice_get frees place ≡ Some free → slice_get takers place ≡ Some taker → slice_get takers place ≡ slice_get before place → MayTurnIn are has_from read free taker
may_there are has_from read frees before takers place free taker r at at_taker same =
    let taken = taken_there frees r.takens before place r.have_taken (slice_get_within frees place free at) in
    record {
      streams = r.streams;
      taken = taken.0;
      are_they = r.are_they;
      has_taken = r.have_taken.each place free taken.0 taker at taken.1 (sym same ∙ at_taker);
      may = r.may place free taken.0 at taken.1;
      can_read = r.can_read place free taken.0 at taken.1;
    }

-- what was read at a place is found there
pub read_there : {X : Type 0} (xs : List X) (i : ℕ) (x : X) → i < length xs → x ≡ get_or xs i x → slice_get xs i ≡ Some x
read_there xs i x within is = slice_get-get_or xs i x within ∙ ap Some (sym is)

pub found_or : {X : Type 0} (xs : List X) (i : ℕ) (x : X) → i < length xs → slice_get xs i ≡ Some (get_or xs i x)
found_or xs i x within = slice_get-get_or xs i x within

-- one more that has taken nothing
pub pushed_long : {X : Type 0} (xs now : List X) (x : X) (n : ℕ) → now ≡ xs ++ x ∷ [] → length xs ≡ n → length now ≡ n + 1
pushed_long {X} xs now x n is long = (let e = ap (λ (l : List X). length l) is in let more = length-append xs (x ∷ []) in omega (arith, e, more, long))

last_there : {X : Type 0} (xs : List X) (x y : X) (i : ℕ) → i ≡ length xs → slice_get (xs ++ x ∷ []) i ≡ Some y → y ≡ x
last_there [] x y zero is e = sym (same_Some x y e)
last_there [] x y (suc i) is e = absurd (none-some y e)
last_there (z ∷ xs) x y zero is e = absurd (omega (arith, is))
last_there (z ∷ xs) x y (suc i) is e = last_there xs x y i (omega (arith, is)) e

pub early_there : {X : Type 0} (xs : List X) (x : X) (i : ℕ) → i < length xs → slice_get (xs ++ x ∷ []) i ≡ slice_get xs i
early_there [] x i less = absurd (omega (arith, less))
early_there (z ∷ xs) x zero less = refl
early_there (z ∷ xs) x (suc i) less = early_there xs x i (omega (arith, less))

abbrev pub NoneYet : List FreeNode → List Taker → Type 0
NoneYet frees takers = (place : ℕ) (free : FreeNode) (taker : Taker) → slice_get frees place ≡ Some free → slice_get takers place ≡ Some taker → HasTaken free (record { log = []; closed = false }) taker

pub none_more : (frees : List FreeNode) (takers now : List Taker) (count : ℕ) (free : FreeNode) (taker : Taker) → now ≡ takers ++ taker ∷ [] → length takers ≡ count → slice_get frees count ≡ Some free → HasTaken free (record { log = []; closed = false }) taker
    → NoneYet frees takers → NoneYet frees now
none_more frees takers now count free taker is long at has each = λ place f t f_at t_at. elim (cases_eq place count) [
  | inl here ↦
      (let own : t ≡ taker = last_there takers taker t place (omega (arith, here, long)) (ap (λ (l : List Taker). slice_get l place) (sym is) ∙ t_at) in
      let free_is : f ≡ free = same_Some f free (sym f_at ∙ ap (slice_get frees) here ∙ at) in
      subst (λ (v : Taker). HasTaken f (record { log = []; closed = false }) v) (sym own) (subst (λ (x : FreeNode). HasTaken x (record { log = []; closed = false }) taker) (sym free_is) has))
  | inr other ↦
      (let within = slice_get_within now place t t_at in
      let more = length-append takers (taker ∷ []) in
      let e = ap (λ (l : List Taker). length l) is in
      let less : place < length takers = omega (arith, within, more, e, other, long) in
      each place f t f_at (sym (early_there takers taker place less) ∙ ap (λ (l : List Taker). slice_get l place) (sym is) ∙ t_at))
]

-- A turn hands on nothing.
pub handed_then : (before takers : List Taker) (place : ℕ) (now d : Taker) → place < length takers → now.state.rest.handed ≡ (get_or takers place d).state.rest.handed → handed_of takers ≡ handed_of before → handed_of (set takers place now) ≡ handed_of before
handed_then before takers place now d within same h = unchanged takers place now d within same ∙ h
  where
    unchanged : (xs : List Taker) (i : ℕ) (y d : Taker) → i < length xs → y.state.rest.handed ≡ (get_or xs i d).state.rest.handed → handed_of (set xs i y) ≡ handed_of xs
    unchanged [] i y d less e = absurd (omega (arith, less))
    unchanged (x ∷ xs) zero y d less e = ap (λ (n : ℕ). n ∷ handed_of xs) e
    unchanged (x ∷ xs) (suc i) y d less e = ap (λ (l : List ℕ). x.state.rest.handed ∷ l) (unchanged xs i y d (omega (arith, less)) e)

-- The log of the node of a place.
pub taken_log : (frees : List FreeNode) (takens : List Taken) (takers : List Taker) (place : ℕ) (taken : Taken) → HaveTaken frees takens takers → slice_get takens place ≡ Some taken
    → (taker : Taker) × (slice_get takers place ≡ Some taker) × (taker.log.items ≡ map told taken.log)
taken_log frees takens takers place taken h at =
    let within = slice_get_within takens place taken at in
    let a = h.takers_long in let b = h.takens_long in
    let free = get_there frees place (omega (arith, within, b)) in
    let taker = get_there takers place (omega (arith, within, a, b)) in
    (taker.0, taker.1, (h.each place free.0 taken taker.0 free.1 at taker.1).log)

-- Nothing is handed on yet.
abbrev pub zeros : ℕ → List ℕ
zeros n = replicate n 0

zeros_more : (n : ℕ) → zeros n ++ zero ∷ [] ≡ zeros (suc n)
zeros_more zero = refl
zeros_more (suc n) = ap (λ (l : List ℕ). zero ∷ l) (zeros_more n)

pub handed_more : (takers now : List Taker) (taker : Taker) (n : ℕ) → now ≡ takers ++ taker ∷ [] → taker.state.rest.handed ≡ zero → handed_of takers ≡ zeros n → handed_of now ≡ zeros (n + 1)
handed_more takers now taker n is none h =
    ap handed_of is ∙ map-append (λ (t : Taker). t.state.rest.handed) takers (taker ∷ []) ∙ ap₂ (λ (l : List ℕ) (k : ℕ). l ++ k ∷ []) h none ∙ zeros_more n ∙ ap zeros (let e : suc n ≡ n + 1 = omega arith in e)
