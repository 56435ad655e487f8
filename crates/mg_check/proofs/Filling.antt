-- Lists that are filled one by one: the list so far, with the elements that are left, gives the same whole.
use Rattle.std.proofs.Common.{ℕ, suc, zero, ◌+◌, ◌<◌, ◌≤◌, ◌≡◌, List, [], ◌∷◌, ◌++◌, Some, length, drop, get_or, map, refl, sym, ap, ◌∙◌, arith, append_assoc, zip, ◌⊎◌, inl, inr, min, true, false, nat_le}
use Rattle.std.proofs.lemmas.Bool.{cases_Bool}
use Rattle.std.proofs.lemmas.Bool.Decides.{nat_tests}
use Rattle.std.specs.Prelude.{slice_get}
use Rattle.std.specs.Borrow.{Bor}
use Rattle.std.specs.List.{range_with_len, enumerate_from}
use Rattle.std.proofs.lemmas.List.{map-append}
use Rattle.std.proofs.lemmas.List.FromFn.{map-range_with_len_more}
use Rattle.std.proofs.Math.ListN.{drop_of_length-le}
use Rattle.mg_value.specs.declared.kind.Kind.{Kind}
use Rattle.mg_value.specs.declared.kind.Kind.TheVariants.{Any}
use Rattle.mg_names.specs.declared.port.Port.{Port}
use Rattle.mg_subgraph.specs.Refusals.{port_names}
use Rattle.mg_kinds.specs.Kinds.{names_of}
use Rattle.mg_calc.specs.Plan.{numbers}

-- one element less is left
drop_suc : {X : Type 0} (xs : List X) (i : ℕ) (x : X) → i < length xs → x ≡ get_or xs i x → drop i xs ≡ x ∷ drop (suc i) xs
drop_suc [] i x inside here = absurd (omega arith)
drop_suc (y ∷ xs) zero x inside here = ap (λ z. z ∷ xs) (sym here)
drop_suc (y ∷ xs) (suc i) x inside here = drop_suc xs i x (omega arith) here

pub here : {X : Type 0} (xs : List X) (i : ℕ) (x : X) → i < length xs → x ≡ get_or xs i x → drop i xs ≡ x ∷ drop (i + 1) xs
here xs i x inside known = let count : suc i ≡ i + 1 = omega arith in drop_suc xs i x inside known ∙ ap (λ k. x ∷ drop k xs) count

found_suc : {X : Type 0} (xs : List X) (i : ℕ) (x : X) → Some x ≡ slice_get xs i → drop i xs ≡ x ∷ drop (suc i) xs
found_suc [] i x known = cc
found_suc (y ∷ xs) zero x known = let same : x ≡ y = cc in ap (λ z. z ∷ xs) (sym same)
found_suc (y ∷ xs) (suc i) x known = found_suc xs i x known

pub found : {X : Type 0} (xs : List X) (i : ℕ) (x : X) → Some x ≡ slice_get xs i → drop i xs ≡ x ∷ drop (i + 1) xs
found xs i x known = let count : suc i ≡ i + 1 = omega arith in found_suc xs i x known ∙ ap (λ k. x ∷ drop k xs) count

-- one element is put at the end, and is no longer left
pub moved_over : {X : Type 0} (new out rest more all : List X) (x : X) → new ≡ out ++ x ∷ [] → rest ≡ x ∷ more → out ++ rest ≡ all → new ++ more ≡ all
moved_over new out rest more all x put left known =
    ap (λ l. l ++ more) put ∙ (append_assoc out (x ∷ []) more ∙ (ap (λ l. out ++ l) (sym left) ∙ known))

-- the same for a part of them
pub part_moved : {X : Type 0} (new out part rest more all : List X) → new ≡ out ++ part → rest ≡ part ++ more → out ++ rest ≡ all → new ++ more ≡ all
part_moved new out part rest more all put left known =
    ap (λ l. l ++ more) put ∙ (append_assoc out part more ∙ (ap (λ l. out ++ l) (sym left) ∙ known))

-- the name at a port
pub port_moved : (new out : List (Bor (List ℕ))) (text : Bor (List ℕ)) (ports : List Port) (i : ℕ) (port : Port) (all : List (List ℕ)) → new ≡ out ++ text ∷ [] → text.now ≡ port.name
    → Some port ≡ slice_get ports i → names_of out ++ port_names (drop i ports) ≡ all → names_of new ++ port_names (drop (i + 1) ports) ≡ all
port_moved new out text ports i port all put same at known =
    moved_over (names_of new) (names_of out) (port_names (drop i ports)) (port_names (drop (i + 1) ports)) all port.name
    (ap names_of put ∙ (map-append (λ n. n.now) out (text ∷ []) ∙ ap (λ n. names_of out ++ n ∷ []) same))
    (ap port_names (found ports i port at))
    known

-- a port of any kind
any_suc : {X : Type 0} (xs : List X) (i : ℕ) → i < length xs → map (λ x. Any) (drop i xs) ≡ Any ∷ map (λ x. Any) (drop (suc i) xs)
any_suc [] i inside = absurd (omega arith)
any_suc (x ∷ xs) zero inside = refl
any_suc (x ∷ xs) (suc i) inside = any_suc xs i (omega arith)

pub any_moved : {X : Type 0} (new out all : List Kind) (xs : List X) (i : ℕ) → i < length xs → new ≡ out ++ Any ∷ [] → out ++ map (λ x. Any) (drop i xs) ≡ all → new ++ map (λ x. Any) (drop (i + 1) xs) ≡ all
any_moved new out all xs i inside put known =
    let count : suc i ≡ i + 1 = omega arith in
    moved_over new out (map (λ x. Any) (drop i xs)) (map (λ x. Any) (drop (i + 1) xs)) all Any put (any_suc xs i inside ∙ ap (λ k. Any ∷ map (λ x. Any) (drop k xs)) count) known

-- numbers that are counted up
pub one_more : {X : Type 0} (f : ℕ → X) (before out new : List X) (i : ℕ) → new ≡ out ++ f i ∷ [] → out ≡ before ++ map f (numbers i) → new ≡ before ++ map f (numbers (i + 1))
one_more f before out new i put known =
    put ∙ (ap (λ l. l ++ f i ∷ []) known
    ∙ (append_assoc before (map f (numbers i)) (f i ∷ []) ∙ sym (ap (λ l. before ++ l) (map-range_with_len_more f 0 i i (omega arith)))))

map_same : (ns : List ℕ) → map (λ n. n) ns ≡ ns
map_same [] = refl
map_same (n ∷ ns) = ap (λ l. n ∷ l) (map_same ns)

pub one_number_more : (new out : List ℕ) (first i number : ℕ) → new ≡ out ++ number ∷ [] → number ≡ first + i → out ≡ range_with_len first i → new ≡ range_with_len first (i + 1)
one_number_more new out first i number put is known =
    put ∙ (ap (λ l. l ++ number ∷ []) known
    ∙ (ap (λ l. l ++ number ∷ []) (sym (map_same (range_with_len first i)))
    ∙ (sym (map-range_with_len_more (λ n. n) first i number (sym is)) ∙ map_same (range_with_len first (i + 1)))))

-- nothing is left
pub none_left : {X : Type 0} (xs : List X) (i : ℕ) → length xs ≤ i → drop i xs ≡ []
none_left xs i past = drop_of_length-le xs past

-- of two lists side by side
zip_none : {X Y : Type 0} (xs : List X) → zip {K = X} {X = Y} xs [] ≡ []
zip_none [] = refl
zip_none (x ∷ xs) = refl

pub zip_end : {X Y : Type 0} (xs : List X) (ys : List Y) (i : ℕ) → (length xs ≤ i) ⊎ (length ys ≤ i) → zip (drop i xs) (drop i ys) ≡ []
zip_end xs ys i (inl past) = ap (λ l. zip l (drop i ys)) (none_left xs i past)
zip_end {X} xs ys i (inr past) = ap (λ l. zip (drop i xs) l) (none_left ys i past) ∙ zip_none (drop i xs)

-- an element that is read at its place
get_suc : {X : Type 0} (xs : List X) (i : ℕ) (d : X) → i < length xs → drop i xs ≡ get_or xs i d ∷ drop (suc i) xs
get_suc [] i d inside = absurd (omega arith)
get_suc (y ∷ xs) zero d inside = refl
get_suc (y ∷ xs) (suc i) d inside = get_suc xs i d (omega arith)

here_get : {X : Type 0} (xs : List X) (i : ℕ) (d : X) → i < length xs → drop i xs ≡ get_or xs i d ∷ drop (i + 1) xs
here_get xs i d inside = let count : suc i ≡ i + 1 = omega arith in get_suc xs i d inside ∙ ap (λ k. get_or xs i d ∷ drop k xs) count

pub named_get : {Y : Type 0} (f : ℕ × List ℕ → Y) (new out all : List Y) (names : List (Bor (List ℕ))) (i : ℕ) (d : Bor (List ℕ)) (y : Y) → i < length names
    → new ≡ out ++ y ∷ [] → y ≡ f (i, (get_or names i d).now) → out ++ map f (enumerate_from i (names_of (drop i names))) ≡ all → new ++ map f (enumerate_from (i + 1) (names_of (drop (i + 1) names))) ≡ all
named_get f new out all names i d y inside put is known =
    moved_over new out (map f (enumerate_from i (names_of (drop i names)))) (map f (enumerate_from (i + 1) (names_of (drop (i + 1) names)))) all (f (i, (get_or names i d).now))
    (put ∙ ap (λ z. out ++ z ∷ []) is)
    (ap (λ l. map f (enumerate_from i (names_of l))) (here_get names i d inside))
    known

pub mapped_get : {Y : Type 0} (f : List ℕ → Y) (new out all : List Y) (names : List (Bor (List ℕ))) (i : ℕ) (d : Bor (List ℕ)) (y : Y) → i < length names
    → new ≡ out ++ y ∷ [] → y ≡ f (get_or names i d).now → out ++ map f (names_of (drop i names)) ≡ all → new ++ map f (names_of (drop (i + 1) names)) ≡ all
mapped_get f new out all names i d y inside put is known =
    moved_over new out (map f (names_of (drop i names))) (map f (names_of (drop (i + 1) names))) all (f (get_or names i d).now)
    (put ∙ ap (λ z. out ++ z ∷ []) is)
    (ap (λ l. map f (names_of l)) (here_get names i d inside))
    known

pub zip_get : {X Y : Type 0} (xs : List X) (ys : List Y) (i : ℕ) (d : X) (e : Y) → i < length xs → i < length ys → zip (drop i xs) (drop i ys) ≡ (get_or xs i d, get_or ys i e) ∷ zip (drop (i + 1) xs) (drop (i + 1) ys)
zip_get xs ys i d e inside inside' = ap (λ l. zip l (drop i ys)) (here_get xs i d inside) ∙ ap (λ l. zip (get_or xs i d ∷ drop (i + 1) xs) l) (here_get ys i e inside')

at_most : (a b : ℕ) → nat_le a b ≡ true → a ≤ b
at_most a b known = grind (arith, nat_tests)

above : (a b : ℕ) → nat_le a b ≡ false → b < a
above a b known = grind (arith, nat_tests)

pub past_one : (a b i end : ℕ) → end ≤ i → end ≡ min a b → (a ≤ i) ⊎ (b ≤ i)
past_one a b i end past is = elim (cases_Bool (nat_le a i)) [
  | inl few ↦ inl (at_most a i few)
  | inr more ↦ let beyond : i < a = above a i more in inr (omega (arith, past, is, beyond))
]
