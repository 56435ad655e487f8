-- What the tests of ports say of each pair of ports, of each port and of each index.
use Rattle.std.proofs.Common.{ℕ, zero, suc, ◌+◌, ◌-◌, ◌*◌, ◌/◌, ◌%◌, ◌<◌, ◌≤◌, ◌≡◌, ⊎_elim, List, [], ◌∷◌, Bool, true, false, not, ◌&&◌, ◌||◌, ◌==◌, Some, length, get_or, arith, refl, sym, ◌∙◌, ap}
use Rattle.std.specs.Prelude.{position, slice_get}
use Rattle.std.specs.List.{list_any, position_or_len, All, AllPairs}
use Rattle.std.specs.Str.{bytes_eq}
use Rattle.std.specs.Fmt.{decimal}
use Rattle.std.proofs.lemmas.Bool.{false≢true, cases_Bool, cases_eq, eq-eqb}
use Rattle.std.proofs.lemmas.Bool.Decides.{nat_tests}
use Rattle.std.proofs.lemmas.Option.{slice_get_within, get_or_from_slice_get}
use Rattle.std.proofs.lemmas.Fmt.{decimal_digit}
use Rattle.std.proofs.lemmas.Slice.Eq.{bytes_eq-Decides}
use Rattle.std.proofs.lemmas.List.Sums.{position_or_len_is}
use Rattle.mg_names.specs.Grammar.{index_of}
use Rattle.mg_names.specs.Ports.{is_at, has_port, stands_twice, has_gap, place_of}
use Rattle.mg_names.specs.declared.port.Port.{Port}
use Rattle.mg_names.proofs.Standing.{is_at_symmetric, same_place}
use Rattle.mg_names.proofs.ReadBack.{decimal_two}

-- a test that no element passes
none_pass : {X : Type 0} (p : X → Bool) (xs : List X) → list_any p xs ≡ false → (k : ℕ) (d : X) → k < length xs → p (get_or xs k d) ≡ false
none_pass p [] none k d inside = absurd (omega arith)
none_pass p (x ∷ xs) none zero d inside = grind (arith, nat_tests)
none_pass p (x ∷ xs) none (suc k) d inside = none_pass p xs (grind (arith, nat_tests)) k d (omega arith)

both_false : (a b : Bool) → a ≡ false → b ≡ false → (a || b) ≡ false
both_false true b not_a not_b = not_a
both_false false b not_a not_b = not_b

neither : (a b : Bool) → (a || b) ≡ false → (a ≡ false) × (b ≡ false)
neither true b none = cc
neither false b none = (refl, none)

none_from_each : {X : Type 0} (p : X → Bool) (xs : List X) → ((k : ℕ) (d : X) → k < length xs → p (get_or xs k d) ≡ false) → list_any p xs ≡ false
none_from_each p [] each = refl
none_from_each p (x ∷ xs) each = both_false (p x) (list_any p xs) (each 0 x (omega arith)) (none_from_each p xs (λ k d inside. each (suc k) d (omega arith)))

-- a test that some element passes
some_passes : {X : Type 0} (p : X → Bool) (xs : List X) → list_any p xs ≡ true → (k : ℕ) × (x : X) × (k < length xs) × (get_or xs k x ≡ x) × (p x ≡ true)
some_passes p [] some = cc
some_passes p (x ∷ xs) some =
    ⊎_elim
    (λ here. (0, x, omega arith, refl, here))
    (λ other.
    let later = some_passes p xs (grind (arith, nat_tests)) in
    (suc later.0, later.1, omega arith, later.3, later.4))
    (cases_Bool (p x))

-- two ports have another tag or another index
abbrev pub Apart : Port → Port → Type 0
Apart first second = is_at first.tag first.index second ≡ false

pub once_pairs : (ports : List Port) → stands_twice ports ≡ false → AllPairs Apart ports
once_pairs [] once i j d before inside = absurd (omega arith)
once_pairs (port ∷ ports) once zero zero d before inside = absurd (omega arith)
once_pairs (port ∷ ports) once zero (suc j) d before inside = none_pass (is_at port.tag port.index) ports (neither (has_port port.tag port.index ports) (stands_twice ports) once).0 j d (omega arith)
once_pairs (port ∷ ports) once (suc i) zero d before inside = absurd (omega arith)
once_pairs (port ∷ ports) once (suc i) (suc j) d before inside = once_pairs ports (neither (has_port port.tag port.index ports) (stands_twice ports) once).1 i j d (omega arith) (omega arith)

pub pairs_once : (ports : List Port) → AllPairs Apart ports → stands_twice ports ≡ false
pairs_once [] pairs = refl
pairs_once (port ∷ ports) pairs =
    both_false (has_port port.tag port.index ports) (stands_twice ports)
    (none_from_each (is_at port.tag port.index) ports (λ k d inside. pairs 0 (suc k) d (omega arith) (omega arith)))
    (pairs_once ports (λ i j d before inside. pairs (suc i) (suc j) d (omega arith) (omega arith)))

at_itself : (port : Port) → is_at port.tag port.index port ≡ true
at_itself port = both_true (bytes_eq port.tag port.tag) (port.index == port.index) ((bytes_eq-Decides port.tag port.tag).1 refl) (eq-eqb port.index port.index refl)
  where
    both_true : (a b : Bool) → a ≡ true → b ≡ true → (a && b) ≡ true
    both_true true b is_a is_b = is_b
    both_true false b is_a is_b = is_a

position_is : {X : Type 0} (p : X → Bool) (xs : List X) (i : ℕ) → position_or_len p xs ≡ i → i < length xs → position p xs ≡ Some i
position_is p xs i first inside = grind (arith, nat_tests)

-- if none stands twice, each port is found at its own place
pub found_here : (ports : List Port) (i : ℕ) (port : Port) → stands_twice ports ≡ false → i < length ports → get_or ports i port ≡ port → place_of port.tag port.index ports ≡ Some i
found_here ports i port once inside here =
    let earlier : (k : ℕ) → k < i → is_at port.tag port.index (get_or ports k port) ≡ false =
    λ k before.
    is_at_symmetric port (get_or ports k port)
    ∙ (ap (λ p. is_at (get_or ports k port).tag (get_or ports k port).index p) (sym here) ∙ once_pairs ports once k i port before inside) in
    let at : is_at port.tag port.index (get_or ports i port) ≡ true = ap (is_at port.tag port.index) here ∙ at_itself port in
    let first : position_or_len (is_at port.tag port.index) ports ≡ i = position_or_len_is (is_at port.tag port.index) ports i port (omega arith) earlier (λ _. at) in
    position_is (is_at port.tag port.index) ports i first inside

-- each index below a port's
abbrev pub HasLower : List Port → Port → Type 0
HasLower ports port = (index : ℕ) → index < port.index → has_port port.tag index ports ≡ true

some_from : {X : Type 0} (p : X → Bool) (xs : List X) (k : ℕ) (d : X) → k < length xs → p (get_or xs k d) ≡ true → list_any p xs ≡ true
some_from p xs k d inside passes =
    ⊎_elim (λ some. some) (λ none. absurd (false≢true (sym (none_pass p xs none k d inside) ∙ passes))) (cases_Bool (list_any p xs))

-- a port with an index above 0 has one below
below_from : (index : ℕ) (has : Bool) → (not (index == 0) && not has) ≡ false → 0 < index → has ≡ true
below_from index true filled above = refl
below_from index false filled above = grind (arith, nat_tests)

one_lower : (ports : List Port) (tag : List ℕ) (n : ℕ) → has_gap ports ≡ false → has_port tag (suc n) ports ≡ true → has_port tag n ports ≡ true
one_lower ports tag n filled has =
    let found = some_passes (is_at tag (suc n)) ports has in
    let port : Port = found.1 in
    let same : (tag ≡ port.tag) × (suc n ≡ port.index) = same_place tag (suc n) port found.4 in
    let none : (not (port.index == 0) && not (has_port port.tag (port.index - 1) ports)) ≡ false =
    sym (ap (λ (p : Port). not (p.index == 0) && not (has_port p.tag (p.index - 1) ports)) found.3)
    ∙ none_pass (λ p. not (p.index == 0) && not (has_port p.tag (p.index - 1) ports)) ports filled found.0 port found.2 in
    let lower : has_port port.tag (port.index - 1) ports ≡ true = below_from port.index (has_port port.tag (port.index - 1) ports) none (omega arith) in
    let count : n ≡ port.index - 1 = omega arith in
    ap (λ t. has_port t n ports) same.0 ∙ (ap (λ i. has_port port.tag i ports) count ∙ lower)

lower_by : (ports : List Port) → has_gap ports ≡ false → (n : ℕ) (tag : List ℕ) → has_port tag n ports ≡ true → (index : ℕ) → index < n → has_port tag index ports ≡ true
lower_by ports filled zero tag has index below = absurd (omega arith)
lower_by ports filled (suc n) tag has index below =
    let lower : has_port tag n ports ≡ true = one_lower ports tag n filled has in
    ⊎_elim
    (λ same. ap (λ i. has_port tag i ports) same ∙ lower)
    (λ differs. lower_by ports filled n tag lower index (omega arith))
    (cases_eq index n)

pub filled_lower : (ports : List Port) → has_gap ports ≡ false → All (HasLower ports) ports
filled_lower ports filled k d inside =
    let port = get_or ports k d in
    lower_by ports filled port.index port.tag (some_from (is_at port.tag port.index) ports k d inside (at_itself port))

not_lacking : (index : ℕ) (has : Bool) → (0 < index → has ≡ true) → (not (index == 0) && not has) ≡ false
not_lacking zero has lower = refl
not_lacking (suc index) true lower = grind (arith, nat_tests)
not_lacking (suc index) false lower = absurd (false≢true (lower (omega arith)))

pub lower_filled : (ports : List Port) → All (HasLower ports) ports → has_gap ports ≡ false
lower_filled ports lower =
    none_from_each (λ port. not (port.index == 0) && not (has_port port.tag (port.index - 1) ports)) ports
    (λ k d inside.
    let port = get_or ports k d in
    not_lacking port.index (has_port port.tag (port.index - 1) ports) (λ above. lower k d inside (port.index - 1) (omega arith)))

one_digit_read : (ones index : ℕ) → index_of (ones ∷ []) ≡ Some index → (index < 10) × (48 + index ≡ ones)
one_digit_read ones index spelled = grind (arith, nat_tests)

two_digits_facts : (tens ones index : ℕ) → index_of (tens ∷ ones ∷ []) ≡ Some index → (49 ≤ tens) × (tens ≤ 57) × (48 ≤ ones) × (ones ≤ 57) × (index ≡ 10 * (tens - 48) + (ones - 48)) × (index < 64)
two_digits_facts tens ones index spelled = grind (arith, nat_tests)

two_digits_read : (tens ones index : ℕ) → index_of (tens ∷ ones ∷ []) ≡ Some index → (10 ≤ index) × (index < 64) × (48 + index / 10 ≡ tens) × (48 + index % 10 ≡ ones)
two_digits_read tens ones index spelled =
    let known = two_digits_facts tens ones index spelled in
    (omega (arith, known), omega (arith, known), omega (arith, known), omega (arith, known))

-- an index is spelled in decimal
pub index_is_decimal : (text : List ℕ) (index : ℕ) → index_of text ≡ Some index → text ≡ decimal index
index_is_decimal [] index spelled = cc
index_is_decimal (ones ∷ []) index spelled =
    let known = one_digit_read ones index spelled in
    sym (decimal_digit index known.0 ∙ ap (λ n. n ∷ []) known.1)
index_is_decimal (tens ∷ ones ∷ []) index spelled =
    let known = two_digits_read tens ones index spelled in
    sym (decimal_two index known.0 known.1 ∙ (ap (λ n. n ∷ (48 + index % 10) ∷ []) known.2 ∙ ap (λ n. tens ∷ n ∷ []) known.3))
index_is_decimal (a ∷ b ∷ c ∷ more) index spelled = cc

pub found_at : (ports : List Port) (i : ℕ) (port : Port) → stands_twice ports ≡ false → slice_get ports i ≡ Some port → place_of port.tag port.index ports ≡ Some i
found_at ports i port once here =
    found_here ports i port once (slice_get_within ports i port here) (get_or_from_slice_get ports i port port here)
