-- What stands in front of the inner names of a node.
use Rattle.std.proofs.Common.{ℕ, suc, zero, ◌+◌, ◌<◌, ◌≤◌, ◌≡◌, ◌%◌, ◌/◌, List, [], ◌∷◌, ◌++◌, true, false, ◌&&◌, ◌==◌, refl, sym, ap, ◌∙◌, length, arith, get_or, append_assoc, ⊎_elim, nat_lt, subst}
use Rattle.std.specs.List.{list_all, prefix_len}
use Rattle.std.specs.Fmt.{digits, digits_onto, digit_glyph, decimal}
use Rattle.std.proofs.lemmas.Bool.{cases_Bool, cond-true, cond-false}
use Rattle.std.proofs.lemmas.Bool.Decides.{nat_tests}
use Rattle.mg_text.specs.Canonical.{AreCharacters}
use Rattle.mg_names.specs.Grammar.{is_digit, is_name, continues_name}
use Rattle.mg_names.proofs.Parts.{name_continues}
use Rattle.mg_subgraph.specs.Names.{prefix, is_reserved}
use Rattle.mg_subgraph.proofs.Joins.{and_join}

glyph_is_digit : (n : ℕ) → is_digit (digit_glyph false (n % 10)) ≡ true
glyph_is_digit n = grind (arith, nat_tests)

-- the digits of a number are digits, and there is one at least
onto_pass : (k n : ℕ) (after : List ℕ) → list_all is_digit after ≡ true → list_all is_digit (digits_onto k 10 false n after) ≡ true
onto_pass zero n after known = known
onto_pass (suc k) n after known =
    let here : list_all is_digit (digit_glyph false (n % 10) ∷ after) ≡ true = and_join (is_digit (digit_glyph false (n % 10))) (list_all is_digit after) (glyph_is_digit n) known in
    ⊎_elim
    (λ last. ap (list_all is_digit) (cond-true (n / 10 == 0) (digit_glyph false (n % 10) ∷ after) (digits_onto k 10 false (n / 10) (digit_glyph false (n % 10) ∷ after)) last) ∙ here)
    (λ more. ap (list_all is_digit) (cond-false (n / 10 == 0) (digit_glyph false (n % 10) ∷ after) (digits_onto k 10 false (n / 10) (digit_glyph false (n % 10) ∷ after)) more)
    ∙ onto_pass k (n / 10) (digit_glyph false (n % 10) ∷ after) here)
    (cases_Bool (n / 10 == 0))

onto_longer : (k n : ℕ) (after : List ℕ) → length after ≤ length (digits_onto k 10 false n after)
onto_longer zero n after = omega arith
onto_longer (suc k) n after =
    let glyph = digit_glyph false (n % 10) in
    ⊎_elim
    (λ last. let same = ap length (cond-true (n / 10 == 0) (glyph ∷ after) (digits_onto k 10 false (n / 10) (glyph ∷ after)) last) in omega (arith, same))
    (λ more.
    let same = ap length (cond-false (n / 10 == 0) (glyph ∷ after) (digits_onto k 10 false (n / 10) (glyph ∷ after)) more) in
    omega (arith, same, onto_longer k (n / 10) (glyph ∷ after)))
    (cases_Bool (n / 10 == 0))

onto_some : (k n : ℕ) → 0 < length (digits_onto (suc k) 10 false n [])
onto_some k n =
    let glyph = digit_glyph false (n % 10) in
    ⊎_elim
    (λ last. let same = ap length (cond-true (n / 10 == 0) (glyph ∷ []) (digits_onto k 10 false (n / 10) (glyph ∷ [])) last) in omega (arith, same))
    (λ more.
    let same = ap length (cond-false (n / 10 == 0) (glyph ∷ []) (digits_onto k 10 false (n / 10) (glyph ∷ [])) more) in
    omega (arith, same, onto_longer k (n / 10) (glyph ∷ [])))
    (cases_Bool (n / 10 == 0))

pub decimal_passes : (n : ℕ) → list_all is_digit (decimal n) ≡ true
unfolding digits
decimal_passes n = onto_pass 64 n [] refl

pub decimal_some : (n : ℕ) → 0 < length (decimal n)
unfolding digits
decimal_some n = onto_some 63 n

-- a name after the prefix
pub spelled_out : (n : ℕ) (name : List ℕ) → prefix n ++ name ≡ 115 ∷ (decimal n ++ (95 ∷ 95 ∷ name))
spelled_out n name = append_assoc (115 ∷ decimal n) (95 ∷ 95 ∷ []) name

-- so many digits in front
front_len : (ds rest : List ℕ) → list_all is_digit ds ≡ true → prefix_len is_digit (ds ++ (95 ∷ rest)) ≡ length ds
front_len [] rest known = refl
front_len (d ∷ ds) rest known =
    let here : is_digit d ≡ true = grind (arith, nat_tests) in
    let later : list_all is_digit ds ≡ true = grind (arith, nat_tests) in
    cond-true (is_digit d) (1 + prefix_len is_digit (ds ++ (95 ∷ rest))) 0 here ∙ (ap (λ n. 1 + n) (front_len ds rest later) ∙ omega arith)

read_past : (ds rest : List ℕ) (k : ℕ) → get_or (ds ++ rest) (length ds + k) 0 ≡ get_or rest k 0
read_past [] rest k = ap (λ i. get_or rest i 0) (let same : 0 + k ≡ k = omega arith in same)
read_past (d ∷ ds) rest k = ap (λ i. get_or (d ∷ (ds ++ rest)) i 0) (let same : suc (length ds) + k ≡ suc (length ds + k) = omega arith in same) ∙ read_past ds rest k

pub prefix_is_reserved : (n : ℕ) (name : List ℕ) → is_reserved (prefix n ++ name) ≡ true
prefix_is_reserved n name =
    let ds = decimal n in
    let text = ds ++ (95 ∷ 95 ∷ name) in
    let count : prefix_len is_digit text ≡ length ds = front_len ds (95 ∷ name) (decimal_passes n) in
    let first : get_or (115 ∷ text) (length ds + 1) 0 ≡ 95 = ap (λ i. get_or (115 ∷ text) i 0) (let same : length ds + 1 ≡ suc (length ds + 0) = omega arith in same) ∙ read_past ds (95 ∷ 95 ∷ name) 0 in
    let second : get_or (115 ∷ text) (length ds + 2) 0 ≡ 95 = ap (λ i. get_or (115 ∷ text) i 0) (let same : length ds + 2 ≡ suc (length ds + 1) = omega arith in same) ∙ read_past ds (95 ∷ 95 ∷ name) 1 in
    ap is_reserved (spelled_out n name)
    ∙ (ap (λ k. (115 == 115) && nat_lt 0 k && (get_or (115 ∷ text) (k + 1) 0 == 95) && (get_or (115 ∷ text) (k + 2) 0 == 95)) count
    ∙ reserved_by (length ds) (get_or (115 ∷ text) (length ds + 1) 0) (get_or (115 ∷ text) (length ds + 2) 0) (decimal_some n) first second)
  where
    reserved_by : (k a b : ℕ) → 0 < k → a ≡ 95 → b ≡ 95 → ((115 == 115) && nat_lt 0 k && (a == 95) && (b == 95)) ≡ true
    reserved_by k a b some first second = grind (arith, nat_tests)

-- a name stays a name after the prefix
digits_continue : (ds rest : List ℕ) → list_all is_digit ds ≡ true → list_all continues_name rest ≡ true → list_all continues_name (ds ++ rest) ≡ true
digits_continue [] rest known more = more
digits_continue (d ∷ ds) rest known more =
    let here : continues_name d ≡ true = grind (arith, nat_tests) in
    let later : list_all is_digit ds ≡ true = grind (arith, nat_tests) in
    and_join (continues_name d) (list_all continues_name (ds ++ rest)) here (digits_continue ds rest later more)

pub prefix_is_name : (n : ℕ) (name : List ℕ) → is_name name ≡ true → is_name (prefix n ++ name) ≡ true
prefix_is_name n name known = ap is_name (spelled_out n name) ∙ digits_continue (decimal n) (95 ∷ 95 ∷ name) (decimal_passes n) (name_continues name known)

-- so do characters
digits_characters : (ds rest : List ℕ) → list_all is_digit ds ≡ true → AreCharacters rest → AreCharacters (ds ++ rest)
digits_characters [] rest known more = more
digits_characters (d ∷ ds) rest known more =
    let small : d < 128 = grind (arith, nat_tests) in
    let later : list_all is_digit ds ≡ true = grind (arith, nat_tests) in
    AreCharacters.ascii small (digits_characters ds rest later more)

pub prefix_characters : (n : ℕ) (name : List ℕ) → AreCharacters name → AreCharacters (prefix n ++ name)
prefix_characters n name known =
    subst AreCharacters (sym (spelled_out n name))
    (AreCharacters.ascii (omega arith) (digits_characters (decimal n) (95 ∷ 95 ∷ name) (decimal_passes n) (AreCharacters.ascii (omega arith) (AreCharacters.ascii (omega arith) known))))
