-- Decimal numbers, one of them and two with a space between: what is read of a text, and what it is the text of.
use Rattle.std.proofs.Common.{◌≡◌, ◌<◌, ◌≤◌, ◌^◌, ◌+◌, ◌↔◌, true, ℕ, zero, suc, List, [], ◌∷◌, ◌++◌, length, take, drop, get_or, false, Option, Some, None, decimal, position, IsUtf8, Result, Ok, nat_lt, refl, sym, ap, ◌∙◌, arith}
use Rattle.std.specs.List.{position_or_len}
use Rattle.std.specs.Str.Parse.{AllDigits, ParsesUnsigned}
use Rattle.std.proofs.lemmas.Fmt.{decimal_is_IsNumeral, parse-decimal, IsAscii-decimal, decimal_injective}
use Rattle.std.proofs.lemmas.Str.{IsUtf8-from_ascii}
use Rattle.std.proofs.lemmas.Str.Parse.{digit_from_value}
use Rattle.std.proofs.lemmas.Bool.{eqb-true}
use Rattle.std.proofs.lemmas.List.{take-append-drop, length-append, drop_more}
use Rattle.std.proofs.lemmas.List.Quantifiers.{position-Some}
use Rattle.std.proofs.Math.Seq.{take-append_seam}
use Rattle.mg_trace.specs.Code.{is_space}

-- A single number --

pub number_is_utf8 : (n : ℕ) (text : List ℕ) → n < 2 ^ 64 → text ≡ decimal n → IsUtf8 text
number_is_utf8 n text fits e = rw e (IsUtf8-from_ascii (decimal n) (IsAscii-decimal n fits))

pub number_is_parsed : {E : Type 0} (n : ℕ) (text : List ℕ) (r : Result ℕ E) → n < 2 ^ 64 → text ≡ decimal n → ParsesUnsigned 64 10 text r → r ≡ Ok n
number_is_parsed n text r fits e parsed = parse-decimal 64 n text r fits fits e parsed

-- a number of 64 bits, or one below another, is what a text is read as
abbrev pub IsNumberRead : ℕ → List ℕ → Option ℕ → Type 0
IsNumberRead count text r = (n : ℕ) → (r ≡ Some n) ↔ ((n < count) × (text ≡ decimal n))

-- Two numbers --

abbrev pub IsPairRead : ℕ → List ℕ → Option (ℕ × ℕ) → Type 0
IsPairRead count text r = (m n : ℕ) → (r ≡ Some (m, n)) ↔ ((m < count) × (n < 2 ^ 64) × (text ≡ decimal m ++ 32 ∷ decimal n))

no_space_in : (ds : List ℕ) → AllDigits 10 ds → (k : ℕ) → k < length ds → is_space (get_or ds k 0) ≡ false
no_space_in [] all k lt = absurd (omega arith)
no_space_in (d ∷ ds) all zero lt = let r = digit_from_value d all.0 in grind (arith, r)
no_space_in (d ∷ ds) all (suc k) lt = no_space_in ds all.1 k (omega arith)

first_space : (xs rest : List ℕ) → ((k : ℕ) → k < length xs → is_space (get_or xs k 0) ≡ false) → position_or_len is_space (xs ++ 32 ∷ rest) ≡ length xs
first_space [] rest none = refl
first_space (x ∷ xs) rest none =
    rw (none zero (omega arith)) (ap (λ n. 1 + n) (first_space xs rest (λ k lt. none (suc k) (omega arith))) ∙ omega arith)

within : (xs rest : List ℕ) → length xs < length (xs ++ 32 ∷ rest)
within xs rest = omega (arith, length-append xs (32 ∷ rest))

pub space_found : (m n : ℕ) (text : List ℕ) → m < 2 ^ 64 → text ≡ decimal m ++ 32 ∷ decimal n → position is_space text ≡ Some (length (decimal m))
space_found m n text fits e =
    let at = first_space (decimal m) (decimal n) (no_space_in (decimal m) (decimal_is_IsNumeral m fits).0.1) in
    let lt = within (decimal m) (decimal n) in
    ap (position is_space) e ∙ found (decimal m ++ 32 ∷ decimal n) (length (decimal m)) at lt
  where
    found : (xs : List ℕ) (i : ℕ) → position_or_len is_space xs ≡ i → i < length xs → position is_space xs ≡ Some i
    found xs i at lt = let yes : nat_lt i (length xs) ≡ true = grind arith in rw (at, yes) refl

drop-append_seam : (xs ys : List ℕ) → drop (length xs) (xs ++ ys) ≡ ys
drop-append_seam [] ys = refl
drop-append_seam (x ∷ xs) ys = drop-append_seam xs ys

same_place : (i j : ℕ) → Some i ≡ Some j → i ≡ j
same_place i j e = cc

pub same_pair : (p q : ℕ × ℕ) → Some p ≡ Some q → p ≡ q
same_pair p q e = cc

-- the two sides of the first space
pub cut_at_space : (text : List ℕ) (i : ℕ) → position is_space text ≡ Some i → text ≡ take i text ++ 32 ∷ drop 1 (drop i text)
cut_at_space text i e =
    let p = position-Some is_space text i 0 e in
    let at : drop i text ≡ 32 ∷ drop (i + 1) text = drop_more text i 0 p.0 ∙ ap (λ b. b ∷ drop (i + 1) text) (eqb-true (get_or text i 0) 32 p.1) in
    sym (take-append-drop i text) ∙ ap (λ l. take i text ++ l) (at ∙ ap (λ l. 32 ∷ l) (sym (ap (drop 1) at)))

pub front_of_pair : (m n i : ℕ) (text : List ℕ) → i ≡ length (decimal m) → text ≡ decimal m ++ 32 ∷ decimal n → take i text ≡ decimal m
front_of_pair m n i text is e = rw (is, e) (take-append_seam (decimal m) (32 ∷ decimal n))

pub back_of_pair : (m n i : ℕ) (text : List ℕ) → i ≡ length (decimal m) → text ≡ decimal m ++ 32 ∷ decimal n → drop 1 (drop i text) ≡ decimal n
back_of_pair m n i text is e = rw (is, e) (ap (drop 1) (drop-append_seam (decimal m) (32 ∷ decimal n)))

-- no space, or one of the two parts is no number
pub no_pair_without_space : (count : ℕ) (text : List ℕ) → count ≤ 2 ^ 64 → position is_space text ≡ None → IsPairRead count text None
no_pair_without_space count text few none m n =
    (λ e. absurd (cc), λ p. let found = space_found m n text (omega (arith, p.0)) p.2 in let no : None ≡ Some (length (decimal m)) = sym none ∙ found in absurd (cc))

pub no_pair_without_first : (count i : ℕ) (text : List ℕ) → count ≤ 2 ^ 64 → position is_space text ≡ Some i → IsNumberRead count (take i text) None → IsPairRead count text None
no_pair_without_first count i text few found first m n = (
  λ e. absurd (cc),
  λ p.
      let at = same_place i (length (decimal m)) (sym found ∙ space_found m n text (omega (arith, p.0)) p.2) in
      let no : None ≡ Some m = (first m).1 (p.0, front_of_pair m n i text at p.2) in absurd (cc),
)

pub no_pair_without_second : (count i : ℕ) (text : List ℕ) → count ≤ 2 ^ 64 → position is_space text ≡ Some i → IsNumberRead (2 ^ 64) (drop 1 (drop i text)) None → IsPairRead count text None
no_pair_without_second count i text few found second m n = (
  λ e. absurd (cc),
  λ p.
      let at = same_place i (length (decimal m)) (sym found ∙ space_found m n text (omega (arith, p.0)) p.2) in
      let no : None ≡ Some n = (second n).1 (p.1, back_of_pair m n i text at p.2) in absurd (cc),
)

-- a text of two numbers with a space between them is read as these two
pub pair_of_both : (count i a b : ℕ) (text : List ℕ) → count ≤ 2 ^ 64 → position is_space text ≡ Some i → IsNumberRead count (take i text) (Some a)
    → IsNumberRead (2 ^ 64) (drop 1 (drop i text)) (Some b) → IsPairRead count text (Some (a, b))
pair_of_both count i a b text few found first second m n = (
  λ e.
      let both = same_pair (a, b) (m, n) e in let one : a ≡ m = ap (λ p. p.0) both in let two : b ≡ n = ap (λ p. p.1) both in
      let f = (first m).0 (ap Some one) in let s = (second n).0 (ap Some two) in
      (f.0, s.0, cut_at_space text i found ∙ ap (λ l. l ++ 32 ∷ drop 1 (drop i text)) f.1 ∙ ap (λ l. decimal m ++ 32 ∷ l) s.1),
  λ p.
      let at = same_place i (length (decimal m)) (sym found ∙ space_found m n text (omega (arith, p.0)) p.2) in
      let one : a ≡ m = same_place a m ((first m).1 (p.0, front_of_pair m n i text at p.2)) in
      let two : b ≡ n = same_place b n ((second n).1 (p.1, back_of_pair m n i text at p.2)) in
      λ j. Some (one j, two j),
)

-- two texts of two numbers that are the same
pub one_pair : (n k m l : ℕ) → n < 2 ^ 64 → k < 2 ^ 64 → m < 2 ^ 64 → l < 2 ^ 64 → decimal n ++ 32 ∷ decimal k ≡ decimal m ++ 32 ∷ decimal l → ◌≡◌ {A = Option (ℕ × ℕ)} (Some (n, k)) (Some (m, l))
one_pair n k m l fn fk fm fl e =
    let text = decimal n ++ 32 ∷ decimal k in
    let at = same_place (length (decimal n)) (length (decimal m)) (sym (space_found n k text fn refl) ∙ space_found m l text fm e) in
    let one = decimal_injective n m fn fm (sym (front_of_pair n k (length (decimal n)) text refl refl) ∙ front_of_pair m l (length (decimal n)) text at e) in
    let two = decimal_injective k l fk fl (sym (back_of_pair n k (length (decimal n)) text refl refl) ∙ back_of_pair m l (length (decimal n)) text at e) in
    λ j. Some (one j, two j)
