-- Words and numbers that are read in part: they keep their kind, and what completes one makes a word or a number of the grammar.
use Rattle.std.proofs.Common.{◌≡◌, ℕ, List, [], ◌∷◌, ◌++◌, Bool, true, false, cond, Some, None, refl, sym, ap, subst, ◌⊎◌, inl, inr}
use Rattle.mg_text.specs.declared.parts.Class.{Class}
use Rattle.mg_text.specs.declared.parts.Class.TheVariants.{Minus, Plus, Dot, Zero, LetterE, LetterF, LetterX}
use Rattle.mg_text.specs.declared.state.ScalarPart.{ScalarPart}
use Rattle.mg_text.specs.declared.state.ScalarPart.TheVariants as sp
use Rattle.mg_text.specs.Byte.{class_of, is_letter, is_digit, is_hex, is_word_byte}
use Rattle.mg_text.specs.Grammar as g
use Rattle.mg_text.specs.Grammar.{AllOf, Some1, IsWord, IsNumber, IsUnsigned, IsEnd, IsSuffix}
use Rattle.mg_text.specs.Code.Machine.{scalar_next, is_whole_scalar, kind_of}
use Rattle.mg_text.proofs.Choices.{some_same, from_if}

-- these bytes end a word or a number that is read in part
abbrev pub ScalarEnds : ScalarPart → List ℕ → Type 0
ScalarEnds part [] = is_whole_scalar part ≡ true
ScalarEnds part (b ∷ y) = (q : ScalarPart) × (scalar_next part (class_of b) ≡ Some q) × ScalarEnds q y

kind_some : (a q : ScalarPart) → Some a ≡ Some q → kind_of q ≡ kind_of a
kind_some a q e = sym (ap kind_of (some_same e))

kind_if : (b : Bool) (a q : ScalarPart) → cond b (Some a) None ≡ Some q → kind_of q ≡ kind_of a
kind_if b a q e = sym (ap kind_of (from_if b e).1)

-- the parts of a number follow one another, and so do those of a word
pub same_kind : (part next : ScalarPart) (c : Class) → scalar_next part c ≡ Some next → kind_of next ≡ kind_of part
same_kind sp.Word next c e = kind_if (is_word_byte c) sp.Word next e
same_kind sp.Minus next Zero e = kind_some sp.Zero next e
same_kind sp.Minus next Dot e = kind_some sp.Point next e
same_kind sp.Minus next c e = kind_if (is_digit c) sp.Whole next e
same_kind sp.Zero next LetterX e = kind_some sp.HexStart next e
same_kind sp.Zero next LetterE e = kind_some sp.Exponent next e
same_kind sp.Zero next LetterF e = kind_some sp.Suffix next e
same_kind sp.Zero next Dot e = kind_some sp.Point next e
same_kind sp.Zero next c e = kind_if (is_digit c) sp.Whole next e
same_kind sp.Whole next LetterE e = kind_some sp.Exponent next e
same_kind sp.Whole next LetterF e = kind_some sp.Suffix next e
same_kind sp.Whole next Dot e = kind_some sp.Point next e
same_kind sp.Whole next c e = kind_if (is_digit c) sp.Whole next e
same_kind sp.Point next c e = kind_if (is_digit c) sp.Fraction next e
same_kind sp.Fraction next LetterE e = kind_some sp.Exponent next e
same_kind sp.Fraction next LetterF e = kind_some sp.Suffix next e
same_kind sp.Fraction next c e = kind_if (is_digit c) sp.Fraction next e
same_kind sp.Exponent next Minus e = kind_some sp.Sign next e
same_kind sp.Exponent next Plus e = kind_some sp.Sign next e
same_kind sp.Exponent next c e = kind_if (is_digit c) sp.Power next e
same_kind sp.Sign next c e = kind_if (is_digit c) sp.Power next e
same_kind sp.Power next LetterF e = kind_some sp.Suffix next e
same_kind sp.Power next c e = kind_if (is_digit c) sp.Power next e
same_kind sp.HexStart next c e = kind_if (is_hex c) sp.Hex next e
same_kind sp.Hex next c e = kind_if (is_hex c) sp.Hex next e
same_kind sp.Suffix next c e = cc

pub word_token : (b : ℕ) (y : List ℕ) → is_letter (class_of b) ≡ true → ScalarEnds sp.Word y → IsWord (b ∷ y)
word_token b y e h = (e, rest y h)
  where
    rest : (z : List ℕ) → ScalarEnds sp.Word z → AllOf is_word_byte z
    rest [] k = tt
    rest (c ∷ z) (q, i, k) = let f = from_if (is_word_byte (class_of c)) i in (f.0, rest z (subst (λ p. ScalarEnds p z) (sym f.1) k))

suffix_ends : (y : List ℕ) → ScalarEnds sp.Suffix y → y ≡ []
suffix_ends [] h = refl
suffix_ends (b ∷ y) (q, e, h) = cc

hex_ends : (y : List ℕ) → ScalarEnds sp.Hex y → AllOf is_hex y
hex_ends [] h = tt
hex_ends (b ∷ y) (q, e, h) = let f = from_if (is_hex (class_of b)) e in (f.0, hex_ends y (subst (λ p. ScalarEnds p y) (sym f.1) h))

hex_start_ends : (y : List ℕ) → ScalarEnds sp.HexStart y → Some1 is_hex y
hex_start_ends [] h = let e : false ≡ true = h in cc
hex_start_ends (b ∷ y) (q, e, h) = let f = from_if (is_hex (class_of b)) e in (f.0, hex_ends y (subst (λ p. ScalarEnds p y) (sym f.1) h))

-- digits and what ends them
abbrev Digits : (List ℕ → Type 0) → List ℕ → Type 0
Digits Ends y = (d : List ℕ) × (e : List ℕ) × (y ≡ d ++ e) × AllOf is_digit d × Ends e

abbrev Digits1 : (List ℕ → Type 0) → List ℕ → Type 0
Digits1 Ends y = (d : List ℕ) × (e : List ℕ) × (y ≡ d ++ e) × Some1 is_digit d × Ends e

one_digit : (Ends : List ℕ → Type 0) (b : ℕ) (y : List ℕ) → is_digit (class_of b) ≡ true → Digits Ends y → Digits Ends (b ∷ y)
one_digit Ends b y e r = (b ∷ r.0, r.1, ap (λ z. b ∷ z) r.2, (e, r.3), r.4)

first_digit : (Ends : List ℕ → Type 0) (b : ℕ) (y : List ℕ) → is_digit (class_of b) ≡ true → Digits Ends y → Digits1 Ends (b ∷ y)
first_digit Ends b y e r = (b ∷ r.0, r.1, ap (λ z. b ∷ z) r.2, (e, r.3), r.4)

power_next : (c : Class) (q : ScalarPart) → scalar_next sp.Power c ≡ Some q → ((c ≡ LetterF) × (q ≡ sp.Suffix)) ⊎ ((is_digit c ≡ true) × (q ≡ sp.Power))
power_next LetterF q e = inl (refl, cc)
power_next c q e = let f = from_if (is_digit c) e in inr (f.0, sym f.1)

power_ends : (y : List ℕ) → ScalarEnds sp.Power y → Digits IsSuffix y
power_ends [] h = ([], [], refl, tt, g.no_suffix)
power_ends (b ∷ y) (q, e, h) =
    elim (power_next (class_of b) q e) [
      | inl d ↦ ([], b ∷ [], ap (λ z. b ∷ z) (suffix_ends y (subst (λ p. ScalarEnds p y) d.1 h)), tt, g.float d.0)
      | inr d ↦ one_digit IsSuffix b y d.0 (power_ends y (subst (λ p. ScalarEnds p y) d.1 h))
    ]

sign_ends : (y : List ℕ) → ScalarEnds sp.Sign y → Digits1 IsSuffix y
sign_ends [] h = absurd (let e : false ≡ true = h in cc)
sign_ends (b ∷ y) (q, e, h) = let f = from_if (is_digit (class_of b)) e in first_digit IsSuffix b y f.0 (power_ends y (subst (λ p. ScalarEnds p y) (sym f.1) h))

exponent_next : (c : Class) (q : ScalarPart) → scalar_next sp.Exponent c ≡ Some q
    → ((c ≡ Minus) × (q ≡ sp.Sign)) ⊎ (((c ≡ Plus) × (q ≡ sp.Sign)) ⊎ ((is_digit c ≡ true) × (q ≡ sp.Power)))
exponent_next Minus q e = inl (refl, cc)
exponent_next Plus q e = inr (inl (refl, cc))
exponent_next c q e = let f = from_if (is_digit c) e in inr (inr (f.0, sym f.1))

-- after the letter of an exponent
exponent_ends : (b : ℕ) (y : List ℕ) → class_of b ≡ LetterE → ScalarEnds sp.Exponent y → IsEnd (b ∷ y)
exponent_ends b [] i h = absurd (let e : false ≡ true = h in cc)
exponent_ends b (c ∷ y) i (q, e, h) =
    elim (exponent_next (class_of c) q e) [
      | inl d ↦ (let r = sign_ends y (subst (λ p. ScalarEnds p y) d.1 h) in subst (λ z. IsEnd (b ∷ c ∷ z)) (sym r.2) (g.exponent r.0 i (g.minus d.0) r.3 r.4))
      | inr k ↦ elim k [
        | inl d ↦ (let r = sign_ends y (subst (λ p. ScalarEnds p y) d.1 h) in subst (λ z. IsEnd (b ∷ c ∷ z)) (sym r.2) (g.exponent r.0 i (g.plus d.0) r.3 r.4))
        | inr d ↦ (let r = first_digit IsSuffix c y d.0 (power_ends y (subst (λ p. ScalarEnds p y) d.1 h)) in subst (λ z. IsEnd (b ∷ z)) (sym r.2) (g.exponent r.0 i g.no_sign r.3 r.4))
      ]
    ]

suffix_is : (b : ℕ) (y : List ℕ) → class_of b ≡ LetterF → ScalarEnds sp.Suffix y → IsEnd (b ∷ y)
suffix_is b y i h = subst (λ z. IsEnd (b ∷ z)) (sym (suffix_ends y h)) (g.no_exponent (g.float i))

fraction_next : (c : Class) (q : ScalarPart) → scalar_next sp.Fraction c ≡ Some q
    → ((c ≡ LetterE) × (q ≡ sp.Exponent)) ⊎ (((c ≡ LetterF) × (q ≡ sp.Suffix)) ⊎ ((is_digit c ≡ true) × (q ≡ sp.Fraction)))
fraction_next LetterE q e = inl (refl, cc)
fraction_next LetterF q e = inr (inl (refl, cc))
fraction_next c q e = let f = from_if (is_digit c) e in inr (inr (f.0, sym f.1))

fraction_ends : (y : List ℕ) → ScalarEnds sp.Fraction y → Digits IsEnd y
fraction_ends [] h = ([], [], refl, tt, g.no_exponent g.no_suffix)
fraction_ends (b ∷ y) (q, e, h) =
    elim (fraction_next (class_of b) q e) [
      | inl d ↦ ([], b ∷ y, refl, tt, exponent_ends b y d.0 (subst (λ p. ScalarEnds p y) d.1 h))
      | inr k ↦ elim k [
        | inl d ↦ ([], b ∷ y, refl, tt, suffix_is b y d.0 (subst (λ p. ScalarEnds p y) d.1 h))
        | inr d ↦ one_digit IsEnd b y d.0 (fraction_ends y (subst (λ p. ScalarEnds p y) d.1 h))
      ]
    ]

point_ends : (y : List ℕ) → ScalarEnds sp.Point y → Digits1 IsEnd y
point_ends [] h = absurd (let e : false ≡ true = h in cc)
point_ends (b ∷ y) (q, e, h) = let f = from_if (is_digit (class_of b)) e in first_digit IsEnd b y f.0 (fraction_ends y (subst (λ p. ScalarEnds p y) (sym f.1) h))

-- digits, an optional point with digits, and an end
abbrev WholeEnds : List ℕ → Type 0
WholeEnds y = Digits IsEnd y ⊎ ((d : List ℕ) × (p : ℕ) × (f : List ℕ) × (e : List ℕ) × (y ≡ d ++ p ∷ f ++ e) × AllOf is_digit d × (class_of p ≡ Dot) × Some1 is_digit f × IsEnd e)

whole_next : (c : Class) (q : ScalarPart) → scalar_next sp.Whole c ≡ Some q
    → ((c ≡ LetterE) × (q ≡ sp.Exponent)) ⊎ (((c ≡ LetterF) × (q ≡ sp.Suffix)) ⊎ (((c ≡ Dot) × (q ≡ sp.Point)) ⊎ ((is_digit c ≡ true) × (q ≡ sp.Whole))))
whole_next LetterE q e = inl (refl, cc)
whole_next LetterF q e = inr (inl (refl, cc))
whole_next Dot q e = inr (inr (inl (refl, cc)))
whole_next c q e = let f = from_if (is_digit c) e in inr (inr (inr (f.0, sym f.1)))

more_whole : (b : ℕ) (y : List ℕ) → is_digit (class_of b) ≡ true → WholeEnds y → WholeEnds (b ∷ y)
more_whole b y e (inl r) = inl (one_digit IsEnd b y e r)
more_whole b y e (inr r) = inr (b ∷ r.0, r.1, r.2, r.3, ap (λ z. b ∷ z) r.4, (e, r.5), r.6, r.7, r.8)

point_whole : (b : ℕ) (y : List ℕ) → class_of b ≡ Dot → ScalarEnds sp.Point y → WholeEnds (b ∷ y)
point_whole b y e h = let r = point_ends y h in inr ([], b, r.0, r.1, ap (λ z. b ∷ z) r.2, tt, e, r.3, r.4)

whole_ends : (y : List ℕ) → ScalarEnds sp.Whole y → WholeEnds y
whole_ends [] h = inl ([], [], refl, tt, g.no_exponent g.no_suffix)
whole_ends (b ∷ y) (q, e, h) =
    elim (whole_next (class_of b) q e) [
      | inl d ↦ inl ([], b ∷ y, refl, tt, exponent_ends b y d.0 (subst (λ p. ScalarEnds p y) d.1 h))
      | inr k ↦ elim k [
        | inl d ↦ inl ([], b ∷ y, refl, tt, suffix_is b y d.0 (subst (λ p. ScalarEnds p y) d.1 h))
        | inr k ↦ elim k [
          | inl d ↦ point_whole b y d.0 (subst (λ p. ScalarEnds p y) d.1 h)
          | inr d ↦ more_whole b y d.0 (whole_ends y (subst (λ p. ScalarEnds p y) d.1 h))
        ]
      ]
    ]

unsigned_whole : (b : ℕ) (y : List ℕ) → is_digit (class_of b) ≡ true → WholeEnds y → IsUnsigned (b ∷ y)
unsigned_whole b y e (inl r) = subst (λ z. IsUnsigned (b ∷ z)) (sym r.2) (g.whole (b ∷ r.0) (e, r.3) r.4)
unsigned_whole b y e (inr r) = subst (λ z. IsUnsigned (b ∷ z)) (sym r.4) (g.fraction (b ∷ r.0) r.1 r.2 (e, r.5) r.6 r.7 r.8)

zero_next : (c : Class) (q : ScalarPart) → scalar_next sp.Zero c ≡ Some q
    → ((c ≡ LetterX) × (q ≡ sp.HexStart)) ⊎ (((c ≡ LetterE) × (q ≡ sp.Exponent)) ⊎ (((c ≡ LetterF) × (q ≡ sp.Suffix)) ⊎ (((c ≡ Dot) × (q ≡ sp.Point)) ⊎ ((is_digit c ≡ true) × (q ≡ sp.Whole)))))
zero_next LetterX q e = inl (refl, cc)
zero_next LetterE q e = inr (inl (refl, cc))
zero_next LetterF q e = inr (inr (inl (refl, cc)))
zero_next Dot q e = inr (inr (inr (inl (refl, cc))))
zero_next c q e = let f = from_if (is_digit c) e in inr (inr (inr (inr (f.0, sym f.1))))

pub zero_number : (b : ℕ) (y : List ℕ) → class_of b ≡ Zero → ScalarEnds sp.Zero y → IsUnsigned (b ∷ y)
zero_number b [] i h = unsigned_whole b [] (ap is_digit i) (inl ([], [], refl, tt, g.no_exponent g.no_suffix))
zero_number b (c ∷ y) i (q, e, h) =
    elim (zero_next (class_of c) q e) [
      | inl d ↦ g.hexadecimal y i d.0 (hex_start_ends y (subst (λ p. ScalarEnds p y) d.1 h))
      | inr k ↦ elim k [
        | inl d ↦ unsigned_whole b (c ∷ y) (ap is_digit i) (inl ([], c ∷ y, refl, tt, exponent_ends c y d.0 (subst (λ p. ScalarEnds p y) d.1 h)))
        | inr k ↦ elim k [
          | inl d ↦ unsigned_whole b (c ∷ y) (ap is_digit i) (inl ([], c ∷ y, refl, tt, suffix_is c y d.0 (subst (λ p. ScalarEnds p y) d.1 h)))
          | inr k ↦ elim k [
            | inl d ↦ unsigned_whole b (c ∷ y) (ap is_digit i) (point_whole c y d.0 (subst (λ p. ScalarEnds p y) d.1 h))
            | inr d ↦ unsigned_whole b (c ∷ y) (ap is_digit i) (more_whole c y d.0 (whole_ends y (subst (λ p. ScalarEnds p y) d.1 h)))
          ]
        ]
      ]
    ]

pub digit_number : (b : ℕ) (y : List ℕ) → is_digit (class_of b) ≡ true → ScalarEnds sp.Whole y → IsUnsigned (b ∷ y)
digit_number b y e h = unsigned_whole b y e (whole_ends y h)

pub point_number : (b : ℕ) (y : List ℕ) → class_of b ≡ Dot → ScalarEnds sp.Point y → IsUnsigned (b ∷ y)
point_number b y e h = let r = point_ends y h in subst (λ z. IsUnsigned (b ∷ z)) (sym r.2) (g.point r.0 e r.3 r.4)

minus_next : (c : Class) (q : ScalarPart) → scalar_next sp.Minus c ≡ Some q
    → ((c ≡ Zero) × (q ≡ sp.Zero)) ⊎ (((c ≡ Dot) × (q ≡ sp.Point)) ⊎ ((is_digit c ≡ true) × (q ≡ sp.Whole)))
minus_next Zero q e = inl (refl, cc)
minus_next Dot q e = inr (inl (refl, cc))
minus_next c q e = let f = from_if (is_digit c) e in inr (inr (f.0, sym f.1))

pub minus_number : (b : ℕ) (y : List ℕ) → class_of b ≡ Minus → ScalarEnds sp.Minus y → IsNumber (b ∷ y)
minus_number b [] i h = absurd (let e : false ≡ true = h in cc)
minus_number b (c ∷ y) i (q, e, h) =
    elim (minus_next (class_of c) q e) [
      | inl d ↦ g.negative i (zero_number c y d.0 (subst (λ p. ScalarEnds p y) d.1 h))
      | inr k ↦ elim k [
        | inl d ↦ g.negative i (point_number c y d.0 (subst (λ p. ScalarEnds p y) d.1 h))
        | inr d ↦ g.negative i (digit_number c y d.0 (subst (λ p. ScalarEnds p y) d.1 h))
      ]
    ]
