-- Names, words and numbers of the grammar, part by part.
use Rattle.std.proofs.Common.{◌≡◌, ℕ, List, [], ◌∷◌, ◌++◌, Bool, true, false, cond, Some, None, refl, sym, ap, ◌∙◌, subst, append_assoc}
use Rattle.mg_text.specs.declared.parts.Class.{Class}
use Rattle.mg_text.specs.declared.parts.Class.TheVariants.{BracketOpen, BracketClose, Minus, Plus, Dot, Slash, Zero, LetterE, LetterF, LetterX}
use Rattle.mg_text.specs.declared.state.NamePart.TheVariants as np
use Rattle.mg_text.specs.declared.state.ScalarPart.{ScalarPart}
use Rattle.mg_text.specs.declared.state.ScalarPart.TheVariants as sp
use Rattle.mg_text.specs.Byte.{class_of, is_letter, is_digit, is_hex, is_word_byte}
use Rattle.mg_text.specs.Grammar as g
use Rattle.mg_text.specs.Grammar.{AllOf, Begins, Some1, IsWord, IsPath, IsName, IsNumber, IsUnsigned, IsEnd, IsSign, IsSuffix}
use Rattle.mg_text.specs.Code.Machine.{name_next, scalar_next, is_whole_scalar}
use Rattle.mg_text.proofs.Names.{NameEnds}
use Rattle.mg_text.proofs.Scalars.{ScalarEnds}

if_is : {A : Type 0} (b : Bool) {x : A} → b ≡ true → cond b (Some x) None ≡ Some x
if_is true e = refl
if_is false e = cc

-- names

name_word : (c : Class) → is_word_byte c ≡ true → name_next np.Word c ≡ Some np.Word
name_word c e = if_is (is_word_byte c) e

inner_word : (c : Class) → is_word_byte c ≡ true → name_next np.Inner c ≡ Some np.Inner
inner_word Dot e = cc
inner_word Slash e = cc
inner_word BracketClose e = cc
inner_word c e = if_is (is_word_byte c) e

slash_inner_word : (c : Class) → is_word_byte c ≡ true → name_next np.SlashInner c ≡ Some np.SlashInner
slash_inner_word Dot e = cc
slash_inner_word BracketClose e = cc
slash_inner_word c e = if_is (is_word_byte c) e

word_over : (y : List ℕ) → AllOf is_word_byte y → NameEnds np.Word y
word_over [] h = refl
word_over (b ∷ y) h = (np.Word, name_word (class_of b) h.0, word_over y h.1)

inner_over : (y rest : List ℕ) → AllOf is_word_byte y → NameEnds np.Inner rest → NameEnds np.Inner (y ++ rest)
inner_over [] rest h k = k
inner_over (b ∷ y) rest h k = (np.Inner, inner_word (class_of b) h.0, inner_over y rest h.1 k)

begins_over : (w rest : List ℕ) → IsWord w → NameEnds np.Inner rest → NameEnds np.Begins (w ++ rest)
begins_over [] rest h k = absurd h
begins_over (b ∷ w) rest h k = (np.Inner, if_is (is_letter (class_of b)) h.0, inner_over w rest h.1 k)

path_over : (p rest : List ℕ) → IsPath p → NameEnds np.Inner rest → NameEnds np.Begins (p ++ rest)
path_over p rest (g.last w h) k = begins_over w rest h k
path_over p rest (g.more w b {p = q} h d i) k =
    subst (λ z. NameEnds np.Begins z) (sym (append_assoc w (b ∷ q) rest)) (begins_over w (b ∷ q ++ rest) h (np.Begins, ap (name_next np.Inner) d, path_over q rest i k))

slash_inner_over : (y rest : List ℕ) → AllOf is_word_byte y → NameEnds np.SlashInner rest → NameEnds np.SlashInner (y ++ rest)
slash_inner_over [] rest h k = k
slash_inner_over (b ∷ y) rest h k = (np.SlashInner, slash_inner_word (class_of b) h.0, slash_inner_over y rest h.1 k)

slash_begins_over : (w rest : List ℕ) → IsWord w → NameEnds np.SlashInner rest → NameEnds np.SlashBegins (w ++ rest)
slash_begins_over [] rest h k = absurd h
slash_begins_over (b ∷ w) rest h k = (np.SlashInner, if_is (is_letter (class_of b)) h.0, slash_inner_over w rest h.1 k)

slash_path_over : (p rest : List ℕ) → IsPath p → NameEnds np.SlashInner rest → NameEnds np.SlashBegins (p ++ rest)
slash_path_over p rest (g.last w h) k = slash_begins_over w rest h k
slash_path_over p rest (g.more w b {p = q} h d i) k =
    subst (λ z. NameEnds np.SlashBegins z) (sym (append_assoc w (b ∷ q) rest)) (slash_begins_over w (b ∷ q ++ rest) h (np.SlashBegins, ap (name_next np.SlashInner) d, slash_path_over q rest i k))

-- a name begins with a letter or a bracket, and goes on to its end
pub data NameBegins : List ℕ → Type 0 where
  by_letter : {b : ℕ} {y : List ℕ} → is_letter (class_of b) ≡ true → NameEnds np.Word y → NameBegins (b ∷ y)
  by_bracket : {b : ℕ} {y : List ℕ} → class_of b ≡ BracketOpen → NameEnds np.Begins y → NameBegins (b ∷ y)

word_begins : (w : List ℕ) → IsWord w → NameBegins w
word_begins [] h = absurd h
word_begins (b ∷ w) h = by_letter h.0 (word_over w h.1)

pub name_begins : (n : List ℕ) → IsName n → NameBegins n
name_begins n (g.plain w h) = word_begins w h
name_begins n (g.extension {p = p} c o h k) = by_bracket o (path_over p (c ∷ []) h (np.Closed, ap (name_next np.Inner) k, refl))
name_begins n (g.any {p = p} {q = q} s c o h i j k) =
    by_bracket o (subst (λ z. NameEnds np.Begins z) (sym (append_assoc p (s ∷ q) (c ∷ [])))
    (path_over p (s ∷ q ++ c ∷ []) h (np.SlashBegins, ap (name_next np.Inner) i, slash_path_over q (c ∷ []) j (np.Closed, ap (name_next np.SlashInner) k, refl))))

-- words and numbers

pub word_scalar : (y : List ℕ) → AllOf is_word_byte y → ScalarEnds sp.Word y
word_scalar [] h = refl
word_scalar (b ∷ y) h = (sp.Word, if_is (is_word_byte (class_of b)) h.0, word_scalar y h.1)

hex_over : (y : List ℕ) → AllOf is_hex y → ScalarEnds sp.Hex y
hex_over [] h = refl
hex_over (b ∷ y) h = (sp.Hex, if_is (is_hex (class_of b)) h.0, hex_over y h.1)

hex_start_over : (y : List ℕ) → Some1 is_hex y → ScalarEnds sp.HexStart y
hex_start_over [] h = absurd h
hex_start_over (b ∷ y) h = (sp.Hex, if_is (is_hex (class_of b)) h.0, hex_over y h.1)

whole_digit : (c : Class) → is_digit c ≡ true → scalar_next sp.Whole c ≡ Some sp.Whole
whole_digit LetterE e = cc
whole_digit LetterF e = cc
whole_digit Dot e = cc
whole_digit c e = if_is (is_digit c) e

zero_digit : (c : Class) → is_digit c ≡ true → scalar_next sp.Zero c ≡ Some sp.Whole
zero_digit LetterX e = cc
zero_digit LetterE e = cc
zero_digit LetterF e = cc
zero_digit Dot e = cc
zero_digit c e = if_is (is_digit c) e

fraction_digit : (c : Class) → is_digit c ≡ true → scalar_next sp.Fraction c ≡ Some sp.Fraction
fraction_digit LetterE e = cc
fraction_digit LetterF e = cc
fraction_digit c e = if_is (is_digit c) e

power_digit : (c : Class) → is_digit c ≡ true → scalar_next sp.Power c ≡ Some sp.Power
power_digit LetterF e = cc
power_digit c e = if_is (is_digit c) e

exponent_digit : (c : Class) → is_digit c ≡ true → scalar_next sp.Exponent c ≡ Some sp.Power
exponent_digit Minus e = cc
exponent_digit Plus e = cc
exponent_digit c e = if_is (is_digit c) e

-- digits that leave the part as it is
digits_over : (part : ScalarPart) → ((c : Class) → is_digit c ≡ true → scalar_next part c ≡ Some part) → (d rest : List ℕ) → AllOf is_digit d → ScalarEnds part rest → ScalarEnds part (d ++ rest)
digits_over part stays [] rest h k = k
digits_over part stays (b ∷ d) rest h k = (part, stays (class_of b) h.0, digits_over part stays d rest h.1 k)

-- a digit that leads to such a part, and more
digits_to : (from part : ScalarPart) → ((c : Class) → is_digit c ≡ true → scalar_next from c ≡ Some part) → ((c : Class) → is_digit c ≡ true → scalar_next part c ≡ Some part)
    → (d rest : List ℕ) → Some1 is_digit d → ScalarEnds part rest → ScalarEnds from (d ++ rest)
digits_to from part goes stays [] rest h k = absurd h
digits_to from part goes stays (b ∷ d) rest h k = (part, goes (class_of b) h.0, digits_over part stays d rest h.1 k)

suffix_over : (part : ScalarPart) → is_whole_scalar part ≡ true → scalar_next part LetterF ≡ Some sp.Suffix → (f : List ℕ) → IsSuffix f → ScalarEnds part f
suffix_over part w s f g.no_suffix = w
suffix_over part w s f (g.float k) = (sp.Suffix, ap (scalar_next part) k ∙ s, refl)

power_over : (d f : List ℕ) → Some1 is_digit d → IsSuffix f → (from : ScalarPart) → ((c : Class) → is_digit c ≡ true → scalar_next from c ≡ Some sp.Power) → ScalarEnds from (d ++ f)
power_over d f h i from goes = digits_to from sp.Power goes power_digit d f h (suffix_over sp.Power refl refl f i)

exponent_over : (s d f : List ℕ) → IsSign s → Some1 is_digit d → IsSuffix f → ScalarEnds sp.Exponent (s ++ d ++ f)
exponent_over s d f g.no_sign h i = power_over d f h i sp.Exponent exponent_digit
exponent_over s d f (g.minus k) h i = (sp.Sign, ap (scalar_next sp.Exponent) k, power_over d f h i sp.Sign (λ c e. if_is (is_digit c) e))
exponent_over s d f (g.plus k) h i = (sp.Sign, ap (scalar_next sp.Exponent) k, power_over d f h i sp.Sign (λ c e. if_is (is_digit c) e))

end_over : (part : ScalarPart) → is_whole_scalar part ≡ true → scalar_next part LetterF ≡ Some sp.Suffix → scalar_next part LetterE ≡ Some sp.Exponent → (e : List ℕ) → IsEnd e → ScalarEnds part e
end_over part w s x e (g.no_exponent i) = suffix_over part w s e i
end_over part w s x e (g.exponent {b = b} {s = sign} d {f = f} k h i j) = (sp.Exponent, ap (scalar_next part) k ∙ x, exponent_over sign d f h i j)

point_over : (f e : List ℕ) → Some1 is_digit f → IsEnd e → ScalarEnds sp.Point (f ++ e)
point_over f e h i = digits_to sp.Point sp.Fraction (λ c k. if_is (is_digit c) k) fraction_digit f e h (end_over sp.Fraction refl refl refl e i)

zero_over : (d rest : List ℕ) → AllOf is_digit d → ScalarEnds sp.Zero rest → ScalarEnds sp.Whole rest → ScalarEnds sp.Zero (d ++ rest)
zero_over [] rest h k l = k
zero_over (b ∷ d) rest h k l = (sp.Whole, zero_digit (class_of b) h.0, digits_over sp.Whole whole_digit d rest h.1 l)

-- the part that a first byte of a number begins
abbrev pub first_part : Class → ScalarPart
first_part Minus = sp.Minus
first_part Dot = sp.Point
first_part Zero = sp.Zero
first_part _ = sp.Whole

digit_over : (c : Class) → is_digit c ≡ true → (d rest : List ℕ) → AllOf is_digit d → ScalarEnds sp.Zero rest → ScalarEnds sp.Whole rest → ScalarEnds (first_part c) (d ++ rest)
digit_over Zero e d rest h k l = zero_over d rest h k l
digit_over Minus e d rest h k l = cc
digit_over Dot e d rest h k l = cc
digit_over c e d rest h k l = digits_over sp.Whole whole_digit d rest h l

-- a number with no sign begins with a point or a digit, and goes on to its end
pub data UnsignedBegins : List ℕ → Type 0 where
  by_point : {b : ℕ} {y : List ℕ} → class_of b ≡ Dot → ScalarEnds sp.Point y → UnsignedBegins (b ∷ y)
  by_digit : {b : ℕ} {y : List ℕ} → is_digit (class_of b) ≡ true → ScalarEnds (first_part (class_of b)) y → UnsignedBegins (b ∷ y)

whole_begins : (d e : List ℕ) → Some1 is_digit d → IsEnd e → UnsignedBegins (d ++ e)
whole_begins [] e h i = absurd h
whole_begins (b ∷ d) e h i = by_digit h.0 (digit_over (class_of b) h.0 d e h.1 (end_over sp.Zero refl refl refl e i) (end_over sp.Whole refl refl refl e i))

fraction_begins : (d : List ℕ) (p : ℕ) (f e : List ℕ) → Some1 is_digit d → class_of p ≡ Dot → Some1 is_digit f → IsEnd e → UnsignedBegins (d ++ (p ∷ f ++ e))
fraction_begins [] p f e h k i j = absurd h
fraction_begins (b ∷ d) p f e h k i j =
    by_digit h.0 (digit_over (class_of b) h.0 d (p ∷ f ++ e) h.1
    (sp.Point, ap (scalar_next sp.Zero) k, point_over f e i j) (sp.Point, ap (scalar_next sp.Whole) k, point_over f e i j))

unsigned_begins : (u : List ℕ) → IsUnsigned u → UnsignedBegins u
unsigned_begins u (g.hexadecimal {z = z} {x = x} h i j k) = by_digit (ap is_digit i) (subst (λ c. ScalarEnds (first_part c) (x ∷ h)) (sym i) (sp.HexStart, ap (scalar_next sp.Zero) j, hex_start_over h k))
unsigned_begins u (g.whole d {e = e} h i) = whole_begins d e h i
unsigned_begins u (g.fraction d p f {e = e} h k i j) = subst UnsignedBegins (sym (append_assoc d (p ∷ f) e)) (fraction_begins d p f e h k i j)
unsigned_begins u (g.point f {e = e} k i j) = by_point k (point_over f e i j)

minus_digit : (c : Class) → is_digit c ≡ true → scalar_next sp.Minus c ≡ Some (first_part c)
minus_digit Zero e = refl
minus_digit Minus e = cc
minus_digit Dot e = cc
minus_digit c e = if_is (is_digit c) e

-- a number begins with a minus, a point or a digit, and goes on to its end
pub data NumberBegins : List ℕ → Type 0 where
  by_minus : {b : ℕ} {y : List ℕ} → class_of b ≡ Minus → ScalarEnds sp.Minus y → NumberBegins (b ∷ y)
  with_no_sign : {u : List ℕ} → UnsignedBegins u → NumberBegins u

after_minus : (b : ℕ) (y : List ℕ) → class_of b ≡ Minus → UnsignedBegins y → NumberBegins (b ∷ y)
after_minus b y k (by_point i h) = by_minus k (sp.Point, ap (scalar_next sp.Minus) i, h)
after_minus b y k (by_digit {b = c} i h) = by_minus k (first_part (class_of c), minus_digit (class_of c) i, h)

pub number_begins : (u : List ℕ) → IsNumber u → NumberBegins u
number_begins u (g.unsigned h) = with_no_sign (unsigned_begins u h)
number_begins u (g.negative {b = b} {s = s} k h) = after_minus b s k (unsigned_begins s h)
