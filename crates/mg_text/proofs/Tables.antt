-- The parser's tables are held against the definitions at each byte, by computing.
use Rattle.std.proofs.Common.{◌≡◌, ℕ, zero, suc, ◌<◌, Bool, true, false, ◌&&◌, ◌==◌, not, nat_eq, bit_and, get_or, slice_index_or, if◌then◌else◌, refl, sym, ap, ◌∙◌, arith, inl, inr}
use Rattle.std.proofs.lemmas.Bool.{cases_eq, eqb-true}
use Rattle.mg_text.specs.declared.parts.Class.{Class}
use Rattle.mg_text.specs.declared.parts.Class.TheVariants.{Blank, LineFeed, Hash, DoubleQuote, SingleQuote, Backslash, Colon, Comma, Semicolon, BraceOpen, BraceClose, AngleOpen, AngleClose, BracketOpen, BracketClose, Minus, Plus, Dot, Slash, Zero, One, OctalDigit, Digit, LetterE, LetterF, HexLetter, LetterX, LetterN, LetterR, LetterT, Letter, Other, Beyond}
use Rattle.mg_text.specs.declared.parts.Quote.TheVariants.{Single, Double}
use Rattle.mg_text.specs.declared.state.Run.{Run}
use Rattle.mg_text.specs.declared.state.Run.TheVariants as run
use Rattle.mg_text.specs.declared.table.TheConstants.{CLASSES}
use Rattle.mg_text.specs.declared.plain.TheConstants.{RUNS}
use Rattle.mg_text.specs.Byte.{class_of, below_digits, digit_class, upper_class, lower_class}
use Rattle.mg_text.specs.Code.Plain.{lengthens, flag_of}

-- two functions are the same below n
agree_below : (ℕ → ℕ) → (ℕ → ℕ) → ℕ → Bool
agree_below f g zero = true
agree_below f g (suc n) = (f n == g n) && agree_below f g n

both_of : (x y : Bool) → (x && y) ≡ true → (x ≡ true) × (y ≡ true)
both_of true y h = (refl, h)
both_of false y h = cc

agree_at : (f g : ℕ → ℕ) (n : ℕ) → agree_below f g n ≡ true → (b : ℕ) → b < n → f b ≡ g b
unfolding agree_below
agree_at f g zero h b lt = absurd (omega arith)
agree_at f g (suc n) h b lt =
    let both = both_of (f n == g n) (agree_below f g n) h in
    elim (cases_eq b n) [ inl same ↦ rw same (eqb-true (f n) (g n) both.0) | inr other ↦ agree_at f g n both.1 b (omega arith) ]

-- the classes by numbers
number : Class → ℕ
number Blank = 0
number LineFeed = 1
number Hash = 2
number DoubleQuote = 3
number SingleQuote = 4
number Backslash = 5
number Colon = 6
number Comma = 7
number Semicolon = 8
number BraceOpen = 9
number BraceClose = 10
number AngleOpen = 11
number AngleClose = 12
number BracketOpen = 13
number BracketClose = 14
number Minus = 15
number Plus = 16
number Dot = 17
number Slash = 18
number Zero = 19
number One = 20
number OctalDigit = 21
number Digit = 22
number LetterE = 23
number LetterF = 24
number HexLetter = 25
number LetterX = 26
number LetterN = 27
number LetterR = 28
number LetterT = 29
number Letter = 30
number Other = 31
number Beyond = 32

numbered : ℕ → Class
numbered n =
    if n == 0 then Blank
    else (if n == 1 then LineFeed
    else (if n == 2 then Hash
    else (if n == 3 then DoubleQuote
    else (if n == 4 then SingleQuote
    else (if n == 5 then Backslash
    else (if n == 6 then Colon
    else (if n == 7 then Comma
    else (if n == 8 then Semicolon
    else (if n == 9 then BraceOpen
    else (if n == 10 then BraceClose
    else (if n == 11 then AngleOpen
    else (if n == 12 then AngleClose
    else (if n == 13 then BracketOpen
    else (if n == 14 then BracketClose
    else (if n == 15 then Minus
    else (if n == 16 then Plus
    else (if n == 17 then Dot
    else (if n == 18 then Slash
    else (if n == 19 then Zero
    else (if n == 20 then One
    else (if n == 21 then OctalDigit
    else (if n == 22 then Digit
    else (if n == 23 then LetterE
    else (if n == 24 then LetterF
    else (if n == 25 then HexLetter
    else (if n == 26 then LetterX
    else (if n == 27 then LetterN
    else (if n == 28 then LetterR
    else (if n == 29 then LetterT
    else (if n == 30 then Letter
    else (if n == 31 then Other
    else Beyond)))))))))))))))))))))))))))))))

again : (c : Class) → numbered (number c) ≡ c
unfolding number numbered
again Blank = refl
again c = refl

same_class : (c d : Class) → number c ≡ number d → c ≡ d
same_class c d e = sym (again c) ∙ ap numbered e ∙ again d

-- the class of a byte of ASCII stands in its table
pub class_in_table : (b : ℕ) → b < 128 → slice_index_or CLASSES b Blank ≡ class_of b
unfolding agree_below number class_of below_digits digit_class upper_class lower_class
class_in_table b lt = same_class _ _ (agree_at (λ k. number (slice_index_or CLASSES k Blank)) (λ k. number (class_of k)) 128 refl b lt)

-- whether the flag of a run stands at a byte
abbrev pub has_flag : ℕ → ℕ → Bool
has_flag flag b = not (nat_eq (bit_and (get_or RUNS b 0) flag) 0)

as_number : Bool → ℕ
as_number true = 1
as_number false = 0

same_bool : (x y : Bool) → as_number x ≡ as_number y → x ≡ y
unfolding as_number
same_bool true true e = refl
same_bool false false e = refl
same_bool true false e = absurd (omega (arith, e))
same_bool false true e = absurd (omega (arith, e))

flag_at : (run : Run) (b : ℕ) → b < 256 → agree_below (λ k. as_number (has_flag (flag_of run) k)) (λ k. as_number (lengthens run (class_of k))) 256 ≡ true
    → has_flag (flag_of run) b ≡ lengthens run (class_of b)
flag_at run b lt all = same_bool _ _ (agree_at _ _ 256 all b lt)

-- the flag of a run stands at the bytes that lengthen it
pub flag_in_table : (r : Run) (b : ℕ) → b < 256 → has_flag (flag_of r) b ≡ lengthens r (class_of b)
unfolding agree_below as_number class_of below_digits digit_class upper_class lower_class
flag_in_table run.Blank b lt = flag_at run.Blank b lt refl
flag_in_table run.Comment b lt = flag_at run.Comment b lt refl
flag_in_table run.Word b lt = flag_at run.Word b lt refl
flag_in_table (run.Piece Single) b lt = flag_at (run.Piece Single) b lt refl
flag_in_table (run.Piece Double) b lt = flag_at (run.Piece Double) b lt refl
