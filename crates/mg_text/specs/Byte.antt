-- The bytes of a text, by class, and the characters past ASCII.
use Rattle.std.specs.Prelude.{◌≡◌, ℕ, List, [], ◌∷◌, Bool, true, false, ◌||◌, ◌&&◌, ◌==◌, nat_le, nat_lt, if◌then◌else◌, Option, Some, None}
use Rattle.mg_text.specs.declared.parts.Class.{Class}
use Rattle.mg_text.specs.declared.parts.Class.TheVariants.{Blank, LineFeed, Hash, DoubleQuote, SingleQuote, Backslash, Colon, Comma, Semicolon, BraceOpen, BraceClose, AngleOpen, AngleClose, BracketOpen, BracketClose, Minus, Plus, Dot, Slash, Zero, One, OctalDigit, Digit, LetterE, LetterF, HexLetter, LetterX, LetterN, LetterR, LetterT, Letter, Other, Beyond}
use Rattle.mg_text.specs.declared.parts.Tail.{Tail}
use Rattle.mg_text.specs.declared.parts.Tail.TheVariants.{Whole, OneMore, TwoMore, ThreeMore, AfterE0, AfterED, AfterF0, AfterF4}

abbrev pub is_within : ℕ → ℕ → ℕ → Bool
is_within low high b = nat_le low b && nat_le b high

-- the class of a byte below the digits
unfoldable pub below_digits : ℕ → Class
below_digits b =
    if b == 10 then LineFeed
    else (if is_within 9 13 b || b == 32 then Blank
    else (if b == 34 then DoubleQuote
    else (if b == 35 then Hash
    else (if b == 39 then SingleQuote
    else (if b == 43 then Plus
    else (if b == 44 then Comma
    else (if b == 45 then Minus
    else (if b == 46 then Dot
    else (if b == 47 then Slash
    else Other)))))))))

-- the class of a digit, from 48 to 57
unfoldable pub digit_class : ℕ → Class
digit_class b =
    if b == 48 then Zero
    else (if b == 49 then One
    else (if is_within 50 55 b then OctalDigit
    else Digit))

-- the class of a byte from the colon on and before the letter a
unfoldable pub upper_class : ℕ → Class
upper_class b =
    if b == 58 then Colon
    else (if b == 59 then Semicolon
    else (if b == 60 then AngleOpen
    else (if b == 62 then AngleClose
    else (if b == 91 then BracketOpen
    else (if b == 92 then Backslash
    else (if b == 93 then BracketClose
    else (if b == 69 then LetterE
    else (if b == 70 then LetterF
    else (if is_within 65 68 b then HexLetter
    else (if b == 88 then LetterX
    else (if is_within 65 90 b || b == 95 then Letter
    else Other)))))))))))

-- the class of a byte of ASCII from the letter a on
unfoldable pub lower_class : ℕ → Class
lower_class b =
    if b == 123 then BraceOpen
    else (if b == 125 then BraceClose
    else (if b == 101 then LetterE
    else (if b == 102 then LetterF
    else (if is_within 97 100 b then HexLetter
    else (if b == 120 then LetterX
    else (if b == 110 then LetterN
    else (if b == 114 then LetterR
    else (if b == 116 then LetterT
    else (if is_within 97 122 b then Letter
    else Other)))))))))

-- The class of a byte: ASCII, and Beyond from 128 on. White space is the space, the tab, the line feed, the
-- vertical tab, the form feed and the carriage return. The underscore is a letter.
unfoldable pub class_of : ℕ → Class
class_of b =
    if nat_lt b 48 then below_digits b
    else (if nat_lt b 58 then digit_class b
    else (if nat_lt b 97 then upper_class b
    else (if nat_lt b 128 then lower_class b
    else Beyond)))

abbrev pub is_blank : Class → Bool
is_blank Blank = true
is_blank LineFeed = true
is_blank _ = false

abbrev pub is_letter : Class → Bool
is_letter LetterE = true
is_letter LetterF = true
is_letter HexLetter = true
is_letter LetterX = true
is_letter LetterN = true
is_letter LetterR = true
is_letter LetterT = true
is_letter Letter = true
is_letter _ = false

abbrev pub is_octal : Class → Bool
is_octal Zero = true
is_octal One = true
is_octal OctalDigit = true
is_octal _ = false

abbrev pub is_digit : Class → Bool
is_digit Zero = true
is_digit One = true
is_digit OctalDigit = true
is_digit Digit = true
is_digit _ = false

abbrev pub is_hex : Class → Bool
is_hex Zero = true
is_hex One = true
is_hex OctalDigit = true
is_hex Digit = true
is_hex LetterE = true
is_hex LetterF = true
is_hex HexLetter = true
is_hex _ = false

-- whether a byte of this class may stand in a word after its first byte
abbrev pub is_word_byte : Class → Bool
is_word_byte c = is_letter c || is_digit c

-- Whether a byte of this class may not follow a word or a number at once, since it would join it. Such a byte is a
-- letter, a digit or a point.
abbrev pub joins : Class → Bool
joins Dot = true
joins c = is_word_byte c

-- A character past ASCII is UTF-8 (RFC 3629, section 4): a first byte, and the bytes that its row allows. After the
-- first byte, so many bytes from 128 to 191 are awaited, or one byte of a narrower range and then so many bytes.
abbrev pub lead : ℕ → Option Tail
lead b =
    if is_within 194 223 b then Some OneMore
    else (if b == 224 then Some AfterE0
    else (if b == 237 then Some AfterED
    else (if is_within 225 239 b then Some TwoMore
    else (if b == 240 then Some AfterF0
    else (if is_within 241 243 b then Some ThreeMore
    else (if b == 244 then Some AfterF4
    else None))))))

-- what is awaited after one more byte, if the byte may come next
abbrev pub follow : Tail → ℕ → Option Tail
follow Whole b = None
follow OneMore b = if is_within 128 191 b then Some Whole else None
follow TwoMore b = if is_within 128 191 b then Some OneMore else None
follow ThreeMore b = if is_within 128 191 b then Some TwoMore else None
follow AfterE0 b = if is_within 160 191 b then Some OneMore else None
follow AfterED b = if is_within 128 159 b then Some OneMore else None
follow AfterF0 b = if is_within 144 191 b then Some TwoMore else None
follow AfterF4 b = if is_within 128 143 b then Some TwoMore else None

-- The bytes end a character that awaits this.
pub data IsTail : Tail → List ℕ → Type 0 where
  whole : IsTail Whole []
  byte : {t u : Tail} {b : ℕ} {s : List ℕ} → follow t b ≡ Some u → IsTail u s → IsTail t (b ∷ s)
