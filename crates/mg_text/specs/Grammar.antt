-- The grammar of the text form, after the Protocol Buffers text format language specification, in the profile that
-- docs/TEXT_FORMAT.md explains.
use Rattle.std.specs.Prelude.{◌≡◌, ℕ, ◌+◌, ◌-◌, ◌*◌, List, [], ◌∷◌, ◌++◌, Bool, true, false, Option, Some, None}
use Rattle.mg_text.specs.declared.parts.Class.{Class}
use Rattle.mg_text.specs.declared.parts.Class.TheVariants.{LineFeed, Hash, DoubleQuote, SingleQuote, Backslash, Colon, Comma, Semicolon, BraceOpen, BraceClose, AngleOpen, AngleClose, BracketOpen, BracketClose, Minus, Plus, Dot, Slash, Zero, One, LetterE, LetterF, LetterX, LetterN, LetterR, LetterT, Beyond}
use Rattle.mg_text.specs.declared.parts.Mark.{Mark}
use Rattle.mg_text.specs.declared.parts.Mark.TheVariants.{Brace, Angle}
use Rattle.mg_text.specs.declared.parts.Quote.{Quote}
use Rattle.mg_text.specs.declared.parts.Quote.TheVariants.{Single, Double}
use Rattle.mg_text.specs.declared.parts.Slot.{Slot}
use Rattle.mg_text.specs.declared.parts.Slot.TheVariants.{One as OneValue, Scalars, Messages}
use Rattle.mg_text.specs.declared.parts.Tail.{Tail}
use Rattle.mg_text.specs.Byte.{class_of, is_blank, is_letter, is_octal, is_digit, is_hex, is_word_byte, joins, lead, IsTail}
use Rattle.mg_text.specs.Tree.{word, number, quoted, Fields, none, scalar, message}

-- The bytes are all of these classes.
abbrev pub AllOf : (Class → Bool) → List ℕ → Type 0
AllOf test [] = Unit {0}
AllOf test (b ∷ bs) = (test (class_of b) ≡ true) × AllOf test bs

-- The first byte is of one of these classes, and the others are of one of those.
abbrev pub Begins : (Class → Bool) → (Class → Bool) → List ℕ → Type 0
Begins first more [] = ⊥
Begins first more (b ∷ bs) = (first (class_of b) ≡ true) × AllOf more bs

-- There is at least one byte, and all are of these classes.
abbrev pub Some1 : (Class → Bool) → List ℕ → Type 0
Some1 test = Begins test test

-- a letter, and letters and digits
abbrev pub IsWord : List ℕ → Type 0
IsWord = Begins is_letter is_word_byte

-- words joined by points
pub data IsPath : List ℕ → Type 0 where
  last : (w : List ℕ) → IsWord w → IsPath w
  more : (w : List ℕ) (b : ℕ) {p : List ℕ} → IsWord w → class_of b ≡ Dot → IsPath p → IsPath (w ++ b ∷ p)

-- A name is a word. The name of an extension is a path in brackets. The name of an Any is two paths in brackets, with a
-- slash between them. Nothing else stands in the brackets.
pub data IsName : List ℕ → Type 0 where
  plain : (w : List ℕ) → IsWord w → IsName w
  extension : {p : List ℕ} {o : ℕ} (c : ℕ) → class_of o ≡ BracketOpen → IsPath p → class_of c ≡ BracketClose → IsName (o ∷ p ++ c ∷ [])
  any : {p q : List ℕ} {o : ℕ} (s c : ℕ) → class_of o ≡ BracketOpen → IsPath p → class_of s ≡ Slash → IsPath q → class_of c ≡ BracketClose
      → IsName (o ∷ p ++ s ∷ q ++ c ∷ [])

-- one sign or none
pub data IsSign : List ℕ → Type 0 where
  no_sign : IsSign []
  minus : {b : ℕ} → class_of b ≡ Minus → IsSign (b ∷ [])
  plus : {b : ℕ} → class_of b ≡ Plus → IsSign (b ∷ [])

-- an f or F, or nothing
pub data IsSuffix : List ℕ → Type 0 where
  no_suffix : IsSuffix []
  float : {b : ℕ} → class_of b ≡ LetterF → IsSuffix (b ∷ [])

-- how a number that isn't hexadecimal ends: with an exponent or without, with an f or without
pub data IsEnd : List ℕ → Type 0 where
  no_exponent : {f : List ℕ} → IsSuffix f → IsEnd f
  exponent : {b : ℕ} {s : List ℕ} (d : List ℕ) {f : List ℕ} → class_of b ≡ LetterE → IsSign s → Some1 is_digit d → IsSuffix f → IsEnd (b ∷ s ++ d ++ f)

pub data IsUnsigned : List ℕ → Type 0 where
  hexadecimal : {z x : ℕ} (h : List ℕ) → class_of z ≡ Zero → class_of x ≡ LetterX → Some1 is_hex h → IsUnsigned (z ∷ x ∷ h)
  whole : (d : List ℕ) {e : List ℕ} → Some1 is_digit d → IsEnd e → IsUnsigned (d ++ e)
  fraction : (d : List ℕ) (p : ℕ) (f : List ℕ) {e : List ℕ} → Some1 is_digit d → class_of p ≡ Dot → Some1 is_digit f → IsEnd e → IsUnsigned (d ++ p ∷ f ++ e)
  point : {p : ℕ} (f : List ℕ) {e : List ℕ} → class_of p ≡ Dot → Some1 is_digit f → IsEnd e → IsUnsigned (p ∷ f ++ e)

pub data IsNumber : List ℕ → Type 0 where
  unsigned : {s : List ℕ} → IsUnsigned s → IsNumber s
  negative : {b : ℕ} {s : List ℕ} → class_of b ≡ Minus → IsUnsigned s → IsNumber (b ∷ s)

-- a byte of a comment: ASCII, and no line feed
abbrev pub in_line : Class → Bool
in_line LineFeed = false
in_line Beyond = false
in_line _ = true

-- a comment after its #, up to its line feed
pub data IsLine : List ℕ → Type 0 where
  line_feed : {b : ℕ} → class_of b ≡ LineFeed → IsLine (b ∷ [])
  ascii : {b : ℕ} {l : List ℕ} → in_line (class_of b) ≡ true → IsLine l → IsLine (b ∷ l)
  beyond : {b : ℕ} {t : Tail} {s l : List ℕ} → lead b ≡ Some t → IsTail t s → IsLine l → IsLine (b ∷ s ++ l)

-- what may stand between tokens: a byte of white space, or a comment
pub data IsGap : List ℕ → Type 0 where
  blank : {b : ℕ} → is_blank (class_of b) ≡ true → IsGap (b ∷ [])
  comment : {b : ℕ} {l : List ℕ} → class_of b ≡ Hash → IsLine l → IsGap (b ∷ l)

abbrev pub quote_class : Quote → Class
quote_class Single = SingleQuote
quote_class Double = DoubleQuote

-- a byte that stands for itself in a piece: ASCII, but its quote, a backslash and a line feed
abbrev pub in_piece : Quote → Class → Bool
in_piece Single SingleQuote = false
in_piece Double DoubleQuote = false
in_piece q Backslash = false
in_piece q LineFeed = false
in_piece q Beyond = false
in_piece q _ = true

-- the byte that a letter or a mark stands for after a backslash
abbrev pub escaped : Class → Option ℕ
escaped LetterN = Some 10
escaped LetterT = Some 9
escaped LetterR = Some 13
escaped Backslash = Some 92
escaped SingleQuote = Some 39
escaped DoubleQuote = Some 34
escaped _ = None

-- the first digit of an octal escape, which is at most \177
abbrev pub is_first_octal : Class → Bool
is_first_octal Zero = true
is_first_octal One = true
is_first_octal _ = false

abbrev pub octal : ℕ → ℕ → ℕ → ℕ
octal a b c = 8 * (8 * (a - 48) + (b - 48)) + (c - 48)

-- a piece of a string after its first quote, up to its last, and the bytes that it stands for
pub data IsContent (q : Quote) : List ℕ → List ℕ → Type 0 where
  closes : {b : ℕ} → class_of b ≡ quote_class q → IsContent q (b ∷ []) []
  ascii : {b : ℕ} {s d : List ℕ} → in_piece q (class_of b) ≡ true → IsContent q s d → IsContent q (b ∷ s) (b ∷ d)
  beyond : {b : ℕ} {t : Tail} {u s d : List ℕ} → lead b ≡ Some t → IsTail t u → IsContent q s d → IsContent q (b ∷ u ++ s) (b ∷ u ++ d)
  escape : {b c v : ℕ} {s d : List ℕ} → class_of b ≡ Backslash → escaped (class_of c) ≡ Some v → IsContent q s d → IsContent q (b ∷ c ∷ s) (v ∷ d)
  octal_escape : {b i j k : ℕ} {s d : List ℕ} → class_of b ≡ Backslash → is_first_octal (class_of i) ≡ true → is_octal (class_of j) ≡ true
      → is_octal (class_of k) ≡ true → IsContent q s d → IsContent q (b ∷ i ∷ j ∷ k ∷ s) (octal i j k ∷ d)

-- The first byte, if there is one, wouldn't join a word or a number before it.
abbrev pub Apart : List ℕ → Type 0
Apart [] = Unit {0}
Apart (b ∷ bs) = joins (class_of b) ≡ false

abbrev pub opening : Mark → Class
opening Brace = BraceOpen
opening Angle = AngleOpen

abbrev pub closing : Mark → Class
closing Brace = BraceClose
closing Angle = AngleClose

-- The places of a text between its tokens.
pub data Place : Type 0 where
  -- where a field may begin, or the message may end; and whether a separator may come before
  start : Bool → Place
  -- after the name of a field
  named : List ℕ → Place
  -- after the colon
  valued : List ℕ → Place
  -- after the bracket that opens a list; and whether a colon is before it
  opened : List ℕ → Bool → Place
  -- after the comma of a list of scalars (false) or of messages (true)
  element : List ℕ → Bool → Place
  -- after an element of a list of scalars (false) or of messages (true)
  behind : List ℕ → Bool → Place
  -- after a piece of a string, with the bytes of the string so far
  joined : List ℕ → Slot → List ℕ → Place

-- the place after a value
abbrev pub after : List ℕ → Slot → Place
after n OneValue = start true
after n Scalars = behind n false
after n Messages = behind n true

-- Where a word, a number or a string may stand: the field's name, and what it stands in.
abbrev pub scalar_slot : Place → Option (List ℕ × Slot)
scalar_slot (valued n) = Some (n, OneValue)
scalar_slot (opened n true) = Some (n, Scalars)
scalar_slot (element n false) = Some (n, Scalars)
scalar_slot _ = None

-- where a message may stand: the field's name, and what it stands in
abbrev pub message_slot : Place → Option (List ℕ × Slot)
message_slot (named n) = Some (n, OneValue)
message_slot (valued n) = Some (n, OneValue)
message_slot (opened n c) = Some (n, Messages)
message_slot (element n true) = Some (n, Messages)
message_slot _ = None

-- where a piece of a string may stand: the field's name, what it stands in, and the bytes of the string so far
abbrev pub piece_slot : Place → Option (List ℕ × Slot × List ℕ)
piece_slot (valued n) = Some (n, OneValue, [])
piece_slot (opened n true) = Some (n, Scalars, [])
piece_slot (element n false) = Some (n, Scalars, [])
piece_slot (joined n s sofar) = Some (n, s, sofar)
piece_slot _ = None

-- where a list may stand: the field's name, and whether a colon is before it
abbrev pub list_slot : Place → Option (List ℕ × Bool)
list_slot (named n) = Some (n, false)
list_slot (valued n) = Some (n, true)
list_slot _ = None

-- whether a list may end at a place: at once, or after an element
abbrev pub list_ends : Place → Bool
list_ends (opened n c) = true
list_ends (behind n m) = true
list_ends _ = false

abbrev pub is_separator : Class → Bool
is_separator Comma = true
is_separator Semicolon = true
is_separator _ = false

-- From a place on, up to the end of the message or of the file, these bytes may stand. They stand for these fields.
-- White space and comments may stand anywhere between tokens. A list stands for fields of one name.
pub data Stands : Place → List ℕ → Fields → Type 0 where
  ends : {f : Bool} → Stands (start f) [] none
  gap : {p : Place} {g w : List ℕ} {t : Fields} → IsGap g → Stands p w t → Stands p (g ++ w) t
  separator : {b : ℕ} {w : List ℕ} {t : Fields} → is_separator (class_of b) ≡ true → Stands (start false) w t → Stands (start true) (b ∷ w) t
  name : {f : Bool} {n w : List ℕ} {t : Fields} → IsName n → Apart w → Stands (named n) w t → Stands (start f) (n ++ w) t
  colon : {b : ℕ} {n w : List ℕ} {t : Fields} → class_of b ≡ Colon → Stands (valued n) w t → Stands (named n) (b ∷ w) t
  list : {p : Place} {b : ℕ} {n w : List ℕ} {c : Bool} {t : Fields} → list_slot p ≡ Some (n, c) → class_of b ≡ BracketOpen
      → Stands (opened n c) w t → Stands p (b ∷ w) t
  list_end : {p : Place} {b : ℕ} {w : List ℕ} {t : Fields} → list_ends p ≡ true → class_of b ≡ BracketClose → Stands (start true) w t → Stands p (b ∷ w) t
  comma : {b : ℕ} {n w : List ℕ} {m : Bool} {t : Fields} → class_of b ≡ Comma → Stands (element n m) w t → Stands (behind n m) (b ∷ w) t
  a_word : {p : Place} {n : List ℕ} (u : List ℕ) {w : List ℕ} {s : Slot} {t : Fields} → scalar_slot p ≡ Some (n, s) → IsWord u → Apart w
      → Stands (after n s) w t → Stands p (u ++ w) (scalar n word u t)
  a_number : {p : Place} {n u w : List ℕ} {s : Slot} {t : Fields} → scalar_slot p ≡ Some (n, s) → IsNumber u → Apart w
      → Stands (after n s) w t → Stands p (u ++ w) (scalar n number u t)
  piece : {p : Place} {b : ℕ} {n sofar u d w : List ℕ} {s : Slot} {q : Quote} {t : Fields} → piece_slot p ≡ Some (n, s, sofar)
      → class_of b ≡ quote_class q → IsContent q u d → Stands (joined n s (sofar ++ d)) w t → Stands p (b ∷ u ++ w) t
  a_string : {n w d : List ℕ} {s : Slot} {t : Fields} → Stands (after n s) w t → Stands (joined n s d) w (scalar n quoted d t)
  a_message : {p : Place} {o : ℕ} (c : ℕ) {n u w : List ℕ} {s : Slot} (m : Mark) {x t : Fields} → message_slot p ≡ Some (n, s) → class_of o ≡ opening m
      → Stands (start false) u x → class_of c ≡ closing m → Stands (after n s) w t → Stands p (o ∷ u ++ c ∷ w) (message n x t)

-- A text: what may stand from the start of a file to its end. A comment may run to the end of the file: it is read as
-- if a line feed stood there, which changes nothing else.
abbrev pub Gives : List ℕ → Fields → Type 0
Gives text t = Stands (start false) (text ++ 10 ∷ []) t
