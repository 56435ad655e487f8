-- How a text is read byte by byte, with a stack of the open messages. The grammar doesn't need this page: the parser's
-- own functions cite it, and proofs/ ties it to the grammar.
use Rattle.std.specs.Prelude.{ℕ, ◌+◌, ◌-◌, ◌*◌, ◌%◌, List, [], ◌∷◌, ◌++◌, Bool, true, false, not, ◌&&◌, if◌then◌else◌, Option, Some, None, option_and_then}
use Rattle.std.specs.Option.{option_map}
use Rattle.mg_text.specs.declared.parts.Class.{Class}
use Rattle.mg_text.specs.declared.parts.Class.TheVariants.{Blank, LineFeed, Hash, DoubleQuote, SingleQuote, Backslash, Colon, Comma, Semicolon, BraceOpen, BraceClose, AngleOpen, AngleClose, BracketOpen, BracketClose, Minus, Plus, Dot, Slash, Zero, One, OctalDigit, Digit, LetterE, LetterF, HexLetter, LetterX, LetterN, LetterR, LetterT, Letter, Beyond}
use Rattle.mg_text.specs.declared.parts.Mark.{Mark}
use Rattle.mg_text.specs.declared.parts.Mark.TheVariants.{Brace, Angle}
use Rattle.mg_text.specs.declared.parts.Quote.{Quote}
use Rattle.mg_text.specs.declared.parts.Quote.TheVariants.{Single, Double}
use Rattle.mg_text.specs.declared.parts.Slot.{Slot}
use Rattle.mg_text.specs.declared.parts.Tail.{Tail}
use Rattle.mg_text.specs.declared.parts.Tail.TheVariants.{Whole}
use Rattle.mg_text.specs.declared.state.NamePart.{NamePart}
use Rattle.mg_text.specs.declared.state.NamePart.TheVariants as np
use Rattle.mg_text.specs.declared.state.ScalarPart.{ScalarPart}
use Rattle.mg_text.specs.declared.state.ScalarPart.TheVariants as sp
use Rattle.mg_text.specs.declared.state.Inside.{Inside}
use Rattle.mg_text.specs.declared.state.Inside.TheVariants.{Plain, Escape, Second, Third}
use Rattle.mg_text.specs.Byte.{class_of, is_letter, is_octal, is_digit, is_hex, is_word_byte, joins, lead, follow}
use Rattle.mg_text.specs.Grammar.{Place, start, named, valued, opened, element, behind, joined, after, scalar_slot, message_slot, piece_slot, list_slot, list_ends, in_piece, escaped, is_first_octal}
use Rattle.mg_text.specs.Tree.{Kind, word, number, quoted, Fields, none, scalar, message, append}

abbrev pub name_next : NamePart → Class → Option NamePart
name_next np.Word c = if is_word_byte c then Some np.Word else None
name_next np.Begins c = if is_letter c then Some np.Inner else None
name_next np.Inner Dot = Some np.Begins
name_next np.Inner Slash = Some np.SlashBegins
name_next np.Inner BracketClose = Some np.Closed
name_next np.Inner c = if is_word_byte c then Some np.Inner else None
name_next np.SlashBegins c = if is_letter c then Some np.SlashInner else None
name_next np.SlashInner Dot = Some np.SlashBegins
name_next np.SlashInner BracketClose = Some np.Closed
name_next np.SlashInner c = if is_word_byte c then Some np.SlashInner else None
name_next np.Closed c = None

abbrev pub is_whole_name : NamePart → Bool
is_whole_name np.Word = true
is_whole_name np.Closed = true
is_whole_name _ = false

abbrev pub scalar_next : ScalarPart → Class → Option ScalarPart
scalar_next sp.Word c = if is_word_byte c then Some sp.Word else None
scalar_next sp.Minus Zero = Some sp.Zero
scalar_next sp.Minus Dot = Some sp.Point
scalar_next sp.Minus c = if is_digit c then Some sp.Whole else None
scalar_next sp.Zero LetterX = Some sp.HexStart
scalar_next sp.Zero LetterE = Some sp.Exponent
scalar_next sp.Zero LetterF = Some sp.Suffix
scalar_next sp.Zero Dot = Some sp.Point
scalar_next sp.Zero c = if is_digit c then Some sp.Whole else None
scalar_next sp.Whole LetterE = Some sp.Exponent
scalar_next sp.Whole LetterF = Some sp.Suffix
scalar_next sp.Whole Dot = Some sp.Point
scalar_next sp.Whole c = if is_digit c then Some sp.Whole else None
scalar_next sp.Point c = if is_digit c then Some sp.Fraction else None
scalar_next sp.Fraction LetterE = Some sp.Exponent
scalar_next sp.Fraction LetterF = Some sp.Suffix
scalar_next sp.Fraction c = if is_digit c then Some sp.Fraction else None
scalar_next sp.Exponent Minus = Some sp.Sign
scalar_next sp.Exponent Plus = Some sp.Sign
scalar_next sp.Exponent c = if is_digit c then Some sp.Power else None
scalar_next sp.Sign c = if is_digit c then Some sp.Power else None
scalar_next sp.Power LetterF = Some sp.Suffix
scalar_next sp.Power c = if is_digit c then Some sp.Power else None
scalar_next sp.HexStart c = if is_hex c then Some sp.Hex else None
scalar_next sp.Hex c = if is_hex c then Some sp.Hex else None
scalar_next sp.Suffix c = None

abbrev pub is_whole_scalar : ScalarPart → Bool
is_whole_scalar sp.Word = true
is_whole_scalar sp.Zero = true
is_whole_scalar sp.Whole = true
is_whole_scalar sp.Fraction = true
is_whole_scalar sp.Power = true
is_whole_scalar sp.Hex = true
is_whole_scalar sp.Suffix = true
is_whole_scalar _ = false

abbrev pub kind_of : ScalarPart → Kind
kind_of sp.Word = word
kind_of _ = number

-- what is being read: nothing, at a place; a comment there; a name; a word or a number; or a piece of a string
pub data Spot : Type 0 where
  at : Place → Spot
  comment : Place → Tail → Spot
  naming : NamePart → List ℕ → Spot
  token : List ℕ → Slot → ScalarPart → List ℕ → Spot
  piece : List ℕ → Slot → List ℕ → Quote → Inside → Spot

-- an open message: the fields before it, its name, where it stands, and its mark
pub record Frame : Type 0 where
  pub before : Fields
  pub name : List ℕ
  pub slot : Slot
  pub mark : Mark

pub record State : Type 0 where
  pub done : Fields
  pub frames : List Frame
  pub spot : Spot

abbrev pub begin : State
begin = record { done = none; frames = []; spot = at (start false) }

abbrev pub moves : State → Option Spot → Option State
moves s None = None
moves s (Some spot) = Some (record { done = s.done; frames = s.frames; spot = spot })

abbrev pub moved : State → Place → State
moved s p = record { done = s.done; frames = s.frames; spot = at p }

-- the state with one more scalar, at the place after it
abbrev pub with_scalar : State → List ℕ → Slot → Kind → List ℕ → State
with_scalar s n slot kind bytes = record { done = append s.done (scalar n kind bytes none); frames = s.frames; spot = at (after n slot) }

-- the state at a place where no further piece of a string follows, so that a string there is whole
abbrev pub settled : State → Place → State
settled s (joined n slot bytes) = with_scalar s n slot quoted bytes
settled s p = moved s p

abbrev pub settled_place : Place → Place
settled_place (joined n slot bytes) = after n slot
settled_place p = p

abbrev pub opens_at : State → Mark → Option (List ℕ × Slot) → Option State
opens_at s m None = None
opens_at s m (Some at_slot) =
    Some (record { done = none; frames = record { before = s.done; name = at_slot.0; slot = at_slot.1; mark = m } ∷ s.frames; spot = at (start false) })

abbrev pub same_mark : Mark → Mark → Bool
same_mark Brace Brace = true
same_mark Angle Angle = true
same_mark _ _ = false

abbrev pub resumed : Fields → Frame → List Frame → State
resumed done f fs = record { done = append f.before (message f.name done none); frames = fs; spot = at (after f.name f.slot) }

abbrev pub closes_with : Fields → Mark → List Frame → Option State
closes_with fields m [] = None
closes_with fields m (f ∷ fs) = if same_mark f.mark m then Some (resumed fields f fs) else None

abbrev pub closes_at : State → Mark → Place → Option State
closes_at s m (start separator) = closes_with s.done m s.frames
closes_at s m _ = None

abbrev pub colon_spot : Place → Option Spot
colon_spot (named n) = Some (at (valued n))
colon_spot _ = None

abbrev pub comma_spot : Place → Option Spot
comma_spot (start true) = Some (at (start false))
comma_spot (behind n m) = Some (at (element n m))
comma_spot _ = None

abbrev pub semicolon_spot : Place → Option Spot
semicolon_spot (start true) = Some (at (start false))
semicolon_spot _ = None

abbrev pub list_spot : Option (List ℕ × Bool) → Option Spot
list_spot None = None
list_spot (Some list) = Some (at (opened list.0 list.1))

abbrev pub bracket_spot : Place → ℕ → Option Spot
bracket_spot (start separator) b = Some (naming np.Begins (b ∷ []))
bracket_spot p b = list_spot (list_slot p)

abbrev pub list_end_spot : Place → Option Spot
list_end_spot p = if list_ends p then Some (at (start true)) else None

abbrev pub token_spot : ScalarPart → ℕ → Option (List ℕ × Slot) → Option Spot
token_spot part b None = None
token_spot part b (Some slot) = Some (token slot.0 slot.1 part (b ∷ []))

abbrev pub letter_spot : Place → ℕ → Option Spot
letter_spot (start separator) b = Some (naming np.Word (b ∷ []))
letter_spot p b = token_spot sp.Word b (scalar_slot p)

abbrev pub quote_spot : Quote → Option (List ℕ × Slot × List ℕ) → Option Spot
quote_spot q None = None
quote_spot q (Some slot) = Some (piece slot.0 slot.1 slot.2 q (Plain Whole))

abbrev pub step_settled : State → Place → Class → ℕ → Option State
step_settled s p Colon b = moves s (colon_spot p)
step_settled s p Comma b = moves s (comma_spot p)
step_settled s p Semicolon b = moves s (semicolon_spot p)
step_settled s p BraceOpen b = opens_at s Brace (message_slot p)
step_settled s p AngleOpen b = opens_at s Angle (message_slot p)
step_settled s p BraceClose b = closes_at s Brace p
step_settled s p AngleClose b = closes_at s Angle p
step_settled s p BracketOpen b = moves s (bracket_spot p b)
step_settled s p BracketClose b = moves s (list_end_spot p)
step_settled s p Minus b = moves s (token_spot sp.Minus b (scalar_slot p))
step_settled s p Dot b = moves s (token_spot sp.Point b (scalar_slot p))
step_settled s p Zero b = moves s (token_spot sp.Zero b (scalar_slot p))
step_settled s p One b = moves s (token_spot sp.Whole b (scalar_slot p))
step_settled s p OctalDigit b = moves s (token_spot sp.Whole b (scalar_slot p))
step_settled s p Digit b = moves s (token_spot sp.Whole b (scalar_slot p))
step_settled s p LetterE b = moves s (letter_spot p b)
step_settled s p LetterF b = moves s (letter_spot p b)
step_settled s p HexLetter b = moves s (letter_spot p b)
step_settled s p LetterX b = moves s (letter_spot p b)
step_settled s p LetterN b = moves s (letter_spot p b)
step_settled s p LetterR b = moves s (letter_spot p b)
step_settled s p LetterT b = moves s (letter_spot p b)
step_settled s p Letter b = moves s (letter_spot p b)
step_settled s p _ b = None

abbrev pub step_at : State → Place → Class → ℕ → Option State
step_at s p Blank b = moves s (Some (at p))
step_at s p LineFeed b = moves s (Some (at p))
step_at s p Hash b = moves s (Some (comment p Whole))
step_at s p SingleQuote b = moves s (quote_spot Single (piece_slot p))
step_at s p DoubleQuote b = moves s (quote_spot Double (piece_slot p))
step_at s p c b = step_settled (settled s p) (settled_place p) c b

abbrev pub awaits : Place → Option Tail → Option Spot
awaits p None = None
awaits p (Some t) = Some (comment p t)

abbrev pub comment_spot : Place → Tail → Class → ℕ → Option Spot
comment_spot p Whole LineFeed b = Some (at p)
comment_spot p Whole Beyond b = awaits p (lead b)
comment_spot p Whole _ b = Some (comment p Whole)
comment_spot p t c b = awaits p (follow t b)

abbrev pub step_naming : State → NamePart → List ℕ → Class → ℕ → Option NamePart → Option State
step_naming s part bytes c b (Some next) = moves s (Some (naming next (bytes ++ b ∷ [])))
step_naming s part bytes c b None = if is_whole_name part && not (joins c) then step_at (moved s (named bytes)) (named bytes) c b else None

abbrev pub step_token : State → List ℕ → Slot → ScalarPart → List ℕ → Class → ℕ → Option ScalarPart → Option State
step_token s n slot part bytes c b (Some next) = moves s (Some (token n slot next (bytes ++ b ∷ [])))
step_token s n slot part bytes c b None =
    if is_whole_scalar part && not (joins c) then step_at (with_scalar s n slot (kind_of part) bytes) (after n slot) c b else None

-- what is read of a piece after a byte that doesn't close it, and the byte that the string gets, if any
abbrev pub plain_next : Quote → Class → ℕ → Option (Inside × List ℕ)
plain_next q Backslash b = Some (Escape, [])
plain_next q Beyond b = option_map (λ t. (Plain t, b ∷ [])) (lead b)
plain_next q c b = if in_piece q c then Some (Plain Whole, b ∷ []) else None

abbrev pub escape_next : Option ℕ → Class → ℕ → Option (Inside × List ℕ)
escape_next (Some v) c b = Some (Plain Whole, v ∷ [])
escape_next None c b = if is_first_octal c then Some (Second (b - 48), []) else None

-- an octal digit after others, in a byte
abbrev pub digit_onto : ℕ → ℕ → ℕ
digit_onto v b = (8 * v + (b - 48)) % 256

abbrev pub inside_next : Quote → Inside → Class → ℕ → Option (Inside × List ℕ)
inside_next q (Plain Whole) c b = plain_next q c b
inside_next q (Plain t) c b = option_map (λ u. (Plain u, b ∷ [])) (follow t b)
inside_next q Escape c b = escape_next (escaped c) c b
inside_next q (Second v) c b = if is_octal c then Some (Third (digit_onto v b), []) else None
inside_next q (Third v) c b = if is_octal c then Some (Plain Whole, digit_onto v b ∷ []) else None

abbrev pub is_closing_quote : Quote → Inside → Class → Bool
is_closing_quote Single (Plain Whole) SingleQuote = true
is_closing_quote Double (Plain Whole) DoubleQuote = true
is_closing_quote _ _ _ = false

abbrev pub goes_on : List ℕ → Slot → List ℕ → Quote → Option (Inside × List ℕ) → Option Spot
goes_on n slot bytes q None = None
goes_on n slot bytes q (Some next) = Some (piece n slot (bytes ++ next.1) q next.0)

abbrev pub piece_spot : List ℕ → Slot → List ℕ → Quote → Inside → Class → ℕ → Option Spot
piece_spot n slot bytes q i c b =
    if is_closing_quote q i c then Some (at (joined n slot bytes)) else goes_on n slot bytes q (inside_next q i c b)

abbrev pub step_spot : State → Spot → Class → ℕ → Option State
step_spot s (at p) c b = step_at s p c b
step_spot s (comment p t) c b = moves s (comment_spot p t c b)
step_spot s (naming part bytes) c b = step_naming s part bytes c b (name_next part c)
step_spot s (token n slot part bytes) c b = step_token s n slot part bytes c b (scalar_next part c)
step_spot s (piece n slot bytes q i) c b = moves s (piece_spot n slot bytes q i c b)

abbrev pub step : State → ℕ → Option State
step s b = step_spot s s.spot (class_of b) b

-- the fields of a text that ends at this place, if one may
abbrev pub final : Fields → List Frame → Place → Option Fields
final fields [] (start separator) = Some fields
final fields _ _ = None

abbrev pub accepts_spot : State → Spot → Option Fields
accepts_spot s (at p) = final (settled s p).done (settled s p).frames (settled_place p)
accepts_spot s (token n slot part bytes) =
    if is_whole_scalar part then final (append s.done (scalar n (kind_of part) bytes none)) s.frames (after n slot) else None
accepts_spot s _ = None

abbrev pub accepts : State → Option Fields
accepts s = accepts_spot s s.spot

-- the state after bytes, if each was taken
abbrev pub run : State → List ℕ → Option State
run s [] = Some s
run s (b ∷ bs) = option_and_then (λ next. run next bs) (step s b)

-- the fields of the text that ends after these bytes, if each is taken and a text may end there
abbrev pub outcome : State → List ℕ → Option Fields
outcome s [] = accepts s
outcome s (b ∷ bs) = option_and_then (λ next. outcome next bs) (step s b)
