-- Each step keeps the bytes of the token characters.
use Rattle.std.proofs.Common.{arith, ◌<◌, ◌≤◌, ◌≡◌, ℕ, ◌-◌, List, [], ◌∷◌, ◌++◌, Bool, true, false, not, ◌&&◌, cond, Option, Some, None, refl, sym, ap, ◌∙◌, subst, inl, inr, append_assoc, option_and_then}
use Rattle.std.proofs.lemmas.List.{append-nil}
use Rattle.mg_text.specs.declared.parts.Class.{Class}
use Rattle.mg_text.specs.declared.parts.Class.TheVariants.{Blank, LineFeed, Hash, DoubleQuote, SingleQuote, Backslash, Colon, Comma, Semicolon, BraceOpen, BraceClose, AngleOpen, AngleClose, BracketOpen, BracketClose, Minus, Dot, Zero, One, OctalDigit, Digit, LetterE, LetterF, HexLetter, LetterX, LetterN, LetterR, LetterT, Letter, Beyond}
use Rattle.mg_text.specs.declared.parts.Mark.{Mark}
use Rattle.mg_text.specs.declared.parts.Mark.TheVariants.{Brace, Angle}
use Rattle.mg_text.specs.declared.parts.Quote.{Quote}
use Rattle.mg_text.specs.declared.parts.Quote.TheVariants.{Single, Double}
use Rattle.mg_text.specs.declared.parts.Slot.{Slot}
use Rattle.mg_text.specs.declared.parts.Slot.TheVariants as slots
use Rattle.mg_text.specs.declared.parts.Tail.{Tail}
use Rattle.mg_text.specs.declared.parts.Tail.TheVariants.{Whole}
use Rattle.mg_text.specs.declared.state.NamePart.{NamePart}
use Rattle.mg_text.specs.declared.state.NamePart.TheVariants as np
use Rattle.mg_text.specs.declared.state.ScalarPart.{ScalarPart}
use Rattle.mg_text.specs.declared.state.ScalarPart.TheVariants as sp
use Rattle.mg_text.specs.declared.state.Inside.{Inside}
use Rattle.mg_text.specs.declared.state.Inside.TheVariants.{Plain, Escape, Second, Third}
use Rattle.mg_text.specs.Byte.{IsTail, byte, class_of, is_octal, joins, lead, follow, whole as no_tail}
use Rattle.mg_text.specs.Tree.{Fields}
use Rattle.mg_text.specs.Grammar as g
use Rattle.mg_text.specs.Grammar.{Place, start, named, valued, opened, element, behind, joined, after, scalar_slot, message_slot, piece_slot}
use Rattle.mg_text.specs.Code.Machine.{Spot, at, comment, naming, token, piece, Frame, State, moves, moved, settled, settled_place, with_scalar, opens_at, closes_at, closes_with, resumed, same_mark, colon_spot, comma_spot, semicolon_spot, bracket_spot, list_end_spot, token_spot, letter_spot, quote_spot, step_settled, step_at, comment_spot, awaits, step_naming, step_token, inside_next, is_closing_quote, goes_on, piece_spot, digit_onto, plain_next, escape_next, step_spot, step, run, name_next, scalar_next, is_whole_name, is_whole_scalar, kind_of}
use Rattle.mg_text.proofs.Choices.{from_if, some_same, mapped}
use Rattle.mg_text.proofs.ByteValues.{beyond_class, octal_digit, first_octal_digit}
use Rattle.std.proofs.lemmas.Bool.{cases_lt}
use Rattle.std.specs.Str.{IsUtf8}
use Rattle.mg_text.specs.Code.Clean as k
use Rattle.mg_text.specs.Code.Clean.{CharsTo, IsClean, IsCleanPlace, IsCleanInside}
use Rattle.mg_text.specs.Canonical as c
use Rattle.mg_text.specs.Canonical.{AreCharacters}
use Rattle.mg_text.proofs.Unicode.{utf8_of_characters}

-- from characters so far to characters

then_chars : (t : Tail) (d u s : List ℕ) → CharsTo t d → IsTail t u → AreCharacters s → AreCharacters (d ++ (u ++ s))
then_chars t d u s k.no_byte i h = subst (λ z. AreCharacters (z ++ s)) (sym (none_left u i)) h
  where
    none_left : (u : List ℕ) → IsTail Whole u → u ≡ []
    none_left u no_tail = refl
    none_left u (byte e h) = cc
then_chars t d u s (k.ascii b {s = v} l g) i h =
    subst AreCharacters (sym (append_assoc v (b ∷ []) (u ++ s))) (then_chars Whole v [] (b ∷ (u ++ s)) g no_tail (c.ascii l (subst (λ z. AreCharacters (z ++ s)) (sym (none_left u i)) h)))
  where
    none_left : (u : List ℕ) → IsTail Whole u → u ≡ []
    none_left u no_tail = refl
    none_left u (byte e h) = cc
then_chars t d u s (k.first b {s = v} e g) i h =
    subst AreCharacters (sym (append_assoc v (b ∷ []) (u ++ s))) (then_chars Whole v [] (b ∷ u ++ s) g no_tail (c.beyond e i h))
then_chars t d u s (k.more b {t = before} {s = v} e g) i h =
    subst AreCharacters (sym (append_assoc v (b ∷ []) (u ++ s))) (then_chars before v (b ∷ u) s g (byte e i) h)

pub clean_utf8 : (d : List ℕ) → CharsTo Whole d → IsUtf8 d
clean_utf8 d h = utf8_of_characters d (subst AreCharacters (append-nil d) (then_chars Whole d [] [] h no_tail c.no_more))

-- the bytes of names, words and numbers are ASCII

no_name_beyond : (part : NamePart) (x : NamePart) → name_next part Beyond ≡ Some x → ⊥
no_name_beyond np.Word x e = cc
no_name_beyond np.Begins x e = cc
no_name_beyond np.Inner x e = cc
no_name_beyond np.SlashBegins x e = cc
no_name_beyond np.SlashInner x e = cc
no_name_beyond np.Closed x e = cc

no_scalar_beyond : (part : ScalarPart) (x : ScalarPart) → scalar_next part Beyond ≡ Some x → ⊥
no_scalar_beyond sp.Word x e = cc
no_scalar_beyond sp.Minus x e = cc
no_scalar_beyond sp.Zero x e = cc
no_scalar_beyond sp.Whole x e = cc
no_scalar_beyond sp.Point x e = cc
no_scalar_beyond sp.Fraction x e = cc
no_scalar_beyond sp.Exponent x e = cc
no_scalar_beyond sp.Sign x e = cc
no_scalar_beyond sp.Power x e = cc
no_scalar_beyond sp.HexStart x e = cc
no_scalar_beyond sp.Hex x e = cc
no_scalar_beyond sp.Suffix x e = cc

ascii_unless : (b : ℕ) (x : Class) → class_of b ≡ x → (x ≡ Beyond → ⊥) → b < 128
ascii_unless b x e h = elim (cases_lt b 128) [ inl l ↦ l | inr l ↦ absurd (h (sym e ∙ beyond_class b l)) ]

one_char : (b : ℕ) → b < 128 → CharsTo Whole (b ∷ [])
one_char b l = k.ascii b {s = []} l k.no_byte

abbrev pub CleanAt : Option State → Type 0
CleanAt None = Unit {0}
CleanAt (Some s) = IsClean s.spot

moves_clean : (s : State) (o : Option Spot) → ((spot : Spot) → o ≡ Some spot → IsClean spot) → CleanAt (moves s o)
moves_clean s None f = tt
moves_clean s (Some spot) f = f spot refl

pub after_clean : (n : List ℕ) (slot : Slot) → IsCleanPlace (after n slot)
after_clean n slots.One = tt
after_clean n slots.Scalars = tt
after_clean n slots.Messages = tt

colon_clean : (s : State) (p : Place) → CleanAt (moves s (colon_spot p))
colon_clean s (named n) = tt
colon_clean s _ = tt

comma_clean : (s : State) (p : Place) → CleanAt (moves s (comma_spot p))
comma_clean s (start true) = tt
comma_clean s (behind n m) = tt
comma_clean s _ = tt

semicolon_clean : (s : State) (p : Place) → CleanAt (moves s (semicolon_spot p))
semicolon_clean s (start true) = tt
semicolon_clean s _ = tt

list_end_clean : (s : State) (p : Place) → CleanAt (moves s (list_end_spot p))
list_end_clean s (opened n x) = tt
list_end_clean s (behind n x) = tt
list_end_clean s _ = tt

bracket_clean : (s : State) (p : Place) (b : ℕ) → b < 128 → CleanAt (moves s (bracket_spot p b))
bracket_clean s (start f) b l = one_char b l
bracket_clean s (named n) b l = tt
bracket_clean s (valued n) b l = tt
bracket_clean s _ b l = tt

token_clean : (s : State) (part : ScalarPart) (b : ℕ) (o : Option (List ℕ × Slot)) → b < 128 → CleanAt (moves s (token_spot part b o))
token_clean s part b None l = tt
token_clean s part b (Some slot) l = one_char b l

letter_clean : (s : State) (p : Place) (b : ℕ) → b < 128 → CleanAt (moves s (letter_spot p b))
letter_clean s (start f) b l = one_char b l
letter_clean s (valued n) b l = one_char b l
letter_clean s (opened n true) b l = one_char b l
letter_clean s (element n false) b l = one_char b l
letter_clean s _ b l = tt

quote_clean : (s : State) (p : Place) (q : Quote) → IsCleanPlace p → CleanAt (moves s (quote_spot q (piece_slot p)))
quote_clean s (valued n) q h = k.no_byte
quote_clean s (opened n true) q h = k.no_byte
quote_clean s (element n false) q h = k.no_byte
quote_clean s (joined n slot bytes) q h = h
quote_clean s _ q h = tt

open_clean : (s : State) (m : Mark) (o : Option (List ℕ × Slot)) → CleanAt (opens_at s m o)
open_clean s m None = tt
open_clean s m (Some slot) = tt

if_clean : (x : Bool) (o : Option State) → CleanAt o → CleanAt (cond x o None)
if_clean true o h = h
if_clean false o h = tt

close_clean : (d : Fields) (m : Mark) (fs : List Frame) → CleanAt (closes_with d m fs)
close_clean d m [] = tt
close_clean d m (f ∷ fs) = if_clean (same_mark f.mark m) (Some (resumed d f fs)) (after_clean f.name f.slot)

closes_clean : (s : State) (m : Mark) (p : Place) → CleanAt (closes_at s m p)
closes_clean s m (start f) = close_clean s.done m s.frames
closes_clean s m _ = tt

settled_step_clean : (s : State) (p : Place) (x : Class) (b : ℕ) → class_of b ≡ x → CleanAt (step_settled s p x b)
settled_step_clean s p Colon b e = colon_clean s p
settled_step_clean s p Comma b e = comma_clean s p
settled_step_clean s p Semicolon b e = semicolon_clean s p
settled_step_clean s p BraceOpen b e = open_clean s Brace (message_slot p)
settled_step_clean s p AngleOpen b e = open_clean s Angle (message_slot p)
settled_step_clean s p BraceClose b e = closes_clean s Brace p
settled_step_clean s p AngleClose b e = closes_clean s Angle p
settled_step_clean s p BracketOpen b e = bracket_clean s p b (ascii_unless b BracketOpen e (λ z. cc))
settled_step_clean s p BracketClose b e = list_end_clean s p
settled_step_clean s p Minus b e = token_clean s sp.Minus b (scalar_slot p) (ascii_unless b Minus e (λ z. cc))
settled_step_clean s p Dot b e = token_clean s sp.Point b (scalar_slot p) (ascii_unless b Dot e (λ z. cc))
settled_step_clean s p Zero b e = token_clean s sp.Zero b (scalar_slot p) (ascii_unless b Zero e (λ z. cc))
settled_step_clean s p One b e = token_clean s sp.Whole b (scalar_slot p) (ascii_unless b One e (λ z. cc))
settled_step_clean s p OctalDigit b e = token_clean s sp.Whole b (scalar_slot p) (ascii_unless b OctalDigit e (λ z. cc))
settled_step_clean s p Digit b e = token_clean s sp.Whole b (scalar_slot p) (ascii_unless b Digit e (λ z. cc))
settled_step_clean s p LetterE b e = letter_clean s p b (ascii_unless b LetterE e (λ z. cc))
settled_step_clean s p LetterF b e = letter_clean s p b (ascii_unless b LetterF e (λ z. cc))
settled_step_clean s p HexLetter b e = letter_clean s p b (ascii_unless b HexLetter e (λ z. cc))
settled_step_clean s p LetterX b e = letter_clean s p b (ascii_unless b LetterX e (λ z. cc))
settled_step_clean s p LetterN b e = letter_clean s p b (ascii_unless b LetterN e (λ z. cc))
settled_step_clean s p LetterR b e = letter_clean s p b (ascii_unless b LetterR e (λ z. cc))
settled_step_clean s p LetterT b e = letter_clean s p b (ascii_unless b LetterT e (λ z. cc))
settled_step_clean s p Letter b e = letter_clean s p b (ascii_unless b Letter e (λ z. cc))
settled_step_clean s p _ b e = tt

at_clean : (s : State) (p : Place) (x : Class) (b : ℕ) → class_of b ≡ x → IsCleanPlace p → CleanAt (step_at s p x b)
at_clean s p Blank b e h = h
at_clean s p LineFeed b e h = h
at_clean s p Hash b e h = h
at_clean s p SingleQuote b e h = quote_clean s p Single h
at_clean s p DoubleQuote b e h = quote_clean s p Double h
at_clean s p x b e h = settled_step_clean (settled s p) (settled_place p) x b e

awaits_clean : (p : Place) (o : Option Tail) (spot : Spot) → IsCleanPlace p → awaits p o ≡ Some spot → IsClean spot
awaits_clean p None spot h e = cc
awaits_clean p (Some t) spot h e = subst IsClean (some_same e) h

comment_clean : (p : Place) (t : Tail) (x : Class) (b : ℕ) (spot : Spot) → IsCleanPlace p → comment_spot p t x b ≡ Some spot → IsClean spot
comment_clean p Whole LineFeed b spot h e = subst IsClean (some_same e) h
comment_clean p Whole Beyond b spot h e = awaits_clean p (lead b) spot h e
comment_clean p Whole x b spot h e = subst IsClean (some_same e) h
comment_clean p t x b spot h e = awaits_clean p (follow t b) spot h e

naming_clean : (s : State) (part : NamePart) (bytes : List ℕ) (x : Class) (b : ℕ) (o : Option NamePart) → class_of b ≡ x → name_next part x ≡ o → CharsTo Whole bytes → CleanAt (step_naming s part bytes x b o)
naming_clean s part bytes x b (Some next) e n h = k.ascii b (ascii_unless b x e (λ z. no_name_beyond part next (sym (ap (name_next part) z) ∙ n))) h
naming_clean s part bytes x b None e n h = if_clean (is_whole_name part && not (joins x)) _ (at_clean (moved s (named bytes)) (named bytes) x b e tt)

next_token_clean : (s : State) (n : List ℕ) (slot : Slot) (part : ScalarPart) (bytes : List ℕ) (x : Class) (b : ℕ) (o : Option ScalarPart) → class_of b ≡ x → scalar_next part x ≡ o → CharsTo Whole bytes
    → CleanAt (step_token s n slot part bytes x b o)
next_token_clean s n slot part bytes x b (Some next) e i h = k.ascii b (ascii_unless b x e (λ z. no_scalar_beyond part next (sym (ap (scalar_next part) z) ∙ i))) h
next_token_clean s n slot part bytes x b None e i h =
    if_clean (is_whole_scalar part && not (joins x)) _ (at_clean (with_scalar s n slot (kind_of part) bytes) (after n slot) x b e (after_clean n slot))

-- pieces of strings

abbrev KeepsChars : Inside → List ℕ → Inside × List ℕ → Type 0
KeepsChars i bytes n = IsCleanInside i bytes → IsCleanInside n.0 (bytes ++ n.1)

pub not_beyond : (q : Quote) (x : Class) → g.in_piece q x ≡ true → x ≡ Beyond → ⊥
not_beyond Single Beyond e h = cc
not_beyond Double Beyond e h = cc
not_beyond q x e h = cc

plain_keeps : (q : Quote) (x : Class) (b : ℕ) (n : Inside × List ℕ) (bytes : List ℕ) → class_of b ≡ x → plain_next q x b ≡ Some n → KeepsChars (Plain Whole) bytes n
plain_keeps q Backslash b n bytes e i = subst (KeepsChars (Plain Whole) bytes) (some_same i) (λ h. subst (CharsTo Whole) (sym (append-nil bytes)) h)
plain_keeps q Beyond b n bytes e i =
    let m = mapped (λ t. (Plain t, b ∷ [])) (lead b) n i in subst (KeepsChars (Plain Whole) bytes) m.2 (λ h. k.first b m.1 h)
plain_keeps q x b n bytes e i =
    let m = from_if (g.in_piece q x) i in subst (KeepsChars (Plain Whole) bytes) m.1 (λ h. k.ascii b (ascii_unless b x e (not_beyond q x m.0)) h)

pub escaped_ascii : (x : Class) (v : ℕ) → g.escaped x ≡ Some v → v < 128
escaped_ascii LetterN v e = rw (sym (some_same e)) (omega arith)
escaped_ascii LetterT v e = rw (sym (some_same e)) (omega arith)
escaped_ascii LetterR v e = rw (sym (some_same e)) (omega arith)
escaped_ascii Backslash v e = rw (sym (some_same e)) (omega arith)
escaped_ascii SingleQuote v e = rw (sym (some_same e)) (omega arith)
escaped_ascii DoubleQuote v e = rw (sym (some_same e)) (omega arith)
escaped_ascii _ v e = cc

same_chars : (bytes : List ℕ) → CharsTo Whole bytes → CharsTo Whole (bytes ++ [])
same_chars bytes h = subst (CharsTo Whole) (sym (append-nil bytes)) h

first_digit : (b : ℕ) (x : Class) → class_of b ≡ x → g.is_first_octal x ≡ true → b - 48 ≤ 1
first_digit b x e f = first_octal_digit b (ap g.is_first_octal e ∙ f)

next_digit : (b : ℕ) (x : Class) → class_of b ≡ x → is_octal x ≡ true → b - 48 ≤ 7
next_digit b x e f = octal_digit b (ap is_octal e ∙ f)

escape_keeps : (o : Option ℕ) (x : Class) (b : ℕ) (n : Inside × List ℕ) (bytes : List ℕ) → class_of b ≡ x → g.escaped x ≡ o → escape_next o x b ≡ Some n → KeepsChars Escape bytes n
escape_keeps (Some v) x b n bytes e o i = subst (KeepsChars Escape bytes) (some_same i) (λ h. k.ascii v (escaped_ascii x v o) h)
escape_keeps None x b n bytes e o i = let m = from_if (g.is_first_octal x) i in subst (KeepsChars Escape bytes) m.1 (λ h. (first_digit b x e m.0, same_chars bytes h))

inside_keeps : (q : Quote) (i : Inside) (x : Class) (b : ℕ) (n : Inside × List ℕ) (bytes : List ℕ) → class_of b ≡ x → inside_next q i x b ≡ Some n → KeepsChars i bytes n
inside_keeps q (Plain Whole) x b n bytes e i = plain_keeps q x b n bytes e i
inside_keeps q (Plain t) x b n bytes e i =
    let m = mapped (λ u. (Plain u, b ∷ [])) (follow t b) n i in subst (KeepsChars (Plain t) bytes) m.2 (λ h. k.more b m.1 h)
inside_keeps q Escape x b n bytes e i = escape_keeps (g.escaped x) x b n bytes e refl i
inside_keeps q (Second v) x b n bytes e i =
    let m = from_if (is_octal x) i in
    subst (KeepsChars (Second v) bytes) m.1 (λ h. let d = next_digit b x e m.0 in let l = h.0 in (omega (arith, d, l), same_chars bytes h.1))
inside_keeps q (Third v) x b n bytes e i =
    let m = from_if (is_octal x) i in
    subst (KeepsChars (Third v) bytes) m.1 (λ h. let d = next_digit b x e m.0 in let l = h.0 in k.ascii (digit_onto v b) (omega (arith, d, l)) h.1)

closing_whole : (q : Quote) (i : Inside) (x : Class) → is_closing_quote q i x ≡ true → i ≡ Plain Whole
closing_whole Single (Plain Whole) SingleQuote e = refl
closing_whole Double (Plain Whole) DoubleQuote e = refl
closing_whole _ _ _ e = cc

goes_on_clean : (n : List ℕ) (slot : Slot) (bytes : List ℕ) (q : Quote) (i : Inside) (o : Option (Inside × List ℕ)) (spot : Spot) → ((x : Inside × List ℕ) → o ≡ Some x → IsCleanInside x.0 (bytes ++ x.1))
    → goes_on n slot bytes q o ≡ Some spot → IsClean spot
goes_on_clean n slot bytes q i None spot f e = cc
goes_on_clean n slot bytes q i (Some x) spot f e = subst IsClean (some_same e) (f x refl)

piece_clean : (n : List ℕ) (slot : Slot) (bytes : List ℕ) (q : Quote) (i : Inside) (x : Bool) (o : Option (Inside × List ℕ)) (spot : Spot) → (x ≡ true → CharsTo Whole bytes)
    → ((y : Inside × List ℕ) → o ≡ Some y → IsCleanInside y.0 (bytes ++ y.1)) → cond x (Some (at (joined n slot bytes))) (goes_on n slot bytes q o) ≡ Some spot → IsClean spot
piece_clean n slot bytes q i true o spot w f e = subst IsClean (some_same e) (w refl)
piece_clean n slot bytes q i false o spot w f e = goes_on_clean n slot bytes q i o spot f e

spot_clean : (s : State) (spot : Spot) (x : Class) (b : ℕ) → class_of b ≡ x → IsClean spot → CleanAt (step_spot s spot x b)
spot_clean s (at p) x b e h = at_clean s p x b e h
spot_clean s (comment p t) x b e h = moves_clean s (comment_spot p t x b) (λ spot i. comment_clean p t x b spot h i)
spot_clean s (naming part bytes) x b e h = naming_clean s part bytes x b (name_next part x) e refl h
spot_clean s (token n slot part bytes) x b e h = next_token_clean s n slot part bytes x b (scalar_next part x) e refl h
spot_clean s (piece n slot bytes q i) x b e h =
    moves_clean s (piece_spot n slot bytes q i x b)
    (λ spot f. piece_clean n slot bytes q i (is_closing_quote q i x) (inside_next q i x b) spot
    (λ w. subst (λ i. IsCleanInside i bytes) (closing_whole q i x w) h) (λ y o. inside_keeps q i x b y bytes e o h) f)

pub step_clean : (s next : State) (b : ℕ) → step s b ≡ Some next → IsClean s.spot → IsClean next.spot
step_clean s next b e h = subst CleanAt e (spot_clean s s.spot (class_of b) b refl h)

pub run_clean : (bytes : List ℕ) (s t : State) → run s bytes ≡ Some t → IsClean s.spot → IsClean t.spot
run_clean [] s t e h = subst (λ (x : State). IsClean x.spot) (some_same e) h
run_clean (b ∷ bytes) s t e h = by_step (step s b) (λ n i. run_clean bytes n t i) (λ n i. step_clean s n b i h) e
  where
    by_step : (o : Option State) → ((n : State) → run n bytes ≡ Some t → IsClean n.spot → IsClean t.spot) → ((n : State) → o ≡ Some n → IsClean n.spot)
        → option_and_then (λ n. run n bytes) o ≡ Some t → IsClean t.spot
    by_step None f c e = cc
    by_step (Some n) f c e = f n e (c n refl)
