-- A byte that the machine takes between tokens is one that the grammar has there.
use Rattle.std.proofs.Common.{◌≡◌, ℕ, List, [], ◌∷◌, ◌++◌, Bool, true, false, cond, Option, Some, None, refl, sym, ap, ◌∙◌, subst, append_assoc}
use Rattle.mg_text.specs.declared.parts.Class.{Class}
use Rattle.mg_text.specs.declared.parts.Class.TheVariants.{Blank, LineFeed, Hash, DoubleQuote, SingleQuote, Colon, Comma, Semicolon, BraceOpen, BraceClose, AngleOpen, AngleClose, BracketOpen, BracketClose, Minus, Dot, Zero, One, OctalDigit, Digit, LetterE, LetterF, HexLetter, LetterX, LetterN, LetterR, LetterT, Letter}
use Rattle.mg_text.specs.declared.parts.Mark.{Mark}
use Rattle.mg_text.specs.declared.parts.Mark.TheVariants.{Brace, Angle}
use Rattle.mg_text.specs.declared.parts.Quote.{Quote}
use Rattle.mg_text.specs.declared.parts.Quote.TheVariants.{Single, Double}
use Rattle.mg_text.specs.declared.parts.Slot.{Slot}
use Rattle.mg_text.specs.declared.parts.Tail.TheVariants.{Whole}
use Rattle.mg_text.specs.declared.state.NamePart.{NamePart}
use Rattle.mg_text.specs.declared.state.NamePart.TheVariants as np
use Rattle.mg_text.specs.declared.state.ScalarPart.{ScalarPart}
use Rattle.mg_text.specs.declared.state.ScalarPart.TheVariants as sp
use Rattle.mg_text.specs.declared.state.Inside.TheVariants.{Plain}
use Rattle.mg_text.specs.Byte.{class_of, is_letter, is_digit, is_blank}
use Rattle.mg_text.specs.Tree.{quoted, Fields, none, scalar, message, append}
use Rattle.mg_text.specs.Grammar as g
use Rattle.mg_text.specs.Grammar.{Stands, Apart, Place, start, named, valued, opened, element, behind, joined, after, scalar_slot, message_slot, piece_slot, list_slot, opening, closing, quote_class, is_separator}
use Rattle.mg_text.specs.Code.Machine.{at, comment, naming, token, piece, Frame, State, moves, settled, settled_place, opens_at, closes_at, closes_with, resumed, same_mark, colon_spot, comma_spot, semicolon_spot, bracket_spot, list_spot, list_end_spot, token_spot, letter_spot, quote_spot, step_settled, step_at, kind_of}
use Rattle.mg_text.proofs.Appending.{append_none}
use Rattle.mg_text.proofs.Names.{NameEnds, word_name, bracket_name}
use Rattle.mg_text.proofs.Scalars.{ScalarEnds, word_token, zero_number, digit_number, point_number, minus_number}
use Rattle.mg_text.proofs.Pieces.{line_whole, content_whole}
use Rattle.mg_text.proofs.Completing.{Completes, CompletesAt, lift, one}

pub settle_grow : (s : State) (p : Place) (w : List ℕ) (t : Fields) → Completes (settled s p).done (settled s p).frames (at (settled_place p)) w t → Completes s.done s.frames (at p) w t
settle_grow s (start f) w t h = h
settle_grow s (named n) w t h = h
settle_grow s (valued n) w t h = h
settle_grow s (opened n c) w t h = h
settle_grow s (element n c) w t h = h
settle_grow s (behind n c) w t h = h
settle_grow s (joined n slot bytes) w t h =
    lift [] w s.done (append s.done (scalar n quoted bytes none)) (scalar n quoted bytes none) s.frames (at (joined n slot bytes)) (at (after n slot)) t refl (λ u z x e r. g.a_string r) h

colon_grow : (s : State) (p : Place) (b : ℕ) (w : List ℕ) (t : Fields) → class_of b ≡ Colon → CompletesAt (moves s (colon_spot p)) w t → Completes s.done s.frames (at p) (b ∷ w) t
colon_grow s (named n) b w t k h = one s (at (named n)) (at (valued n)) b w t (λ u z x e r. g.colon k r) h
colon_grow s _ b w t k h = absurd h

semicolon_grow : (s : State) (p : Place) (b : ℕ) (w : List ℕ) (t : Fields) → class_of b ≡ Semicolon → CompletesAt (moves s (semicolon_spot p)) w t → Completes s.done s.frames (at p) (b ∷ w) t
semicolon_grow s (start true) b w t k h = one s (at (start true)) (at (start false)) b w t (λ u z x e r. g.separator (ap is_separator k) r) h
semicolon_grow s _ b w t k h = absurd h

comma_grow : (s : State) (p : Place) (b : ℕ) (w : List ℕ) (t : Fields) → class_of b ≡ Comma → CompletesAt (moves s (comma_spot p)) w t → Completes s.done s.frames (at p) (b ∷ w) t
comma_grow s (start true) b w t k h = one s (at (start true)) (at (start false)) b w t (λ u z x e r. g.separator (ap is_separator k) r) h
comma_grow s (behind n c) b w t k h = one s (at (behind n c)) (at (element n c)) b w t (λ u z x e r. g.comma k r) h
comma_grow s _ b w t k h = absurd h

list_end_grow : (s : State) (p : Place) (b : ℕ) (w : List ℕ) (t : Fields) → class_of b ≡ BracketClose → CompletesAt (moves s (list_end_spot p)) w t → Completes s.done s.frames (at p) (b ∷ w) t
list_end_grow s (opened n c) b w t k h = one s (at (opened n c)) (at (start true)) b w t (λ u z x e r. g.list_end refl k r) h
list_end_grow s (behind n c) b w t k h = one s (at (behind n c)) (at (start true)) b w t (λ u z x e r. g.list_end refl k r) h
list_end_grow s _ b w t k h = absurd h

list_grow : (s : State) (p : Place) (b : ℕ) (w : List ℕ) (t : Fields) (o : Option (List ℕ × Bool)) → list_slot p ≡ o → class_of b ≡ BracketOpen → CompletesAt (moves s (list_spot o)) w t → Completes s.done s.frames (at p) (b ∷ w) t
list_grow s p b w t None e k h = absurd h
list_grow s p b w t (Some l) e k h = one s (at p) (at (opened l.0 l.1)) b w t (λ u z x i r. g.list e k r) h

begin_name : (s : State) (f : Bool) (part : NamePart) (b : ℕ) (w : List ℕ) (t : Fields) → ((y : List ℕ) → NameEnds part y → g.IsName (b ∷ y))
    → Completes s.done s.frames (naming part (b ∷ [])) w t → Completes s.done s.frames (at (start f)) (b ∷ w) t
begin_name s f part b w t names h =
    one s (at (start f)) (naming part (b ∷ [])) b w t
    (λ u z x e (y, v, ue, ends, apart, st). subst (λ u. Stands (start f) (b ∷ u) x) (sym ue) (g.name (names y ends) apart st)) h

bracket_grow : (s : State) (p : Place) (b : ℕ) (w : List ℕ) (t : Fields) → class_of b ≡ BracketOpen → CompletesAt (moves s (bracket_spot p b)) w t → Completes s.done s.frames (at p) (b ∷ w) t
bracket_grow s (start f) b w t k h = begin_name s f np.Begins b w t (λ y e. bracket_name b y k e) h
bracket_grow s (named n) b w t k h = list_grow s (named n) b w t _ refl k h
bracket_grow s (valued n) b w t k h = list_grow s (valued n) b w t _ refl k h
bracket_grow s _ b w t k h = absurd h

token_grow : (s : State) (p : Place) (part : ScalarPart) (b : ℕ) (w : List ℕ) (t : Fields) (o : Option (List ℕ × Slot)) → scalar_slot p ≡ o
    → ((n : List ℕ) (slot : Slot) (y v : List ℕ) (x : Fields) → scalar_slot p ≡ Some (n, slot) → ScalarEnds part y → Apart v → Stands (after n slot) v x → Stands p (b ∷ y ++ v) (scalar n (kind_of part) (b ∷ y) x))
    → CompletesAt (moves s (token_spot part b o)) w t → Completes s.done s.frames (at p) (b ∷ w) t
token_grow s p part b w t None e f h = absurd h
token_grow s p part b w t (Some l) e f h =
    one s (at p) (token l.0 l.1 part (b ∷ [])) b w t
    (λ u z x i (y, v, x', ue, ends, apart, st, xe). subst (λ x. Stands p (b ∷ u) x) (sym xe) (subst (λ u. Stands p (b ∷ u) (scalar l.0 (kind_of part) (b ∷ y) x')) (sym ue) (f l.0 l.1 y v x' e ends apart st))) h

word_grow : (s : State) (p : Place) (b : ℕ) (w : List ℕ) (t : Fields) → is_letter (class_of b) ≡ true → CompletesAt (moves s (token_spot sp.Word b (scalar_slot p))) w t → Completes s.done s.frames (at p) (b ∷ w) t
word_grow s p b w t k h = token_grow s p sp.Word b w t (scalar_slot p) refl (λ n slot y v x e ends apart st. g.a_word (b ∷ y) e (word_token b y k ends) apart st) h

letter_grow : (s : State) (p : Place) (b : ℕ) (w : List ℕ) (t : Fields) → is_letter (class_of b) ≡ true → CompletesAt (moves s (letter_spot p b)) w t → Completes s.done s.frames (at p) (b ∷ w) t
letter_grow s (start f) b w t k h = begin_name s f np.Word b w t (λ y e. word_name b y k e) h
letter_grow s (named n) b w t k h = absurd h
letter_grow s (valued n) b w t k h = word_grow s (valued n) b w t k h
letter_grow s (opened n true) b w t k h = word_grow s (opened n true) b w t k h
letter_grow s (opened n false) b w t k h = absurd h
letter_grow s (element n true) b w t k h = absurd h
letter_grow s (element n false) b w t k h = word_grow s (element n false) b w t k h
letter_grow s (behind n c) b w t k h = absurd h
letter_grow s (joined n slot bytes) b w t k h = absurd h

digit_grow : (s : State) (p : Place) (b : ℕ) (w : List ℕ) (t : Fields) → is_digit (class_of b) ≡ true → CompletesAt (moves s (token_spot sp.Whole b (scalar_slot p))) w t → Completes s.done s.frames (at p) (b ∷ w) t
digit_grow s p b w t k h = token_grow s p sp.Whole b w t (scalar_slot p) refl (λ n slot y v x e ends apart st. g.a_number e (g.unsigned (digit_number b y k ends)) apart st) h

open_grow : (s : State) (p : Place) (m : Mark) (b : ℕ) (w : List ℕ) (t : Fields) (o : Option (List ℕ × Slot)) → message_slot p ≡ o → class_of b ≡ opening m
    → CompletesAt (opens_at s m o) w t → Completes s.done s.frames (at p) (b ∷ w) t
open_grow s p m b w t None e k h = absurd h
open_grow s p m b w t (Some l) e k (u, c, v, x, we, st, ce, more) =
    let pre : List ℕ = b ∷ u ++ c ∷ [] in
    let all : b ∷ w ≡ pre ++ v = ap (λ z. b ∷ z) (we ∙ sym (append_assoc u (c ∷ []) v)) in
    subst (λ z. Completes s.done s.frames (at p) z t) (sym all)
    (lift pre v s.done (append s.done (message l.0 x none)) (message l.0 x none) s.frames (at p) (at (after l.0 l.1)) t refl
    (λ u' z x' i r. subst (λ y. Stands p (b ∷ y) (message l.0 x x')) (sym (append_assoc u (c ∷ []) u')) (g.a_message c m e k st ce r)) more)

same_marks : (x y : Mark) → same_mark x y ≡ true → x ≡ y
same_marks Brace Brace e = refl
same_marks Angle Angle e = refl
same_marks Brace Angle e = cc
same_marks Angle Brace e = cc

if_some : (b : Bool) (s : State) (w : List ℕ) (t : Fields) → CompletesAt (cond b (Some s) None) w t → (b ≡ true) × Completes s.done s.frames s.spot w t
if_some true s w t h = (refl, h)
if_some false s w t h = absurd h

close_grow : (d : Fields) (fs : List Frame) (f : Bool) (m : Mark) (b : ℕ) (w : List ℕ) (t : Fields) → class_of b ≡ closing m
    → CompletesAt (closes_with d m fs) w t → Completes d fs (at (start f)) (b ∷ w) t
close_grow d [] f m b w t k h = absurd h
close_grow d (frame ∷ fs) f m b w t k h =
    let r = if_some (same_mark frame.mark m) (resumed d frame fs) w t h in (
      [],
      b,
      w,
      none,
      refl,
      g.ends,
      k ∙ ap closing (sym (same_marks frame.mark m r.0)),
      subst (λ d. Completes (append frame.before (message frame.name d none)) fs (at (after frame.name frame.slot)) w t) (sym (append_none d)) r.1,
    )

closes_grow : (s : State) (p : Place) (m : Mark) (b : ℕ) (w : List ℕ) (t : Fields) → class_of b ≡ closing m → CompletesAt (closes_at s m p) w t → Completes s.done s.frames (at p) (b ∷ w) t
closes_grow s (start f) m b w t k h = close_grow s.done s.frames f m b w t k h
closes_grow s _ m b w t k h = absurd h

settled_grow : (s : State) (p : Place) (c : Class) (b : ℕ) (w : List ℕ) (t : Fields) → class_of b ≡ c → CompletesAt (step_settled s p c b) w t → Completes s.done s.frames (at p) (b ∷ w) t
settled_grow s p Colon b w t k h = colon_grow s p b w t k h
settled_grow s p Comma b w t k h = comma_grow s p b w t k h
settled_grow s p Semicolon b w t k h = semicolon_grow s p b w t k h
settled_grow s p BraceOpen b w t k h = open_grow s p Brace b w t (message_slot p) refl k h
settled_grow s p AngleOpen b w t k h = open_grow s p Angle b w t (message_slot p) refl k h
settled_grow s p BraceClose b w t k h = closes_grow s p Brace b w t k h
settled_grow s p AngleClose b w t k h = closes_grow s p Angle b w t k h
settled_grow s p BracketOpen b w t k h = bracket_grow s p b w t k h
settled_grow s p BracketClose b w t k h = list_end_grow s p b w t k h
settled_grow s p Minus b w t k h = token_grow s p sp.Minus b w t (scalar_slot p) refl (λ n slot y v x e ends apart st. g.a_number e (minus_number b y k ends) apart st) h
settled_grow s p Dot b w t k h = token_grow s p sp.Point b w t (scalar_slot p) refl (λ n slot y v x e ends apart st. g.a_number e (g.unsigned (point_number b y k ends)) apart st) h
settled_grow s p Zero b w t k h = token_grow s p sp.Zero b w t (scalar_slot p) refl (λ n slot y v x e ends apart st. g.a_number e (g.unsigned (zero_number b y k ends)) apart st) h
settled_grow s p One b w t k h = digit_grow s p b w t (ap is_digit k) h
settled_grow s p OctalDigit b w t k h = digit_grow s p b w t (ap is_digit k) h
settled_grow s p Digit b w t k h = digit_grow s p b w t (ap is_digit k) h
settled_grow s p LetterE b w t k h = letter_grow s p b w t (ap is_letter k) h
settled_grow s p LetterF b w t k h = letter_grow s p b w t (ap is_letter k) h
settled_grow s p HexLetter b w t k h = letter_grow s p b w t (ap is_letter k) h
settled_grow s p LetterX b w t k h = letter_grow s p b w t (ap is_letter k) h
settled_grow s p LetterN b w t k h = letter_grow s p b w t (ap is_letter k) h
settled_grow s p LetterR b w t k h = letter_grow s p b w t (ap is_letter k) h
settled_grow s p LetterT b w t k h = letter_grow s p b w t (ap is_letter k) h
settled_grow s p Letter b w t k h = letter_grow s p b w t (ap is_letter k) h
settled_grow s p _ b w t k h = absurd h

quote_grow : (s : State) (p : Place) (q : Quote) (b : ℕ) (w : List ℕ) (t : Fields) (o : Option (List ℕ × Slot × List ℕ)) → piece_slot p ≡ o → class_of b ≡ quote_class q
    → CompletesAt (moves s (quote_spot q o)) w t → Completes s.done s.frames (at p) (b ∷ w) t
quote_grow s p q b w t None e k h = absurd h
quote_grow s p q b w t (Some l) e k h =
    one s (at p) (piece l.0 l.1 l.2 q (Plain Whole)) b w t
    (λ u z x i (y, d, v, ue, ends, st). subst (λ u. Stands p (b ∷ u) x) (sym ue) (g.piece e k (content_whole q y d ends) st)) h

begin_comment : (s : State) (p : Place) (b : ℕ) (w : List ℕ) (t : Fields) → class_of b ≡ Hash → Completes s.done s.frames (comment p Whole) w t → Completes s.done s.frames (at p) (b ∷ w) t
begin_comment s p b w t k h =
    one s (at p) (comment p Whole) b w t
    (λ u z x i (l, v, ue, ends, st). subst (λ u. Stands p (b ∷ u) x) (sym ue) (g.gap (g.comment k (line_whole l ends)) st)) h

blank_grow : (s : State) (p : Place) (b : ℕ) (w : List ℕ) (t : Fields) → is_blank (class_of b) ≡ true → Completes s.done s.frames (at p) w t → Completes s.done s.frames (at p) (b ∷ w) t
blank_grow s p b w t k h = one s (at p) (at p) b w t (λ u z x i st. g.gap (g.blank k) st) h

pub at_grow : (s : State) (p : Place) (c : Class) (b : ℕ) (w : List ℕ) (t : Fields) → class_of b ≡ c → CompletesAt (step_at s p c b) w t → Completes s.done s.frames (at p) (b ∷ w) t
at_grow s p Blank b w t k h = blank_grow s p b w t (ap is_blank k) h
at_grow s p LineFeed b w t k h = blank_grow s p b w t (ap is_blank k) h
at_grow s p Hash b w t k h = begin_comment s p b w t k h
at_grow s p SingleQuote b w t k h = quote_grow s p Single b w t (piece_slot p) refl k h
at_grow s p DoubleQuote b w t k h = quote_grow s p Double b w t (piece_slot p) refl k h
at_grow s p c b w t k h = settle_grow s p (b ∷ w) t (settled_grow (settled s p) (settled_place p) c b w t k h)
