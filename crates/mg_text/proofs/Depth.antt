-- How deep the messages nest that a state has read.
use Rattle.std.proofs.Common.{max, length, suc, arith, ◌≤◌, ◌≡◌, ℕ, List, [], ◌∷◌, Bool, true, false, not, ◌&&◌, cond, Option, Some, None, refl, subst}
use Rattle.mg_text.specs.declared.parts.Class.{Class}
use Rattle.mg_text.specs.declared.parts.Class.TheVariants.{Blank, LineFeed, Hash, DoubleQuote, SingleQuote, Colon, Comma, Semicolon, BraceOpen, BraceClose, AngleOpen, AngleClose, BracketOpen, BracketClose, Minus, Dot, Zero, One, OctalDigit, Digit, LetterE, LetterF, HexLetter, LetterX, LetterN, LetterR, LetterT, Letter, Beyond}
use Rattle.mg_text.specs.declared.parts.Mark.{Mark}
use Rattle.mg_text.specs.declared.parts.Mark.TheVariants.{Brace, Angle}
use Rattle.mg_text.specs.declared.parts.Quote.{Quote}
use Rattle.mg_text.specs.declared.parts.Quote.TheVariants.{Single, Double}
use Rattle.mg_text.specs.declared.parts.Slot.{Slot}
use Rattle.mg_text.specs.declared.parts.Slot.TheVariants as slots
use Rattle.mg_text.specs.declared.parts.Tail.{Tail}
use Rattle.mg_text.specs.declared.parts.Tail.TheVariants.{Whole}
use Rattle.mg_text.specs.declared.state.NamePart.{NamePart}
use Rattle.mg_text.specs.declared.state.ScalarPart.{ScalarPart}
use Rattle.mg_text.specs.declared.state.ScalarPart.TheVariants as sp
use Rattle.mg_text.specs.declared.state.Inside.{Inside}
use Rattle.mg_text.specs.Byte.{class_of, joins, lead, follow}
use Rattle.mg_text.specs.Tree.{Kind, quoted, Fields, none, scalar, message, append, depth}
use Rattle.mg_text.specs.Grammar.{Place, start, named, valued, opened, element, behind, joined, after, scalar_slot, message_slot, piece_slot}
use Rattle.mg_text.specs.Code.Machine.{Spot, at, comment, naming, token, piece, Frame, State, moves, moved, settled, settled_place, with_scalar, opens_at, closes_at, closes_with, resumed, same_mark, colon_spot, comma_spot, semicolon_spot, bracket_spot, list_end_spot, token_spot, letter_spot, quote_spot, step_settled, step_at, comment_spot, awaits, step_naming, step_token, inside_next, is_closing_quote, goes_on, piece_spot, step_spot, step, outcome, name_next, scalar_next, is_whole_name, kind_of}
use Rattle.mg_text.proofs.Choices.{some_same}
use Rattle.mg_text.proofs.Completing.{Completes}
use Rattle.mg_text.proofs.Sound.{sound}
use Rattle.mg_text.proofs.Finish.{level, level_max, depth-append, depth-resumed}

pub level_monotone : (fs : List Frame) (j k : ℕ) → j ≤ k → level j fs ≤ level k fs
level_monotone [] j k h = h
level_monotone (f ∷ fs) j k h = level_monotone fs _ _ (omega (arith, h))

-- the completed fields are at least as deep as the fields that are read
level-completes : (d : Fields) (fs : List Frame) (spot : Spot) (w : List ℕ) (t : Fields) → Completes d fs spot w t → level (depth d) fs ≤ depth t
level-completes d [] spot w t (x, h, e) = rw e (omega (arith, depth-append d x))
level-completes d (f ∷ fs) spot w t (u, c, v, x, e, h, k, more) =
    let inner = level-completes (append f.before (message f.name (append d x) none)) fs (at (after f.name f.slot)) v t more in
    let here = level_monotone fs (max (depth f.before) (suc (depth d))) (depth (append f.before (message f.name (append d x) none)))
    (omega (arith, depth-resumed f.before (append d x) f.name, depth-append d x)) in
    omega (arith, inner, here)

pub deep : (s : State) (w : List ℕ) (t : Fields) → outcome s w ≡ Some t → level (depth s.done) s.frames ≤ depth t
deep s w t e = level-completes s.done s.frames s.spot w t (sound w s t e)

-- After an element of a list of messages, a message has been read. No scalar is read there.
abbrev pub place_deep : Place → Fields → Type 0
place_deep (element n true) d = 1 ≤ depth d
place_deep (behind n true) d = 1 ≤ depth d
place_deep (joined n slots.Messages bytes) d = ⊥
place_deep _ d = Unit {0}

abbrev pub spot_deep : Spot → Fields → Type 0
spot_deep (at p) d = place_deep p d
spot_deep (comment p t) d = place_deep p d
spot_deep (token n slots.Messages part bytes) d = ⊥
spot_deep (piece n slots.Messages bytes q i) d = ⊥
spot_deep _ d = Unit {0}

-- nothing has been read that nests deeper than most
pub record Shallow (most : ℕ) (d : Fields) (fs : List Frame) (spot : Spot) : Type 0 where
  pub within : level (depth d) fs ≤ most
  pub deep_enough : spot_deep spot d

abbrev pub ShallowAt : ℕ → Option State → Type 0
ShallowAt most None = Unit {0}
ShallowAt most (Some s) = length s.frames ≤ most → Shallow most s.done s.frames s.spot

moves_shallow : (most : ℕ) (s : State) (o : Option Spot) → level (depth s.done) s.frames ≤ most → ((spot : Spot) → o ≡ Some spot → spot_deep spot s.done) → ShallowAt most (moves s o)
moves_shallow most s None h f = tt
moves_shallow most s (Some spot) h f = λ _. record { within = h; deep_enough = f spot refl }

pub depth-scalar : (d : Fields) (n : List ℕ) (k : Kind) (bytes : List ℕ) → depth (append d (scalar n k bytes none)) ≡ depth d
depth-scalar d n k bytes = omega (arith, depth-append d (scalar n k bytes none))

settled_within : (most : ℕ) (s : State) (p : Place) → level (depth s.done) s.frames ≤ most → level (depth (settled s p).done) (settled s p).frames ≤ most
settled_within most s (joined n slot bytes) h = rw (depth-scalar s.done n quoted bytes) h
settled_within most s (start f) h = h
settled_within most s (named n) h = h
settled_within most s (valued n) h = h
settled_within most s (opened n c) h = h
settled_within most s (element n c) h = h
settled_within most s (behind n c) h = h

settled_deep : (s : State) (p : Place) → place_deep p s.done → place_deep (settled_place p) (settled s p).done
settled_deep s (joined n slots.One bytes) h = tt
settled_deep s (joined n slots.Scalars bytes) h = tt
settled_deep s (joined n slots.Messages bytes) h = absurd h
settled_deep s (start f) h = tt
settled_deep s (named n) h = tt
settled_deep s (valued n) h = tt
settled_deep s (opened n c) h = tt
settled_deep s (element n true) h = h
settled_deep s (element n false) h = tt
settled_deep s (behind n true) h = h
settled_deep s (behind n false) h = tt

colon_shallow : (most : ℕ) (s : State) (p : Place) → level (depth s.done) s.frames ≤ most → ShallowAt most (moves s (colon_spot p))
colon_shallow most s (named n) h = λ _. record { within = h; deep_enough = tt }
colon_shallow most s _ h = tt

comma_shallow : (most : ℕ) (s : State) (p : Place) → level (depth s.done) s.frames ≤ most → place_deep p s.done → ShallowAt most (moves s (comma_spot p))
comma_shallow most s (start true) h k = λ _. record { within = h; deep_enough = tt }
comma_shallow most s (behind n true) h k = λ _. record { within = h; deep_enough = k }
comma_shallow most s (behind n false) h k = λ _. record { within = h; deep_enough = tt }
comma_shallow most s _ h k = tt

semicolon_shallow : (most : ℕ) (s : State) (p : Place) → level (depth s.done) s.frames ≤ most → ShallowAt most (moves s (semicolon_spot p))
semicolon_shallow most s (start true) h = λ _. record { within = h; deep_enough = tt }
semicolon_shallow most s _ h = tt

list_end_shallow : (most : ℕ) (s : State) (p : Place) → level (depth s.done) s.frames ≤ most → ShallowAt most (moves s (list_end_spot p))
list_end_shallow most s (opened n c) h = λ _. record { within = h; deep_enough = tt }
list_end_shallow most s (behind n c) h = λ _. record { within = h; deep_enough = tt }
list_end_shallow most s _ h = tt

bracket_shallow : (most : ℕ) (s : State) (p : Place) (b : ℕ) → level (depth s.done) s.frames ≤ most → ShallowAt most (moves s (bracket_spot p b))
bracket_shallow most s (start f) b h = λ _. record { within = h; deep_enough = tt }
bracket_shallow most s (named n) b h = λ _. record { within = h; deep_enough = tt }
bracket_shallow most s (valued n) b h = λ _. record { within = h; deep_enough = tt }
bracket_shallow most s _ b h = tt

token_shallow : (most : ℕ) (s : State) (p : Place) (part : ScalarPart) (b : ℕ) → level (depth s.done) s.frames ≤ most → ShallowAt most (moves s (token_spot part b (scalar_slot p)))
token_shallow most s (valued n) part b h = λ _. record { within = h; deep_enough = tt }
token_shallow most s (opened n true) part b h = λ _. record { within = h; deep_enough = tt }
token_shallow most s (element n false) part b h = λ _. record { within = h; deep_enough = tt }
token_shallow most s _ part b h = tt

letter_shallow : (most : ℕ) (s : State) (p : Place) (b : ℕ) → level (depth s.done) s.frames ≤ most → ShallowAt most (moves s (letter_spot p b))
letter_shallow most s (start f) b h = λ _. record { within = h; deep_enough = tt }
letter_shallow most s (valued n) b h = λ _. record { within = h; deep_enough = tt }
letter_shallow most s (opened n true) b h = λ _. record { within = h; deep_enough = tt }
letter_shallow most s (element n false) b h = λ _. record { within = h; deep_enough = tt }
letter_shallow most s _ b h = tt

quote_shallow : (most : ℕ) (s : State) (p : Place) (q : Quote) → level (depth s.done) s.frames ≤ most → place_deep p s.done → ShallowAt most (moves s (quote_spot q (piece_slot p)))
quote_shallow most s (valued n) q h k = λ _. record { within = h; deep_enough = tt }
quote_shallow most s (opened n true) q h k = λ _. record { within = h; deep_enough = tt }
quote_shallow most s (element n false) q h k = λ _. record { within = h; deep_enough = tt }
quote_shallow most s (joined n slots.One bytes) q h k = λ _. record { within = h; deep_enough = tt }
quote_shallow most s (joined n slots.Scalars bytes) q h k = λ _. record { within = h; deep_enough = tt }
quote_shallow most s (joined n slots.Messages bytes) q h k = absurd k
quote_shallow most s _ q h k = tt

open_shallow : (most : ℕ) (s : State) (m : Mark) (o : Option (List ℕ × Slot)) → level (depth s.done) s.frames ≤ most → ShallowAt most (opens_at s m o)
open_shallow most s m None h = tt
open_shallow most s m (Some slot) h = λ k. record { within = omega (arith, level_max (depth s.done) 1 s.frames, h, k); deep_enough = tt }

after_deep : (before inner : Fields) (n : List ℕ) (slot : Slot) → place_deep (after n slot) (append before (message n inner none))
after_deep before inner n slots.One = tt
after_deep before inner n slots.Scalars = tt
after_deep before inner n slots.Messages = omega (arith, depth-resumed before inner n)

close_shallow : (most : ℕ) (d : Fields) (m : Mark) (fs : List Frame) → level (depth d) fs ≤ most → ShallowAt most (closes_with d m fs)
close_shallow most d m [] h = tt
close_shallow most d m (f ∷ fs) h = either (same_mark f.mark m) (λ _. record { within = rw (depth-resumed f.before d f.name) h; deep_enough = after_deep f.before d f.name f.slot })
  where
    either : (b : Bool) → ShallowAt most (Some (resumed d f fs)) → ShallowAt most (cond b (Some (resumed d f fs)) None)
    either true k = k
    either false k = tt

closes_shallow : (most : ℕ) (s : State) (m : Mark) (p : Place) → level (depth s.done) s.frames ≤ most → ShallowAt most (closes_at s m p)
closes_shallow most s m (start f) h = close_shallow most s.done m s.frames h
closes_shallow most s m _ h = tt

settled_shallow : (most : ℕ) (s : State) (p : Place) (c : Class) (b : ℕ) → level (depth s.done) s.frames ≤ most → place_deep p s.done → ShallowAt most (step_settled s p c b)
settled_shallow most s p Colon b h k = colon_shallow most s p h
settled_shallow most s p Comma b h k = comma_shallow most s p h k
settled_shallow most s p Semicolon b h k = semicolon_shallow most s p h
settled_shallow most s p BraceOpen b h k = open_shallow most s Brace (message_slot p) h
settled_shallow most s p AngleOpen b h k = open_shallow most s Angle (message_slot p) h
settled_shallow most s p BraceClose b h k = closes_shallow most s Brace p h
settled_shallow most s p AngleClose b h k = closes_shallow most s Angle p h
settled_shallow most s p BracketOpen b h k = bracket_shallow most s p b h
settled_shallow most s p BracketClose b h k = list_end_shallow most s p h
settled_shallow most s p Minus b h k = token_shallow most s p sp.Minus b h
settled_shallow most s p Dot b h k = token_shallow most s p sp.Point b h
settled_shallow most s p Zero b h k = token_shallow most s p sp.Zero b h
settled_shallow most s p One b h k = token_shallow most s p sp.Whole b h
settled_shallow most s p OctalDigit b h k = token_shallow most s p sp.Whole b h
settled_shallow most s p Digit b h k = token_shallow most s p sp.Whole b h
settled_shallow most s p LetterE b h k = letter_shallow most s p b h
settled_shallow most s p LetterF b h k = letter_shallow most s p b h
settled_shallow most s p HexLetter b h k = letter_shallow most s p b h
settled_shallow most s p LetterX b h k = letter_shallow most s p b h
settled_shallow most s p LetterN b h k = letter_shallow most s p b h
settled_shallow most s p LetterR b h k = letter_shallow most s p b h
settled_shallow most s p LetterT b h k = letter_shallow most s p b h
settled_shallow most s p Letter b h k = letter_shallow most s p b h
settled_shallow most s p _ b h k = tt

at_shallow : (most : ℕ) (s : State) (p : Place) (c : Class) (b : ℕ) → level (depth s.done) s.frames ≤ most → place_deep p s.done → ShallowAt most (step_at s p c b)
at_shallow most s p Blank b h k = λ _. record { within = h; deep_enough = k }
at_shallow most s p LineFeed b h k = λ _. record { within = h; deep_enough = k }
at_shallow most s p Hash b h k = λ _. record { within = h; deep_enough = k }
at_shallow most s p SingleQuote b h k = quote_shallow most s p Single h k
at_shallow most s p DoubleQuote b h k = quote_shallow most s p Double h k
at_shallow most s p c b h k = settled_shallow most (settled s p) (settled_place p) c b (settled_within most s p h) (settled_deep s p k)

awaits_deep : (p : Place) (d : Fields) (o : Option Tail) (spot : Spot) → place_deep p d → awaits p o ≡ Some spot → spot_deep spot d
awaits_deep p d None spot k e = cc
awaits_deep p d (Some t) spot k e = subst (λ x. spot_deep x d) (some_same e) k

comment_deep : (p : Place) (d : Fields) (t : Tail) (c : Class) (b : ℕ) (spot : Spot) → place_deep p d → comment_spot p t c b ≡ Some spot → spot_deep spot d
comment_deep p d Whole LineFeed b spot k e = subst (λ x. spot_deep x d) (some_same e) k
comment_deep p d Whole Beyond b spot k e = awaits_deep p d (lead b) spot k e
comment_deep p d Whole c b spot k e = subst (λ x. spot_deep x d) (some_same e) k
comment_deep p d t c b spot k e = awaits_deep p d (follow t b) spot k e

naming_shallow : (most : ℕ) (s : State) (part : NamePart) (bytes : List ℕ) (c : Class) (b : ℕ) (o : Option NamePart) → level (depth s.done) s.frames ≤ most → ShallowAt most (step_naming s part bytes c b o)
naming_shallow most s part bytes c b (Some next) h = λ _. record { within = h; deep_enough = tt }
naming_shallow most s part bytes c b None h = either (is_whole_name part && not (joins c)) (at_shallow most (moved s (named bytes)) (named bytes) c b h tt)
  where
    either : (x : Bool) → ShallowAt most (step_at (moved s (named bytes)) (named bytes) c b) → ShallowAt most (cond x (step_at (moved s (named bytes)) (named bytes) c b) None)
    either true k = k
    either false k = tt

if_shallow : (most : ℕ) (x : Bool) (o : Option State) → ShallowAt most o → ShallowAt most (cond x o None)
if_shallow most true o k = k
if_shallow most false o k = tt

next_token_shallow : (most : ℕ) (s : State) (n : List ℕ) (slot : Slot) (part : ScalarPart) (bytes : List ℕ) (c : Class) (b : ℕ) (o : Option ScalarPart)
    → level (depth s.done) s.frames ≤ most → spot_deep (token n slot part bytes) s.done → ShallowAt most (step_token s n slot part bytes c b o)
next_token_shallow most s n slots.Messages part bytes c b o h k = absurd k
next_token_shallow most s n slots.One part bytes c b (Some next) h k = λ _. record { within = h; deep_enough = tt }
next_token_shallow most s n slots.Scalars part bytes c b (Some next) h k = λ _. record { within = h; deep_enough = tt }
next_token_shallow most s n slots.One part bytes c b None h k =
    if_shallow most _ _ (at_shallow most (with_scalar s n slots.One (kind_of part) bytes) (after n slots.One) c b (rw (depth-scalar s.done n (kind_of part) bytes) h) tt)
next_token_shallow most s n slots.Scalars part bytes c b None h k =
    if_shallow most _ _ (at_shallow most (with_scalar s n slots.Scalars (kind_of part) bytes) (after n slots.Scalars) c b (rw (depth-scalar s.done n (kind_of part) bytes) h) tt)

goes_on_deep : (d : Fields) (n : List ℕ) (slot : Slot) (bytes : List ℕ) (q : Quote) (o : Option (Inside × List ℕ)) (i : Inside) (spot : Spot) → spot_deep (piece n slot bytes q i) d
    → goes_on n slot bytes q o ≡ Some spot → spot_deep spot d
goes_on_deep d n slot bytes q None i spot k e = cc
goes_on_deep d n slots.One bytes q (Some x) i spot k e = subst (λ x. spot_deep x d) (some_same e) tt
goes_on_deep d n slots.Scalars bytes q (Some x) i spot k e = subst (λ x. spot_deep x d) (some_same e) tt
goes_on_deep d n slots.Messages bytes q (Some x) i spot k e = absurd k

joined_deep : (d : Fields) (n : List ℕ) (slot : Slot) (bytes : List ℕ) (q : Quote) (i : Inside) → spot_deep (piece n slot bytes q i) d → place_deep (joined n slot bytes) d
joined_deep d n slots.One bytes q i k = tt
joined_deep d n slots.Scalars bytes q i k = tt
joined_deep d n slots.Messages bytes q i k = absurd k

piece_deep : (d : Fields) (n : List ℕ) (slot : Slot) (bytes : List ℕ) (q : Quote) (i : Inside) (x : Bool) (o : Option (Inside × List ℕ)) (spot : Spot) → spot_deep (piece n slot bytes q i) d
    → cond x (Some (at (joined n slot bytes))) (goes_on n slot bytes q o) ≡ Some spot → spot_deep spot d
piece_deep d n slot bytes q i true o spot k e = subst (λ x. spot_deep x d) (some_same e) (joined_deep d n slot bytes q i k)
piece_deep d n slot bytes q i false o spot k e = goes_on_deep d n slot bytes q o i spot k e

spot_shallow : (most : ℕ) (s : State) (spot : Spot) (c : Class) (b : ℕ) → level (depth s.done) s.frames ≤ most → spot_deep spot s.done → ShallowAt most (step_spot s spot c b)
spot_shallow most s (at p) c b h k = at_shallow most s p c b h k
spot_shallow most s (comment p t) c b h k = moves_shallow most s (comment_spot p t c b) h (λ spot e. comment_deep p s.done t c b spot k e)
spot_shallow most s (naming part bytes) c b h k = naming_shallow most s part bytes c b (name_next part c) h
spot_shallow most s (token n slot part bytes) c b h k = next_token_shallow most s n slot part bytes c b (scalar_next part c) h k
spot_shallow most s (piece n slot bytes q i) c b h k = moves_shallow most s (piece_spot n slot bytes q i c b) h (λ spot e. piece_deep s.done n slot bytes q i (is_closing_quote q i c) (inside_next q i c b) spot k e)

pub step_shallow : (most : ℕ) (s next : State) (b : ℕ) → step s b ≡ Some next → Shallow most s.done s.frames s.spot → length next.frames ≤ most → Shallow most next.done next.frames next.spot
step_shallow most s next b e h k = subst (ShallowAt most) e (spot_shallow most s s.spot (class_of b) b h.within h.deep_enough) k
