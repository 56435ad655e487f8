-- A step of the machine, and how it runs through blanks and comments.
use Rattle.std.proofs.Common.{◌≡◌, ℕ, List, ◌∷◌, ◌++◌, true, Some, refl, ap, ◌∙◌, append_assoc, option_and_then}
use Rattle.mg_text.specs.declared.parts.Class.{Class}
use Rattle.mg_text.specs.declared.parts.Class.TheVariants.{Blank, LineFeed, Hash, Beyond}
use Rattle.mg_text.specs.declared.parts.Tail.{Tail}
use Rattle.mg_text.specs.declared.parts.Tail.TheVariants.{Whole}
use Rattle.mg_text.specs.Byte.{IsTail, byte, class_of, is_blank, follow, whole as no_tail}
use Rattle.mg_text.specs.Tree.{Fields}
use Rattle.mg_text.specs.Grammar as g
use Rattle.mg_text.specs.Grammar.{Place, in_line}
use Rattle.mg_text.specs.Code.Machine.{Spot, at, comment, Frame, State, moves, step_at, comment_spot, awaits, step_spot, outcome}
use Rattle.mg_text.proofs.ByteValues.{lead_beyond}

abbrev pub st : Fields → List Frame → Spot → State
st d fs spot = record { done = d; frames = fs; spot = spot }

-- a step of the parser on one byte, by its class
pub go : (d : Fields) (fs : List Frame) (spot : Spot) (d' : Fields) (fs' : List Frame) (spot' : Spot) (b : ℕ) (c : Class) (w : List ℕ) → class_of b ≡ c
    → step_spot (st d fs spot) spot c b ≡ Some (st d' fs' spot') → outcome (st d fs spot) (b ∷ w) ≡ outcome (st d' fs' spot') w
go d fs spot d' fs' spot' b c w k e =
    ap (option_and_then (λ next. outcome next w)) (ap (λ c. step_spot (st d fs spot) spot c b) k ∙ e)

pub blank_step : (s : State) (p : Place) (c : Class) (b : ℕ) → is_blank c ≡ true → step_at s p c b ≡ moves s (Some (at p))
blank_step s p Blank b e = refl
blank_step s p LineFeed b e = refl
blank_step s p c b e = cc

-- comments

tail_step : (p : Place) (t u : Tail) (c : Class) (b : ℕ) → follow t b ≡ Some u → comment_spot p t c b ≡ Some (comment p u)
tail_step p Whole u c b e = cc
tail_step p t u c b e = ap (awaits p) e

pub tail_run : (d : Fields) (fs : List Frame) (p : Place) (t : Tail) (u : List ℕ) (w : List ℕ) → IsTail t u → outcome (st d fs (comment p t)) (u ++ w) ≡ outcome (st d fs (comment p Whole)) w
tail_run d fs p t u w no_tail = refl
tail_run d fs p t u w (byte {u = next} {b = b} {s = s} e h) =
    go d fs (comment p t) d fs (comment p next) b (class_of b) (s ++ w) refl (ap (moves (st d fs (comment p t))) (tail_step p t next (class_of b) b e)) ∙ tail_run d fs p next s w h

pub in_line_step : (p : Place) (c : Class) (b : ℕ) → in_line c ≡ true → comment_spot p Whole c b ≡ Some (comment p Whole)
in_line_step p LineFeed b e = cc
in_line_step p Beyond b e = cc
in_line_step p c b e = refl

pub line_run : (d : Fields) (fs : List Frame) (p : Place) (l w : List ℕ) → g.IsLine l → outcome (st d fs (comment p Whole)) (l ++ w) ≡ outcome (st d fs (at p)) w
line_run d fs p l w (g.line_feed {b = b} k) = go d fs (comment p Whole) d fs (at p) b LineFeed w k refl
line_run d fs p l w (g.ascii {b = b} {l = m} k h) =
    go d fs (comment p Whole) d fs (comment p Whole) b (class_of b) (m ++ w) refl (ap (moves (st d fs (comment p Whole))) (in_line_step p (class_of b) b k)) ∙ line_run d fs p m w h
line_run d fs p l w (g.beyond {b = b} {t = t} {s = s} {l = m} k i h) =
    go d fs (comment p Whole) d fs (comment p t) b Beyond (s ++ m ++ w) (lead_beyond b t k) (ap (λ o. moves (st d fs (comment p Whole)) (awaits p o)) k)
    ∙ ap (outcome (st d fs (comment p t))) (append_assoc s m w) ∙ tail_run d fs p t s (m ++ w) i ∙ line_run d fs p m w h

pub gap_run : (d : Fields) (fs : List Frame) (p : Place) (u w : List ℕ) → g.IsGap u → outcome (st d fs (at p)) (u ++ w) ≡ outcome (st d fs (at p)) w
gap_run d fs p u w (g.blank {b = b} k) = go d fs (at p) d fs (at p) b (class_of b) w refl (blank_step (st d fs (at p)) p (class_of b) b k)
gap_run d fs p u w (g.comment {b = b} {l = l} k h) = go d fs (at p) d fs (comment p Whole) b Hash (l ++ w) k refl ∙ line_run d fs p l w h
