-- What is in the grammar is taken by the machine, which makes the same fields.
use Rattle.std.proofs.Common.{◌≡◌, ℕ, List, [], ◌∷◌, ◌++◌, Bool, true, false, cond, Some, None, refl, sym, ap, ◌∙◌, subst, append_assoc}
use Rattle.std.proofs.lemmas.List.{append-nil}
use Rattle.mg_text.specs.declared.parts.Class.{Class}
use Rattle.mg_text.specs.declared.parts.Class.TheVariants.{Colon, Comma, Semicolon, BracketOpen, BracketClose}
use Rattle.mg_text.specs.declared.parts.Mark.{Mark}
use Rattle.mg_text.specs.declared.parts.Mark.TheVariants.{Brace, Angle}
use Rattle.mg_text.specs.declared.parts.Slot.{Slot}
use Rattle.mg_text.proofs.Spelled.{name_begins, number_begins}
use Rattle.mg_text.specs.Byte.{class_of, joins}
use Rattle.mg_text.specs.Tree.{word, number, quoted, Fields, none, scalar, message, append}
use Rattle.mg_text.specs.Grammar as g
use Rattle.mg_text.specs.Grammar.{Stands, Apart, Place, start, named, valued, opened, element, behind, message_slot, list_slot, list_ends, opening, closing, is_separator}
use Rattle.mg_text.specs.Code.Machine.{at, Frame, moves, opens_at, resumed, same_mark, list_spot, step_at, outcome, begin}
use Rattle.mg_text.proofs.Appending.{append_none, append_fields_assoc}
use Rattle.mg_text.proofs.Runs.{st, go, gap_run}
use Rattle.mg_text.proofs.TokenRuns.{name_run, word_run, number_run}
use Rattle.mg_text.proofs.StringRuns.{piece_run, both_at, string_whole}

-- the bytes after a message close it, and make these fields of the whole; or nothing is open, and there are none
abbrev pub Closes : Fields → List Frame → List ℕ → Fields → Type 0
Closes d [] v r = (v ≡ []) × (d ≡ r)
Closes d (f ∷ fs) v r = (c : ℕ) × (u : List ℕ) × (v ≡ c ∷ u) × (class_of c ≡ closing f.mark) × (outcome (resumed d f fs) u ≡ Some r)

pub closing_step : (d : Fields) (f : Frame) (fs : List Frame) (sep : Bool) (m : Mark) (b : ℕ) → f.mark ≡ m → step_at (st d (f ∷ fs) (at (start sep))) (start sep) (closing m) b ≡ Some (resumed d f fs)
closing_step d f fs sep Brace b e = ap (λ x. cond (same_mark x Brace) (Some (resumed d f fs)) None) e
closing_step d f fs sep Angle b e = ap (λ x. cond (same_mark x Angle) (Some (resumed d f fs)) None) e

ends_run : (d : Fields) (fs : List Frame) (f : Bool) (v : List ℕ) (r : Fields) → Closes d fs v r → outcome (st d fs (at (start f))) v ≡ Some r
ends_run d [] f v r (e, same) = ap (outcome (st d [] (at (start f)))) e ∙ ap Some same
ends_run d (f0 ∷ fs) f v r (c, u, e, k, o) =
    ap (outcome (st d (f0 ∷ fs) (at (start f)))) e ∙ go d (f0 ∷ fs) (at (start f)) _ _ _ c (closing f0.mark) u k (closing_step d f0 fs f f0.mark c refl) ∙ o

-- messages

open_byte : (d : Fields) (fs : List Frame) (p : Place) (m : Mark) (b : ℕ) (l : List ℕ × Slot) → message_slot p ≡ Some l
    → step_at (st d fs (at p)) p (opening m) b ≡ Some (st none (record { before = d; name = l.0; slot = l.1; mark = m } ∷ fs) (at (start false)))
open_byte d fs (named n) Brace b l e = ap (opens_at (st d fs (at (named n))) Brace) e
open_byte d fs (valued n) Brace b l e = ap (opens_at (st d fs (at (valued n))) Brace) e
open_byte d fs (opened n c) Brace b l e = ap (opens_at (st d fs (at (opened n c))) Brace) e
open_byte d fs (element n true) Brace b l e = ap (opens_at (st d fs (at (element n true))) Brace) e
open_byte d fs (named n) Angle b l e = ap (opens_at (st d fs (at (named n))) Angle) e
open_byte d fs (valued n) Angle b l e = ap (opens_at (st d fs (at (valued n))) Angle) e
open_byte d fs (opened n c) Angle b l e = ap (opens_at (st d fs (at (opened n c))) Angle) e
open_byte d fs (element n true) Angle b l e = ap (opens_at (st d fs (at (element n true))) Angle) e
open_byte d fs _ m b l e = cc

separator_byte : (d : Fields) (fs : List Frame) (c : Class) (b : ℕ) → is_separator c ≡ true → step_at (st d fs (at (start true))) (start true) c b ≡ Some (st d fs (at (start false)))
separator_byte d fs Comma b e = refl
separator_byte d fs Semicolon b e = refl
separator_byte d fs _ b e = cc

list_byte : (d : Fields) (fs : List Frame) (p : Place) (b : ℕ) (l : List ℕ × Bool) → list_slot p ≡ Some l → step_at (st d fs (at p)) p BracketOpen b ≡ Some (st d fs (at (opened l.0 l.1)))
list_byte d fs (named n) b l e = ap (λ o. moves (st d fs (at (named n))) (list_spot o)) e
list_byte d fs (valued n) b l e = ap (λ o. moves (st d fs (at (valued n))) (list_spot o)) e
list_byte d fs _ b l e = cc

list_end_byte : (d : Fields) (fs : List Frame) (p : Place) (b : ℕ) → list_ends p ≡ true → step_at (st d fs (at p)) p BracketClose b ≡ Some (st d fs (at (start true)))
list_end_byte d fs (opened n c) b e = refl
list_end_byte d fs (behind n c) b e = refl
list_end_byte d fs _ b e = cc

closes_as : (d d' : Fields) (fs : List Frame) (v : List ℕ) (r : Fields) → d ≡ d' → Closes d fs v r → Closes d' fs v r
closes_as d d' fs v r e h = subst (λ d. Closes d fs v r) e h

-- nothing that joins stands where a message closes or the text ends
apart_closes : (d : Fields) (fs : List Frame) (w v : List ℕ) (r : Fields) → Apart w → Closes d fs v r → Apart (w ++ v)
apart_closes d fs (b ∷ w) v r a h = a
apart_closes d [] [] v r a h = subst Apart (sym h.0) tt
apart_closes d (f ∷ fs) [] v r a (c, u, e, k, o) = subst Apart (sym e) (ap joins k ∙ closes_no_token f.mark)
  where
    closes_no_token : (m : Mark) → joins (closing m) ≡ false
    closes_no_token Brace = refl
    closes_no_token Angle = refl

pub complete : {p : Place} {w : List ℕ} {x : Fields} → Stands p w x → (d : Fields) (fs : List Frame) (v : List ℕ) (r : Fields)
    → Closes (append d x) fs v r → outcome (st d fs (at p)) (w ++ v) ≡ Some r
complete (g.ends {f = f}) d fs v r h = ends_run d fs f v r (closes_as _ _ fs v r (append_none d) h)
complete (g.gap {p = p} {g = u} {w = w} k h) d fs v r c =
    ap (outcome (st d fs (at p))) (append_assoc u w v) ∙ gap_run d fs p u (w ++ v) k ∙ complete h d fs v r c
complete (g.separator {b = b} {w = w} k h) d fs v r c =
    go d fs (at (start true)) d fs (at (start false)) b (class_of b) (w ++ v) refl (separator_byte d fs (class_of b) b k) ∙ complete h d fs v r c
complete (g.name {f = f} {n = n} {w = w} k a h) d fs v r c =
    ap (outcome (st d fs (at (start f)))) (append_assoc n w v) ∙ name_run d fs f n (w ++ v) (name_begins n k) (apart_closes _ fs w v r a c) ∙ complete h d fs v r c
complete (g.colon {b = b} {n = n} {w = w} k h) d fs v r c =
    go d fs (at (named n)) d fs (at (valued n)) b Colon (w ++ v) k refl ∙ complete h d fs v r c
complete (g.list {p = p} {b = b} {n = n} {w = w} {c = l} e k h) d fs v r c =
    go d fs (at p) d fs (at (opened n l)) b BracketOpen (w ++ v) k (list_byte d fs p b (n, l) e) ∙ complete h d fs v r c
complete (g.list_end {p = p} {b = b} {w = w} e k h) d fs v r c =
    go d fs (at p) d fs (at (start true)) b BracketClose (w ++ v) k (list_end_byte d fs p b e) ∙ complete h d fs v r c
complete (g.comma {b = b} {n = n} {w = w} {m = m} k h) d fs v r c =
    go d fs (at (behind n m)) d fs (at (element n m)) b Comma (w ++ v) k refl ∙ complete h d fs v r c
complete (g.a_word {p = p} {n = n} u {w = w} {s = s} {t = t} e k a h) d fs v r c =
    ap (outcome (st d fs (at p))) (append_assoc u w v) ∙ word_run d fs p n s u (w ++ v) e k (apart_closes _ fs w v r a c)
    ∙ complete h (append d (scalar n word u none)) fs v r (closes_as _ _ fs v r (sym (append_fields_assoc d (scalar n word u none) t)) c)
complete (g.a_number {p = p} {n = n} {u = u} {w = w} {s = s} {t = t} e k a h) d fs v r c =
    ap (outcome (st d fs (at p))) (append_assoc u w v) ∙ number_run d fs p n s u (w ++ v) e (number_begins u k) (apart_closes _ fs w v r a c)
    ∙ complete h (append d (scalar n number u none)) fs v r (closes_as _ _ fs v r (sym (append_fields_assoc d (scalar n number u none) t)) c)
complete (g.piece {p = p} {b = b} {n = n} {sofar = sofar} {u = u} {d = e} {w = w} {s = s} {q = q} l k i h) d fs v r c =
    ap (λ z. outcome (st d fs (at p)) (b ∷ z)) (append_assoc u w v) ∙ piece_run d fs p n s sofar q b u e (w ++ v) l k i ∙ complete h d fs v r c
complete (g.a_string {n = n} {w = w} {d = bytes} {s = s} {t = t} h) d fs v r c =
    string_whole d fs n s bytes (w ++ v) r _ _ both_at
    (complete h (append d (scalar n quoted bytes none)) fs v r (closes_as _ _ fs v r (sym (append_fields_assoc d (scalar n quoted bytes none) t)) c))
complete (g.a_message {p = p} {o = o} b {n = n} {u = u} {w = w} {s = s} m {x = x} {t = t} e k h l i) d fs v r c =
    ap (λ z. outcome (st d fs (at p)) (o ∷ z)) (append_assoc u (b ∷ w) v)
    ∙ go d fs (at p) none (record { before = d; name = n; slot = s; mark = m } ∷ fs) (at (start false)) o (opening m) (u ++ (b ∷ w ++ v)) k (open_byte d fs p m o (n, s) e)
    ∙ complete h none (record { before = d; name = n; slot = s; mark = m } ∷ fs) (b ∷ w ++ v) r
    (b, w ++ v, refl, l, complete i (append d (message n x none)) fs v r (closes_as _ _ fs v r (sym (append_fields_assoc d (message n x none) t)) c))

-- a text is taken
pub complete_text : (w : List ℕ) (t : Fields) → Stands (start false) w t → outcome begin w ≡ Some t
complete_text w t h = ap (outcome begin) (sym (append-nil w)) ∙ complete h none [] [] t (refl, refl)
