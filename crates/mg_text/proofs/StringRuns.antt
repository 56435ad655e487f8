-- How the machine runs through pieces of strings, and where a string is whole.
use Rattle.std.proofs.Common.{◌≡◌, ℕ, ◌-◌, List, [], ◌∷◌, ◌++◌, true, false, cond, Option, Some, None, refl, sym, ap, ◌∙◌, append_assoc, option_and_then}
use Rattle.std.proofs.lemmas.List.{append-nil}
use Rattle.std.specs.Option.{option_map}
use Rattle.mg_text.specs.declared.parts.Class.{Class}
use Rattle.mg_text.specs.declared.parts.Class.TheVariants.{Blank, LineFeed, Hash, DoubleQuote, SingleQuote, Backslash, Zero, One, Beyond}
use Rattle.mg_text.specs.declared.parts.Quote.{Quote}
use Rattle.mg_text.specs.declared.parts.Quote.TheVariants.{Single, Double}
use Rattle.mg_text.specs.declared.parts.Slot.{Slot}
use Rattle.mg_text.specs.declared.parts.Slot.TheVariants as slots
use Rattle.mg_text.specs.declared.parts.Tail.{Tail}
use Rattle.mg_text.specs.declared.parts.Tail.TheVariants.{Whole}
use Rattle.mg_text.specs.declared.state.Inside.{Inside}
use Rattle.mg_text.specs.declared.state.Inside.TheVariants.{Plain, Escape, Second, Third}
use Rattle.mg_text.specs.Byte.{IsTail, byte, class_of, is_octal, lead, follow, whole as no_tail}
use Rattle.mg_text.specs.Tree.{quoted, Fields, none, scalar, append}
use Rattle.mg_text.specs.Grammar as g
use Rattle.mg_text.specs.Grammar.{Place, joined, after, piece_slot, quote_class}
use Rattle.mg_text.specs.Code.Machine.{Spot, at, comment, piece, Frame, State, moves, settled, settled_place, quote_spot, step_settled, step_at, comment_spot, awaits, inside_next, is_closing_quote, goes_on, piece_spot, digit_onto, escape_next, accepts_spot, outcome}
use Rattle.mg_text.proofs.Choices.{if_so}
use Rattle.mg_text.proofs.ByteValues.{lead_beyond, octal_digit, first_octal_digit, octal_value}
use Rattle.mg_text.proofs.Runs.{st, go}
use Rattle.mg_text.proofs.TokenRuns.{accepts_after}

-- pieces of strings

not_closing : (q : Quote) (i : Inside) (c : Class) (n : Inside × List ℕ) (b : ℕ) → inside_next q i c b ≡ Some n → is_closing_quote q i c ≡ false
not_closing Single (Plain Whole) SingleQuote n b e = cc
not_closing Double (Plain Whole) DoubleQuote n b e = cc
not_closing _ _ _ n b e = refl

pub piece_step : (n : List ℕ) (slot : Slot) (bytes : List ℕ) (q : Quote) (i : Inside) (c : Class) (b : ℕ) (x : Inside × List ℕ) → inside_next q i c b ≡ Some x
    → piece_spot n slot bytes q i c b ≡ Some (piece n slot (bytes ++ x.1) q x.0)
piece_step n slot bytes q i c b x e =
    ap (λ z. cond z (Some (at (joined n slot bytes))) (goes_on n slot bytes q (inside_next q i c b))) (not_closing q i c x b e)
    ∙ ap (goes_on n slot bytes q) e

pub inside_run : (d : Fields) (fs : List Frame) (n : List ℕ) (slot : Slot) (bytes : List ℕ) (q : Quote) (i : Inside) (b : ℕ) (x : Inside × List ℕ) (w : List ℕ) → inside_next q i (class_of b) b ≡ Some x
    → outcome (st d fs (piece n slot bytes q i)) (b ∷ w) ≡ outcome (st d fs (piece n slot (bytes ++ x.1) q x.0)) w
inside_run d fs n slot bytes q i b x w e =
    go d fs (piece n slot bytes q i) d fs (piece n slot (bytes ++ x.1) q x.0) b (class_of b) w refl (ap (moves (st d fs (piece n slot bytes q i))) (piece_step n slot bytes q i (class_of b) b x e))

pub plain_byte : (q : Quote) (c : Class) (b : ℕ) → g.in_piece q c ≡ true → inside_next q (Plain Whole) c b ≡ Some (Plain Whole, b ∷ [])
plain_byte Single Backslash b e = cc
plain_byte Single Beyond b e = cc
plain_byte Single LineFeed b e = cc
plain_byte Single SingleQuote b e = cc
plain_byte Single c b e = refl
plain_byte Double Backslash b e = cc
plain_byte Double Beyond b e = cc
plain_byte Double LineFeed b e = cc
plain_byte Double DoubleQuote b e = cc
plain_byte Double c b e = refl

pub tail_byte : (q : Quote) (t u : Tail) (c : Class) (b : ℕ) → follow t b ≡ Some u → inside_next q (Plain t) c b ≡ Some (Plain u, b ∷ [])
tail_byte q Whole u c b e = cc
tail_byte q t u c b e = ap (option_map (λ u. (Plain u, b ∷ []))) e

pub escape_byte : (q : Quote) (c : Class) (b v : ℕ) → g.escaped c ≡ Some v → inside_next q Escape c b ≡ Some (Plain Whole, v ∷ [])
escape_byte q c b v e = ap (λ o. escape_next o c b) e

first_byte : (q : Quote) (c : Class) (b : ℕ) → g.is_first_octal c ≡ true → inside_next q Escape c b ≡ Some (Second (b - 48), [])
first_byte q Zero b e = refl
first_byte q One b e = refl
first_byte q _ b e = cc

pub closing_byte : (q : Quote) (n : List ℕ) (slot : Slot) (bytes : List ℕ) (b : ℕ) → piece_spot n slot bytes q (Plain Whole) (quote_class q) b ≡ Some (at (joined n slot bytes))
closing_byte Single n slot bytes b = refl
closing_byte Double n slot bytes b = refl

bytes_then : (d : Fields) (fs : List Frame) (n : List ℕ) (slot : Slot) (bytes more e w : List ℕ) → outcome (st d fs (at (joined n slot ((bytes ++ more) ++ e)))) w ≡ outcome (st d fs (at (joined n slot (bytes ++ (more ++ e))))) w
bytes_then d fs n slot bytes more e w = ap (λ z. outcome (st d fs (at (joined n slot z))) w) (append_assoc bytes more e)

pub tail_bytes : (d : Fields) (fs : List Frame) (n : List ℕ) (slot : Slot) (bytes : List ℕ) (q : Quote) (t : Tail) (u w : List ℕ) → IsTail t u
    → outcome (st d fs (piece n slot bytes q (Plain t))) (u ++ w) ≡ outcome (st d fs (piece n slot (bytes ++ u) q (Plain Whole))) w
tail_bytes d fs n slot bytes q t u w no_tail = ap (λ z. outcome (st d fs (piece n slot z q (Plain Whole))) w) (sym (append-nil bytes))
tail_bytes d fs n slot bytes q t u w (byte {u = next} {b = b} {s = s} e h) =
    inside_run d fs n slot bytes q (Plain t) b (Plain next, b ∷ []) (s ++ w) (tail_byte q t next (class_of b) b e)
    ∙ tail_bytes d fs n slot (bytes ++ b ∷ []) q next s w h ∙ ap (λ z. outcome (st d fs (piece n slot z q (Plain Whole))) w) (append_assoc bytes (b ∷ []) s)

pub content_run : (q : Quote) (d : Fields) (fs : List Frame) (n : List ℕ) (slot : Slot) (bytes u e w : List ℕ) → g.IsContent q u e
    → outcome (st d fs (piece n slot bytes q (Plain Whole))) (u ++ w) ≡ outcome (st d fs (at (joined n slot (bytes ++ e)))) w
content_run q d fs n slot bytes u e w (g.closes {b = b} k) =
    go d fs (piece n slot bytes q (Plain Whole)) d fs (at (joined n slot bytes)) b (quote_class q) w k (ap (moves (st d fs (piece n slot bytes q (Plain Whole)))) (closing_byte q n slot bytes b))
    ∙ ap (λ z. outcome (st d fs (at (joined n slot z))) w) (sym (append-nil bytes))
content_run q d fs n slot bytes u e w (g.ascii {b = b} {s = s} {d = more} k h) =
    inside_run d fs n slot bytes q (Plain Whole) b (Plain Whole, b ∷ []) (s ++ w) (plain_byte q (class_of b) b k)
    ∙ content_run q d fs n slot (bytes ++ b ∷ []) s more w h ∙ bytes_then d fs n slot bytes (b ∷ []) more w
content_run q d fs n slot bytes u e w (g.beyond {b = b} {t = t} {u = tail} {s = s} {d = more} k i h) =
    ap (λ z. outcome (st d fs (piece n slot bytes q (Plain Whole))) (b ∷ z)) (append_assoc tail s w)
    ∙ inside_run d fs n slot bytes q (Plain Whole) b (Plain t, b ∷ []) (tail ++ (s ++ w)) (ap (λ c. inside_next q (Plain Whole) c b) (lead_beyond b t k) ∙ ap (option_map (λ t. (Plain t, b ∷ []))) k)
    ∙ tail_bytes d fs n slot (bytes ++ b ∷ []) q t tail (s ++ w) i
    ∙ content_run q d fs n slot ((bytes ++ b ∷ []) ++ tail) s more w h
    ∙ ap (λ z. outcome (st d fs (at (joined n slot (z ++ more)))) w) (append_assoc bytes (b ∷ []) tail) ∙ bytes_then d fs n slot bytes (b ∷ tail) more w
content_run q d fs n slot bytes u e w (g.escape {b = b} {c = c} {v = v} {s = s} {d = more} k i h) =
    inside_run d fs n slot bytes q (Plain Whole) b (Escape, []) (c ∷ s ++ w) (ap (λ c. inside_next q (Plain Whole) c b) k)
    ∙ inside_run d fs n slot (bytes ++ []) q Escape c (Plain Whole, v ∷ []) (s ++ w) (escape_byte q (class_of c) c v i)
    ∙ content_run q d fs n slot ((bytes ++ []) ++ v ∷ []) s more w h
    ∙ ap (λ z. outcome (st d fs (at (joined n slot ((z ++ v ∷ []) ++ more)))) w) (append-nil bytes) ∙ bytes_then d fs n slot bytes (v ∷ []) more w
content_run q d fs n slot bytes u e w (g.octal_escape {b = b} {i = i} {j = j} {k = k} {s = s} {d = more} back f x y h) =
    let v = digit_onto (digit_onto (i - 48) j) k in
    inside_run d fs n slot bytes q (Plain Whole) b (Escape, []) (i ∷ j ∷ k ∷ s ++ w) (ap (λ c. inside_next q (Plain Whole) c b) back)
    ∙ inside_run d fs n slot (bytes ++ []) q Escape i (Second (i - 48), []) (j ∷ k ∷ s ++ w) (first_byte q (class_of i) i f)
    ∙ inside_run d fs n slot ((bytes ++ []) ++ []) q (Second (i - 48)) j (Third (digit_onto (i - 48) j), []) (k ∷ s ++ w) (if_so (is_octal (class_of j)) None x)
    ∙ inside_run d fs n slot (((bytes ++ []) ++ []) ++ []) q (Third (digit_onto (i - 48) j)) k (Plain Whole, v ∷ []) (s ++ w) (if_so (is_octal (class_of k)) None y)
    ∙ content_run q d fs n slot ((((bytes ++ []) ++ []) ++ []) ++ v ∷ []) s more w h
    ∙ ap (λ z. outcome (st d fs (at (joined n slot ((z ++ v ∷ []) ++ more)))) w) (append-nil ((bytes ++ []) ++ []) ∙ append-nil (bytes ++ []) ∙ append-nil bytes) ∙ bytes_then d fs n slot bytes (v ∷ []) more w
    ∙ ap (λ z. outcome (st d fs (at (joined n slot (bytes ++ z ∷ more)))) w) (sym (octal_value i j k (first_octal_digit i f) (octal_digit j x) (octal_digit k y)))

quote_byte : (d : Fields) (fs : List Frame) (p : Place) (q : Quote) (b : ℕ) (l : List ℕ × Slot × List ℕ) → piece_slot p ≡ Some l
    → step_at (st d fs (at p)) p (quote_class q) b ≡ Some (st d fs (piece l.0 l.1 l.2 q (Plain Whole)))
quote_byte d fs p Single b l e = ap (λ o. moves (st d fs (at p)) (quote_spot Single o)) e
quote_byte d fs p Double b l e = ap (λ o. moves (st d fs (at p)) (quote_spot Double o)) e

pub piece_run : (d : Fields) (fs : List Frame) (p : Place) (n : List ℕ) (slot : Slot) (sofar : List ℕ) (q : Quote) (b : ℕ) (u e v : List ℕ) → piece_slot p ≡ Some (n, slot, sofar)
    → class_of b ≡ quote_class q → g.IsContent q u e → outcome (st d fs (at p)) (b ∷ u ++ v) ≡ outcome (st d fs (at (joined n slot (sofar ++ e)))) v
piece_run d fs p n slot sofar q b u e v l k h =
    go d fs (at p) d fs (piece n slot sofar q (Plain Whole)) b (quote_class q) (u ++ v) k (quote_byte d fs p q b (n, slot, sofar) l)
    ∙ content_run q d fs n slot sofar u e v h

-- A string is whole if what follows can stand after it.

abbrev whole_string : Fields → List ℕ → Slot → List ℕ → Fields
whole_string d n slot bytes = append d (scalar n quoted bytes none)

-- the same spot, after a string that may go on and after one that is whole
pub data SameSpot (n : List ℕ) (slot : Slot) (bytes : List ℕ) : Spot → Spot → Type 0 where
  both_at : SameSpot n slot bytes (at (joined n slot bytes)) (at (after n slot))
  both_in : (t : Tail) → SameSpot n slot bytes (comment (joined n slot bytes) t) (comment (after n slot) t)

no_piece_after : (n : List ℕ) (slot : Slot) → piece_slot (after n slot) ≡ None
no_piece_after n slots.One = refl
no_piece_after n slots.Scalars = refl
no_piece_after n slots.Messages = refl

settled_after : (s : State) (n : List ℕ) (slot : Slot) → settled s (after n slot) ≡ st s.done s.frames (at (after n slot))
settled_after s n slots.One = refl
settled_after s n slots.Scalars = refl
settled_after s n slots.Messages = refl

settled_place_after : (n : List ℕ) (slot : Slot) → settled_place (after n slot) ≡ after n slot
settled_place_after n slots.One = refl
settled_place_after n slots.Scalars = refl
settled_place_after n slots.Messages = refl

abbrev out_of : List ℕ → Option State → Option Fields
out_of w o = option_and_then (λ next. outcome next w) o

no_quote : (d : Fields) (fs : List Frame) (n : List ℕ) (slot : Slot) (q : Quote) (w : List ℕ) (r : Fields) (o : Option Fields)
    → out_of w (moves (st d fs (at (after n slot))) (quote_spot q (piece_slot (after n slot)))) ≡ Some r → o ≡ Some r
no_quote d fs n slot q w r o e =
    let none_is : None ≡ Some r = ap (λ x. out_of w (moves (st d fs (at (after n slot))) (quote_spot q x))) (sym (no_piece_after n slot)) ∙ e in cc

settled_step : (d : Fields) (fs : List Frame) (n : List ℕ) (slot : Slot) (bytes : List ℕ) (c : Class) (b : ℕ)
    → step_settled (settled (st d fs (at (joined n slot bytes))) (joined n slot bytes)) (settled_place (joined n slot bytes)) c b
    ≡ step_settled (settled (st (whole_string d n slot bytes) fs (at (after n slot))) (after n slot)) (settled_place (after n slot)) c b
settled_step d fs n slot bytes c b =
    sym (ap (λ s. step_settled s (settled_place (after n slot)) c b) (settled_after (st (whole_string d n slot bytes) fs (at (after n slot))) n slot)
    ∙ ap (λ p. step_settled (st (whole_string d n slot bytes) fs (at (after n slot))) p c b) (settled_place_after n slot))

same_at : (d : Fields) (fs : List Frame) (n : List ℕ) (slot : Slot) (bytes : List ℕ) (c : Class) (b : ℕ) (w : List ℕ) (r : Fields)
    → ((x y : Spot) → SameSpot n slot bytes x y → outcome (st (whole_string d n slot bytes) fs y) w ≡ Some r → outcome (st d fs x) w ≡ Some r)
    → out_of w (step_at (st (whole_string d n slot bytes) fs (at (after n slot))) (after n slot) c b) ≡ Some r
    → out_of w (step_at (st d fs (at (joined n slot bytes))) (joined n slot bytes) c b) ≡ Some r
same_at d fs n slot bytes Blank b w r f e = f _ _ both_at e
same_at d fs n slot bytes LineFeed b w r f e = f _ _ both_at e
same_at d fs n slot bytes Hash b w r f e = f _ _ (both_in Whole) e
same_at d fs n slot bytes SingleQuote b w r f e = no_quote (whole_string d n slot bytes) fs n slot Single w r _ e
same_at d fs n slot bytes DoubleQuote b w r f e = no_quote (whole_string d n slot bytes) fs n slot Double w r _ e
same_at d fs n slot bytes c b w r f e = ap (out_of w) (settled_step d fs n slot bytes c b) ∙ e

same_awaits : (d : Fields) (fs : List Frame) (n : List ℕ) (slot : Slot) (bytes : List ℕ) (o : Option Tail) (w : List ℕ) (r : Fields)
    → ((x y : Spot) → SameSpot n slot bytes x y → outcome (st (whole_string d n slot bytes) fs y) w ≡ Some r → outcome (st d fs x) w ≡ Some r)
    → (x y : Spot) → out_of w (moves (st (whole_string d n slot bytes) fs y) (awaits (after n slot) o)) ≡ Some r
    → out_of w (moves (st d fs x) (awaits (joined n slot bytes) o)) ≡ Some r
same_awaits d fs n slot bytes None w r f x y e = cc
same_awaits d fs n slot bytes (Some t) w r f x y e = f _ _ (both_in t) e

same_in : (d : Fields) (fs : List Frame) (n : List ℕ) (slot : Slot) (bytes : List ℕ) (t : Tail) (c : Class) (b : ℕ) (w : List ℕ) (r : Fields)
    → ((x y : Spot) → SameSpot n slot bytes x y → outcome (st (whole_string d n slot bytes) fs y) w ≡ Some r → outcome (st d fs x) w ≡ Some r)
    → out_of w (moves (st (whole_string d n slot bytes) fs (comment (after n slot) t)) (comment_spot (after n slot) t c b)) ≡ Some r
    → out_of w (moves (st d fs (comment (joined n slot bytes) t)) (comment_spot (joined n slot bytes) t c b)) ≡ Some r
same_in d fs n slot bytes Whole LineFeed b w r f e = f _ _ both_at e
same_in d fs n slot bytes Whole Beyond b w r f e = same_awaits d fs n slot bytes (lead b) w r f (comment (joined n slot bytes) Whole) (comment (after n slot) Whole) e
same_in d fs n slot bytes Whole c b w r f e = f _ _ (both_in Whole) e
same_in d fs n slot bytes t c b w r f e = same_awaits d fs n slot bytes (follow t b) w r f (comment (joined n slot bytes) t) (comment (after n slot) t) e

whole_end : (d : Fields) (fs : List Frame) (n : List ℕ) (slot : Slot) (bytes : List ℕ) (r : Fields) → (x y : Spot) → SameSpot n slot bytes x y
    → accepts_spot (st (whole_string d n slot bytes) fs y) y ≡ Some r → accepts_spot (st d fs x) x ≡ Some r
whole_end d fs n slot bytes r x y both_at e =
    sym (accepts_after (whole_string d n slot bytes) fs n slot) ∙ e
whole_end d fs n slot bytes r x y (both_in t) e = cc

pub string_whole : (d : Fields) (fs : List Frame) (n : List ℕ) (slot : Slot) (bytes : List ℕ) (w : List ℕ) (r : Fields) (x y : Spot) → SameSpot n slot bytes x y
    → outcome (st (whole_string d n slot bytes) fs y) w ≡ Some r → outcome (st d fs x) w ≡ Some r
string_whole d fs n slot bytes [] r x y s e = whole_end d fs n slot bytes r x y s e
string_whole d fs n slot bytes (b ∷ w) r x y both_at e = same_at d fs n slot bytes (class_of b) b w r (string_whole d fs n slot bytes w r) e
string_whole d fs n slot bytes (b ∷ w) r x y (both_in t) e = same_in d fs n slot bytes t (class_of b) b w r (string_whole d fs n slot bytes w r) e
