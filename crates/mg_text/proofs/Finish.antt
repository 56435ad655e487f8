-- Each state can be completed: what the machine has taken begins some text.
use Rattle.std.proofs.Common.{max, length, suc, arith, ◌≤◌, ◌≡◌, ℕ, ◌+◌, List, [], ◌∷◌, ◌++◌, Bool, true, false, Some, refl, sym, ap, ◌∙◌, subst, append_assoc}
use Rattle.std.proofs.lemmas.List.{append-nil}
use Rattle.mg_text.specs.declared.parts.Mark.{Mark}
use Rattle.mg_text.specs.declared.parts.Mark.TheVariants.{Brace, Angle}
use Rattle.mg_text.specs.declared.parts.Quote.{Quote}
use Rattle.mg_text.specs.declared.parts.Quote.TheVariants.{Single, Double}
use Rattle.mg_text.specs.declared.parts.Slot.{Slot}
use Rattle.mg_text.specs.declared.parts.Slot.TheVariants as slots
use Rattle.mg_text.specs.declared.parts.Tail.{Tail}
use Rattle.mg_text.specs.declared.parts.Tail.TheVariants.{Whole, OneMore, TwoMore, ThreeMore, AfterE0, AfterED, AfterF0, AfterF4}
use Rattle.mg_text.specs.declared.state.NamePart.{NamePart}
use Rattle.mg_text.specs.declared.state.NamePart.TheVariants as np
use Rattle.mg_text.specs.declared.state.ScalarPart.{ScalarPart}
use Rattle.mg_text.specs.declared.state.ScalarPart.TheVariants as sp
use Rattle.mg_text.specs.declared.state.Inside.TheVariants.{Plain, Escape, Second, Third}
use Rattle.mg_text.specs.Byte.{below_digits, digit_class, upper_class, lower_class, IsTail, byte, class_of, whole as no_tail}
use Rattle.mg_text.specs.Tree.{Kind, number, quoted, Fields, none, scalar, message, append, depth}
use Rattle.mg_text.specs.Grammar as g
use Rattle.mg_text.specs.Grammar.{Stands, Apart, Place, start, named, valued, opened, element, behind, joined, after, closing}
use Rattle.mg_text.specs.Code.Machine.{Spot, at, comment, naming, token, piece, Frame, State, digit_onto, outcome, kind_of}
use Rattle.mg_text.proofs.Names.{NameEnds}
use Rattle.mg_text.proofs.Scalars.{ScalarEnds}
use Rattle.mg_text.proofs.Runs.{st, tail_run, line_run, gap_run}
use Rattle.mg_text.proofs.TokenRuns.{naming_run, token_run}
use Rattle.mg_text.proofs.StringRuns.{inside_run, tail_bytes}
use Rattle.mg_text.proofs.Complete.{complete}

-- The depth of the whole so far, if the innermost open message is k deep.
abbrev pub level : ℕ → List Frame → ℕ
level k [] = k
level k (f ∷ fs) = level (max (depth f.before) (suc k)) fs

pub depth-append : (a b : Fields) → depth (append a b) ≡ max (depth a) (depth b)
depth-append none b = omega arith
depth-append (scalar n k s a) b = depth-append a b
depth-append (message n x a) b = omega (arith, depth-append a b)

pub depth-resumed : (before inner : Fields) (n : List ℕ) → depth (append before (message n inner none)) ≡ max (depth before) (suc (depth inner))
depth-resumed before inner n = omega (arith, depth-append before (message n inner none))

pub level_max : (k e : ℕ) (fs : List Frame) → level (max k e) fs ≤ max (level k fs) (length fs + e)
level_max k e [] = omega arith
level_max k e (f ∷ fs) =
    let same : max (depth f.before) (suc (max k e)) ≡ max (max (depth f.before) (suc k)) (suc e) = omega arith in
    rw same (omega (arith, level_max (max (depth f.before) (suc k)) (suc e) fs))

pub level_least : (k : ℕ) (fs : List Frame) → length fs + k ≤ level k fs
level_least k [] = omega arith
level_least k (f ∷ fs) = omega (arith, level_least (max (depth f.before) (suc k)) fs)

-- a completion nests deeper only if a message has to follow
abbrev pub extra : Place → ℕ
extra (element n true) = 1
extra _ = 0

-- these bytes end the message that the place is in
pub record Finish (p : Place) (z : List ℕ) : Type 0 where
  pub bytes : List ℕ
  pub fields : Fields
  pub stands : Stands p (bytes ++ z) fields
  pub shallow : depth fields ≤ extra p

after_finish : (n : List ℕ) (slot : Slot) (z : List ℕ) → Stands (start true) z none → Finish (after n slot) z
unfolding class_of below_digits digit_class upper_class lower_class
after_finish n slots.One z h = record { bytes = []; fields = none; stands = h; shallow = omega arith }
after_finish n slots.Scalars z h = record { bytes = 93 ∷ []; fields = none; stands = g.list_end refl refl h; shallow = omega arith }
after_finish n slots.Messages z h = record { bytes = 93 ∷ []; fields = none; stands = g.list_end refl refl h; shallow = omega arith }

one_digit : g.IsNumber (48 ∷ [])
unfolding class_of below_digits digit_class upper_class lower_class
one_digit = g.unsigned (g.whole (48 ∷ []) (refl, tt) (g.no_exponent g.no_suffix))

joined_finish : (n : List ℕ) (slot : Slot) (d z : List ℕ) → extra (after n slot) ≡ 0 → Finish (after n slot) z → Finish (joined n slot d) z
joined_finish n slot d z e f = record { bytes = f.bytes; fields = scalar n quoted d f.fields; stands = g.a_string f.stands; shallow = omega (arith, f.shallow) }

extra_after : (n : List ℕ) (slot : Slot) → extra (after n slot) ≡ 0
extra_after n slots.One = refl
extra_after n slots.Scalars = refl
extra_after n slots.Messages = refl

finish_place : (p : Place) (z : List ℕ) → ((f : Bool) → Stands (start f) z none) → Apart z → Finish p z
unfolding class_of below_digits digit_class upper_class lower_class
finish_place (start f) z h a = record { bytes = []; fields = none; stands = h f; shallow = omega arith }
finish_place (named n) z h a = record { bytes = 58 ∷ 48 ∷ []; fields = scalar n number (48 ∷ []) none; stands = g.colon refl (g.a_number {s = slots.One} refl one_digit a (h true)); shallow = omega arith }
finish_place (valued n) z h a = record { bytes = 48 ∷ []; fields = scalar n number (48 ∷ []) none; stands = g.a_number {s = slots.One} refl one_digit a (h true); shallow = omega arith }
finish_place (opened n c) z h a = record { bytes = 93 ∷ []; fields = none; stands = g.list_end refl refl (h true); shallow = omega arith }
finish_place (element n false) z h a = record { bytes = 48 ∷ 93 ∷ []; fields = scalar n number (48 ∷ []) none; stands = g.a_number {w = 93 ∷ z} {s = slots.Scalars} refl one_digit refl (g.list_end refl refl (h true)); shallow = omega arith }
finish_place (element n true) z h a = record { bytes = 123 ∷ 125 ∷ 93 ∷ []; fields = message n none none; stands = g.a_message 125 {w = 93 ∷ z} {s = slots.Messages} Brace refl refl g.ends refl (g.list_end refl refl (h true)); shallow = omega arith }
finish_place (behind n c) z h a = record { bytes = 93 ∷ []; fields = none; stands = g.list_end refl refl (h true); shallow = omega arith }
finish_place (joined n slot d) z h a = joined_finish n slot d z (extra_after n slot) (after_finish n slot z (h true))

-- these bytes and a line feed make a whole
pub record Completion (s : State) (most : ℕ) : Type 0 where
  pub bytes : List ℕ
  pub fields : Fields
  pub whole : outcome s (bytes ++ 10 ∷ []) ≡ Some fields
  pub shallow : depth fields ≤ most

line_feed_ends : (f : Bool) → Stands (start f) (10 ∷ []) none
unfolding class_of below_digits digit_class upper_class lower_class
line_feed_ends f = g.gap (g.blank {b = 10} refl) g.ends

line_feed_apart : Apart (10 ∷ [])
unfolding class_of below_digits digit_class upper_class lower_class
line_feed_apart = refl

closing_byte_of : Mark → ℕ
closing_byte_of Brace = 125
closing_byte_of Angle = 62

closing_class : (m : Mark) → class_of (closing_byte_of m) ≡ closing m
unfolding class_of below_digits digit_class upper_class lower_class closing_byte_of
closing_class Brace = refl
closing_class Angle = refl

level_inner : (fs : List Frame) (b k e i x : ℕ) → x ≡ max b (suc i) → i ≡ max k e → level x fs ≤ max (level (max b (suc k)) fs) (length fs + suc e)
level_inner fs b k e i x xe ie =
    let same : x ≡ max (max b (suc k)) (suc e) = omega arith in
    rw same (level_max (max b (suc k)) (suc e) fs)

finish_at : (fs : List Frame) (d : Fields) (p : Place) → Completion (st d fs (at p)) (max (level (depth d) fs) (length fs + extra p))
finish_at [] d p =
    let f = finish_place p (10 ∷ []) line_feed_ends line_feed_apart in
    record {
      bytes = f.bytes;
      fields = append d f.fields;
      whole = ap (outcome (st d [] (at p))) (sym (append-nil (f.bytes ++ 10 ∷ []))) ∙ complete f.stands d [] [] (append d f.fields) (refl, refl);
      shallow = omega (arith, depth-append d f.fields, f.shallow);
    }
finish_at (frame ∷ fs) d p =
    let f = finish_place p [] (λ f. g.ends) tt in
    let inner = append d f.fields in
    let r = finish_at fs (append frame.before (message frame.name inner none)) (after frame.name frame.slot) in
    let c = closing_byte_of frame.mark in
    record {
      bytes = f.bytes ++ c ∷ r.bytes;
      fields = r.fields;
      whole = ap (outcome (st d (frame ∷ fs) (at p))) (append_assoc f.bytes (c ∷ r.bytes) (10 ∷ []) ∙ ap (λ z. z ++ (c ∷ r.bytes ++ 10 ∷ [])) (sym (append-nil f.bytes)))
          ∙ complete f.stands d (frame ∷ fs) (c ∷ r.bytes ++ 10 ∷ []) r.fields (c, r.bytes ++ 10 ∷ [], refl, closing_class frame.mark, r.whole);
      shallow =
          let step = level_inner fs (depth frame.before) (depth d) (depth f.fields) (depth inner) (depth (append frame.before (message frame.name inner none)))
          (depth-resumed frame.before inner frame.name) (depth-append d f.fields) in
          let none_extra = extra_after frame.name frame.slot in
          let deeper = f.shallow in
          let found = r.shallow in
          omega (arith, step, none_extra, deeper, found);
    }

-- characters, names, numbers and pieces that are read in part

record CharEnd (t : Tail) : Type 0 where
  bytes : List ℕ
  ends : IsTail t bytes

char_end : (t : Tail) → CharEnd t
char_end Whole = record { bytes = []; ends = no_tail }
char_end OneMore = record { bytes = 128 ∷ []; ends = byte refl no_tail }
char_end TwoMore = record { bytes = 128 ∷ 128 ∷ []; ends = byte refl (byte refl no_tail) }
char_end ThreeMore = record { bytes = 128 ∷ 128 ∷ 128 ∷ []; ends = byte refl (byte refl (byte refl no_tail)) }
char_end AfterE0 = record { bytes = 160 ∷ 128 ∷ []; ends = byte refl (byte refl no_tail) }
char_end AfterED = record { bytes = 128 ∷ 128 ∷ []; ends = byte refl (byte refl no_tail) }
char_end AfterF0 = record { bytes = 144 ∷ 128 ∷ 128 ∷ []; ends = byte refl (byte refl (byte refl no_tail)) }
char_end AfterF4 = record { bytes = 128 ∷ 128 ∷ 128 ∷ []; ends = byte refl (byte refl (byte refl no_tail)) }

record NameEnd (part : NamePart) : Type 0 where
  bytes : List ℕ
  ends : NameEnds part bytes

name_end : (part : NamePart) → NameEnd part
unfolding class_of below_digits digit_class upper_class lower_class
name_end np.Word = record { bytes = []; ends = refl }
name_end np.Begins = record { bytes = 97 ∷ 93 ∷ []; ends = (np.Inner, refl, (np.Closed, refl, refl)) }
name_end np.Inner = record { bytes = 93 ∷ []; ends = (np.Closed, refl, refl) }
name_end np.SlashBegins = record { bytes = 97 ∷ 93 ∷ []; ends = (np.SlashInner, refl, (np.Closed, refl, refl)) }
name_end np.SlashInner = record { bytes = 93 ∷ []; ends = (np.Closed, refl, refl) }
name_end np.Closed = record { bytes = []; ends = refl }

record ScalarEnd (part : ScalarPart) : Type 0 where
  bytes : List ℕ
  ends : ScalarEnds part bytes

scalar_end : (part : ScalarPart) → ScalarEnd part
unfolding class_of below_digits digit_class upper_class lower_class
scalar_end sp.Word = record { bytes = []; ends = refl }
scalar_end sp.Minus = record { bytes = 48 ∷ []; ends = (sp.Zero, refl, refl) }
scalar_end sp.Zero = record { bytes = []; ends = refl }
scalar_end sp.Whole = record { bytes = []; ends = refl }
scalar_end sp.Point = record { bytes = 48 ∷ []; ends = (sp.Fraction, refl, refl) }
scalar_end sp.Fraction = record { bytes = []; ends = refl }
scalar_end sp.Exponent = record { bytes = 48 ∷ []; ends = (sp.Power, refl, refl) }
scalar_end sp.Sign = record { bytes = 48 ∷ []; ends = (sp.Power, refl, refl) }
scalar_end sp.Power = record { bytes = []; ends = refl }
scalar_end sp.HexStart = record { bytes = 48 ∷ []; ends = (sp.Hex, refl, refl) }
scalar_end sp.Hex = record { bytes = []; ends = refl }
scalar_end sp.Suffix = record { bytes = []; ends = refl }

-- from a completion of one state to that of another, by bytes that lead there
before : (s t : State) (most : ℕ) (bytes : List ℕ) → ((w : List ℕ) → outcome s (bytes ++ w) ≡ outcome t w) → Completion t most → Completion s most
before s t most bytes f c =
    record { bytes = bytes ++ c.bytes; fields = c.fields; whole = ap (outcome s) (append_assoc bytes c.bytes (10 ∷ [])) ∙ f (c.bytes ++ 10 ∷ []) ∙ c.whole; shallow = c.shallow }

blank_before : (d : Fields) (fs : List Frame) (p : Place) (w : List ℕ) → outcome (st d fs (at p)) (32 ∷ w) ≡ outcome (st d fs (at p)) w
unfolding class_of below_digits digit_class upper_class lower_class
blank_before d fs p w = gap_run d fs p (32 ∷ []) w (g.blank refl)

blank_apart : (w : List ℕ) → Apart (32 ∷ w)
unfolding class_of below_digits digit_class upper_class lower_class
blank_apart w = refl

line_end : (d : Fields) (fs : List Frame) (p : Place) (t : Tail) (w : List ℕ) → outcome (st d fs (comment p t)) (((char_end t).bytes ++ 10 ∷ []) ++ w) ≡ outcome (st d fs (at p)) w
unfolding class_of below_digits digit_class upper_class lower_class
line_end d fs p t w =
    ap (outcome (st d fs (comment p t))) (append_assoc (char_end t).bytes (10 ∷ []) w)
    ∙ tail_run d fs p t (char_end t).bytes (10 ∷ w) (char_end t).ends ∙ line_run d fs p (10 ∷ []) w (g.line_feed refl)

quote_byte_of : Quote → ℕ
quote_byte_of Single = 39
quote_byte_of Double = 34

quote_ends : (d : Fields) (fs : List Frame) (n : List ℕ) (slot : Slot) (bytes : List ℕ) (q : Quote) (w : List ℕ)
    → outcome (st d fs (piece n slot bytes q (Plain Whole))) (quote_byte_of q ∷ w) ≡ outcome (st d fs (at (joined n slot bytes))) w
unfolding class_of below_digits digit_class upper_class lower_class quote_byte_of
quote_ends d fs n slot bytes Single w = refl
quote_ends d fs n slot bytes Double w = refl

-- the fields of a token at the place after it are as deep as those before it
after_token : (d : Fields) (fs : List Frame) (n : List ℕ) (slot : Slot) (kind : Kind) (bytes : List ℕ) → Completion (st (append d (scalar n kind bytes none)) fs (at (after n slot))) (max (level (depth d) fs) (length fs))
after_token d fs n slot kind bytes =
    let c = finish_at fs (append d (scalar n kind bytes none)) (after n slot) in
    let e = extra_after n slot in
    let same : depth (append d (scalar n kind bytes none)) ≡ depth d = omega (arith, depth-append d (scalar n kind bytes none)) in
    let found : depth c.fields ≤ max (level (depth d) fs) (length fs + extra (after n slot)) =
    subst (λ x. depth c.fields ≤ max (level x fs) (length fs + extra (after n slot))) same c.shallow in
    record { bytes = c.bytes; fields = c.fields; whole = c.whole; shallow = omega (arith, found, e) }

less_extra : (s : State) (a b e : ℕ) → e ≡ 0 → Completion s (max a (b + e)) → Completion s (max a b)
less_extra s a b e h c = let found = c.shallow in record { bytes = c.bytes; fields = c.fields; whole = c.whole; shallow = omega (arith, found, h) }

more_extra : (s : State) (a b : ℕ) → Completion s (max a b) → Completion s (max a (b + 0))
more_extra s a b c = let found = c.shallow in record { bytes = c.bytes; fields = c.fields; whole = c.whole; shallow = omega (arith, found) }

joined_completion : (d : Fields) (fs : List Frame) (n : List ℕ) (slot : Slot) (bytes : List ℕ) → Completion (st d fs (at (joined n slot bytes))) (max (level (depth d) fs) (length fs))
joined_completion d fs n slot bytes = less_extra (st d fs (at (joined n slot bytes))) (level (depth d) fs) (length fs) 0 refl (finish_at fs d (joined n slot bytes))

plain_completion : (d : Fields) (fs : List Frame) (n : List ℕ) (slot : Slot) (bytes : List ℕ) (q : Quote) → Completion (st d fs (piece n slot bytes q (Plain Whole))) (max (level (depth d) fs) (length fs))
plain_completion d fs n slot bytes q =
    before _ (st d fs (at (joined n slot bytes))) _ (quote_byte_of q ∷ []) (λ w. quote_ends d fs n slot bytes q w) (joined_completion d fs n slot bytes)

third_completion : (d : Fields) (fs : List Frame) (n : List ℕ) (slot : Slot) (bytes : List ℕ) (q : Quote) (v : ℕ) → Completion (st d fs (piece n slot bytes q (Third v))) (max (level (depth d) fs) (length fs))
unfolding class_of below_digits digit_class upper_class lower_class
third_completion d fs n slot bytes q v =
    before _ _ _ (48 ∷ []) (λ w. inside_run d fs n slot bytes q (Third v) 48 (Plain Whole, digit_onto v 48 ∷ []) w refl) (plain_completion d fs n slot (bytes ++ digit_onto v 48 ∷ []) q)

second_completion : (d : Fields) (fs : List Frame) (n : List ℕ) (slot : Slot) (bytes : List ℕ) (q : Quote) (v : ℕ) → Completion (st d fs (piece n slot bytes q (Second v))) (max (level (depth d) fs) (length fs))
unfolding class_of below_digits digit_class upper_class lower_class
second_completion d fs n slot bytes q v =
    before _ _ _ (48 ∷ []) (λ w. inside_run d fs n slot bytes q (Second v) 48 (Third (digit_onto v 48), []) w refl) (third_completion d fs n slot (bytes ++ []) q (digit_onto v 48))

escape_completion : (d : Fields) (fs : List Frame) (n : List ℕ) (slot : Slot) (bytes : List ℕ) (q : Quote) → Completion (st d fs (piece n slot bytes q Escape)) (max (level (depth d) fs) (length fs))
unfolding class_of below_digits digit_class upper_class lower_class
escape_completion d fs n slot bytes q =
    before _ _ _ (110 ∷ []) (λ w. inside_run d fs n slot bytes q Escape 110 (Plain Whole, 10 ∷ []) w refl) (plain_completion d fs n slot (bytes ++ 10 ∷ []) q)

-- 1 if a message has to follow, and otherwise 0
abbrev pub spot_extra : Spot → ℕ
spot_extra (at p) = extra p
spot_extra (comment p t) = extra p
spot_extra _ = 0

pub finish : (d : Fields) (fs : List Frame) (spot : Spot) → Completion (st d fs spot) (max (level (depth d) fs) (length fs + spot_extra spot))
finish d fs (at p) = finish_at fs d p
finish d fs (comment p t) = before _ (st d fs (at p)) _ ((char_end t).bytes ++ 10 ∷ []) (λ w. line_end d fs p t w) (finish_at fs d p)
finish d fs (naming part bytes) =
    let y = name_end part in
    let n = bytes ++ y.bytes in
    before _ (st d fs (at (named n))) _ (y.bytes ++ 32 ∷ [])
    (λ w. ap (outcome (st d fs (naming part bytes))) (append_assoc y.bytes (32 ∷ []) w) ∙ naming_run d fs part bytes y.bytes (32 ∷ w) y.ends (blank_apart w) ∙ blank_before d fs (named n) w)
    (finish_at fs d (named n))
finish d fs (token n slot part bytes) =
    let y = scalar_end part in
    let d' = append d (scalar n (kind_of part) (bytes ++ y.bytes) none) in
    more_extra _ (level (depth d) fs) (length fs)
    (before _ (st d' fs (at (after n slot))) _ (y.bytes ++ 32 ∷ [])
    (λ w. ap (outcome (st d fs (token n slot part bytes))) (append_assoc y.bytes (32 ∷ []) w) ∙ token_run d fs n slot part bytes y.bytes (32 ∷ w) y.ends (blank_apart w) ∙ blank_before d' fs (after n slot) w)
    (after_token d fs n slot (kind_of part) (bytes ++ y.bytes)))
finish d fs (piece n slot bytes q (Plain t)) =
    let u = char_end t in
    more_extra _ (level (depth d) fs) (length fs)
    (before _ (st d fs (piece n slot (bytes ++ u.bytes) q (Plain Whole))) _ u.bytes (λ w. tail_bytes d fs n slot bytes q t u.bytes w u.ends) (plain_completion d fs n slot (bytes ++ u.bytes) q))
finish d fs (piece n slot bytes q Escape) = more_extra _ (level (depth d) fs) (length fs) (escape_completion d fs n slot bytes q)
finish d fs (piece n slot bytes q (Second v)) = more_extra _ (level (depth d) fs) (length fs) (second_completion d fs n slot bytes q v)
finish d fs (piece n slot bytes q (Third v)) = more_extra _ (level (depth d) fs) (length fs) (third_completion d fs n slot bytes q v)
