-- The canonical text is in the grammar, and what the grammar gives can be printed.
use Rattle.std.proofs.Common.{arith, zero, suc, ◌≡◌, ℕ, ◌+◌, ◌*◌, ◌/◌, ◌%◌, ◌<◌, ◌≤◌, List, [], ◌∷◌, ◌++◌, Bool, true, false, ◌||◌, cond, eqb, ltb, Option, Some, refl, sym, ap, ◌∙◌, subst, inl, inr, append_assoc, replicate}
use Rattle.std.proofs.lemmas.List.{append-nil}
use Rattle.std.proofs.lemmas.Bool.Decides.{nat_tests}
use Rattle.std.specs.List.{flat_map}
use Rattle.mg_text.specs.declared.parts.Class.TheVariants.{Backslash}
use Rattle.mg_text.specs.declared.parts.Quote.{Quote}
use Rattle.mg_text.specs.declared.parts.Quote.TheVariants.{Double}
use Rattle.mg_text.specs.declared.parts.Mark.TheVariants.{Brace}
use Rattle.mg_text.specs.declared.parts.Slot.{Slot}
use Rattle.mg_text.specs.declared.parts.Slot.TheVariants as slots
use Rattle.mg_text.specs.declared.parts.Tail.{Tail}
use Rattle.mg_text.specs.declared.parts.Tail.TheVariants.{Whole, OneMore, TwoMore, ThreeMore, AfterE0, AfterED, AfterF0, AfterF4}
use Rattle.mg_text.specs.Byte.{below_digits, digit_class, upper_class, lower_class, class_of, is_octal, follow, IsTail, byte, whole as no_tail}
use Rattle.mg_text.specs.Tree.{Kind, word, number, quoted, Fields, none, scalar, message, append}
use Rattle.mg_text.specs.Grammar as g
use Rattle.mg_text.specs.Grammar.{Stands, Gives, Apart, Place, start, named, valued, opened, element, behind, joined, after, IsContent, IsName, octal, is_first_octal}
use Rattle.mg_text.specs.Canonical as c
use Rattle.mg_text.specs.Canonical.{indent, escape, escape_by, spelling, scalar_line, message_lines, lines_of, canonical, AreCharacters, IsSpelled, AreSpelled}
use Rattle.mg_text.proofs.ByteValues.{lead_least}
use Rattle.mg_text.proofs.Choices.{some_same}
use Rattle.mg_text.proofs.ByteValues.{octal_digit, first_octal_digit, beyond_class}
use Rattle.mg_text.proofs.Appending.{append_none}
use Rattle.mg_text.proofs.Clean.{not_beyond, escaped_ascii}
use Rattle.std.proofs.lemmas.Bool.{cases_lt}

plain_in_piece : (b : ℕ) → 32 ≤ b → b < 127 → (b ≡ 92 → ⊥) → (b ≡ 34 → ⊥) → g.in_piece Double (class_of b) ≡ true
unfolding class_of below_digits digit_class upper_class lower_class
plain_in_piece b l m n o = grind (arith, nat_tests)

octal_class : (d : ℕ) → d ≤ 7 → is_octal (class_of (48 + d)) ≡ true
unfolding class_of below_digits digit_class upper_class lower_class
octal_class d h = grind (arith, nat_tests)

first_class : (d : ℕ) → d ≤ 1 → is_first_octal (class_of (48 + d)) ≡ true
unfolding class_of below_digits digit_class upper_class lower_class
first_class d h = grind (arith, nat_tests)

back : class_of 92 ≡ Backslash
unfolding class_of below_digits digit_class upper_class lower_class
back = refl

octal_of : (b : ℕ) → b < 128 → octal (48 + b / 64) (48 + b / 8 % 8) (48 + b % 8) ≡ b
octal_of b h = omega arith

escape_beyond : (b : ℕ) → 128 ≤ b → escape b ≡ b ∷ []
escape_beyond b h = grind (arith, nat_tests)

pick : (t : Bool) (x y : List ℕ) (P : List ℕ → Type 0) → (t ≡ true → P x) → (t ≡ false → P y) → P (cond t x y)
pick true x y P f g = f refl
pick false x y P f g = g refl

is_eq : (a b : ℕ) → eqb a b ≡ true → a ≡ b
is_eq a b e = grind (arith, nat_tests)

-- an escape of a letter or a mark
short_content : (b c v : ℕ) (s d : List ℕ) → eqb b v ≡ true → g.escaped (class_of c) ≡ Some v → IsContent Double s d → IsContent Double (92 ∷ c ∷ s) (b ∷ d)
short_content b c v s d e k h = subst (λ x. IsContent Double (92 ∷ c ∷ s) (x ∷ d)) (sym (is_eq b v e)) (g.escape back k h)

octal_content : (b : ℕ) (s d : List ℕ) → b < 128 → IsContent Double s d → IsContent Double (92 ∷ (48 + b / 64) ∷ (48 + b / 8 % 8) ∷ (48 + b % 8) ∷ s) (b ∷ d)
octal_content b s d l h =
    subst (λ x. IsContent Double (92 ∷ (48 + b / 64) ∷ (48 + b / 8 % 8) ∷ (48 + b % 8) ∷ s) (x ∷ d)) (octal_of b l)
    (g.octal_escape back (first_class (b / 64) (omega arith)) (octal_class (b / 8 % 8) (omega arith)) (octal_class (b % 8) (omega arith)) h)

plain_byte : (b : ℕ) → b < 128 → eqb b 92 ≡ false → eqb b 34 ≡ false → (ltb b 32 || eqb b 127) ≡ false → g.in_piece Double (class_of b) ≡ true
plain_byte b l n4 n5 n6 = plain_in_piece b (grind (arith, nat_tests)) (grind (arith, nat_tests)) (grind (arith, nat_tests)) (grind (arith, nat_tests))

choose : (t : Bool) (x y : Option ℕ) (P : Option ℕ → Type 0) → (t ≡ true → P x) → (t ≡ false → P y) → P (cond t x y)
choose true x y P f g = f refl
choose false x y P f g = g refl

escape_content : (b : ℕ) (s d : List ℕ) → b < 128 → IsContent Double s d → IsContent Double (escape b ++ s) (b ∷ d)
unfolding class_of below_digits digit_class upper_class lower_class
escape_content b s d l h =
    let P : Option ℕ → Type 0 = λ o. IsContent Double (escape_by o b ++ s) (b ∷ d) in
    choose (eqb b 10) _ _ P (λ e. short_content b 110 10 s d e refl h) (λ n1.
    choose (eqb b 13) _ _ P (λ e. short_content b 114 13 s d e refl h) (λ n2.
    choose (eqb b 9) _ _ P (λ e. short_content b 116 9 s d e refl h) (λ n3.
    choose (eqb b 92) _ _ P (λ e. short_content b 92 92 s d e refl h) (λ n4.
    choose (eqb b 34) _ _ P (λ e. short_content b 34 34 s d e refl h) (λ n5.
    pick (ltb b 32 || eqb b 127) _ _ (λ z. IsContent Double (z ++ s) (b ∷ d)) (λ e. octal_content b s d l h) (λ n6.
    g.ascii (plain_byte b l n4 n5 n6) h))))))

-- bytes past ASCII are as they are
tail_least : (t u : Tail) (b : ℕ) → follow t b ≡ Some u → 128 ≤ b
tail_least Whole u b e = cc
tail_least OneMore u b e = grind (arith, nat_tests)
tail_least TwoMore u b e = grind (arith, nat_tests)
tail_least ThreeMore u b e = grind (arith, nat_tests)
tail_least AfterE0 u b e = grind (arith, nat_tests)
tail_least AfterED u b e = grind (arith, nat_tests)
tail_least AfterF0 u b e = grind (arith, nat_tests)
tail_least AfterF4 u b e = grind (arith, nat_tests)

escape_tail : (t : Tail) (u : List ℕ) → IsTail t u → flat_map escape u ≡ u
escape_tail t u no_tail = refl
escape_tail t u (byte {t = t'} {u = v} {b = b} {s = s} e h) = ap (λ z. z ++ flat_map escape s) (escape_beyond b (tail_least t v b e)) ∙ ap (λ z. b ∷ z) (escape_tail v s h)

flat_map-append : (u v : List ℕ) → flat_map escape (u ++ v) ≡ flat_map escape u ++ flat_map escape v
flat_map-append [] v = refl
flat_map-append (b ∷ u) v = ap (λ z. escape b ++ z) (flat_map-append u v) ∙ sym (append_assoc (escape b) (flat_map escape u) (flat_map escape v))

string_content : (b : List ℕ) (w d : List ℕ) → AreCharacters b → IsContent Double w d → IsContent Double (flat_map escape b ++ w) (b ++ d)
string_content b w d c.no_more h = h
string_content b w d (c.ascii {b = x} {s = s} l k) h =
    subst (λ z. IsContent Double z (x ∷ (s ++ d))) (sym (append_assoc (escape x) (flat_map escape s) w)) (escape_content x (flat_map escape s ++ w) (s ++ d) l (string_content s w d k h))
string_content b w d (c.beyond {b = x} {t = t} {u = u} {s = s} e i k) h =
    let all : flat_map escape (x ∷ u ++ s) ++ w ≡ x ∷ u ++ (flat_map escape s ++ w) =
    ap (λ z. z ++ w) (ap (λ z. z ++ flat_map escape (u ++ s)) (escape_beyond x (lead_least x t e)))
    ∙ ap (λ z. x ∷ (z ++ w)) (flat_map-append u s) ∙ ap (λ z. x ∷ ((z ++ flat_map escape s) ++ w)) (escape_tail t u i)
    ∙ ap (λ z. x ∷ z) (append_assoc u (flat_map escape s) w) in
    subst (λ z. IsContent Double z ((x ∷ u ++ s) ++ d)) (sym all)
    (subst (λ z. IsContent Double (x ∷ u ++ (flat_map escape s ++ w)) (x ∷ z)) (sym (append_assoc u s d)) (g.beyond e i (string_content s w d k h)))

closing : IsContent Double (34 ∷ []) []
unfolding class_of below_digits digit_class upper_class lower_class
closing = g.closes refl

quoted_content : (b : List ℕ) → AreCharacters b → IsContent Double (flat_map escape b ++ 34 ∷ []) b
quoted_content b h = subst (λ z. IsContent Double (flat_map escape b ++ 34 ∷ []) z) (append-nil b) (string_content b (34 ∷ []) [] h closing)

-- white space

blank_gap : {p : Place} {w : List ℕ} {t : Fields} → Stands p w t → Stands p (32 ∷ w) t
unfolding class_of below_digits digit_class upper_class lower_class
blank_gap h = g.gap (g.blank {b = 32} refl) h

line_gap : {p : Place} {w : List ℕ} {t : Fields} → Stands p w t → Stands p (10 ∷ w) t
unfolding class_of below_digits digit_class upper_class lower_class
line_gap h = g.gap (g.blank {b = 10} refl) h

spaces_gap : {p : Place} {w : List ℕ} {t : Fields} (n : ℕ) → Stands p w t → Stands p (replicate n 32 ++ w) t
spaces_gap zero h = h
spaces_gap (suc n) h = blank_gap (spaces_gap n h)

colon_here : {n w : List ℕ} {t : Fields} → Stands (valued n) w t → Stands (named n) (58 ∷ w) t
unfolding class_of below_digits digit_class upper_class lower_class
colon_here h = g.colon {b = 58} refl h

-- a value on its line
value_stands : (k : Kind) (n b w : List ℕ) (t : Fields) → IsSpelled k b → Stands (start true) (10 ∷ w) t → Stands (valued n) (spelling k b ++ 10 ∷ w) (scalar n k b t)
unfolding class_of below_digits digit_class upper_class lower_class
value_stands word n b w t h i = g.a_word {n = n} b {s = slots.One} refl h refl i
value_stands number n b w t h i = g.a_number {n = n} {s = slots.One} refl h refl i
value_stands quoted n b w t h i = g.piece {b = 34} {n = n} {sofar = []} {s = slots.One} {q = Double} refl refl (quoted_content b h) (g.a_string i)

colon_apart : (w : List ℕ) → Apart (58 ∷ w)
unfolding class_of below_digits digit_class upper_class lower_class
colon_apart w = refl

blank_apart : (w : List ℕ) → Apart (32 ∷ w)
unfolding class_of below_digits digit_class upper_class lower_class
blank_apart w = refl

scalar_stands : (k : ℕ) (f : Bool) (n : List ℕ) (kind : Kind) (b w : List ℕ) (t : Fields) → IsName n → IsSpelled kind b → Stands (start true) w t
    → Stands (start f) (scalar_line k n kind b ++ w) (scalar n kind b t)
scalar_stands k f n kind b w t name_ok spelled rest =
    let whole : scalar_line k n kind b ++ w ≡ indent k ++ (n ++ (58 ∷ 32 ∷ (spelling kind b ++ 10 ∷ w))) = simp append_assoc in
    subst (λ z. Stands (start f) z (scalar n kind b t)) (sym whole)
    (spaces_gap (2 * k) (g.name name_ok (colon_apart (32 ∷ (spelling kind b ++ 10 ∷ w))) (colon_here (blank_gap (value_stands kind n b w t spelled (line_gap rest))))))

message_here : {n u w : List ℕ} {x t : Fields} → Stands (start false) u x → Stands (start true) w t → Stands (named n) (123 ∷ u ++ 125 ∷ w) (message n x t)
unfolding class_of below_digits digit_class upper_class lower_class
message_here inner rest = g.a_message {o = 123} 125 {s = slots.One} Brace refl refl inner refl rest

message_stands : (k : ℕ) (f : Bool) (n lines w : List ℕ) (x t : Fields) → IsName n → Stands (start false) (lines ++ indent k) x → Stands (start true) w t
    → Stands (start f) (message_lines k n lines ++ w) (message n x t)
message_stands k f n lines w x t name_ok inner rest =
    let whole : message_lines k n lines ++ w ≡ indent k ++ (n ++ (32 ∷ 123 ∷ (10 ∷ (lines ++ indent k) ++ 125 ∷ 10 ∷ w))) = simp append_assoc in
    subst (λ z. Stands (start f) z (message n x t)) (sym whole)
    (spaces_gap (2 * k) (g.name name_ok (blank_apart (123 ∷ (10 ∷ (lines ++ indent k) ++ 125 ∷ 10 ∷ w))) (blank_gap (message_here (line_gap inner) (line_gap rest)))))

lines_stand : (t : Fields) (k : ℕ) (w : List ℕ) (u : Fields) → AreSpelled t → ((f : Bool) → Stands (start f) w u) → (f : Bool) → Stands (start f) (lines_of k t ++ w) (append t u)
lines_stand none k w u h r f = r f
lines_stand (scalar n kind b rest) k w u h r f =
    subst (λ z. Stands (start f) z (scalar n kind b (append rest u))) (sym (append_assoc (scalar_line k n kind b) (lines_of k rest) w))
    (scalar_stands k f n kind b (lines_of k rest ++ w) (append rest u) h.0 h.1 (lines_stand rest k w u h.2 r true))
lines_stand (message n inner rest) k w u h r f =
    let inside = lines_stand inner (suc k) (indent k) none h.1 (λ f. subst (λ z. Stands (start f) z none) (append-nil (indent k)) (spaces_gap (2 * k) g.ends)) false in
    subst (λ z. Stands (start f) z (message n inner (append rest u))) (sym (append_assoc (message_lines k n (lines_of (suc k) inner)) (lines_of k rest) w))
    (message_stands k f n (lines_of (suc k) inner) (lines_of k rest ++ w) inner (append rest u) h.0 (subst (λ z. Stands (start false) (lines_of (suc k) inner ++ indent k) z) (append_none inner) inside) (lines_stand rest k w u h.2 r true))

pub canonical_given : (t : Fields) → AreSpelled t → Gives (canonical t) t
canonical_given t h = subst (λ z. Stands (start false) (canonical t ++ 10 ∷ []) z) (append_none t) (lines_stand t 0 (10 ∷ []) none h (λ f. line_gap g.ends) false)

-- what the grammar gives is spelled by it

chars-append : (a b : List ℕ) → AreCharacters a → AreCharacters b → AreCharacters (a ++ b)
chars-append a b c.no_more k = k
chars-append a b (c.ascii {s = s} l h) k = c.ascii l (chars-append s b h k)
chars-append a b (c.beyond {b = x} {u = u} {s = s} e i h) k = subst (λ z. AreCharacters (x ∷ z)) (sym (append_assoc u s b)) (c.beyond e i (chars-append s b h k))

piece_ascii : (q : Quote) (b : ℕ) → g.in_piece q (class_of b) ≡ true → b < 128
piece_ascii q b e =
    elim (cases_lt b 128) [ inl h ↦ h | inr h ↦ absurd (not_beyond q (class_of b) e (beyond_class b h)) ]

content_chars : (q : Quote) (u e : List ℕ) → IsContent q u e → AreCharacters e
content_chars q u e (g.closes k) = c.no_more
content_chars q u e (g.ascii {b = b} {s = s} {d = d} k h) = c.ascii (piece_ascii q b k) (content_chars q s d h)
content_chars q u e (g.beyond {s = s} {d = d} k i h) = c.beyond k i (content_chars q s d h)
content_chars q u e (g.escape {c = x} {v = v} {s = s} {d = d} k i h) = c.ascii (escaped_ascii (class_of x) v i) (content_chars q s d h)
content_chars q u e (g.octal_escape {i = i} {j = j} {k = k} {s = s} {d = d} back f x y h) =
    c.ascii (let a = first_octal_digit i f in let b = octal_digit j x in let z = octal_digit k y in omega (arith, a, b, z)) (content_chars q s d h)

-- the name at a place is a name, and the string so far is of characters
abbrev PlaceSpelled : Place → Type 0
PlaceSpelled (start f) = Unit {0}
PlaceSpelled (named n) = IsName n
PlaceSpelled (valued n) = IsName n
PlaceSpelled (opened n x) = IsName n
PlaceSpelled (element n x) = IsName n
PlaceSpelled (behind n x) = IsName n
PlaceSpelled (joined n s d) = IsName n × AreCharacters d

after_spelled : (n : List ℕ) (s : Slot) → IsName n → PlaceSpelled (after n s)
after_spelled n slots.One h = tt
after_spelled n slots.Scalars h = h
after_spelled n slots.Messages h = h

scalar_spelled : (p : Place) (l : List ℕ × Slot) → g.scalar_slot p ≡ Some l → PlaceSpelled p → IsName l.0
scalar_spelled (valued n) l e h = subst (λ (l : List ℕ × Slot). IsName l.0) (some_same e) h
scalar_spelled (opened n true) l e h = subst (λ (l : List ℕ × Slot). IsName l.0) (some_same e) h
scalar_spelled (element n false) l e h = subst (λ (l : List ℕ × Slot). IsName l.0) (some_same e) h
scalar_spelled _ l e h = cc

message_spelled : (p : Place) (l : List ℕ × Slot) → g.message_slot p ≡ Some l → PlaceSpelled p → IsName l.0
message_spelled (named n) l e h = subst (λ (l : List ℕ × Slot). IsName l.0) (some_same e) h
message_spelled (valued n) l e h = subst (λ (l : List ℕ × Slot). IsName l.0) (some_same e) h
message_spelled (opened n x) l e h = subst (λ (l : List ℕ × Slot). IsName l.0) (some_same e) h
message_spelled (element n true) l e h = subst (λ (l : List ℕ × Slot). IsName l.0) (some_same e) h
message_spelled _ l e h = cc

piece_spelled : (p : Place) (l : List ℕ × Slot × List ℕ) → g.piece_slot p ≡ Some l → PlaceSpelled p → IsName l.0 × AreCharacters l.2
piece_spelled (valued n) l e h = subst (λ (l : List ℕ × Slot × List ℕ). IsName l.0 × AreCharacters l.2) (some_same e) (h, c.no_more)
piece_spelled (opened n true) l e h = subst (λ (l : List ℕ × Slot × List ℕ). IsName l.0 × AreCharacters l.2) (some_same e) (h, c.no_more)
piece_spelled (element n false) l e h = subst (λ (l : List ℕ × Slot × List ℕ). IsName l.0 × AreCharacters l.2) (some_same e) (h, c.no_more)
piece_spelled (joined n s d) l e h = subst (λ (l : List ℕ × Slot × List ℕ). IsName l.0 × AreCharacters l.2) (some_same e) h
piece_spelled _ l e h = cc

list_spelled : (p : Place) (l : List ℕ × Bool) → g.list_slot p ≡ Some l → PlaceSpelled p → IsName l.0
list_spelled (named n) l e h = subst (λ (l : List ℕ × Bool). IsName l.0) (some_same e) h
list_spelled (valued n) l e h = subst (λ (l : List ℕ × Bool). IsName l.0) (some_same e) h
list_spelled _ l e h = cc

stands_spelled : {p : Place} {w : List ℕ} {t : Fields} → Stands p w t → PlaceSpelled p → AreSpelled t
stands_spelled g.ends h = tt
stands_spelled (g.gap k i) h = stands_spelled i h
stands_spelled (g.separator k i) h = stands_spelled i tt
stands_spelled (g.name k a i) h = stands_spelled i k
stands_spelled (g.colon k i) h = stands_spelled i h
stands_spelled (g.list {p = p} {n = n} {c = x} e k i) h = stands_spelled i (list_spelled p (n, x) e h)
stands_spelled (g.list_end e k i) h = stands_spelled i tt
stands_spelled (g.comma k i) h = stands_spelled i h
stands_spelled (g.a_word {p = p} {n = n} u {s = s} e k a i) h = let m = scalar_spelled p (n, s) e h in (m, k, stands_spelled i (after_spelled n s m))
stands_spelled (g.a_number {p = p} {n = n} {s = s} e k a i) h = let m = scalar_spelled p (n, s) e h in (m, k, stands_spelled i (after_spelled n s m))
stands_spelled (g.piece {p = p} {n = n} {sofar = f} {u = u} {d = d} {s = s} {q = q} e k l i) h =
    let m = piece_spelled p (n, s, f) e h in stands_spelled i (m.0, chars-append f d m.1 (content_chars q u d l))
stands_spelled (g.a_string {n = n} {d = d} {s = s} i) h = (h.0, h.1, stands_spelled i (after_spelled n s h.0))
stands_spelled (g.a_message {p = p} x {n = n} {s = s} m e k i l j) h = let y = message_spelled p (n, s) e h in (y, stands_spelled i tt, stands_spelled j (after_spelled n s y))

pub text_spelled : (file : List ℕ) (t : Fields) → Gives file t → AreSpelled t
text_spelled file t h = stands_spelled h tt
