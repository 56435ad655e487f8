-- What completes a comment or a piece of a string that is read in part, and how such a rest makes one of the grammar.
use Rattle.std.proofs.Common.{◌≡◌, ℕ, ◌-◌, List, [], ◌∷◌, ◌++◌, true, Option, Some, None, refl, sym, ap, ◌∙◌, subst}
use Rattle.std.specs.Option.{option_map}
use Rattle.mg_text.specs.declared.parts.Class.{Class}
use Rattle.mg_text.specs.declared.parts.Class.TheVariants.{Backslash, Beyond}
use Rattle.mg_text.specs.declared.parts.Quote.{Quote}
use Rattle.mg_text.specs.declared.parts.Tail.{Tail}
use Rattle.mg_text.specs.declared.parts.Tail.TheVariants.{Whole}
use Rattle.mg_text.specs.declared.state.Inside.{Inside}
use Rattle.mg_text.specs.declared.state.Inside.TheVariants.{Plain, Escape, Second, Third}
use Rattle.mg_text.specs.Byte.{class_of, is_octal, lead, follow, IsTail, whole as no_tail, byte}
use Rattle.mg_text.specs.Grammar as g
use Rattle.mg_text.specs.Grammar.{IsLine, IsContent, in_line, in_piece, escaped, is_first_octal, octal}
use Rattle.mg_text.specs.Code.Machine.{plain_next, escape_next, inside_next, digit_onto}
use Rattle.mg_text.proofs.Choices.{some_same, from_if, mapped}
use Rattle.mg_text.proofs.ByteValues.{octal_digit, first_octal_digit, octal_value}

-- these bytes end a comment with a character that is read in part
pub data LineEnds : Tail → List ℕ → Type 0 where
  in_line_tail : {t : Tail} {u k : List ℕ} → IsTail t u → IsLine k → LineEnds t (u ++ k)

-- the first bytes end a piece that is read in part, and spell the second bytes
pub data InsideEnds (q : Quote) : Inside → List ℕ → List ℕ → Type 0 where
  in_char : {t : Tail} {u s d : List ℕ} → IsTail t u → IsContent q s d → InsideEnds q (Plain t) (u ++ s) (u ++ d)
  in_escape : {c v : ℕ} {s d : List ℕ} → escaped (class_of c) ≡ Some v → IsContent q s d → InsideEnds q Escape (c ∷ s) (v ∷ d)
  in_octal : {i j k : ℕ} {s d : List ℕ} → is_first_octal (class_of i) ≡ true → is_octal (class_of j) ≡ true → is_octal (class_of k) ≡ true
      → IsContent q s d → InsideEnds q Escape (i ∷ j ∷ k ∷ s) (octal i j k ∷ d)
  in_second : {v j k : ℕ} {s d : List ℕ} → is_octal (class_of j) ≡ true → is_octal (class_of k) ≡ true
      → IsContent q s d → InsideEnds q (Second v) (j ∷ k ∷ s) (digit_onto (digit_onto v j) k ∷ d)
  in_third : {v k : ℕ} {s d : List ℕ} → is_octal (class_of k) ≡ true → IsContent q s d → InsideEnds q (Third v) (k ∷ s) (digit_onto v k ∷ d)

-- comments

no_more : (u : List ℕ) → IsTail Whole u → u ≡ []
no_more [] h = refl
no_more (b ∷ u) (byte e h) = cc

line_of : (t : Tail) (l : List ℕ) → t ≡ Whole → LineEnds t l → IsLine l
line_of t l e (in_line_tail {u = u} {k = k} h i) = subst (λ z. IsLine (z ++ k)) (sym (no_more u (subst (λ z. IsTail z u) e h))) i

pub line_whole : (l : List ℕ) → LineEnds Whole l → IsLine l
line_whole l h = line_of Whole l refl h

pub line_beyond : (b : ℕ) (t : Tail) (l : List ℕ) → lead b ≡ Some t → LineEnds t l → LineEnds Whole (b ∷ l)
line_beyond b t l e (in_line_tail h i) = in_line_tail no_tail (g.beyond e h i)

pub line_ascii : (b : ℕ) (l : List ℕ) → in_line (class_of b) ≡ true → LineEnds Whole l → LineEnds Whole (b ∷ l)
line_ascii b l e h = in_line_tail no_tail (g.ascii e (line_whole l h))

pub line_tail : (b : ℕ) (t u : Tail) (l : List ℕ) → follow t b ≡ Some u → LineEnds u l → LineEnds t (b ∷ l)
line_tail b t u l e (in_line_tail h i) = in_line_tail (byte e h) i

-- pieces of strings

content_of : (q : Quote) (i : Inside) (y e : List ℕ) → i ≡ Plain Whole → InsideEnds q i y e → IsContent q y e
content_of q i y e p (in_char {t = t} {u = u} {s = s} {d = d} h c) =
    let w : t ≡ Whole = cc in
    let n = no_more u (subst (λ z. IsTail z u) w h) in
    subst (λ z. IsContent q (z ++ s) (z ++ d)) (sym n) c
content_of q i y e p (in_escape h c) = cc
content_of q i y e p (in_octal h j k c) = cc
content_of q i y e p (in_second j k c) = cc
content_of q i y e p (in_third k c) = cc

pub content_whole : (q : Quote) (y e : List ℕ) → InsideEnds q (Plain Whole) y e → IsContent q y e
content_whole q y e h = content_of q (Plain Whole) y e refl h

pub inside_content : (q : Quote) (y e : List ℕ) → IsContent q y e → InsideEnds q (Plain Whole) y e
inside_content q y e h = in_char no_tail h

inside_beyond : (q : Quote) (b : ℕ) (t : Tail) (y e : List ℕ) → lead b ≡ Some t → InsideEnds q (Plain t) y e → InsideEnds q (Plain Whole) (b ∷ y) (b ∷ e)
inside_beyond q b t y e l (in_char h c) = in_char no_tail (g.beyond l h c)

inside_tail : (q : Quote) (b : ℕ) (t v : Tail) (y e : List ℕ) → follow t b ≡ Some v → InsideEnds q (Plain v) y e → InsideEnds q (Plain t) (b ∷ y) (b ∷ e)
inside_tail q b t v y e f (in_char h c) = in_char (byte f h) c

inside_escape : (q : Quote) (b : ℕ) (y e : List ℕ) → class_of b ≡ Backslash → InsideEnds q Escape y e → InsideEnds q (Plain Whole) (b ∷ y) e
inside_escape q b y e k (in_escape h c) = in_char no_tail (g.escape k h c)
inside_escape q b y e k (in_octal i j l c) = in_char no_tail (g.octal_escape k i j l c)

-- what inside_next says, by the byte's class

-- from what is within a piece to what is within it one byte before
abbrev Grows : Quote → Inside → ℕ → List ℕ → List ℕ → Inside × List ℕ → Type 0
Grows q i b y e n = InsideEnds q n.0 y e → InsideEnds q i (b ∷ y) (n.1 ++ e)

plain_ascii : (q : Quote) (b : ℕ) (y e : List ℕ) → in_piece q (class_of b) ≡ true → Grows q (Plain Whole) b y e (Plain Whole, b ∷ [])
plain_ascii q b y e k h = in_char no_tail (g.ascii k (content_whole q y e h))

plain_grow : (q : Quote) (c : Class) (b : ℕ) (n : Inside × List ℕ) (y e : List ℕ) → class_of b ≡ c → plain_next q c b ≡ Some n → Grows q (Plain Whole) b y e n
plain_grow q Backslash b n y e k i =
    let m : (Escape, []) ≡ n = some_same i in
    subst (λ n. Grows q (Plain Whole) b y e n) m (λ h. inside_escape q b y e k h)
plain_grow q Beyond b n y e k i =
    let m = mapped (λ t. (Plain t, b ∷ [])) (lead b) n i in
    subst (λ n. Grows q (Plain Whole) b y e n) m.2 (λ h. inside_beyond q b m.0 y e m.1 h)
plain_grow q c b n y e k i =
    let m = from_if (in_piece q c) i in
    subst (λ n. Grows q (Plain Whole) b y e n) m.1 (λ h. plain_ascii q b y e (ap (in_piece q) k ∙ m.0) h)

octal_start : (q : Quote) (b v : ℕ) (y e : List ℕ) → v ≡ b - 48 → is_first_octal (class_of b) ≡ true → (i : Inside) → i ≡ Second v → InsideEnds q i y e → InsideEnds q Escape (b ∷ y) e
octal_start q b v y e ve f i ie (in_char h c) = cc
octal_start q b v y e ve f i ie (in_escape h c) = cc
octal_start q b v y e ve f i ie (in_octal h j k c) = cc
octal_start q b v y e ve f i ie (in_second {v = w} {j = j} {k = k} {s = s} {d = d} h l c) =
    let same : b - 48 ≡ w = cc in
    let value : octal b j k ≡ digit_onto (digit_onto w j) k = octal_value b j k (first_octal_digit b f) (octal_digit j h) (octal_digit k l) ∙ ap (λ z. digit_onto (digit_onto z j) k) same in
    subst (λ z. InsideEnds q Escape (b ∷ j ∷ k ∷ s) (z ∷ d)) value (in_octal f h l c)
octal_start q b v y e ve f i ie (in_third h c) = cc

escape_grow : (q : Quote) (o : Option ℕ) (c : Class) (b : ℕ) (n : Inside × List ℕ) (y e : List ℕ) → class_of b ≡ c → escaped (class_of b) ≡ o → escape_next o c b ≡ Some n → Grows q Escape b y e n
escape_grow q (Some v) c b n y e k o i =
    subst (λ n. Grows q Escape b y e n) (some_same i) (λ h. in_escape o (content_whole q y e h))
escape_grow q None c b n y e k o i =
    let m = from_if (is_first_octal c) i in
    subst (λ n. Grows q Escape b y e n) m.1 (λ h. octal_start q b (b - 48) y e refl (ap is_first_octal k ∙ m.0) (Second (b - 48)) refl h)

second_grow : (q : Quote) (v : ℕ) (b : ℕ) (y e : List ℕ) → is_octal (class_of b) ≡ true → (i : Inside) → i ≡ Third (digit_onto v b) → InsideEnds q i y e → InsideEnds q (Second v) (b ∷ y) e
second_grow q v b y e f i ie (in_char h c) = cc
second_grow q v b y e f i ie (in_escape h c) = cc
second_grow q v b y e f i ie (in_octal h j k c) = cc
second_grow q v b y e f i ie (in_second h j c) = cc
second_grow q v b y e f i ie (in_third {v = w} {k = k} {s = s} {d = d} h c) =
    let same : digit_onto v b ≡ w = cc in
    subst (λ z. InsideEnds q (Second v) (b ∷ k ∷ s) (digit_onto z k ∷ d)) same (in_second f h c)

tail_grow : (q : Quote) (t : Tail) (b : ℕ) (n : Inside × List ℕ) (y e : List ℕ) → option_map (λ u. (Plain u, b ∷ [])) (follow t b) ≡ Some n → Grows q (Plain t) b y e n
tail_grow q t b n y e i =
    let m = mapped (λ u. (Plain u, b ∷ [])) (follow t b) n i in
    subst (λ n. Grows q (Plain t) b y e n) m.2 (λ h. inside_tail q b t m.0 y e m.1 h)

pub inside_grow : (q : Quote) (i : Inside) (c : Class) (b : ℕ) (n : Inside × List ℕ) (y e : List ℕ) → class_of b ≡ c → inside_next q i c b ≡ Some n → Grows q i b y e n
inside_grow q (Plain Whole) c b n y e k i = plain_grow q c b n y e k i
inside_grow q (Plain t) c b n y e k i = tail_grow q t b n y e i
inside_grow q Escape c b n y e k i = escape_grow q (escaped c) c b n y e k (ap escaped k) i
inside_grow q (Second v) c b n y e k i =
    let m = from_if (is_octal c) i in
    subst (λ n. Grows q (Second v) b y e n) m.1 (λ h. second_grow q v b y e (ap is_octal k ∙ m.0) _ refl h)
inside_grow q (Third v) c b n y e k i =
    let m = from_if (is_octal c) i in
    subst (λ n. Grows q (Third v) b y e n) m.1 (λ h. in_third (ap is_octal k ∙ m.0) (content_whole q y e h))
