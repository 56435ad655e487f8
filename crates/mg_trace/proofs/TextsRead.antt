-- The texts of a JSON value that is read from a text are UTF-8.
use Rattle.std.proofs.Common.{◌≡◌, ◌<◌, ◌≤◌, ◌+◌, ◌*◌, ◌==◌, ◌&&◌, ◌||◌, ℕ, zero, suc, List, [], ◌∷◌, ◌++◌, length, get_or, drop, nat_eq, Bool, true, false, cond, nat_lt, nat_le, ltb, Option, Some, None, option_and_then, inl, inr, ◌⊎◌, IsUtf8, refl, sym, ap, subst, ◌∙◌, arith, append-nil}
use Rattle.std.specs.Char.{encode_utf8, digit_value, is_digit}
use Rattle.std.specs.List.{starts_with}
use Rattle.std.proofs.lemmas.Bool.{cases_lt, and_parts, eqb-true}
use Rattle.std.proofs.lemmas.Bool.Decides.{nat_tests}
use Rattle.std.proofs.lemmas.Str.{IsUtf8-append, IsUtf8-nil, IsUtf8-encode, encode_ascii, inside_one}
use lib.Utf8.{scalar, scalars, encodes}
use Rattle.json.specs.Text.{content, plain, after_backslash, after_u, after_high, code_unit, short_escape, is_high_surrogate, is_low_surrogate, surrogate_pair, prepend}
use Rattle.json.specs.Token.{Token, begin_object, end_object, begin_array, end_array, key, string, number, boolean, null, bad}
use Rattle.json.specs.Lex.{Lexeme, token, comma, colon, Class, quote, backslash, operator, space, other, class, operator_lexeme, string_token, Mode, between, in_word, in_string, in_escape, lex_byte, lex, Place, fresh, after_value, after_comma, after_key, begins_colon, may_begin, may_close, if_allowed, place_token, punctuate, tokens}
use Rattle.json.specs.Ascii.{true_text, false_text, null_text}
use Rattle.json.specs.Word.{head, ends_word, literal, number_before, after_number, word}

-- Bytes --

-- no byte is that of an ASCII character
abbrev AreHigh : List ℕ → Type 0
AreHigh [] = Unit {0}
AreHigh (b ∷ bs) = (128 ≤ b) × AreHigh bs

are_high : (bs : List ℕ) → ((k : ℕ) → k < length bs → 128 ≤ get_or bs k 0) → AreHigh bs
are_high [] h = tt
are_high (b ∷ bs) h = (h 0 (omega arith), are_high bs (λ k below. h (suc k) (omega arith)))

high_of : (c : ℕ) → 128 ≤ c → AreHigh (encode_utf8 c)
high_of c big = are_high (encode_utf8 c) (λ k below. elim (cases_lt (get_or (encode_utf8 c) k 0) 128) [
  | inl low ↦ absurd (let is = inside_one c [] (encode_utf8 c) k (sym (append-nil _)) below low in omega (arith, is, low, big))
  | inr h ↦ h
])

some_by : (p q r : Bool) (a d e f : ℕ) (l m n o : List ℕ) → (b : ℕ) × (bs : List ℕ) × (cond p (a ∷ l) (cond q (d ∷ m) (cond r (e ∷ n) (f ∷ o))) ≡ b ∷ bs)
some_by true q r a d e f l m n o = (a, l, refl)
some_by false true r a d e f l m n o = (d, m, refl)
some_by false false true a d e f l m n o = (e, n, refl)
some_by false false false a d e f l m n o = (f, o, refl)

some_bytes : (c : ℕ) → (b : ℕ) × (bs : List ℕ) × (encode_utf8 c ≡ b ∷ bs)
unfolding encode_utf8
some_bytes c = some_by (ltb c 128) (ltb c 2048) (ltb c 65536) _ _ _ _ _ _ _ _

-- bytes that are a text once the rest of a character, which they begin with, is passed
record Rest (bytes : List ℕ) : Type 0 where
  front : List ℕ
  back : List ℕ
  high : AreHigh front
  text : IsUtf8 back
  is : bytes ≡ front ++ back

-- the first byte of a text is a character, or the first byte of a character whose rest follows
record Character (x : ℕ) (xs : List ℕ) : Type 0 where
  rest : Rest xs
  high : 128 ≤ x
  whole : IsUtf8 (x ∷ rest.front)

first_of : (x : ℕ) (xs : List ℕ) → IsUtf8 (x ∷ xs) → ((x < 128) × IsUtf8 xs) ⊎ Character x xs
first_of x xs (cs, (ok, is)) = by cs ok is
  where
    by : (cs : List ℕ) → scalars cs ≡ true → encodes cs ≡ x ∷ xs → ((x < 128) × IsUtf8 xs) ⊎ Character x xs
    by [] ok is = absurd cc
    by (c ∷ cs) ok is =
        let p = and_parts (scalar c) (scalars cs) ok in
        elim (cases_lt c 128) [
          | inl small ↦ (
              let one : c ∷ encodes cs ≡ x ∷ xs = ap (λ (l : List ℕ). l ++ encodes cs) (sym (encode_ascii c small)) ∙ is in
              let same : c ≡ x = cc in
              let rest : encodes cs ≡ xs = cc in
              inl (omega (arith, small, same), (cs, (p.1, rest))))
          | inr big ↦ (
              let bytes = some_bytes c in
              let one : bytes.0 ∷ (bytes.1 ++ encodes cs) ≡ x ∷ xs = ap (λ (l : List ℕ). l ++ encodes cs) (sym bytes.2) ∙ is in
              let same : bytes.0 ≡ x = cc in
              let rest : bytes.1 ++ encodes cs ≡ xs = cc in
              let high : AreHigh (bytes.0 ∷ bytes.1) = subst AreHigh bytes.2 (high_of c big) in
              inr (record {
                rest = record { front = bytes.1; back = encodes cs; high = high.1; text = (cs, (p.1, refl)); is = sym rest };
                high = omega (arith, high.0, same);
                whole = subst IsUtf8 (bytes.2 ∙ ap (λ (b : ℕ). b ∷ bytes.1) same) (IsUtf8-encode c p.0);
              }))
        ]

abbrev at_front : (bytes : List ℕ) → IsUtf8 bytes → Rest bytes
at_front bytes text = record { front = []; back = bytes; high = tt; text = text; is = refl }

-- what is left after an ASCII character
rest_text : (x : ℕ) (xs : List ℕ) → Rest (x ∷ xs) → x < 128 → IsUtf8 xs
rest_text x xs r low = by r.front r.high r.is
  where
    by : (front : List ℕ) → AreHigh front → x ∷ xs ≡ front ++ r.back → IsUtf8 xs
    by [] high is = elim (first_of x xs (subst IsUtf8 (sym is) r.text)) [ inl one ↦ one.1 | inr c ↦ absurd (let h = c.high in omega (arith, h, low)) ]
    by (f ∷ fs) high is = absurd (let same : x ≡ f = cc in let h = high.0 in omega (arith, same, h, low))

text_rest : (x : ℕ) (xs : List ℕ) → IsUtf8 (x ∷ xs) → x < 128 → IsUtf8 xs
text_rest x xs text low = rest_text x xs (at_front (x ∷ xs) text) low

-- what is left after any byte
rest_on : (x : ℕ) (xs : List ℕ) → Rest (x ∷ xs) → Rest xs
rest_on x xs r = by r.front r.high r.is
  where
    by : (front : List ℕ) → AreHigh front → x ∷ xs ≡ front ++ r.back → Rest xs
    by [] high is = elim (first_of x xs (subst IsUtf8 (sym is) r.text)) [ inl one ↦ at_front xs one.1 | inr c ↦ c.rest ]
    by (f ∷ fs) high is = (let later : xs ≡ fs ++ r.back = cc in record { front = fs; back = r.back; high = high.1; text = r.text; is = later })

-- Escapes --

letter_small : (x k n c : ℕ) → (x == k) ≡ true → k < 128 → n < 128 → Some n ≡ Some c → (x < 128) × (c < 128)
letter_small x k n c is below small same = (let e = eqb-true x k is in let f : n ≡ c = cc in (omega (arith, e, below), omega (arith, f, small)))

mark_small : (a b d : Bool) (x c : ℕ) → (x == 34) ≡ a → (x == 92) ≡ b → (x == 47) ≡ d → ((a || b) || d) ≡ true → Some x ≡ Some c → (x < 128) × (c < 128)
mark_small true b d x c one two three is same = (let e = eqb-true x 34 one in let f : x ≡ c = cc in (omega (arith, e), omega (arith, e, f)))
mark_small false true d x c one two three is same = (let e = eqb-true x 92 two in let f : x ≡ c = cc in (omega (arith, e), omega (arith, e, f)))
mark_small false false true x c one two three is same = (let e = eqb-true x 47 three in let f : x ≡ c = cc in (omega (arith, e), omega (arith, e, f)))
mark_small false false false x c one two three is same = absurd cc

escape_by : (m b f l r t : Bool) (x c : ℕ) → (((x == 34) || (x == 92)) || (x == 47)) ≡ m → (x == 98) ≡ b → (x == 102) ≡ f → (x == 110) ≡ l → (x == 114) ≡ r → (x == 116) ≡ t
    → cond m (Some x) (cond b (Some 8) (cond f (Some 12) (cond l (Some 10) (cond r (Some 13) (cond t (Some 9) None))))) ≡ Some c → (x < 128) × (c < 128)
escape_by true b f l r t x c em eb ef el er et is = mark_small (x == 34) (x == 92) (x == 47) x c refl refl refl em is
escape_by false true f l r t x c em eb ef el er et is = letter_small x 98 8 c eb (omega arith) (omega arith) is
escape_by false false true l r t x c em eb ef el er et is = letter_small x 102 12 c ef (omega arith) (omega arith) is
escape_by false false false true r t x c em eb ef el er et is = letter_small x 110 10 c el (omega arith) (omega arith) is
escape_by false false false false true t x c em eb ef el er et is = letter_small x 114 13 c er (omega arith) (omega arith) is
escape_by false false false false false true x c em eb ef el er et is = letter_small x 116 9 c et (omega arith) (omega arith) is
escape_by false false false false false false x c em eb ef el er et is = absurd cc

escape_small : (x c : ℕ) → short_escape x ≡ Some c → (x < 128) × (c < 128)
unfolding short_escape
escape_small x c is = escape_by (((x == 34) || (x == 92)) || (x == 47)) (x == 98) (x == 102) (x == 110) (x == 114) (x == 116) x c refl refl refl refl refl refl is

high_value : (x : ℕ) → 128 ≤ x → digit_value x ≡ 36
high_value x high =
    let a : nat_lt x 48 ≡ false = grind (arith, nat_tests, high) in
    let b : nat_lt x 58 ≡ false = grind (arith, nat_tests, high) in
    let c : nat_lt x 65 ≡ false = grind (arith, nat_tests, high) in
    let d : nat_lt x 91 ≡ false = grind (arith, nat_tests, high) in
    let e : nat_lt x 97 ≡ false = grind (arith, nat_tests, high) in
    let f : nat_lt x 123 ≡ false = grind (arith, nat_tests, high) in
    rw (a, b, c, d, e, f) refl

digit_small : (x : ℕ) → is_digit x 16 ≡ true → (x < 128) × (digit_value x < 16)
digit_small x is = elim (cases_lt x 128) [
  | inl low ↦ (low, (let v = is in grind (arith, nat_tests, v)))
  | inr high ↦ absurd (let v = high_value x high in let none : nat_lt 36 16 ≡ true = ap (λ (n : ℕ). nat_lt n 16) (sym v) ∙ is in cc)
]

-- four hex digits are ASCII, and their number has 16 bits
record AreHex (a b c d u : ℕ) : Type 0 where
  one : a < 128
  two : b < 128
  three : c < 128
  four : d < 128
  small : u < 65536

hex_by : (t : Bool) (a b c d u : ℕ) → (is_digit a 16 && is_digit b 16 && is_digit c 16 && is_digit d 16) ≡ t
    → cond t (Some (digit_value a * 4096 + digit_value b * 256 + digit_value c * 16 + digit_value d)) None ≡ Some u → AreHex a b c d u
hex_by false a b c d u are is = absurd cc
hex_by true a b c d u are is =
    let abc = and_parts (is_digit a 16 && is_digit b 16 && is_digit c 16) (is_digit d 16) are in
    let ab = and_parts (is_digit a 16 && is_digit b 16) (is_digit c 16) abc.0 in
    let both = and_parts (is_digit a 16) (is_digit b 16) ab.0 in
    let ha = digit_small a both.0 in
    let hb = digit_small b both.1 in
    let hc = digit_small c ab.1 in
    let hd = digit_small d abc.1 in
    let same : digit_value a * 4096 + digit_value b * 256 + digit_value c * 16 + digit_value d ≡ u = cc in
    record { one = ha.0; two = hb.0; three = hc.0; four = hd.0; small = (let na = ha.1 in let nb = hb.1 in let nc = hc.1 in let nd = hd.1 in omega (arith, na, nb, nc, nd, same)) }

are_hex : (a b c d u : ℕ) → code_unit a b c d ≡ Some u → AreHex a b c d u
unfolding code_unit
are_hex a b c d u is = hex_by (is_digit a 16 && is_digit b 16 && is_digit c 16 && is_digit d 16) a b c d u refl is

hex_rest : (a b c d u : ℕ) (xs : List ℕ) → AreHex a b c d u → IsUtf8 (a ∷ b ∷ c ∷ d ∷ xs) → IsUtf8 xs
hex_rest a b c d u xs h text = text_rest d xs (text_rest c (d ∷ xs) (text_rest b (c ∷ d ∷ xs) (text_rest a (b ∷ c ∷ d ∷ xs) text h.one) h.two) h.three) h.four

unit_is_scalar : (u : ℕ) → u < 65536 → is_high_surrogate u ≡ false → is_low_surrogate u ≡ false → scalar u ≡ true
unit_is_scalar u small high low = grind (arith, nat_tests, small, high, low)

pair_is_scalar : (h l : ℕ) → is_high_surrogate h ≡ true → is_low_surrogate l ≡ true → scalar (surrogate_pair h l) ≡ true
pair_is_scalar h l high low =
    let a = and_parts (nat_le 0xd800 h) (nat_lt h 0xdc00) high in
    let b = and_parts (nat_le 0xdc00 l) (nat_lt l 0xe000) low in
    let from : 0xd800 ≤ h = (let t = a.0 in grind (arith, nat_tests, t)) in
    let to : h < 0xdc00 = (let t = a.1 in grind (arith, nat_tests, t)) in
    let start : 0xdc00 ≤ l = (let t = b.0 in grind (arith, nat_tests, t)) in
    let stop : l < 0xe000 = (let t = b.1 in grind (arith, nat_tests, t)) in
    let least : 65536 ≤ surrogate_pair h l = omega (arith, from, to, start, stop) in
    let most : surrogate_pair h l < 1114112 = omega (arith, from, to, start, stop) in
    within (surrogate_pair h l) least most
  where
    within : (c : ℕ) → 65536 ≤ c → c < 1114112 → scalar c ≡ true
    within c least most = grind (arith, nat_tests, least, most)

-- Strings --

-- what a string says from the rest of a character on
record Ends (front s : List ℕ) : Type 0 where
  back : List ℕ
  text : IsUtf8 back
  is : s ≡ front ++ back

-- what is known of the strings that are no longer than this
abbrev Known : ℕ → Type 0
Known n = (bytes : List ℕ) → length bytes ≤ n → (r : Rest bytes) (s : List ℕ) → content plain bytes ≡ Some s → Ends r.front s

known_text : (n : ℕ) → Known n → (bytes s : List ℕ) → length bytes ≤ n → IsUtf8 bytes → content plain bytes ≡ Some s → IsUtf8 s
known_text n known bytes s few text is = (let e = known bytes few (at_front bytes text) s is in subst IsUtf8 (sym e.is) e.text)

behind : (enc : List ℕ) (o : Option (List ℕ)) (s : List ℕ) → prepend enc o ≡ Some s → (t : List ℕ) × (o ≡ Some t) × (s ≡ enc ++ t)
behind enc None s is = absurd cc
behind enc (Some t) s is = (t, refl, (let same : enc ++ t ≡ s = cc in sym same))

behind_text : (n : ℕ) → Known n → (enc bytes s : List ℕ) → IsUtf8 enc → length bytes ≤ n → IsUtf8 bytes → prepend enc (content plain bytes) ≡ Some s → IsUtf8 s
behind_text n known enc bytes s one few text is =
    let b = behind enc (content plain bytes) s is in
    subst IsUtf8 (sym b.2) (IsUtf8-append enc b.0 one (known_text n known bytes b.0 few text b.1))

ascii_text : (c : ℕ) → c < 128 → IsUtf8 (c ∷ [])
ascii_text c small = subst IsUtf8 (encode_ascii c small) (IsUtf8-encode c (low c small))
  where
    low : (c : ℕ) → c < 128 → scalar c ≡ true
    low c small = grind (arith, nat_tests, small)

-- after the first half of a surrogate pair
high_text : (n : ℕ) → Known n → (h : ℕ) (bytes s : List ℕ) → is_high_surrogate h ≡ true → length bytes ≤ n → IsUtf8 bytes → content (after_high h) bytes ≡ Some s → IsUtf8 s
unfolding content
high_text n known h [] s high few text is = absurd cc
high_text n known h (a ∷ []) s high few text is = absurd cc
high_text n known h (a ∷ b ∷ []) s high few text is = absurd cc
high_text n known h (a ∷ b ∷ c ∷ []) s high few text is = absurd cc
high_text n known h (a ∷ b ∷ c ∷ d ∷ []) s high few text is = absurd cc
high_text n known h (a ∷ b ∷ c ∷ d ∷ e ∷ []) s high few text is = absurd cc
high_text n known h (slash ∷ u ∷ a ∷ b ∷ c ∷ d ∷ xs) s high few text is = marks ((slash == 92) && (u == 117)) refl is
  where
    low : (o : Option ℕ) → code_unit a b c d ≡ o → option_and_then (λ l. cond (is_low_surrogate l) (prepend (encode_utf8 (surrogate_pair h l)) (content plain xs)) None) o ≡ Some s → IsUtf8 (a ∷ b ∷ c ∷ d ∷ xs) → IsUtf8 s
    low None unit is later = absurd cc
    low (Some l) unit is later = pair (is_low_surrogate l) refl is
      where
        pair : (t : Bool) → is_low_surrogate l ≡ t → cond t (prepend (encode_utf8 (surrogate_pair h l)) (content plain xs)) None ≡ Some s → IsUtf8 s
        pair false lower is = absurd cc
        pair true lower is =
            behind_text n known (encode_utf8 (surrogate_pair h l)) xs s (IsUtf8-encode (surrogate_pair h l) (pair_is_scalar h l high lower)) (omega (arith, few))
            (hex_rest a b c d l xs (are_hex a b c d l unit) later) is

    marks : (t : Bool) → ((slash == 92) && (u == 117)) ≡ t
        → cond t (option_and_then (λ l. cond (is_low_surrogate l) (prepend (encode_utf8 (surrogate_pair h l)) (content plain xs)) None) (code_unit a b c d)) None ≡ Some s → IsUtf8 s
    marks false are is = absurd cc
    marks true are is =
        let both = and_parts (slash == 92) (u == 117) are in
        let one : slash < 128 = (let e = eqb-true slash 92 both.0 in omega (arith, e)) in
        let two : u < 128 = (let e = eqb-true u 117 both.1 in omega (arith, e)) in
        low (code_unit a b c d) refl is (text_rest u (a ∷ b ∷ c ∷ d ∷ xs) (text_rest slash (u ∷ a ∷ b ∷ c ∷ d ∷ xs) text one) two)

-- after `\u`
unit_text : (n : ℕ) → Known n → (bytes s : List ℕ) → length bytes ≤ n → IsUtf8 bytes → content after_u bytes ≡ Some s → IsUtf8 s
unfolding content
unit_text n known [] s few text is = absurd cc
unit_text n known (a ∷ []) s few text is = absurd cc
unit_text n known (a ∷ b ∷ []) s few text is = absurd cc
unit_text n known (a ∷ b ∷ c ∷ []) s few text is = absurd cc
unit_text n known (a ∷ b ∷ c ∷ d ∷ xs) s few text is = unit (code_unit a b c d) refl is
  where
    unit : (o : Option ℕ) → code_unit a b c d ≡ o
        → option_and_then (λ u. cond (is_high_surrogate u) (content (after_high u) xs) (cond (is_low_surrogate u) None (prepend (encode_utf8 u) (content plain xs)))) o ≡ Some s → IsUtf8 s
    unit None e is = absurd cc
    unit (Some u) e is = kinds (is_high_surrogate u) (is_low_surrogate u) refl refl is
      where
        hex : AreHex a b c d u
        hex = are_hex a b c d u e

        later : IsUtf8 xs
        later = hex_rest a b c d u xs hex text

        kinds : (h l : Bool) → is_high_surrogate u ≡ h → is_low_surrogate u ≡ l → cond h (content (after_high u) xs) (cond l None (prepend (encode_utf8 u) (content plain xs))) ≡ Some s → IsUtf8 s
        kinds true l high lower is = high_text n known u xs s high (omega (arith, few)) later is
        kinds false true high lower is = absurd cc
        kinds false false high lower is =
            behind_text n known (encode_utf8 u) xs s (IsUtf8-encode u (unit_is_scalar u hex.small high lower)) (omega (arith, few)) later is

-- after a backslash
slash_text : (n : ℕ) → Known n → (bytes s : List ℕ) → length bytes ≤ n → IsUtf8 bytes → content after_backslash bytes ≡ Some s → IsUtf8 s
unfolding content
slash_text n known [] s few text is = absurd cc
slash_text n known (x ∷ xs) s few text is = by (x == 117) refl is
  where
    short : (o : Option ℕ) → short_escape x ≡ o → option_and_then (λ c. prepend (c ∷ []) (content plain xs)) o ≡ Some s → IsUtf8 s
    short None e is = absurd cc
    short (Some c) e is = (let small = escape_small x c e in behind_text n known (c ∷ []) xs s (ascii_text c small.1) (omega (arith, few)) (text_rest x xs text small.0) is)

    by : (t : Bool) → (x == 117) ≡ t → cond t (content after_u xs) (option_and_then (λ c. prepend (c ∷ []) (content plain xs)) (short_escape x)) ≡ Some s → IsUtf8 s
    by true letter is = unit_text n known xs s (omega (arith, few)) (text_rest x xs text (let e = eqb-true x 117 letter in omega (arith, e))) is
    by false letter is = short (short_escape x) refl is

-- where no mark stands, or a byte of a character that isn't ASCII
abbrev plainly : Bool → Bool → Bool → ℕ → List ℕ → Option (List ℕ)
plainly q b c x xs = cond q (Some []) (cond b (content after_backslash xs) (cond c None (prepend (x ∷ []) (content plain xs))))

not_mark : (x k : ℕ) → 128 ≤ x → k < 128 → (x == k) ≡ false
not_mark x k high low = grind (arith, nat_tests, high, low)

not_control : (x : ℕ) → 128 ≤ x → nat_lt x 32 ≡ false
not_control x high = grind (arith, nat_tests, high)

high_plain : (x : ℕ) (xs s : List ℕ) → 128 ≤ x → plainly (x == 34) (x == 92) (nat_lt x 32) x xs ≡ Some s → (t : List ℕ) × (content plain xs ≡ Some t) × (s ≡ x ∷ t)
high_plain x xs s high is =
    behind (x ∷ []) (content plain xs) s
    (sym (ap (λ (q : Bool). plainly q (x == 92) (nat_lt x 32) x xs) (not_mark x 34 high (omega arith)) ∙ ap (λ (b : Bool). plainly false b (nat_lt x 32) x xs) (not_mark x 92 high (omega arith))
    ∙ ap (λ (c : Bool). plainly false false c x xs) (not_control x high)) ∙ is)

low_plain : (n : ℕ) → Known n → (q b c : Bool) (x : ℕ) (xs s : List ℕ) → x < 128 → length xs ≤ n → IsUtf8 xs → plainly q b c x xs ≡ Some s → IsUtf8 s
low_plain n known true b c x xs s low few text is = (let same : [] ≡ s = cc in subst IsUtf8 same IsUtf8-nil)
low_plain n known false true c x xs s low few text is = slash_text n known xs s few text is
low_plain n known false false true x xs s low few text is = absurd cc
low_plain n known false false false x xs s low few text is = behind_text n known (x ∷ []) xs s (ascii_text x low) few text is

front_same : (x f : ℕ) (s t fs back : List ℕ) → s ≡ x ∷ t → t ≡ fs ++ back → x ≡ f → s ≡ f ∷ (fs ++ back)
front_same x f s t fs back is rest same = is ∙ ap (λ (l : List ℕ). x ∷ l) rest ∙ ap (λ (b : ℕ). b ∷ (fs ++ back)) same

byte_ends : (n : ℕ) → Known n → (x : ℕ) (xs : List ℕ) → length xs ≤ n → (r : Rest (x ∷ xs)) (s : List ℕ) → plainly (x == 34) (x == 92) (nat_lt x 32) x xs ≡ Some s → Ends r.front s
byte_ends n known x xs few r s is = by r.front r.high r.is
  where
    by : (front : List ℕ) → AreHigh front → x ∷ xs ≡ front ++ r.back → Ends front s
    by (f ∷ fs) high split =
        let same : x ≡ f = cc in
        let later : xs ≡ fs ++ r.back = cc in
        let t = high_plain x xs s (let h = high.0 in omega (arith, h, same)) is in
        let e = known xs few (record { front = fs; back = r.back; high = high.1; text = r.text; is = later }) t.0 t.1 in
        record { back = e.back; text = e.text; is = front_same x f s t.0 fs e.back t.2 e.is same }
    by [] high split = elim (first_of x xs (subst IsUtf8 (sym split) r.text)) [
      | inl one ↦ record { back = s; text = low_plain n known (x == 34) (x == 92) (nat_lt x 32) x xs s one.0 few one.1 is; is = refl }
      | inr c ↦ (
          let t = high_plain x xs s c.high is in
          let e = known xs few c.rest t.0 t.1 in
          record { back = s; text = subst IsUtf8 (sym (t.2 ∙ ap (λ (l : List ℕ). x ∷ l) e.is)) (IsUtf8-append (x ∷ c.rest.front) e.back c.whole e.text); is = refl })
    ]

all_known : (n : ℕ) → Known n
unfolding content
all_known n [] few r s is = absurd cc
all_known zero (x ∷ xs) few r s is = absurd (omega (arith, few))
all_known (suc n) (x ∷ xs) few r s is = byte_ends n (all_known n) x xs (omega (arith, few)) r s is

string_text : (bytes s : List ℕ) → IsUtf8 bytes → content plain bytes ≡ Some s → IsUtf8 s
string_text bytes s text is = known_text (length bytes) (all_known (length bytes)) bytes s (omega arith) text is

-- Tokens --

-- the text of a key or a string is UTF-8
abbrev HasText : Token → Type 0
HasText begin_object = Unit {0}
HasText end_object = Unit {0}
HasText begin_array = Unit {0}
HasText end_array = Unit {0}
HasText (key s) = IsUtf8 s
HasText (string s) = IsUtf8 s
HasText (number s) = Unit {0}
HasText (boolean b) = Unit {0}
HasText null = Unit {0}
HasText bad = Unit {0}

abbrev LexemeHasText : Lexeme → Type 0
LexemeHasText (token t) = HasText t
LexemeHasText comma = Unit {0}
LexemeHasText colon = Unit {0}

abbrev LexemesHaveTexts : List Lexeme → Type 0
LexemesHaveTexts [] = Unit {0}
LexemesHaveTexts (l ∷ ls) = LexemeHasText l × LexemesHaveTexts ls

abbrev pub HaveTexts : List Token → Type 0
HaveTexts [] = Unit {0}
HaveTexts (t ∷ ts) = HasText t × HaveTexts ts

by_test : {X : Type 0} (P : X → Type 0) (b : Bool) (x y : X) → P x → P y → P (cond b x y)
by_test P true x y one two = one
by_test P false x y one two = two

number_has : (t : List ℕ) (o : Option (List ℕ)) → HasText (number_before t o)
number_has t None = tt
number_has t (Some rest) = by_test HasText (ends_word rest) _ _ tt tt

literal_has : (name : List ℕ) (t : Token) (bytes : List ℕ) → HasText t → HasText (literal name t bytes)
literal_has name t bytes one = by_test HasText (starts_with nat_eq bytes name && ends_word (drop (length name) bytes)) t bad one tt

word_has : (t : List ℕ) → HasText (word t)
unfolding word
word_has t =
    by_test HasText (head t == 116) _ _ (literal_has true_text (boolean true) t tt)
    (by_test HasText (head t == 102) _ _ (literal_has false_text (boolean false) t tt) (by_test HasText (head t == 110) _ _ (literal_has null_text null t tt) (number_has t (after_number t))))

operator_has : (x : ℕ) → LexemeHasText (operator_lexeme x)
operator_has x =
    by_test LexemeHasText (x == 123) _ _ tt (by_test LexemeHasText (x == 125) _ _ tt (by_test LexemeHasText (x == 91) _ _ tt (by_test LexemeHasText (x == 93) _ _ tt (by_test LexemeHasText (x == 44) _ _ tt tt))))

string_has : (o : Option (List ℕ)) → ((s : List ℕ) → o ≡ Some s → IsUtf8 s) → HasText (string_token o)
string_has None text = tt
string_has (Some s) text = text s refl

class_by : (q b o s : Bool) → cond q quote (cond b backslash (cond o operator (cond s space other))) ≡ quote → q ≡ true
class_by true b o s is = refl
class_by false true o s is = absurd cc
class_by false false true s is = absurd cc
class_by false false false true is = absurd cc
class_by false false false false is = absurd cc

quote_is : (x : ℕ) → class x ≡ quote → x < 128
quote_is x is = (let e = eqb-true x 34 (class_by (x == 34) (x == 92) _ _ is) in omega (arith, e))

byte_has : (m : Mode) (c : Class) (x : ℕ) (xs : List ℕ) (k : Mode → List Lexeme) → class x ≡ c → Rest (x ∷ xs) → ((next : Mode) → LexemesHaveTexts (k next)) → LexemesHaveTexts (lex_byte m c x xs k)
byte_has between quote x xs k is r more = (string_has (content plain xs) (λ s e. string_text xs s (rest_text x xs r (quote_is x is)) e), more in_string)
byte_has between backslash x xs k is r more = (tt, more in_word)
byte_has between operator x xs k is r more = (operator_has x, more between)
byte_has between space x xs k is r more = more between
byte_has between other x xs k is r more = (word_has (x ∷ xs), more in_word)
byte_has in_word quote x xs k is r more = more in_word
byte_has in_word backslash x xs k is r more = more in_word
byte_has in_word operator x xs k is r more = (operator_has x, more between)
byte_has in_word space x xs k is r more = more between
byte_has in_word other x xs k is r more = more in_word
byte_has in_string quote x xs k is r more = more between
byte_has in_string backslash x xs k is r more = more in_escape
byte_has in_string operator x xs k is r more = more in_string
byte_has in_string space x xs k is r more = more in_string
byte_has in_string other x xs k is r more = more in_string
byte_has in_escape c x xs k is r more = more in_string

lexemes_have : (m : Mode) (xs : List ℕ) → Rest xs → LexemesHaveTexts (lex m xs)
unfolding lex
lexemes_have m [] r = tt
lexemes_have m (x ∷ xs) r = byte_has m (class x) x xs (λ next. lex next xs) refl r (λ next. lexemes_have next xs (rest_on x xs r))

if_has : (b : Bool) (t : Token) (k : Place → List Token) (next : Place) → HasText t → ((p : Place) → HaveTexts (k p)) → HaveTexts (if_allowed b t k next)
if_has true t k next one more = (one, more next)
if_has false t k next one more = (tt, tt)

place_has : (p : Place) (t : Token) (before_colon : Bool) (k : Place → List Token) → HasText t → ((p : Place) → HaveTexts (k p)) → HaveTexts (place_token p t before_colon k)
place_has p begin_object c k one more = if_has (may_begin p) begin_object k fresh one more
place_has p end_object c k one more = if_has (may_close p) end_object k after_value one more
place_has p begin_array c k one more = if_has (may_begin p) begin_array k fresh one more
place_has p end_array c k one more = if_has (may_close p) end_array k after_value one more
place_has p (key s) c k one more = (tt, tt)
place_has p (string s) true k one more = if_has (may_begin p) (key s) k after_key one more
place_has p (string s) false k one more = if_has (may_begin p) (string s) k after_value one more
place_has p (number s) c k one more = if_has (may_begin p) (number s) k after_value one more
place_has p (boolean b) c k one more = if_has (may_begin p) (boolean b) k after_value one more
place_has p null c k one more = if_has (may_begin p) null k after_value one more
place_has p bad c k one more = (tt, tt)

tokens_have : (p : Place) (ls : List Lexeme) → LexemesHaveTexts ls → HaveTexts (punctuate p ls)
unfolding punctuate
tokens_have fresh [] h = tt
tokens_have after_value [] h = tt
tokens_have after_comma [] h = (tt, tt)
tokens_have after_key [] h = (tt, tt)
tokens_have p (token t ∷ ls) h = place_has p t (begins_colon ls) (λ next. punctuate next ls) h.0 (λ next. tokens_have next ls h.1)
tokens_have fresh (comma ∷ ls) h = (tt, tt)
tokens_have after_value (comma ∷ ls) h = tokens_have after_comma ls h.1
tokens_have after_comma (comma ∷ ls) h = (tt, tt)
tokens_have after_key (comma ∷ ls) h = (tt, tt)
tokens_have fresh (colon ∷ ls) h = (tt, tt)
tokens_have after_value (colon ∷ ls) h = (tt, tt)
tokens_have after_comma (colon ∷ ls) h = (tt, tt)
tokens_have after_key (colon ∷ ls) h = tokens_have fresh ls h.1

-- the texts of the tokens of a text are UTF-8
pub texts_of : (text : List ℕ) → IsUtf8 text → HaveTexts (tokens text)
texts_of text is = tokens_have fresh (lex between text) (lexemes_have between text (at_front text is))
