-- The grammar's characters are those of UTF-8, as std has it.
use Rattle.std.proofs.Common.{arith, ◌≡◌, ℕ, ◌+◌, ◌-◌, ◌*◌, ◌/◌, ◌%◌, ◌<◌, ◌≤◌, List, [], ◌∷◌, ◌++◌, Bool, true, false, ◌&&◌, cond, leb, Some, None, refl, sym, ap, ◌∙◌, subst, ◌⊎◌, inl, inr}
use Rattle.std.proofs.lemmas.Bool.{cases_lt}
use Rattle.std.proofs.lemmas.Bool.Decides.{nat_tests}
use Rattle.std.proofs.lemmas.Str.{IsUtf8-append, IsUtf8-encode, IsUtf8-nil, encode_ascii}
use Rattle.std.specs.Str.{IsUtf8}
use Rattle.std.specs.Char.{IsScalar}
use lib.Utf8.{encode, encodes, scalar, scalars, scalar_cases}
use Rattle.mg_text.specs.declared.parts.Tail.{Tail}
use Rattle.mg_text.specs.declared.parts.Tail.TheVariants.{Whole, OneMore, TwoMore, ThreeMore, AfterE0, AfterED, AfterF0, AfterF4}
use Rattle.mg_text.specs.Byte.{lead, IsTail, byte, whole}
use Rattle.mg_text.specs.Canonical as c
use Rattle.mg_text.specs.Canonical.{AreCharacters}

-- the bytes of a character, by how many they are

encode_2 : (x : ℕ) → 128 ≤ x → x < 2048 → encode x ≡ (192 + x / 64) ∷ (128 + x % 64) ∷ []
unfolding encode
encode_2 x l h = grind (arith, nat_tests)

encode_3 : (x : ℕ) → 2048 ≤ x → x < 65536 → encode x ≡ (224 + x / 4096) ∷ (128 + x / 64 % 64) ∷ (128 + x % 64) ∷ []
unfolding encode
encode_3 x l h = grind (arith, nat_tests)

encode_4 : (x : ℕ) → 65536 ≤ x → encode x ≡ (240 + x / 262144) ∷ (128 + x / 4096 % 64) ∷ (128 + x / 64 % 64) ∷ (128 + x % 64) ∷ []
unfolding encode
encode_4 x l = grind (arith, nat_tests)

same_2 : (a b x y : ℕ) → a ≡ x → b ≡ y → a ∷ b ∷ [] ≡ x ∷ y ∷ []
same_2 a b x y e f = cc

same_3 : (a b d x y z : ℕ) → a ≡ x → b ≡ y → d ≡ z → a ∷ b ∷ d ∷ [] ≡ x ∷ y ∷ z ∷ []
same_3 a b d x y z e f h = cc

same_4 : (a b d u x y z v : ℕ) → a ≡ x → b ≡ y → d ≡ z → u ≡ v → a ∷ b ∷ d ∷ u ∷ [] ≡ x ∷ y ∷ z ∷ v ∷ []
same_4 a b d u x y z v e f h i = cc

scalar_low : (x : ℕ) → x < 55296 → IsScalar x
scalar_low x h = grind (arith, nat_tests)

scalar_high : (x : ℕ) → 57344 ≤ x → x < 1114112 → IsScalar x
scalar_high x l h = grind (arith, nat_tests)

utf8_2 : (a b : ℕ) → 194 ≤ a → a ≤ 223 → 128 ≤ b → b ≤ 191 → IsUtf8 (a ∷ b ∷ [])
utf8_2 a b l m n o =
    let x = 64 * (a - 192) + (b - 128) in
    subst IsUtf8 (encode_2 x (omega arith) (omega arith) ∙ same_2 _ _ a b (omega arith) (omega arith)) (IsUtf8-encode x (scalar_low x (omega arith)))

value_3 : ℕ → ℕ → ℕ → ℕ
value_3 a b d = 4096 * (a - 224) + 64 * (b - 128) + (d - 128)

spelled_3 : (a b d : ℕ) → 224 ≤ a → a ≤ 239 → 128 ≤ b → b ≤ 191 → 128 ≤ d → d ≤ 191 → 2048 ≤ value_3 a b d → encode (value_3 a b d) ≡ a ∷ b ∷ d ∷ []
unfolding value_3
spelled_3 a b d l m n o p q r = encode_3 _ r (omega arith) ∙ same_3 _ _ _ a b d (omega arith) (omega arith) (omega arith)

utf8_3_low : (a b d : ℕ) → 224 ≤ a → a ≤ 239 → 128 ≤ b → b ≤ 191 → 128 ≤ d → d ≤ 191 → 2048 ≤ value_3 a b d → value_3 a b d < 55296 → IsUtf8 (a ∷ b ∷ d ∷ [])
utf8_3_low a b d l m n o p q e f = subst IsUtf8 (spelled_3 a b d l m n o p q e) (IsUtf8-encode (value_3 a b d) (scalar_low (value_3 a b d) f))

utf8_3_high : (a b d : ℕ) → 224 ≤ a → a ≤ 239 → 128 ≤ b → b ≤ 191 → 128 ≤ d → d ≤ 191 → 57344 ≤ value_3 a b d → IsUtf8 (a ∷ b ∷ d ∷ [])
unfolding value_3
utf8_3_high a b d l m n o p q e =
    subst IsUtf8 (spelled_3 a b d l m n o p q (omega arith)) (IsUtf8-encode (value_3 a b d) (scalar_high (value_3 a b d) e (omega arith)))

value_4 : ℕ → ℕ → ℕ → ℕ → ℕ
value_4 a b d u = 262144 * (a - 240) + 4096 * (b - 128) + 64 * (d - 128) + (u - 128)

utf8_4 : (a b d u : ℕ) → 240 ≤ a → a ≤ 244 → 128 ≤ b → b ≤ 191 → 128 ≤ d → d ≤ 191 → 128 ≤ u → u ≤ 191 → 65536 ≤ value_4 a b d u → value_4 a b d u < 1114112 → IsUtf8 (a ∷ b ∷ d ∷ u ∷ [])
unfolding value_4
utf8_4 a b d u l m n o p q r s e f =
    subst IsUtf8 (encode_4 (value_4 a b d u) e ∙ same_4 _ _ _ _ a b d u (omega arith) (omega arith) (omega arith) (omega arith))
    (IsUtf8-encode (value_4 a b d u) (scalar_high (value_4 a b d u) (omega arith) f))

-- what awaits one, two or three more bytes

record IsMore (b : ℕ) : Type 0 where
  low : 128 ≤ b
  high : b ≤ 191

if_more : (low high b : ℕ) (t u : Tail) → cond (leb low b && leb b high) (Some t) None ≡ Some u → (low ≤ b) × (b ≤ high) × (t ≡ u)
if_more low high b t u e = (grind (arith, nat_tests), grind (arith, nat_tests), grind (arith, nat_tests))

one_more : (s : List ℕ) → IsTail OneMore s → (x : ℕ) × (s ≡ x ∷ []) × IsMore x
one_more s (byte {u = u} {b = x} {s = v} e h) =
    let m = if_more 128 191 x Whole u e in (x, ap (λ z. x ∷ z) (none_more v (subst (λ t. IsTail t v) (sym m.2) h)), record { low = m.0; high = m.1 })
  where
    none_more : (v : List ℕ) → IsTail Whole v → v ≡ []
    none_more v whole = refl
    none_more v (byte e h) = cc

two_more : (s : List ℕ) → IsTail TwoMore s → (x : ℕ) × (y : ℕ) × (s ≡ x ∷ y ∷ []) × IsMore x × IsMore y
two_more s (byte {u = u} {b = x} {s = v} e h) =
    let m = if_more 128 191 x OneMore u e in
    let r = one_more v (subst (λ t. IsTail t v) (sym m.2) h) in (x, r.0, ap (λ z. x ∷ z) r.1, record { low = m.0; high = m.1 }, r.2)

-- the rows of the table

lead_rows : (b : ℕ) (t : Tail) → lead b ≡ Some t
    → ((194 ≤ b) × (b ≤ 223) × (t ≡ OneMore)) ⊎ (((b ≡ 224) × (t ≡ AfterE0)) ⊎ (((b ≡ 237) × (t ≡ AfterED)) ⊎ (((225 ≤ b) × (b ≤ 239) × (b ≡ 237 → ⊥) × (t ≡ TwoMore))
    ⊎ (((b ≡ 240) × (t ≡ AfterF0)) ⊎ (((241 ≤ b) × (b ≤ 243) × (t ≡ ThreeMore)) ⊎ ((b ≡ 244) × (t ≡ AfterF4)))))))
lead_rows b t e = grind (arith, nat_tests)

along : (x y : List ℕ) → x ≡ y → IsUtf8 y → IsUtf8 x
along x y e h = subst IsUtf8 (sym e) h

after_e0 : (u : List ℕ) → IsTail AfterE0 u → IsUtf8 (224 ∷ u)
unfolding value_3
after_e0 u (byte {u = n} {b = x} {s = v} e h) =
    let m = if_more 160 191 x OneMore n e in
    let r = one_more v (subst (λ t. IsTail t v) (sym m.2) h) in
    let l = r.2.low in let k = r.2.high in let m0 = m.0 in let m1 = m.1 in
    along _ _ (ap (λ z. 224 ∷ x ∷ z) r.1) (utf8_3_low 224 x r.0 (omega arith) (omega arith) (omega arith) m1 l k (omega (arith, m0)) (omega (arith, m1, k)))

after_ed : (u : List ℕ) → IsTail AfterED u → IsUtf8 (237 ∷ u)
unfolding value_3
after_ed u (byte {u = n} {b = x} {s = v} e h) =
    let m = if_more 128 159 x OneMore n e in
    let r = one_more v (subst (λ t. IsTail t v) (sym m.2) h) in
    let l = r.2.low in let k = r.2.high in let m0 = m.0 in let m1 = m.1 in
    along _ _ (ap (λ z. 237 ∷ x ∷ z) r.1) (utf8_3_low 237 x r.0 (omega arith) (omega arith) m0 (omega (arith, m1)) l k (omega (arith, m0)) (omega (arith, m1, k)))

three_bytes : (b : ℕ) (u : List ℕ) → 225 ≤ b → b ≤ 239 → (b ≡ 237 → ⊥) → IsTail TwoMore u → IsUtf8 (b ∷ u)
unfolding value_3
three_bytes b u low high not_ed h =
    let r = two_more u h in
    let x = r.0 in let y = r.1 in
    let xl = r.3.low in let xh = r.3.high in let yl = r.4.low in let yh = r.4.high in
    along _ _ (ap (λ z. b ∷ z) r.2) (
    elim (cases_lt b 237) [
      | inl k ↦ utf8_3_low b x y (omega arith) high xl xh yl yh (omega (arith, xl)) (omega (arith, k, xh, yh))
      | inr k ↦ elim (cases_lt 237 b) [
        | inl l ↦ utf8_3_high b x y (omega arith) high xl xh yl yh (omega (arith, l))
        | inr l ↦ absurd (not_ed (omega (arith, k, l)))
      ]
    ])

four_bytes : (b x : ℕ) (v : List ℕ) → 240 ≤ b → b ≤ 244 → 128 ≤ x → x ≤ 191 → (144 ≤ x) ⊎ (241 ≤ b) → (x ≤ 143) ⊎ (b ≤ 243) → IsTail TwoMore v → IsUtf8 (b ∷ x ∷ v)
unfolding value_4
four_bytes b x v bl bh xl xh e f h =
    let r = two_more v h in
    let y = r.0 in let z = r.1 in
    let yl = r.3.low in let yh = r.3.high in let zl = r.4.low in let zh = r.4.high in
    let least : 65536 ≤ value_4 b x y z = elim e [ inl k ↦ omega (arith, k) | inr k ↦ omega (arith, k) ] in
    let most : value_4 b x y z < 1114112 = elim f [ inl k ↦ omega (arith, k, yh, zh) | inr k ↦ omega (arith, k, xh, yh, zh) ] in
    along _ _ (ap (λ w. b ∷ x ∷ w) r.2) (utf8_4 b x y z bl bh xl xh yl yh zl zh least most)

after_f0 : (u : List ℕ) → IsTail AfterF0 u → IsUtf8 (240 ∷ u)
after_f0 u (byte {u = n} {b = x} {s = v} e h) =
    let m = if_more 144 191 x TwoMore n e in let m0 = m.0 in
    four_bytes 240 x v (omega arith) (omega arith) (omega (arith, m0)) m.1 (inl m.0) (inr (omega arith)) (subst (λ t. IsTail t v) (sym m.2) h)

after_f4 : (u : List ℕ) → IsTail AfterF4 u → IsUtf8 (244 ∷ u)
after_f4 u (byte {u = n} {b = x} {s = v} e h) =
    let m = if_more 128 143 x TwoMore n e in let m1 = m.1 in
    four_bytes 244 x v (omega arith) (omega arith) m.0 (omega (arith, m1)) (inr (omega arith)) (inl m.1) (subst (λ t. IsTail t v) (sym m.2) h)

three_more : (b : ℕ) (u : List ℕ) → 241 ≤ b → b ≤ 243 → IsTail ThreeMore u → IsUtf8 (b ∷ u)
three_more b u l h (byte {u = n} {b = x} {s = v} e k) =
    let m = if_more 128 191 x TwoMore n e in
    four_bytes b x v (omega arith) (omega arith) m.0 m.1 (inr l) (inr h) (subst (λ t. IsTail t v) (sym m.2) k)

two_bytes : (b : ℕ) (u : List ℕ) → 194 ≤ b → b ≤ 223 → IsTail OneMore u → IsUtf8 (b ∷ u)
two_bytes b u l h k = let r = one_more u k in along _ _ (ap (λ z. b ∷ z) r.1) (utf8_2 b r.0 l h r.2.low r.2.high)

first_byte : (b x : ℕ) (u : List ℕ) → b ≡ x → IsUtf8 (x ∷ u) → IsUtf8 (b ∷ u)
first_byte b x u e h = subst (λ z. IsUtf8 (z ∷ u)) (sym e) h

char_utf8 : (b : ℕ) (t : Tail) (u : List ℕ) → lead b ≡ Some t → IsTail t u → IsUtf8 (b ∷ u)
char_utf8 b t u e h =
    elim (lead_rows b t e) [
      | inl r ↦ two_bytes b u r.0 r.1 (subst (λ t. IsTail t u) r.2 h)
      | inr k ↦ elim k [
        | inl r ↦ first_byte b 224 u r.0 (after_e0 u (subst (λ t. IsTail t u) r.1 h))
        | inr k ↦ elim k [
          | inl r ↦ first_byte b 237 u r.0 (after_ed u (subst (λ t. IsTail t u) r.1 h))
          | inr k ↦ elim k [
            | inl r ↦ three_bytes b u r.0 r.1 r.2 (subst (λ t. IsTail t u) r.3 h)
            | inr k ↦ elim k [
              | inl r ↦ first_byte b 240 u r.0 (after_f0 u (subst (λ t. IsTail t u) r.1 h))
              | inr k ↦ elim k [
                | inl r ↦ three_more b u r.0 r.1 (subst (λ t. IsTail t u) r.2 h)
                | inr r ↦ first_byte b 244 u r.0 (after_f4 u (subst (λ t. IsTail t u) r.1 h))
              ]
            ]
          ]
        ]
      ]
    ]

pub utf8_of_characters : (s : List ℕ) → AreCharacters s → IsUtf8 s
utf8_of_characters s c.no_more = IsUtf8-nil
utf8_of_characters s (c.ascii {b = b} {s = v} l h) =
    IsUtf8-append (b ∷ []) v (subst IsUtf8 (encode_ascii b l) (IsUtf8-encode b (scalar_low b (omega arith)))) (utf8_of_characters v h)
utf8_of_characters s (c.beyond {b = b} {t = t} {u = u} {s = v} e i h) = IsUtf8-append (b ∷ u) v (char_utf8 b t u e i) (utf8_of_characters v h)

-- the other way

lead_two : (b : ℕ) → 194 ≤ b → b ≤ 223 → lead b ≡ Some OneMore
lead_two b l h = grind (arith, nat_tests)

lead_three : (b : ℕ) → 225 ≤ b → b ≤ 239 → (b ≡ 237 → ⊥) → lead b ≡ Some TwoMore
lead_three b l h n = grind (arith, nat_tests)

lead_four : (b : ℕ) → 241 ≤ b → b ≤ 243 → lead b ≡ Some ThreeMore
lead_four b l h = grind (arith, nat_tests)

within : (low high b : ℕ) (t : Tail) → low ≤ b → b ≤ high → cond (leb low b && leb b high) (Some t) None ≡ Some t
within low high b t l h = grind (arith, nat_tests)

tail_1 : (x : ℕ) → 128 ≤ x → x ≤ 191 → IsTail OneMore (x ∷ [])
tail_1 x l h = byte (within 128 191 x Whole l h) whole

tail_2 : (x y : ℕ) → 128 ≤ x → x ≤ 191 → 128 ≤ y → y ≤ 191 → IsTail TwoMore (x ∷ y ∷ [])
tail_2 x y l h m n = byte (within 128 191 x OneMore l h) (tail_1 y m n)

chars_224 : (b x y : ℕ) (s : List ℕ) → b ≡ 224 → 160 ≤ x → x ≤ 191 → 128 ≤ y → y ≤ 191 → AreCharacters s → AreCharacters (b ∷ x ∷ y ∷ s)
chars_224 b x y s e xl xh yl yh h = c.beyond {u = x ∷ y ∷ []} (ap lead e) (byte (within 160 191 x OneMore xl xh) (tail_1 y yl yh)) h

chars_237 : (b x y : ℕ) (s : List ℕ) → b ≡ 237 → 128 ≤ x → x ≤ 159 → 128 ≤ y → y ≤ 191 → AreCharacters s → AreCharacters (b ∷ x ∷ y ∷ s)
chars_237 b x y s e xl xh yl yh h = c.beyond {u = x ∷ y ∷ []} (ap lead e) (byte (within 128 159 x OneMore xl xh) (tail_1 y yl yh)) h

chars_3 : (b x y : ℕ) (s : List ℕ) → 225 ≤ b → b ≤ 239 → (b ≡ 237 → ⊥) → 128 ≤ x → x ≤ 191 → 128 ≤ y → y ≤ 191 → AreCharacters s → AreCharacters (b ∷ x ∷ y ∷ s)
chars_3 b x y s bl bh n xl xh yl yh h = c.beyond {u = x ∷ y ∷ []} (lead_three b bl bh n) (tail_2 x y xl xh yl yh) h

chars_240 : (b w x y : ℕ) (s : List ℕ) → b ≡ 240 → 144 ≤ w → w ≤ 191 → 128 ≤ x → x ≤ 191 → 128 ≤ y → y ≤ 191 → AreCharacters s → AreCharacters (b ∷ w ∷ x ∷ y ∷ s)
chars_240 b w x y s e wl wh xl xh yl yh h = c.beyond {u = w ∷ x ∷ y ∷ []} (ap lead e) (byte (within 144 191 w TwoMore wl wh) (tail_2 x y xl xh yl yh)) h

chars_244 : (b w x y : ℕ) (s : List ℕ) → b ≡ 244 → 128 ≤ w → w ≤ 143 → 128 ≤ x → x ≤ 191 → 128 ≤ y → y ≤ 191 → AreCharacters s → AreCharacters (b ∷ w ∷ x ∷ y ∷ s)
chars_244 b w x y s e wl wh xl xh yl yh h = c.beyond {u = w ∷ x ∷ y ∷ []} (ap lead e) (byte (within 128 143 w TwoMore wl wh) (tail_2 x y xl xh yl yh)) h

chars_4 : (b w x y : ℕ) (s : List ℕ) → 241 ≤ b → b ≤ 243 → 128 ≤ w → w ≤ 191 → 128 ≤ x → x ≤ 191 → 128 ≤ y → y ≤ 191 → AreCharacters s → AreCharacters (b ∷ w ∷ x ∷ y ∷ s)
chars_4 b w x y s bl bh wl wh xl xh yl yh h = c.beyond {u = w ∷ x ∷ y ∷ []} (lead_four b bl bh) (byte (within 128 191 w TwoMore wl wh) (tail_2 x y xl xh yl yh)) h

encoded_2 : (n : ℕ) (s : List ℕ) → 128 ≤ n → n < 2048 → AreCharacters s → AreCharacters (encode n ++ s)
encoded_2 n s l h k =
    subst (λ z. AreCharacters (z ++ s)) (sym (encode_2 n l h))
    (c.beyond {u = (128 + n % 64) ∷ []} (lead_two (192 + n / 64) (omega arith) (omega arith)) (tail_1 (128 + n % 64) (omega arith) (omega arith)) k)

encoded_3 : (n : ℕ) (s : List ℕ) → 2048 ≤ n → n < 65536 → (n < 55296) ⊎ (57344 ≤ n) → AreCharacters s → AreCharacters (encode n ++ s)
encoded_3 n s l h sur k =
    let b = 224 + n / 4096 in
    let x = 128 + n / 64 % 64 in
    let y = 128 + n % 64 in
    let yl : 128 ≤ y = omega arith in
    let yh : y ≤ 191 = omega arith in
    subst (λ z. AreCharacters (z ++ s)) (sym (encode_3 n l h)) (
    elim (cases_lt n 4096) [
      | inl m ↦ chars_224 b x y s (omega (arith, m)) (omega (arith, m, l)) (omega arith) yl yh k
      | inr m ↦ elim sur [
        | inl o ↦ elim (cases_lt n 53248) [
          | inl p ↦ chars_3 b x y s (omega (arith, m)) (omega (arith, o)) (λ z. let w : b ≡ 237 = z in omega (arith, p, w)) (omega arith) (omega arith) yl yh k
          | inr p ↦ chars_237 b x y s (omega (arith, p, o)) (omega arith) (omega (arith, p, o)) yl yh k
        ]
        | inr o ↦ chars_3 b x y s (omega (arith, m)) (omega (arith, h)) (λ z. let w : b ≡ 237 = z in omega (arith, o, w)) (omega arith) (omega arith) yl yh k
      ]
    ])

encoded_4 : (n : ℕ) (s : List ℕ) → 65536 ≤ n → n < 1114112 → AreCharacters s → AreCharacters (encode n ++ s)
encoded_4 n s l h k =
    let b = 240 + n / 262144 in
    let w = 128 + n / 4096 % 64 in
    let x = 128 + n / 64 % 64 in
    let y = 128 + n % 64 in
    let xl : 128 ≤ x = omega arith in
    let xh : x ≤ 191 = omega arith in
    let yl : 128 ≤ y = omega arith in
    let yh : y ≤ 191 = omega arith in
    subst (λ z. AreCharacters (z ++ s)) (sym (encode_4 n l)) (
    elim (cases_lt n 262144) [
      | inl m ↦ chars_240 b w x y s (omega (arith, m)) (omega (arith, m, l)) (omega arith) xl xh yl yh k
      | inr m ↦ elim (cases_lt n 1048576) [
        | inl o ↦ chars_4 b w x y s (omega (arith, m)) (omega (arith, o)) (omega arith) (omega arith) xl xh yl yh k
        | inr o ↦ chars_244 b w x y s (omega (arith, o, h)) (omega arith) (omega (arith, o, h)) xl xh yl yh k
      ]
    ])

encoded : (n : ℕ) (s : List ℕ) → IsScalar n → AreCharacters s → AreCharacters (encode n ++ s)
encoded n s h k =
    let r = scalar_cases n h in
    let top : n < 1114112 = elim r [ inl o ↦ omega (arith, o) | inr o ↦ o.1 ] in
    let sur : (n < 55296) ⊎ (57344 ≤ n) = elim r [ inl o ↦ inl o | inr o ↦ inr o.0 ] in
    elim (cases_lt n 128) [
      | inl m ↦ subst (λ z. AreCharacters (z ++ s)) (sym (encode_ascii n m)) (c.ascii m k)
      | inr m ↦ elim (cases_lt n 2048) [
        | inl o ↦ encoded_2 n s m o k
        | inr o ↦ elim (cases_lt n 65536) [
          | inl p ↦ encoded_3 n s o p sur k
          | inr p ↦ encoded_4 n s p top k
        ]
      ]
    ]

both_true : (a b : Bool) → (a && b) ≡ true → (a ≡ true) × (b ≡ true)
both_true true true e = (refl, refl)
both_true true false e = cc
both_true false b e = cc

all_encoded : (ns : List ℕ) → scalars ns ≡ true → AreCharacters (encodes ns)
all_encoded [] e = c.no_more
all_encoded (n ∷ ns) e = let r = both_true (scalar n) (scalars ns) e in encoded n (encodes ns) r.0 (all_encoded ns r.1)

pub characters_of_utf8 : (s : List ℕ) → IsUtf8 s → AreCharacters s
characters_of_utf8 s (ns, h) = subst AreCharacters h.1 (all_encoded ns h.0)
