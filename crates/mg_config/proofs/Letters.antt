-- What the grammar makes of the names, the numbers and the texts that a configuration writes.
use Rattle.std.proofs.Common.{ℕ, suc, ℤ, pos, negsuc, ◌^◌, ◌<◌, ◌≤◌, ◌≡◌, ◌⊎◌, ◌==◌, ◌&&◌, not, List, [], ◌∷◌, ◌++◌, Bool, true, false, length, IsTrue, if◌then◌else◌, append-nil, inl, inr, arith, refl, subst}
use Rattle.std.specs.List.{list_all}
use Rattle.std.specs.Str.{bytes_eq}
use Rattle.std.specs.Str.Parse.{AllDigits}
use Rattle.std.specs.Fmt.{decimal, signed_decimal}
use Rattle.std.proofs.lemmas.Bool.Decides.{nat_tests}
use Rattle.std.proofs.lemmas.Fmt.{decimal_is_IsNumeral}
use Rattle.std.proofs.lemmas.Str.Parse.{digit_from_value}
use Rattle.mg_text.specs.declared.class.Class.TheVariants.{Minus}
use Rattle.mg_text.specs.Byte.{class_of, below_digits, digit_class, upper_class, lower_class, is_letter, is_digit, is_word_byte}
use Rattle.mg_text.specs.Grammar as grammar
use Rattle.mg_text.specs.Grammar.{AllOf, Some1, IsWord, IsName, IsUnsigned, IsNumber}
use Rattle.mg_text.specs.Canonical as canonical
use Rattle.mg_text.specs.Canonical.{AreCharacters}
use Rattle.mg_names.specs.Grammar.{is_name, is_tag, index_count, continues_name, continues_tag}
use Rattle.mg_names.specs.Ports.{text_of, tagged_text, IsSpelled}
use Rattle.mg_names.specs.TagIndex.{text_of_tag_index}
use Rattle.mg_names.specs.declared.port.Port.{Port}
use Rattle.mg_names.proofs.Parts.{name_continues, tag_continues}
use Rattle.mg_config.specs.Sound.{FitsI32, IsMark}
use Rattle.mg_config.specs.declared.mark.Mark.{Mark}

-- words

abbrev pub is_word : List ℕ → Bool
is_word [] = false
is_word (b ∷ bs) = is_letter (class_of b) && list_all (λ byte. is_word_byte (class_of byte)) bs

both : (a b : Bool) → (a && b) ≡ true → (a ≡ true) × (b ≡ true)
both true true e = (refl, refl)
both true false e = cc
both false b e = cc

all_of : (bs : List ℕ) → list_all (λ byte. is_word_byte (class_of byte)) bs ≡ true → AllOf is_word_byte bs
all_of [] all = tt
all_of (b ∷ bs) all =
    let known = both (is_word_byte (class_of b)) (list_all (λ byte. is_word_byte (class_of byte)) bs) all in
    (known.0, all_of bs known.1)

pub word_of : (bs : List ℕ) → is_word bs ≡ true → IsWord bs
word_of [] test = cc
word_of (b ∷ bs) test =
    let known = both (is_letter (class_of b)) (list_all (λ byte. is_word_byte (class_of byte)) bs) test in
    (known.0, all_of bs known.1)

pub name_of : (bs : List ℕ) → is_word bs ≡ true → IsName bs
name_of bs test = grammar.plain bs (word_of bs test)

-- numbers

digit_is : (b : ℕ) → 48 ≤ b → b ≤ 57 → is_digit (class_of b) ≡ true
unfolding class_of below_digits digit_class upper_class lower_class
digit_is b low high = grind (arith, nat_tests)

digits_are : (ds : List ℕ) → AllDigits 10 ds → AllOf is_digit ds
digits_are [] all = tt
digits_are (d ∷ ds) all =
    let range = digit_from_value d all.0 in
    (digit_is d (omega (arith, range)) (omega (arith, range)), digits_are ds all.1)

digits_begin : (ds : List ℕ) → 0 < length ds → AllOf is_digit ds → Some1 is_digit ds
digits_begin [] some all = absurd (omega arith)
digits_begin (d ∷ ds) some all = all

decimal_unsigned : (n : ℕ) → n < 2 ^ 64 → IsUnsigned (decimal n)
decimal_unsigned n small =
    let numeral = (decimal_is_IsNumeral n small).0 in
    subst IsUnsigned (append-nil (decimal n))
    (grammar.whole (decimal n) {e = []} (digits_begin (decimal n) numeral.0 (digits_are (decimal n) numeral.1)) (grammar.no_exponent grammar.no_suffix))

minus_is : class_of 45 ≡ Minus
unfolding class_of below_digits digit_class upper_class lower_class
minus_is = refl

pub number_spelled : (z : ℤ) → FitsI32 z → IsNumber (signed_decimal z)
number_spelled (pos n) fits = grammar.unsigned (decimal_unsigned n (omega arith))
number_spelled (negsuc n) fits = grammar.negative minus_is (decimal_unsigned (suc n) (omega arith))

-- bytes of ASCII

abbrev AreSmall : List ℕ → Type 0
AreSmall [] = Unit {0}
AreSmall (b ∷ bs) = (b < 128) × AreSmall bs

small_append : (a b : List ℕ) → AreSmall a → AreSmall b → AreSmall (a ++ b)
small_append [] b first later = later
small_append (x ∷ a) b first later = (first.0, small_append a b first.1 later)

small_characters : (bs : List ℕ) → AreSmall bs → AreCharacters bs
small_characters [] small = canonical.no_more
small_characters (b ∷ bs) small = canonical.ascii small.0 (small_characters bs small.1)

small_passed : (test : ℕ → Bool) → ((b : ℕ) → test b ≡ true → b < 128) → (bs : List ℕ) → list_all test bs ≡ true → AreSmall bs
small_passed test below [] all = tt
small_passed test below (b ∷ bs) all =
    let known = both (test b) (list_all test bs) all in
    (below b known.0, small_passed test below bs known.1)

name_small : (name : List ℕ) → is_name name ≡ true → AreSmall name
name_small name good = small_passed continues_name (λ b h. grind (arith, nat_tests)) name (name_continues name good)

tag_small : (tag : List ℕ) → (tag ≡ []) ⊎ IsTrue (is_tag tag) → AreSmall tag
tag_small [] good = tt
tag_small (b ∷ tag) (inl empty) = cc
tag_small (b ∷ tag) (inr good) = small_passed continues_tag (λ b h. grind (arith, nat_tests)) (b ∷ tag) (tag_continues (b ∷ tag) good)

digits_small : (ds : List ℕ) → AllDigits 10 ds → AreSmall ds
digits_small [] all = tt
digits_small (d ∷ ds) all =
    let range = digit_from_value d all.0 in
    (omega (arith, range), digits_small ds all.1)

index_small : (index : ℕ) → index < index_count → AreSmall (decimal index)
index_small index below = digits_small (decimal index) (decimal_is_IsNumeral index (omega arith)).0.1

-- the texts of ports and of marks

port_small : (tag : List ℕ) (index : ℕ) (name : List ℕ) → AreSmall tag → AreSmall (decimal index) → AreSmall name
    → AreSmall (if bytes_eq tag [] then name else tagged_text tag index name)
port_small tag index name first middle last = by (bytes_eq tag []) (index == 0)
  where
    colon : (bs : List ℕ) → AreSmall bs → AreSmall (58 ∷ bs)
    colon bs small = (omega arith, small)

    by : (t u : Bool) → AreSmall (if t then name else (if u then tag ++ (58 ∷ name) else (tag ++ (58 ∷ decimal index)) ++ (58 ∷ name)))
    by true u = last
    by false true = small_append tag (58 ∷ name) first (colon name last)
    by false false = small_append (tag ++ (58 ∷ decimal index)) (58 ∷ name) (small_append tag (58 ∷ decimal index) first (colon (decimal index) middle)) (colon name last)

pub port_characters : (port : Port) → IsSpelled port → AreCharacters (text_of port)
port_characters port spelled =
    small_characters (text_of port)
    (port_small port.tag port.index port.name (tag_small port.tag spelled.tag) (index_small port.index spelled.index) (name_small port.name spelled.name))

mark_small : (tag : List ℕ) (index : ℕ) → AreSmall tag → AreSmall (decimal index) → AreSmall (if (index == 0) && not (bytes_eq tag []) then tag else tag ++ 58 ∷ decimal index)
mark_small tag index first last = by ((index == 0) && not (bytes_eq tag []))
  where
    colon : AreSmall (58 ∷ decimal index)
    colon = (omega arith, last)

    by : (t : Bool) → AreSmall (if t then tag else tag ++ 58 ∷ decimal index)
    by true = first
    by false = small_append tag (58 ∷ decimal index) first colon

pub mark_characters : (mark : Mark) → IsMark mark → AreCharacters (text_of_tag_index mark.tag mark.index)
mark_characters mark known = small_characters (text_of_tag_index mark.tag mark.index) (mark_small mark.tag mark.index (tag_small mark.tag known.tag) (index_small mark.index known.index))
