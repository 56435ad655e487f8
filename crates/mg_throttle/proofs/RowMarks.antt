-- Rows of marks as words of bits, and counts that change at the marks.
use Rattle.std.proofs.Common.{◌≡◌, ◌≢◌, ℕ, ◌+◌, ◌-◌, ◌*◌, ◌/◌, ◌%◌, ◌^◌, ◌<◌, ◌≤◌, Bool, true, false, ◌||◌, eqb, max, List, length, take, drop, ◌++◌, get_or, slice_set, replicate, ◌∙◌, sym, ap, subst, inl, inr, refl, arith, length-set, get_or-set_same, get_or-set_other, w64, eq-eqb}
use Rattle.std.proofs.Math.Seq.{take-append_seam}
use Rattle.std.proofs.lemmas.Bool.{cases_eq, cases_lt, false≢true, ne_eqb, lt-ltb, le-ltb, le-leb, lt-leb}
use Rattle.std.proofs.lemmas.List.{same_lists, get_or-replicate, length-replicate, get_or_past, get_or_read, get_or_default}
use Rattle.std.proofs.lemmas.List.FromFn.{get_or-map-range_with_len, length-map-range_with_len}
use Rattle.std.proofs.lemmas.Nat.Bits.{bit_at-zero, bit_at_or, bit_at_set_same, bit_at_set_other, bit_at-lt, shr_and_one}
use Rattle.std.specs.Prelude.{bit_or, bit_and}
use Rattle.std.specs.Int.{bit_at}
use Rattle.mg_throttle.specs.Code.Rows.{bit_of, marks_of, IsRow, is_marked, Joins, part, bit_in, Changes, ChangesBelow}

-- a mark is the bit of its place
pub is_marked-bit : (len : ℕ) (words : List ℕ) (k : ℕ) → k < len → is_marked (marks_of len words) k ≡ eqb (bit_of words k) 1
is_marked-bit len words k within = get_or-map-range_with_len (λ n. eqb (bit_of words n) 1) 0 len k k false within (omega arith)

pub length-marks : (len : ℕ) (words : List ℕ) → length (marks_of len words) ≡ len
length-marks len words = length-map-range_with_len (λ n. eqb (bit_of words n) 1) 0 len

-- rows of the same marks are one
pub same_marks : (xs ys : List Bool) → length xs ≡ length ys → ((k : ℕ) → k < length xs → is_marked xs k ≡ is_marked ys k) → xs ≡ ys
same_marks xs ys len each = same_lists xs ys len (λ k d within.
    get_or_default xs k d false within ∙ each k within ∙ get_or_default ys k false d (omega arith))

-- no bits are no marks
zero_of : (n k : ℕ) → get_or {A = ℕ} (replicate n 0) k 0 ≡ 0
zero_of n k = elim (cases_lt k n) [
  | inl within ↦ get_or-replicate n k 0 0 within
  | inr past ↦ get_or_past (replicate n 0) k 0 (rw (length-replicate {A = ℕ} n 0) past)
]

no_bit : (n k : ℕ) → bit_of (replicate n 0) k ≡ 0
no_bit n k = rw (zero_of n (k / 64)) (bit_at-zero (k % 64))

pub marks-none : (len n : ℕ) → marks_of len (replicate n 0) ≡ replicate len false
marks-none len n =
    let long = length-marks len (replicate n 0) in
    same_marks (marks_of len (replicate n 0)) (replicate len false) (long ∙ sym (length-replicate len false))
    (λ k within. is_marked-bit len (replicate n 0) k (omega arith) ∙ ap (λ x. eqb x 1) (no_bit n k) ∙ sym (get_or-replicate len k false false (omega arith)))

-- a place is marked by its bit
pub marks-set : (len : ℕ) (words : List ℕ) (p old : ℕ) → IsRow len words → p < len → old ≡ get_or words (p / 64) old
    → marks_of len (slice_set words (p / 64) (bit_or old (1 * 2 ^ (p % 64) % 18446744073709551616))) ≡ slice_set (marks_of len words) p true
marks-set len words p old row within read =
    let w : ℕ = bit_or old (1 * 2 ^ (p % 64) % 18446744073709551616) in
    let more : List ℕ = slice_set words (p / 64) w in
    let inside : p / 64 < length words = let e = row.words_len in omega arith in
    let is_old : old ≡ get_or words (p / 64) 0 = get_or_read words (p / 64) old inside read 0 in
    let long = length-marks len words in
    let bit : (k : ℕ) → k ≢ p → bit_of more k ≡ bit_of words k = λ k other. elim (cases_eq (k / 64) (p / 64)) [
      | inl here ↦ rw (here, get_or-set_same words (p / 64) w 0 inside, ← is_old) (bit_at_set_other w64 old (p % 64) (omega arith) (k % 64) (λ e. other (omega arith)))
      | inr apart ↦ ap (λ x. bit_at x (k % 64)) (get_or-set_other words (p / 64) (k / 64) w 0 apart)
    ] in
    let here : bit_of more p ≡ 1 = rw (get_or-set_same words (p / 64) w 0 inside) (bit_at_set_same w64 old (p % 64) (omega arith)) in
    same_marks (marks_of len more) (slice_set (marks_of len words) p true) (length-marks len more ∙ sym (length-set (marks_of len words) p true ∙ long))
    (λ k small. let fits : k < len = let e = length-marks len more in omega arith in
    is_marked-bit len more k fits ∙ elim (cases_eq k p) [
      | inl same ↦ rw (same, here, get_or-set_same (marks_of len words) p true false (omega arith)) refl
      | inr other ↦ ap (λ x. eqb x 1) (bit k other) ∙ sym (is_marked-bit len words k fits) ∙ sym (get_or-set_other (marks_of len words) p k true false other)
    ])

-- a bit of two words' bits is marked if one of them is
or_bits : (a b : ℕ) → a < 2 → b < 2 → eqb (max a b) 1 ≡ (eqb a 1 || eqb b 1)
or_bits a b p q = elim (cases_eq a 1) [
  | inl one ↦ rw (one, eq-eqb (max 1 b) 1 (omega arith)) refl
  | inr not_one ↦ elim (cases_eq b 1) [
    | inl one ↦ rw (one, ne_eqb a 1 not_one, eq-eqb (max a 1) 1 (omega arith)) refl
    | inr none ↦ rw (ne_eqb a 1 not_one, ne_eqb b 1 none, ne_eqb (max a b) 1 (λ e. omega arith)) refl
  ]
]

pub Joins-words : (len : ℕ) (one two both : List ℕ) → ((k : ℕ) → get_or both k 0 ≡ bit_or (get_or one k 0) (get_or two k 0))
    → Joins (marks_of len one) (marks_of len two) (marks_of len both)
Joins-words len one two both each = record {
  len = length-marks len both ∙ sym (length-marks len one);
  marks = λ k within. let fits : k < len = let e = length-marks len one in omega arith in
      is_marked-bit len both k fits ∙ ap (λ x. eqb (bit_at x (k % 64)) 1) (each (k / 64))
      ∙ ap (λ x. eqb x 1) (bit_at_or (get_or one (k / 64) 0) (get_or two (k / 64) 0) (k % 64))
      ∙ or_bits (bit_of one k) (bit_of two k) (bit_at-lt (get_or one (k / 64) 0) (k % 64)) (bit_at-lt (get_or two (k / 64) 0) (k % 64))
      ∙ rw (is_marked-bit len one k fits, is_marked-bit len two k fits) refl;
}

-- what is lent whole comes back whole
pub rejoined : (n : ℕ) (new old : List ℕ) → length new ≡ n → take n (new ++ drop (length new) old) ≡ new
rejoined n new old len = rw (← len) (take-append_seam new (drop (length new) old))

-- the bit of a place in a word that begins at another
pub bit_in-here : (word first k : ℕ) → first ≤ k → k < first + 64 → bit_in word first k ≡ eqb (bit_at word (k - first)) 1
bit_in-here word first k low high = rw (le-leb first k low, lt-ltb k (first + 64) high) refl

pub bit_in-yes : (word first k : ℕ) → first ≤ k → k < first + 64 → bit_and (word / 2 ^ (k - first)) 1 ≡ 1 → bit_in word first k ≡ true
bit_in-yes word first k low high one = bit_in-here word first k low high ∙ eq-eqb _ 1 (sym (shr_and_one word (k - first)) ∙ one)

pub bit_in-no : (word first k : ℕ) → first ≤ k → k < first + 64 → bit_and (word / 2 ^ (k - first)) 1 ≢ 1 → bit_in word first k ≡ false
bit_in-no word first k low high other = bit_in-here word first k low high ∙ ne_eqb _ 1 (λ e. other (shr_and_one word (k - first) ∙ e))

pub bit_in-past : (word first k : ℕ) → first + 64 ≤ k → bit_in word first k ≡ false
bit_in-past word first k past = rw (le-leb first k (omega arith), le-ltb k (first + 64) past) refl

-- a place below
pub bit_in-below : (word first k : ℕ) → k < first → bit_in word first k ≡ false
bit_in-below word first k low = rw (lt-leb first k low) refl

-- no bits
pub bit_in-zero : (first k : ℕ) → bit_in 0 first k ≡ false
bit_in-zero first k = elim (cases_lt k first) [
  | inl low ↦ bit_in-below 0 first k low
  | inr here ↦ elim (cases_lt k (first + 64)) [
    | inl inside ↦ bit_in-here 0 first k here inside ∙ rw (bit_at-zero (k - first)) refl
    | inr past ↦ bit_in-past 0 first k past
  ]
]

-- one place more, which passes
pub ChangesBelow-yes : (test : ℕ → Bool) (more less place : ℕ) (old now : List ℕ) (x : ℕ) → ChangesBelow test more less place old now → place < length now
    → test place ≡ true → x + less ≡ get_or old place 0 + more → ChangesBelow test more less (place + 1) old (slice_set now place x)
ChangesBelow-yes test more less place old now x below within passes sum = record {
  len = length-set now place x ∙ below.len;
  changed = λ k low inside. elim (cases_eq k place) [
    | inl here ↦ rw (here, get_or-set_same now place x 0 within, passes) sum
    | inr other ↦ rw (get_or-set_other now place k x 0 other) (below.changed k (omega arith) inside)
  ];
  kept = λ k high. get_or-set_other now place k x 0 (λ e. omega arith) ∙ below.kept k (omega arith);
}

-- one that doesn't
pub ChangesBelow-no : (test : ℕ → Bool) (more less place : ℕ) (old now : List ℕ) → ChangesBelow test more less place old now
    → test place ≡ false → ChangesBelow test more less (place + 1) old now
ChangesBelow-no test more less place old now below fails = record {
  len = below.len;
  changed = λ k low inside. elim (cases_eq k place) [
    | inl here ↦ rw (here, fails, below.kept place (omega arith)) refl
    | inr other ↦ below.changed k (omega arith) inside
  ];
  kept = λ k high. below.kept k (omega arith);
}

-- past the last place that passes
pub Changes-all : (test : ℕ → Bool) (more less end : ℕ) (old now : List ℕ) → ChangesBelow test more less end old now
    → ((k : ℕ) → end ≤ k → k < length old → test k ≡ false) → Changes test more less old now
Changes-all test more less end old now below none = record {
  len = below.len;
  counts = λ k within. elim (cases_lt k end) [
    | inl low ↦ below.changed k low within
    | inr high ↦ rw (none k high within, below.kept k high) refl
  ];
}

-- ---- a word of counts
pub bit_in-low : (word first k : ℕ) → bit_in word first k ≡ true → first ≤ k
bit_in-low word first k there = elim (cases_lt k first) [
  | inl low ↦ absurd (false≢true (sym (bit_in-below word first k low) ∙ there))
  | inr high ↦ high
]

-- the marks of a word's places are its bits
pub is_marked-word : (len : ℕ) (words : List ℕ) (i k : ℕ) → i * 64 ≤ k → k < i * 64 + 64 → k < len
    → is_marked (marks_of len words) k ≡ bit_in (get_or words i 0) (i * 64) k
is_marked-word len words i k low high within =
    let word : k / 64 ≡ i = omega arith in
    let place : k % 64 ≡ k - i * 64 = omega arith in
    is_marked-bit len words k within ∙ rw (word, place) refl ∙ sym (bit_in-here (get_or words i 0) (i * 64) k low high)

pub ChangesBelow-word : (test : ℕ → Bool) (more less place word : ℕ) (old now next : List ℕ) → ChangesBelow test more less place old now
    → Changes (bit_in word place) more less now next
    → ((k : ℕ) → place ≤ k → k < place + 64 → k < length old → test k ≡ bit_in word place k)
    → ChangesBelow test more less (place + 64) old next
ChangesBelow-word test more less place word old now next below step same =
    let len = below.len in
    let still : (k : ℕ) → bit_in word place k ≡ false → k < length old → get_or next k 0 ≡ get_or now k 0 =
    λ k fails within. let e : get_or next k 0 + part (bit_in word place k) less ≡ get_or now k 0 + part (bit_in word place k) more = step.counts k (omega arith) in
    let f : get_or next k 0 + 0 ≡ get_or now k 0 + 0 = subst (λ b. get_or next k 0 + part b less ≡ get_or now k 0 + part b more) fails e in omega arith in
    record {
      len = step.len ∙ len;
      changed = λ k low within. elim (cases_lt k place) [
        | inl before ↦ rw (still k (bit_in-below word place k before) within) (below.changed k before within)
        | inr here ↦ rw (same k here low within, ← below.kept k here) (step.counts k (omega arith))
      ];
      kept = λ k high. elim (cases_lt k (length old)) [
        | inl within ↦ still k (bit_in-past word place k high) within ∙ below.kept k (omega arith)
        | inr past ↦ get_or_past next k 0 (omega (arith, step.len)) ∙ sym (get_or_past old k 0 past)
      ];
    }

pub ChangesBelow-zero : (test : ℕ → Bool) (more less place : ℕ) (old now : List ℕ) → ChangesBelow test more less place old now
    → ((k : ℕ) → place ≤ k → k < place + 64 → k < length old → test k ≡ bit_in 0 place k)
    → ChangesBelow test more less (place + 64) old now
ChangesBelow-zero test more less place old now below same = ChangesBelow-word test more less place 0 old now now below
    (record { len = refl; counts = λ k within. rw (bit_in-zero place k) refl }) same

pub bit_in-high : (word first k : ℕ) → bit_in word first k ≡ true → k < first + 64
bit_in-high word first k there = elim (cases_lt k (first + 64)) [
  | inl low ↦ low
  | inr high ↦ absurd (false≢true (sym (bit_in-past word first k high) ∙ there))
]

-- the marks of a row at the places of a word that the code reads
pub word_read : (len : ℕ) (words : List ℕ) (value : List Bool) (i word : ℕ) → marks_of len words ≡ value → i < length words → word ≡ get_or words i word
    → (k : ℕ) → i * 64 ≤ k → k < i * 64 + 64 → k < length value → is_marked value k ≡ bit_in word (i * 64) k
word_read len words value i word same inside read k low high within =
    let long : length value ≡ len = sym (ap length same) ∙ length-marks len words in
    rw (← same, get_or_read words i word inside read 0) (is_marked-word len words i k low high (omega arith))

-- a count is enough if a word's bit is set and the rest is as it was
pub enough_at : (test : ℕ → Bool) (more less i word : ℕ) (old now : List ℕ) → ChangesBelow test more less (i * 64) old now
    → ((k : ℕ) → i * 64 ≤ k → k < i * 64 + 64 → k < length old → test k ≡ bit_in word (i * 64) k)
    → ((k : ℕ) → test k ≡ true → less ≤ get_or old k 0)
    → (k : ℕ) → k < length now → bit_in word (i * 64) k ≡ true → less ≤ get_or now k 0
enough_at test more less i word old now below same enough k within there =
    let low : i * 64 ≤ k = bit_in-low word (i * 64) k there in
    let passes : test k ≡ true = same k low (bit_in-high word (i * 64) k there) (omega (arith, below.len)) ∙ there in
    omega (arith, enough k passes, below.kept k low)

-- what the code joins
pub Joins-read : (len other_len : ℕ) (words other_words lent other_lent joined : List ℕ) (one two : List Bool) → marks_of len words ≡ one → marks_of other_len other_words ≡ two
    → length two ≡ length one → lent ≡ words → other_lent ≡ other_words
    → ((k : ℕ) → get_or joined k 0 ≡ bit_or (get_or lent k 0) (get_or other_lent k 0)) → Joins one two (marks_of len joined)
Joins-read len other_len words other_words lent other_lent joined one two is_one is_two same is_lent is_other_lent each =
    let lens : other_len ≡ len = sym (length-marks other_len other_words) ∙ ap length is_two ∙ same ∙ sym (ap length is_one) ∙ length-marks len words in
    let second : marks_of len other_words ≡ two = subst (λ n. marks_of n other_words ≡ two) lens is_two in
    rw (← is_one, ← second) (Joins-words len words other_words joined (λ k. rw (← is_lent, ← is_other_lent) (each k)))
