-- Bytes that are lines, each with its line feed, and a rest.
use Rattle.std.proofs.Common.{◌≡◌, ℕ, zero, suc, ◌<◌, ◌≤◌, List, [], ◌∷◌, ◌++◌, length, Bool, true, false, ◌==◌, if◌then◌else◌, get_or, take, drop, refl, sym, ap, ◌∙◌, arith, append_assoc, append-nil, length-append, add-one, Option, None, Some, MatchOption, ◌||◌}
use Rattle.std.proofs.lemmas.Bool.{eqb-true, true≢false}
use Rattle.memchr.specs.Find.{is_byte, IsFirstByte}
use Rattle.mg_feed.specs.Lines.{with_first, parts, but_last, but_empty_last, whole_lines, all_lines, last_part, unended_line, with_feed, completed, NoFeed, NoFeeds, fed_lines, IsCut}
use Rattle.mg_feed.specs.Code.LineEnd.{EndsLine, has_feed}

first_of : (b : ℕ) (x : Bool) (ps : List (List ℕ)) → (p : List ℕ) × (qs : List (List ℕ)) × ((if x then [] ∷ ps else with_first b ps) ≡ p ∷ qs)
first_of b true ps = ([], ps, refl)
first_of b false [] = (b ∷ [], [], refl)
first_of b false (p ∷ ps) = (b ∷ p, ps, refl)

-- there is a part
parts-first : (bytes : List ℕ) → (p : List ℕ) × (ps : List (List ℕ)) × (parts bytes ≡ p ∷ ps)
parts-first [] = ([], [], refl)
parts-first (b ∷ bytes) = first_of b (b == 10) (parts bytes)

-- bytes without a line feed are one part, also before a line feed
parts-no_feed : (p : List ℕ) → NoFeed p → parts p ≡ p ∷ []
parts-no_feed [] none = refl
parts-no_feed (b ∷ p) none = rw (none.0, parts-no_feed p none.1) refl

parts-feed : (p more : List ℕ) → NoFeed p → parts (p ++ 10 ∷ more) ≡ p ∷ parts more
parts-feed [] more none = refl
parts-feed (b ∷ p) more none = rw (none.0, parts-feed p more none.1) refl

front_of : (p : List ℕ) (q : List ℕ) (qs : List (List ℕ)) → but_empty_last (p ∷ q ∷ qs) ≡ p ∷ but_empty_last (q ∷ qs)
front_of [] q qs = refl
front_of (b ∷ p) q qs = refl

-- a line and its line feed before other bytes
pub all_lines-line : (p more : List ℕ) → NoFeed p → all_lines (p ++ 10 ∷ more) ≡ p ∷ all_lines more
all_lines-line p more none = let g = parts-first more in rw (parts-feed p more none, g.2) (front_of p g.0 g.1)

pub whole_lines-line : (p more : List ℕ) → NoFeed p → whole_lines (p ++ 10 ∷ more) ≡ p ∷ whole_lines more
whole_lines-line p more none = let g = parts-first more in rw (parts-feed p more none, g.2) refl

rest_of-line : (p more : List ℕ) → NoFeed p → unended_line (p ++ 10 ∷ more) ≡ unended_line more
rest_of-line p more none = let g = parts-first more in rw (parts-feed p more none, g.2) refl

-- all lines before other bytes
pub all_lines-fed : (lines : List (List ℕ)) (more : List ℕ) → NoFeeds lines → all_lines (fed_lines lines ++ more) ≡ lines ++ all_lines more
all_lines-fed [] more none = refl
all_lines-fed (line ∷ lines) more none =
    ap all_lines (append_assoc line (10 ∷ fed_lines lines) more) ∙ all_lines-line line (fed_lines lines ++ more) none.0
    ∙ ap (λ l. line ∷ l) (all_lines-fed lines more none.1)

pub whole_lines-fed : (lines : List (List ℕ)) (more : List ℕ) → NoFeeds lines → whole_lines (fed_lines lines ++ more) ≡ lines ++ whole_lines more
whole_lines-fed [] more none = refl
whole_lines-fed (line ∷ lines) more none =
    ap whole_lines (append_assoc line (10 ∷ fed_lines lines) more) ∙ whole_lines-line line (fed_lines lines ++ more) none.0
    ∙ ap (λ l. line ∷ l) (whole_lines-fed lines more none.1)

rest_of-fed : (lines : List (List ℕ)) (more : List ℕ) → NoFeeds lines → unended_line (fed_lines lines ++ more) ≡ unended_line more
rest_of-fed [] more none = refl
rest_of-fed (line ∷ lines) more none =
    ap unended_line (append_assoc line (10 ∷ fed_lines lines) more) ∙ rest_of-line line (fed_lines lines ++ more) none.0 ∙ rest_of-fed lines more none.1

pub fed_lines-append : (xs ys : List (List ℕ)) → fed_lines (xs ++ ys) ≡ fed_lines xs ++ fed_lines ys
fed_lines-append [] ys = refl
fed_lines-append (x ∷ xs) ys = ap (λ l. x ++ 10 ∷ l) (fed_lines-append xs ys) ∙ sym (append_assoc x (10 ∷ fed_lines xs) (fed_lines ys))

all-push : (xs : List (List ℕ)) (y : List ℕ) → NoFeeds xs → NoFeed y → NoFeeds (xs ++ y ∷ [])
all-push [] y all none = (none, tt)
all-push (x ∷ xs) y all none = (all.0, all-push xs y all.1 none)

-- Cuts --

-- more bytes come
pub cut-more : (bytes : List ℕ) (lines : List (List ℕ)) (rest came : List ℕ) → IsCut bytes lines rest → IsCut (bytes ++ came) lines (rest ++ came)
cut-more bytes lines rest came cut = record { whole = cut.whole; is = ap (λ l. l ++ came) cut.is ∙ append_assoc (fed_lines lines) rest came }

-- the next line is taken
pub cut-line : (bytes : List ℕ) (lines : List (List ℕ)) (rest line after : List ℕ) → IsCut bytes lines rest → rest ≡ line ++ 10 ∷ after → NoFeed line → IsCut bytes (lines ++ line ∷ []) after
cut-line bytes lines rest line after cut is none = record {
  whole = all-push lines line cut.whole none;
  is = cut.is ∙ ap (λ l. fed_lines lines ++ l) (is ∙ sym (append_assoc line (10 ∷ []) after))
      ∙ sym (append_assoc (fed_lines lines) (line ++ 10 ∷ []) after) ∙ ap (λ l. l ++ after) (sym (fed_lines-append lines (line ∷ [])));
}

-- the lines of all bytes, whatever comes
pub cut-all : (bytes : List ℕ) (lines : List (List ℕ)) (rest more : List ℕ) → IsCut bytes lines rest → all_lines (bytes ++ more) ≡ lines ++ all_lines (rest ++ more)
cut-all bytes lines rest more cut =
    ap (λ l. all_lines (l ++ more)) cut.is ∙ ap all_lines (append_assoc (fed_lines lines) rest more) ∙ all_lines-fed lines (rest ++ more) cut.whole

-- if no line feed is left
pub no_feed-whole : (p : List ℕ) → NoFeed p → whole_lines p ≡ []
no_feed-whole p none = rw (parts-no_feed p none) refl

no_feed-rest : (p : List ℕ) → NoFeed p → unended_line p ≡ p
no_feed-rest p none = rw (parts-no_feed p none) refl

pub cut-whole : (bytes : List ℕ) (lines : List (List ℕ)) (rest : List ℕ) → IsCut bytes lines rest → NoFeed rest → lines ≡ whole_lines bytes
cut-whole bytes lines rest cut none =
    sym (ap whole_lines cut.is ∙ whole_lines-fed lines rest cut.whole ∙ ap (λ l. lines ++ l) (no_feed-whole rest none) ∙ append-nil lines)

-- what they leave open
pub cut-rest : (bytes : List ℕ) (lines : List (List ℕ)) (rest : List ℕ) → IsCut bytes lines rest → NoFeed rest → unended_line bytes ≡ rest
cut-rest bytes lines rest cut none = ap unended_line cut.is ∙ rest_of-fed lines rest cut.whole ∙ no_feed-rest rest none

-- The end --

with_feed-put : (rest front : List ℕ) → with_feed rest (front ++ rest) ≡ front ++ with_feed rest rest
with_feed-put [] front = refl
with_feed-put (b ∷ rest) front = append_assoc front (b ∷ rest) (10 ∷ [])

-- the last line gets its line feed
pub cut-end : (bytes : List ℕ) (lines : List (List ℕ)) (rest : List ℕ) → IsCut bytes lines rest → NoFeed rest → IsCut (completed bytes) lines (with_feed rest rest)
cut-end bytes lines rest cut none = record {
  whole = cut.whole;
  is = ap (λ r. with_feed r bytes) (cut-rest bytes lines rest cut none) ∙ ap (with_feed rest) cut.is ∙ with_feed-put rest (fed_lines lines);
}

feed_parts : (b : ℕ) (t : Bool) (p : List ℕ) (ps : List (List ℕ))
    → (if t then [] ∷ ((p ∷ ps) ++ [] ∷ []) else with_first b ((p ∷ ps) ++ [] ∷ [])) ≡ (if t then [] ∷ p ∷ ps else with_first b (p ∷ ps)) ++ [] ∷ []
feed_parts b true p ps = refl
feed_parts b false p ps = refl

-- a line feed at the end
parts-last : (bytes : List ℕ) → parts (bytes ++ 10 ∷ []) ≡ parts bytes ++ [] ∷ []
parts-last [] = refl
parts-last (b ∷ bytes) = let f = parts-first bytes in rw (parts-last bytes, f.2) (feed_parts b (b == 10) f.0 f.1)

but_last-last : (ps : List (List ℕ)) → but_last (ps ++ [] ∷ []) ≡ ps
but_last-last [] = refl
but_last-last (p ∷ []) = refl
but_last-last (p ∷ q ∷ ps) = ap (λ l. p ∷ l) (but_last-last (q ∷ ps))

last_part-last : (ps : List (List ℕ)) → last_part (ps ++ [] ∷ []) ≡ []
last_part-last [] = refl
last_part-last (p ∷ []) = refl
last_part-last (p ∷ q ∷ ps) = last_part-last (q ∷ ps)

but_empty-none : (ps : List (List ℕ)) → last_part ps ≡ [] → but_empty_last ps ≡ but_last ps
but_empty-none [] is = refl
but_empty-none ([] ∷ []) is = refl
but_empty-none ((b ∷ p) ∷ []) is = cc
but_empty-none ([] ∷ q ∷ ps) is = ap (λ l. [] ∷ l) (but_empty-none (q ∷ ps) is)
but_empty-none ((b ∷ p) ∷ q ∷ ps) is = ap (λ l. (b ∷ p) ∷ l) (but_empty-none (q ∷ ps) is)

but_empty-some : (ps : List (List ℕ)) (b : ℕ) (rest : List ℕ) → last_part ps ≡ b ∷ rest → but_empty_last ps ≡ ps
but_empty-some [] b rest is = refl
but_empty-some ([] ∷ []) b rest is = cc
but_empty-some ((c ∷ p) ∷ []) b rest is = refl
but_empty-some ([] ∷ q ∷ ps) b rest is = ap (λ l. [] ∷ l) (but_empty-some (q ∷ ps) b rest is)
but_empty-some ((c ∷ p) ∷ q ∷ ps) b rest is = ap (λ l. (c ∷ p) ∷ l) (but_empty-some (q ∷ ps) b rest is)

-- an input that has ended has the same lines with its last line feed, and all of them are whole
completed-by : (rest bytes : List ℕ) → unended_line bytes ≡ rest → (whole_lines (with_feed rest bytes) ≡ all_lines bytes) × (unended_line (with_feed rest bytes) ≡ [])
completed-by [] bytes is = (sym (but_empty-none (parts bytes) is), is)
completed-by (b ∷ rest) bytes is = (
  ap but_last (parts-last bytes) ∙ but_last-last (parts bytes) ∙ sym (but_empty-some (parts bytes) b rest is),
  ap last_part (parts-last bytes) ∙ last_part-last (parts bytes),
)

pub whole_lines-completed : (bytes : List ℕ) → whole_lines (completed bytes) ≡ all_lines bytes
whole_lines-completed bytes = (completed-by (unended_line bytes) bytes refl).0

rest_of-completed : (bytes : List ℕ) → unended_line (completed bytes) ≡ []
rest_of-completed bytes = (completed-by (unended_line bytes) bytes refl).1

pub all_lines-completed : (bytes : List ℕ) → all_lines (completed bytes) ≡ all_lines bytes
all_lines-completed bytes = but_empty-none (parts (completed bytes)) (rest_of-completed bytes) ∙ whole_lines-completed bytes

-- if no line feed is left of an input that has ended, all its lines are taken
pub cut-ended : (bytes : List ℕ) (lines : List (List ℕ)) (rest : List ℕ) → IsCut (completed bytes) lines rest → NoFeed rest → lines ≡ all_lines bytes
cut-ended bytes lines rest cut none = cut-whole (completed bytes) lines rest cut none ∙ whole_lines-completed bytes

-- A rest that isn't empty begins the next line, whatever follows it.
first_line : (r : List ℕ) (ps : List (List ℕ)) → 0 < length r → (lines : List (List ℕ)) × (but_empty_last (r ∷ ps) ≡ r ∷ lines)
first_line [] ps some = absurd (omega arith)
first_line (b ∷ r) [] some = ([], refl)
first_line (b ∷ r) (p ∷ ps) some = (but_empty_last (p ∷ ps), refl)

parts-begin : (p more : List ℕ) → NoFeed p → (q : List ℕ) × (ps : List (List ℕ)) × (parts (p ++ more) ≡ (p ++ q) ∷ ps)
parts-begin [] more none = parts-first more
parts-begin (b ∷ p) more none = let f = parts-begin p more none.1 in (f.0, f.1, rw (none.0, f.2) refl)

pub all_lines-begin : (p more : List ℕ) → NoFeed p → 0 < length p → (q : List ℕ) × (lines : List (List ℕ)) × (all_lines (p ++ more) ≡ (p ++ q) ∷ lines)
all_lines-begin p more none some =
    let f = parts-begin p more none in
    let g = first_line (p ++ f.0) f.1 (omega (arith, length-append p f.0)) in
    (f.0, g.0, ap but_empty_last f.2 ∙ g.1)

-- If the code finds no line feed --

is_false : (b : Bool) → (b ≡ true → ⊥) → b ≡ false
is_false true differs = absurd (differs refl)
is_false false differs = refl

no_feed-from : (bytes : List ℕ) → ((k : ℕ) → k < length bytes → (get_or bytes k 0 == 10) ≡ true → ⊥) → NoFeed bytes
no_feed-from [] none = tt
no_feed-from (b ∷ bytes) none = (is_false (b == 10) (none 0 (omega arith)), no_feed-from bytes (λ k lt. none (suc k) (omega arith)))

no_feed-take : (bytes : List ℕ) (i : ℕ) → i ≤ length bytes → ((k : ℕ) → k < i → (get_or bytes k 0 == 10) ≡ true → ⊥) → NoFeed (take i bytes)
no_feed-take bytes zero le none = tt
no_feed-take [] (suc i) le none = tt
no_feed-take (b ∷ bytes) (suc i) le none =
    (is_false (b == 10) (none 0 (omega arith)), no_feed-take bytes i (omega arith) (λ k lt. none (suc k) (omega arith)))

cut-at : (bytes : List ℕ) (i : ℕ) → i < length bytes → (get_or bytes i 0 == 10) ≡ true → bytes ≡ take i bytes ++ 10 ∷ drop (suc i) bytes
cut-at [] i lt is = absurd (omega arith)
cut-at (b ∷ bytes) zero lt is = ap (λ x. x ∷ bytes) (eqb-true b 10 is)
cut-at (b ∷ bytes) (suc i) lt is = ap (λ l. b ∷ l) (cut-at bytes i (omega arith) is)

pub line_end-from : (bytes : List ℕ) (r : Option ℕ) → IsFirstByte (is_byte 10) bytes r → MatchOption r (NoFeed bytes) (EndsLine bytes)
line_end-from bytes None first = no_feed-from bytes (λ k lt. first k (omega arith) lt)
line_end-from bytes (Some i) first = record {
  within = first.0.high;
  none = no_feed-take bytes i (omega (arith, first.0.high)) (λ k lt. first.0.before k (omega arith) lt);
  cut = rw add-one (cut-at bytes i first.0.high first.1);
}

-- bytes without a line feed after others
pub no_feed-append : (xs ys : List ℕ) → NoFeed xs → NoFeed ys → NoFeed (xs ++ ys)
no_feed-append [] ys none more = more
no_feed-append (x ∷ xs) ys none more = (none.0, no_feed-append xs ys none.1 more)

-- what the reader's bytes before the block are known by
either_false : (a b : Bool) → (a || b) ≡ false → (a ≡ false) × (b ≡ false)
either_false true b is = absurd (true≢false is)
either_false false b is = (refl, is)

pub no_feed-of : (bytes : List ℕ) → has_feed bytes ≡ false → NoFeed bytes
no_feed-of [] is = tt
no_feed-of (b ∷ bytes) is = let p = either_false (b == 10) (has_feed bytes) is in (p.0, no_feed-of bytes p.1)

pub of-no_feed : (bytes : List ℕ) → NoFeed bytes → has_feed bytes ≡ false
of-no_feed [] none = refl
of-no_feed (b ∷ bytes) none = rw (none.0, of-no_feed bytes none.1) refl
