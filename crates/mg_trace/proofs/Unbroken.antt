-- No line of a recorded run has a line feed within. So its text is read as its lines.
use Rattle.std.proofs.Common.{◌≡◌, ◌+◌, ◌/◌, ◌%◌, ◌==◌, ◌||◌, ℕ, suc, pos, negsuc, List, [], ◌∷◌, ◌++◌, Bool, true, false, cond, inl, inr, map, codes, nat_lt, refl, sym, ap, ◌∙◌, arith, append_assoc, append-nil, All}
use Rattle.std.specs.Char.{digit_char}
use Rattle.std.specs.List.{AllByRecursion as Each}
use Rattle.std.proofs.lemmas.Bool.{cases_Bool, eqb-true}
use Rattle.std.proofs.lemmas.List.Elements.{recursion_from_All}
use Rattle.json.specs.Print.{escape_letter, escape_byte, escape, quoted}
use Rattle.serde_json.specs.Data.{Num, unsigned, negative, float, Data, null, boolean, number, string, array, object, Items, no_items, item, Members, no_members, member}
use Rattle.serde_json.specs.Written.{number_text, comma_if, compact_text, items_text, members_text}
use Rattle.mg_calc.specs.Plan.{IsValid}
use Rattle.mg_calc.specs.declared.event.Event.{Event}
use Rattle.mg_calc.specs.declared.inputs.Inputs.{Inputs}
use Rattle.mg_calc.specs.declared.plan.Plan.{Plan}
use Rattle.mg_feed.specs.Lines.{NoFeed, NoFeeds, all_lines, fed_lines}
use Rattle.mg_feed.proofs.Cutting.{all_lines-fed, fed_lines-append, no_feed-append, no_feed-of}
use Rattle.mg_trace.specs.Event.{IsEventOf, event_line}
use Rattle.mg_trace.specs.Job.{job_data, job_lines, end_word, job_text}
use Rattle.mg_trace.specs.Readable.{IsReadableNumber, IsReadable, ItemsAreReadable, MembersAreReadable}
use Rattle.mg_trace.specs.Told.{IsTold}
use Rattle.mg_trace.specs.Trace.{events_text, trace_text}
use Rattle.mg_trace.proofs.EventLines.{has_feed, both_not, feed_decimal, feed_line}
use Rattle.mg_trace.proofs.Saying.{AreLines}
use Rattle.mg_trace.proofs.Giving.{job_is_lines}

none_of : (bytes : List ℕ) → has_feed bytes ≡ false → NoFeed bytes
none_of [] none = tt
none_of (b ∷ bytes) none = (let h = both_not (b == 10) (has_feed bytes) none in (h.0, none_of bytes h.1))

-- Texts --

letter_by : (q e f l r t : Bool) (x : ℕ) → (q ≡ true → (x == 10) ≡ false) → (cond q x (cond e 98 (cond f 102 (cond l 110 (cond r 114 (cond t 116 0))))) == 10) ≡ false
letter_by true e f l r t x no_ten = no_ten refl
letter_by false true f l r t x no_ten = refl
letter_by false false true l r t x no_ten = refl
letter_by false false false true r t x no_ten = refl
letter_by false false false false true t x no_ten = refl
letter_by false false false false false true x no_ten = refl
letter_by false false false false false false x no_ten = refl

mark_is_none : (x : ℕ) → ((x == 34) || (x == 92)) ≡ true → (x == 10) ≡ false
mark_is_none x is = elim (cases_Bool (x == 34)) [
  | inl here ↦ ap (λ (n : ℕ). n == 10) (eqb-true x 34 here)
  | inr other ↦ ap (λ (n : ℕ). n == 10) (eqb-true x 92 (ap (λ (b : Bool). b || (x == 92)) (sym other) ∙ is))
]

letter_is_none : (x : ℕ) → (escape_letter x == 10) ≡ false
letter_is_none x = letter_by ((x == 34) || (x == 92)) (x == 8) (x == 12) (x == 10) (x == 13) (x == 9) x (mark_is_none x)

digit_is_none : (d : ℕ) → (digit_char d == 10) ≡ false
digit_is_none d = by (nat_lt d 10)
  where
    by : (b : Bool) → (cond b (48 + d) (87 + d) == 10) ≡ false
    by true = grind arith
    by false = grind arith

not_below : (x : ℕ) → nat_lt x 32 ≡ false → (x == 10) ≡ false
not_below x high = grind (arith, high)

byte_by : (a b : Bool) (x : ℕ) → nat_lt x 32 ≡ b
    → NoFeed (cond a (92 ∷ escape_letter x ∷ []) (cond b (92 ∷ 117 ∷ 48 ∷ 48 ∷ digit_char (x / 16) ∷ digit_char (x % 16) ∷ []) (x ∷ [])))
byte_by true b x is = (refl, (letter_is_none x, tt))
byte_by false true x is = (refl, (refl, (refl, (refl, (digit_is_none (x / 16), (digit_is_none (x % 16), tt))))))
byte_by false false x is = (not_below x is, tt)

byte_is_none : (x : ℕ) → NoFeed (escape_byte x)
unfolding escape_byte
byte_is_none x = byte_by (nat_lt 0 (escape_letter x)) (nat_lt x 32) x refl

escape_is_none : (s : List ℕ) → NoFeed (escape s)
escape_is_none [] = tt
escape_is_none (x ∷ s) = no_feed-append (escape_byte x) (escape s) (byte_is_none x) (escape_is_none s)

quoted_is_none : (s : List ℕ) → NoFeed (quoted s)
quoted_is_none s = (refl, no_feed-append (escape s) (34 ∷ []) (escape_is_none s) (refl, tt))

-- Values --

number_is_none : (n : Num) → IsReadableNumber n → NoFeed (number_text n)
number_is_none (unsigned n) h = none_of _ (feed_decimal n h)
number_is_none (negative (pos n)) h = absurd h
number_is_none (negative (negsuc n)) h = (refl, none_of _ (feed_decimal (suc n) (omega (arith, h))))
number_is_none (float x) h = absurd h

comma_is_none : (later : Bool) → NoFeed (comma_if later)
comma_is_none true = (refl, tt)
comma_is_none false = tt

mutual
  text_is_none : (d : Data) → IsReadable d → NoFeed (compact_text d)
  text_is_none null h = no_feed-of (compact_text null) refl
  text_is_none (boolean true) h = no_feed-of (compact_text (boolean true)) refl
  text_is_none (boolean false) h = no_feed-of (compact_text (boolean false)) refl
  text_is_none (number n) h = number_is_none n h
  text_is_none (string s) h = quoted_is_none s
  text_is_none (array ds) h = (refl, items_are_none false ds h)
  text_is_none (object ms) h = (refl, members_are_none false ms h)

  items_are_none : (later : Bool) (ds : Items) → ItemsAreReadable ds → NoFeed (items_text later ds)
  items_are_none later no_items h = (refl, tt)
  items_are_none later (item d ds) h = no_feed-append (comma_if later) _ (comma_is_none later) (no_feed-append (compact_text d) _ (text_is_none d h.0) (items_are_none true ds h.1))

  members_are_none : (later : Bool) (ms : Members) → MembersAreReadable ms → NoFeed (members_text later ms)
  members_are_none later no_members h = (refl, tt)
  members_are_none later (member k d ms) h =
      no_feed-append (comma_if later) _ (comma_is_none later)
      (no_feed-append (quoted k) _ (quoted_is_none k) (refl, no_feed-append (compact_text d) _ (text_is_none d h.1) (members_are_none true ms h.3)))

-- Lines --

data_are_none : (ds : List Data) → AreLines ds → NoFeeds (map compact_text ds)
data_are_none [] are = tt
data_are_none (d ∷ ds) are = (text_is_none d are.0.readable, data_are_none ds are.1)

-- a line that opens an object
abbrev pub Opens : List ℕ → Type 0
Opens line = (rest : List ℕ) × (line ≡ 123 ∷ rest)

data_open : (ds : List Data) → AreLines ds → Each Opens (map compact_text ds)
data_open [] are = tt
data_open (d ∷ ds) are = ((members_text false are.0.members, ap compact_text are.0.an_object), data_open ds are.1)

pub job_opens : (plan : Plan) (inputs : Inputs) → IsTold plan inputs → Each Opens (job_lines plan inputs)
job_opens plan inputs told = data_open (job_data plan inputs) (job_is_lines plan inputs told)

word_is_none : (ended : Bool) → NoFeed (end_word ended)
word_is_none true = no_feed-of (end_word true) refl
word_is_none false = no_feed-of (end_word false) refl

feeds-append : (xs ys : List (List ℕ)) → NoFeeds xs → NoFeeds ys → NoFeeds (xs ++ ys)
feeds-append [] ys none more = more
feeds-append (x ∷ xs) ys none more = (none.0, feeds-append xs ys none.1 more)

events_are_none : (plan : Plan) (events : List Event) → IsValid plan → Each (IsEventOf plan) events → NoFeeds (map event_line events)
events_are_none plan [] valid of = tt
events_are_none plan (event ∷ events) valid of = (none_of (event_line event) (feed_line plan event valid of.0), events_are_none plan events valid of.1)

-- the lines of events in their text
events_fed : (events : List Event) → events_text events ≡ fed_lines (map event_line events)
events_fed [] = refl
events_fed (event ∷ events) = append_assoc (event_line event) (codes "\n") (events_text events) ∙ ap (λ (l : List ℕ). event_line event ++ 10 ∷ l) (events_fed events)

-- the lines of a recorded run
abbrev pub trace_lines : Plan → Inputs → List Event → List (List ℕ)
trace_lines plan inputs events = (job_lines plan inputs ++ end_word inputs.ended ∷ map event_line events) ++ codes "end" ∷ []

trace_fed : (plan : Plan) (inputs : Inputs) (events : List Event) → trace_text plan inputs events ≡ fed_lines (trace_lines plan inputs events) ++ []
unfolding job_text
trace_fed plan inputs events =
    let first = job_lines plan inputs in
    let word = end_word inputs.ended in
    let lines = map event_line events in
    ap (λ (l : List ℕ). fed_lines (first ++ word ∷ []) ++ (l ++ codes "end\n")) (events_fed events)
    ∙ ap (λ (l : List ℕ). fed_lines (first ++ word ∷ []) ++ l) (sym (fed_lines-append lines (codes "end" ∷ [])))
    ∙ sym (fed_lines-append (first ++ word ∷ []) (lines ++ codes "end" ∷ []))
    ∙ ap fed_lines (append_assoc first (word ∷ []) (lines ++ codes "end" ∷ []) ∙ sym (append_assoc first (word ∷ lines) (codes "end" ∷ [])))
    ∙ sym (append-nil _)

pub trace_is_lines : (plan : Plan) (inputs : Inputs) (events : List Event) → IsValid plan → IsTold plan inputs → All (IsEventOf plan) events → all_lines (trace_text plan inputs events) ≡ trace_lines plan inputs events
trace_is_lines plan inputs events valid told of =
    let none : NoFeeds (trace_lines plan inputs events) =
    feeds-append (job_lines plan inputs ++ end_word inputs.ended ∷ map event_line events) (codes "end" ∷ [])
    (feeds-append (job_lines plan inputs) (end_word inputs.ended ∷ map event_line events) (data_are_none (job_data plan inputs) (job_is_lines plan inputs told))
    (word_is_none inputs.ended, events_are_none plan events valid (recursion_from_All (IsEventOf plan) events of)))
    (no_feed-of (codes "end") refl, tt) in
    ap all_lines (trace_fed plan inputs events) ∙ all_lines-fed (trace_lines plan inputs events) [] none ∙ append-nil (trace_lines plan inputs events)
