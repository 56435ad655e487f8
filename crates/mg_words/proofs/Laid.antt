-- The matches of a command don't depend on where the names of a parser lie in memory.
use Rattle.std.proofs.Common.{◌≡◌, ◌∙◌, ℕ, Bool, cond, true, false, zero, suc, refl, sym, ap, List, [], ◌∷◌, map, length, drop, Option, Some, None, option_map}
use Rattle.std.specs.Prelude.{fold, encode_utf8, slice_get, ◌&&◌}
use Rattle.std.specs.Str.{bytes_eq, chars}
use Rattle.std.specs.Borrow.{Bor}
use Rattle.clap.specs.Lexer.{long_of, short_of}
use Rattle.clap.specs.Values.{reading_of}
use Rattle.clap.specs.Facts.{parser_of_value}
use Rattle.clap.specs.Walk.{Held, Names, Outcome, Row, Rule, Step, Text, Waiting, Walk, action_of, after_flag, after_step, arg_by_id, arg_by_index, arg_by_long, arg_by_short, attached_value, bundle, bundle_met, bundle_step, default_rows, done, finished, flag_met, has_row, idle, is_pending, long_met, long_or_other, long_word, next, nothing_held, option, option_met, option_word, plain, plain_word, positional, positional_held, pushed, reacted, refused, rows_after, settled, settled_rows, short_met, short_or_plain, short_word, subcommand, subcommand_met, subcommand_or_other, takes_several, takes_values, to_positional, trailing, used, used_as, used_by_id, value, values_or_missing, waits, walk, walk_from, walked, walked_from, with_default, word_met}
use Rattle.clap.specs.declared.builder.value_parser.ValueParser.{ValueParser}
use Rattle.clap.specs.declared.builder.value_parser.ValueParser.TheVariants as vp
use Rattle.clap.proofs.WalkLemmas.{find-map}
use Rattle.mg_words.specs.CommandLine.{placed}

-- a slice of texts as a slice that lies at address 0
abbrev pub laid : Bor (List (Bor Text)) → Bor (List (Bor Text))
laid names = placed (map placed (map (λ name. name.now) names.now))

abbrev pub laid_parser : ValueParser → ValueParser
laid_parser (vp.Names names) = vp.Names (laid names)
laid_parser parser = parser

abbrev pub laid_rule : Rule → Rule
laid_rule a = record a { parser = option_map laid_parser a.parser }

abbrev pub laid_rules : List Rule → List Rule
laid_rules c = map laid_rule c

if-same : {X : Type 0} {a b c d : X} (test : Bool) → a ≡ b → c ≡ d → cond test a c ≡ cond test b d
if-same true one two = one
if-same false one two = two

-- Which rule is found --

pub by-id : (c : List Rule) (id : Text) → arg_by_id (laid_rules c) id ≡ option_map laid_rule (arg_by_id c id)
by-id c id = sym (find-map (λ (a : Rule). bytes_eq a.id id) laid_rule c)

pub by-long : (c : List Rule) (name : Text) → arg_by_long (laid_rules c) name ≡ option_map laid_rule (arg_by_long c name)
by-long c name = sym (find-map _ laid_rule c)

pub by-short : (c : List Rule) (x : ℕ) → arg_by_short (laid_rules c) x ≡ option_map laid_rule (arg_by_short c x)
by-short c x = sym (find-map _ laid_rule c)

pub by-index : (c : List Rule) (i : ℕ) → arg_by_index (laid_rules c) i ≡ option_map laid_rule (arg_by_index c i)
by-index c i = sym (find-map _ laid_rule c)

-- A use of an argument --

reading-parser : (parser : ValueParser) → reading_of (laid_parser parser) ≡ reading_of parser
reading-parser (vp.Names names) = refl
reading-parser vp.String = refl
reading-parser vp.NonEmptyString = refl
reading-parser vp.Bool = refl
reading-parser vp.Boolish = refl
reading-parser vp.Falsey = refl
reading-parser (vp.Signed low high) = refl
reading-parser (vp.Unsigned low high) = refl
reading-parser vp.Float = refl
reading-parser vp.Char = refl
reading-parser (vp.Values values) = refl

reading-laid : (parser : Option ValueParser) → reading_of (parser_of_value (option_map laid_parser parser)) ≡ reading_of (parser_of_value parser)
reading-laid None = refl
reading-laid (Some parser) = reading-parser parser

used-laid : (a : Rule) (values : List Text) (rows : List Row) → used (laid_rule a) values rows ≡ used a values rows
used-laid a values rows = ap (λ how. used_as (action_of a) a.id how (values_or_missing a values) rows) (reading-laid a.parser)

used-by-id : (found : Option Rule) (values : List Text) (rows : List Row) → used_by_id (option_map laid_rule found) values rows ≡ used_by_id found values rows
used-by-id None values rows = refl
used-by-id (Some a) values rows = used-laid a values rows

module _ (c : List Rule) where
  settled-rows : (pending : Option (Text × List Text)) (rows : List Row) → settled_rows (laid_rules c) pending rows ≡ settled_rows c pending rows
  settled-rows None rows = refl
  settled-rows (Some p) rows = ap (λ (found : Option Rule). used_by_id found p.1 rows) (by-id c p.0) ∙ used-by-id (arg_by_id c p.0) p.1 rows

  pub settled-laid : (h : Held) → settled (laid_rules c) h ≡ settled c h
  settled-laid h = ap (λ (rows : List Row). record h { rows = rows; pending = None }) (settled-rows h.pending h.rows)

  pub reacted-laid : (a : Rule) (values : List Text) (h : Held) → reacted (laid_rules c) (laid_rule a) values h ≡ reacted c a values h
  reacted-laid a values h = ap (λ (rows : List Row). record h { rows = rows; pending = None })
      (used-laid a values (settled (laid_rules c) h).rows ∙ ap (λ (k : Held). used a values k.rows) (settled-laid h))

  -- Words that are flags --

  option-met : (a : Rule) (v : Option Text) (h : Held) → option_met (laid_rules c) (laid_rule a) v h ≡ option_met c a v h
  option-met a (Some v) h = ap (λ (k : Held). (k, done)) (reacted-laid a (v ∷ []) h)
  option-met a None h = ap (λ (k : Held). (record k { pending = Some (a.id, []) }, waits a.id)) (settled-laid h)

  flag-met : (a : Rule) (v : Option Text) (h : Held) → flag_met (laid_rules c) (laid_rule a) v h ≡ flag_met c a v h
  flag-met a (Some v) h = refl
  flag-met a None h = ap (λ (k : Held). (k, done)) (reacted-laid a [] h)

  long-met : (found : Option Rule) (v : Option Text) (h : Held) → long_met (laid_rules c) (option_map laid_rule found) v h ≡ long_met c found v h
  long-met None v h = refl
  long-met (Some a) v h = if-same (takes_values a) (option-met a v h) (flag-met a v h)

  short-met : (found : Option Rule) (rest : Text) (h : Held) (next1 next2 : Held → Held × Outcome) → ((k : Held) → next1 k ≡ next2 k)
      → short_met (laid_rules c) (option_map laid_rule found) rest h next1 ≡ short_met c found rest h next2
  short-met None rest h next1 next2 same = refl
  short-met (Some a) rest h next1 next2 same =
      if-same (takes_values a) (option-met a (attached_value rest) h) (ap next1 (reacted-laid a [] h) ∙ same (reacted c a [] h))

  bundle-step : (x : Option ℕ) (flags : Text) (skip : ℕ) (so_far : Outcome) (h : Held) (next1 next2 : Text → ℕ → Outcome → Held → Held × Outcome)
      → ((t : Text) (n : ℕ) (o : Outcome) (k : Held) → next1 t n o k ≡ next2 t n o k)
      → bundle_step (laid_rules c) x flags skip so_far h next1 ≡ bundle_step c x flags skip so_far h next2
  bundle-step None flags skip so_far h next1 next2 same = refl
  bundle-step (Some x) flags zero so_far h next1 next2 same =
      ap (λ (found : Option Rule). short_met (laid_rules c) found (drop (length (encode_utf8 x)) flags) h (next1 (drop (length (encode_utf8 x)) flags) 0 done)) (by-short c x)
      ∙ short-met (arg_by_short c x) (drop (length (encode_utf8 x)) flags) h _ _ (same (drop (length (encode_utf8 x)) flags) 0 done)
  bundle-step (Some x) flags (suc skip) so_far h next1 next2 same = same (drop (length (encode_utf8 x)) flags) skip so_far h

  bundle-met : (k : ℕ) (flags : Text) (skip : ℕ) (so_far : Outcome) (h : Held) → bundle_met (laid_rules c) k flags skip so_far h ≡ bundle_met c k flags skip so_far h
  unfolding bundle_met
  bundle-met zero flags skip so_far h = refl
  bundle-met (suc k) flags skip so_far h = bundle-step (slice_get (chars flags) 0) flags skip so_far h _ _ (bundle-met k)

  -- A word --

  option-word : (found : Option Rule) (id word : Text) (h : Held) → option_word (option_map laid_rule found) id word h ≡ option_word found id word h
  option-word None id word h = refl
  option-word (Some a) id word h = refl

  plain-word : (waiting : Waiting) (word : Text) (h : Held) → plain_word (laid_rules c) waiting word h ≡ plain_word c waiting word h
  plain-word idle word h = refl
  plain-word positional word h = refl
  plain-word (option id) word h = ap (λ (x : Held × Waiting). (x.0, next x.1))
      (ap (λ (found : Option Rule). option_word found id word h) (by-id c id) ∙ option-word (arg_by_id c id) id word h)

  after-flag : (waiting : Waiting) (word : Text) (h : Held) (o : Outcome) → after_flag (laid_rules c) waiting word h o ≡ after_flag c waiting word h o
  after-flag waiting word h done = refl
  after-flag waiting word h (waits id) = refl
  after-flag waiting word h plain = plain-word waiting word h
  after-flag waiting word h refused = plain-word waiting word h

  long-word : (waiting : Waiting) (word name : Text) (v : Option Text) (h : Held) → long_word (laid_rules c) waiting word name v h ≡ long_word c waiting word name v h
  long-word waiting word name v h =
      ap (λ (x : Held × Outcome). after_flag (laid_rules c) waiting word x.0 x.1)
      (ap (λ (found : Option Rule). long_met (laid_rules c) found v h) (by-long c name) ∙ long-met (arg_by_long c name) v h)
      ∙ after-flag waiting word (long_met c (arg_by_long c name) v h).0 (long_met c (arg_by_long c name) v h).1

  short-word : (waiting : Waiting) (word flags : Text) (h : Held) → short_word (laid_rules c) waiting word flags h ≡ short_word c waiting word flags h
  short-word waiting word flags h =
      ap (λ (x : Held × Outcome). after_flag (laid_rules c) waiting word x.0 x.1) (bundle-met (length flags) flags h.skip plain (record h { skip = 0 }))
      ∙ after-flag waiting word (bundle c flags h).0 (bundle c flags h).1

  short-or-plain : (waiting : Waiting) (word : Text) (flags : Option Text) (h : Held) → short_or_plain (laid_rules c) waiting word flags h ≡ short_or_plain c waiting word flags h
  short-or-plain waiting word (Some flags) h = short-word waiting word flags h
  short-or-plain waiting word None h = plain-word waiting word h

  long-or-other : (waiting : Waiting) (word : Text) (long : Option (Text × Option Text)) (h : Held) → long_or_other (laid_rules c) waiting word long h ≡ long_or_other c waiting word long h
  long-or-other waiting word (Some p) h = long-word waiting word p.0 p.1 h
  long-or-other waiting word None h = short-or-plain waiting word (short_of word) h

  subcommand-or-other : (met : Option Text) (waiting : Waiting) (position : ℕ) (word : Text) (h : Held)
      → subcommand_or_other (laid_rules c) met waiting position word h ≡ subcommand_or_other c met waiting position word h
  subcommand-or-other (Some name) waiting position word h = refl
  subcommand-or-other None waiting position word h = if-same (bytes_eq word (45 ∷ 45 ∷ [])) refl (long-or-other waiting word (long_of word) h)

  pub word-met : (names : Names) (is_trailing : Bool) (waiting : Waiting) (position : ℕ) (word : Text) (h : Held)
      → word_met (laid_rules c) names is_trailing waiting position word h ≡ word_met c names is_trailing waiting position word h
  word-met names is_trailing waiting position word h = if-same is_trailing refl (subcommand-or-other (subcommand_met names waiting word) waiting position word h)

  -- The walk --

  positional-held : (a : Rule) (word : Text) (h : Held) → positional_held (laid_rules c) (laid_rule a) word h ≡ positional_held c a word h
  positional-held a word h = ap (pushed a.id word) (if-same (is_pending a h.pending && takes_several a) refl (settled-laid h))

  to-positional : (found : Option Rule) (word : Text) (w : Walk) (h : Held) → to_positional (laid_rules c) (option_map laid_rule found) word w h ≡ to_positional c found word w h
  to-positional None word w h = refl
  to-positional (Some a) word w h = ap (λ (k : Held). record (to_positional c (Some a) word w h) { held = k }) (positional-held a word h)

  after-step : (word : Text) (w : Walk) (h : Held) (step : Step) → after_step (laid_rules c) word w h step ≡ after_step c word w h step
  after-step word w h (next waiting) = refl
  after-step word w h (trailing position) = refl
  after-step word w h (subcommand name) = refl
  after-step word w h value = ap (λ (found : Option Rule). to_positional (laid_rules c) found word w h) (by-index c w.position) ∙ to-positional (arg_by_index c w.position) word w h

  walked-from : (names : Names) (stopped : Option (Text × List Text)) (w : Walk) (word : Text) → walked_from (laid_rules c) names stopped w word ≡ walked_from c names stopped w word
  walked-from names (Some p) w word = refl
  walked-from names None w word =
      ap (λ (met : Held × Step). after_step (laid_rules c) word w met.0 met.1) (word-met names w.is_trailing w.waiting w.position word w.held)
      ∙ after-step word w (word_met c names w.is_trailing w.waiting w.position word w.held).0 (word_met c names w.is_trailing w.waiting w.position word w.held).1

  pub walked-laid : (names : Names) (w : Walk) (word : Text) → walked (laid_rules c) names w word ≡ walked c names w word
  unfolding walked
  walked-laid names w word = walked-from names w.stopped w word

  walk-from : (names : Names) (w : Walk) (words : List Text) → fold (walked (laid_rules c) names) w words ≡ fold (walked c names) w words
  walk-from names w [] = refl
  walk-from names w (word ∷ words) =
      ap (λ (v : Walk). fold (walked (laid_rules c) names) v words) (walked-laid names w word) ∙ walk-from names (walked c names w word) words

  pub walk-laid : (names : Names) (h : Held) (words : List Text) → walk (laid_rules c) names h words ≡ walk c names h words
  walk-laid names h words = walk-from names (walk_from h) words

-- Defaults --

pub default-laid : (rows : List Row) (a : Rule) → with_default rows (laid_rule a) ≡ with_default rows a
default-laid rows a = ap (λ how. cond (has_row a.id rows) rows (default_rows a.id how a.defaults rows)) (reading-laid a.parser)

defaults-laid : (rows : List Row) (c : List Rule) → fold with_default rows (laid_rules c) ≡ fold with_default rows c
defaults-laid rows [] = refl
defaults-laid rows (a ∷ c) = ap (λ (r : List Row). fold with_default r (laid_rules c)) (default-laid rows a) ∙ defaults-laid (with_default rows a) c

pub finished-laid : (c : List Rule) (h : Held) → finished (laid_rules c) h ≡ finished c h
finished-laid c h = ap (λ (k : Held). fold with_default k.rows (laid_rules c)) (settled-laid c h) ∙ defaults-laid (settled c h).rows c

pub rows-laid : (c : List Rule) (names : Names) (words : List Text) → rows_after (laid_rules c) names words ≡ rows_after c names words
rows-laid c names words =
    ap (λ (w : Walk). finished (laid_rules c) w.held) (walk-laid c names nothing_held words) ∙ finished-laid c (walk c names nothing_held words).held
