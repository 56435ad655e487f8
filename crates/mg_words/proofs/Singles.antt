-- A command without subcommands has at most one kind of fault at some words. The kind doesn't depend on where the names of a parser lie in
-- memory.
use Rattle.std.proofs.Common.{◌≡◌, ℕ, ◌+◌, ◌&&◌, ◌||◌, ◌==◌, Bool, cond, true, false, not, zero, suc, refl, sym, ap, ap₂, subst, List, [], ◌∷◌, length, drop, min, Option, Some, None, option_map, is_some}
use Rattle.std.specs.Prelude.{nat_lt, encode_utf8, slice_get}
use Rattle.std.specs.List.{list_any}
use Rattle.std.specs.Option.{option_map_or}
use Rattle.std.specs.Str.{bytes_eq, chars}
use Rattle.std.specs.Borrow.{Bor}
use Rattle.clap.specs.Lexer.{long_of, short_of}
use Rattle.clap.specs.Matches.{count_text}
use Rattle.clap.specs.Values.{refused_kind, same_text}
use Rattle.clap.specs.ValueTests.{accepts}
use Rattle.clap.specs.Facts.{explicit_source, parser_of_value, unwrap_or_range}
use Rattle.clap.specs.Walk.{Held, Row, Rule, Step, Text, Waiting, Walk, action_of, arg_by_id, arg_by_index, arg_by_long, arg_by_short, attached_value, count_of, finished, has_row, idle, is_empty, is_pending, most_values, next, nothing_held, option, positional, reacted, settled, subcommand, takes_several, takes_values, trailing, value, values_or_missing, walk, walk_from, walked, with_default, word_met}
use Rattle.clap.specs.Simple.{Shape}
use Rattle.clap.specs.Takes.{is_given}
use Rattle.clap.specs.Kinds.{Kinds, check_kinds, or_else, range_kinds, request_kinds, value_kinds, values_kinds}
use Rattle.clap.specs.Faults.{action_fault, bundle_step_fault, check_fault, count_fault, default_fault, defaults_fault, flag_word_fault, flags_fault, level_fault, long_fault, option_fault, other_fault, positional_fault, react_fault, repeat_fault, set_fault, settle_fault, short_fault, step_fault, stray_fault, turn_fault, use_fault, values_fault, walk_fault, word_fault}
use Rattle.clap.specs.declared.builder.action.ArgAction.{ArgAction}
use Rattle.clap.specs.declared.builder.action.ArgAction.TheVariants as action
use Rattle.clap.specs.declared.builder.value_parser.ValueParser.{ValueParser}
use Rattle.clap.specs.declared.builder.value_parser.ValueParser.TheVariants as vp
use Rattle.clap.specs.declared.error.kind.ErrorKind.TheVariants as kind
use Rattle.clap.proofs.WalkLemmas.{list_any-map}
use Rattle.mg_words.proofs.Laid.{laid, laid_parser, laid_rule, laid_rules, by-id, by-long, by-short, by-index, settled-laid, reacted-laid, word-met, walked-laid, walk-laid, default-laid, finished-laid}

-- Lists of kinds --

abbrev pub IsSingle : Kinds → Type 0
IsSingle [] = Unit {0}
IsSingle (k ∷ ks) = ks ≡ []

-- two lists are the same, and have one kind at most
pub record Agree (a b : Kinds) : Type 0 where
  pub same : a ≡ b
  pub single : IsSingle b

itself : (a : Kinds) → IsSingle a → Agree a a
itself a single = record { same = refl; single = single }

single-or : (a b : Kinds) → IsSingle a → IsSingle b → IsSingle (or_else a b)
single-or [] b one two = two
single-or (k ∷ ks) b one two = one

single-if : (test : Bool) (a b : Kinds) → IsSingle a → IsSingle b → IsSingle (cond test a b)
single-if true a b one two = one
single-if false a b one two = two

agree-or : {a b c d : Kinds} → Agree a b → Agree c d → Agree (or_else a c) (or_else b d)
agree-or {a} {b} {c} {d} one two = record { same = ap₂ or_else one.same two.same; single = single-or b d one.single two.single }

agree-if : {a b c d : Kinds} (test : Bool) → Agree a b → Agree c d → Agree (cond test a c) (cond test b d)
agree-if true one two = one
agree-if false one two = two

-- Values --

same-names : (ignore_case : Bool) (text : List ℕ) (names : List (Bor Text))
    → list_any (λ (name : Bor Text). same_text ignore_case name.now text) (laid (record { ref_ptr = (0, 0); now = names })).now
    ≡ list_any (λ (name : Bor Text). same_text ignore_case name.now text) names
same-names ignore_case text [] = refl
same-names ignore_case text (name ∷ names) = ap (λ (b : Bool). same_text ignore_case name.now text || b) (same-names ignore_case text names)

accepts-laid : (ignore_case : Bool) (parser : ValueParser) (text : List ℕ) → accepts ignore_case (laid_parser parser) text ≡ accepts ignore_case parser text
accepts-laid ignore_case (vp.Names names) text = same-names ignore_case text names.now
accepts-laid ignore_case vp.String text = refl
accepts-laid ignore_case vp.NonEmptyString text = refl
accepts-laid ignore_case vp.Bool text = refl
accepts-laid ignore_case vp.Boolish text = refl
accepts-laid ignore_case vp.Falsey text = refl
accepts-laid ignore_case (vp.Signed low high) text = refl
accepts-laid ignore_case (vp.Unsigned low high) text = refl
accepts-laid ignore_case vp.Float text = refl
accepts-laid ignore_case vp.Char text = refl
accepts-laid ignore_case (vp.Values values) text = refl

refused-laid : (parser : ValueParser) → refused_kind (laid_parser parser) ≡ refused_kind parser
refused-laid (vp.Names names) = refl
refused-laid vp.String = refl
refused-laid vp.NonEmptyString = refl
refused-laid vp.Bool = refl
refused-laid vp.Boolish = refl
refused-laid vp.Falsey = refl
refused-laid (vp.Signed low high) = refl
refused-laid (vp.Unsigned low high) = refl
refused-laid vp.Float = refl
refused-laid vp.Char = refl
refused-laid (vp.Values values) = refl

value-agrees : (ignore_case : Bool) (parser : ValueParser) (text : List ℕ) → Agree (value_kinds ignore_case (laid_parser parser) text) (value_kinds ignore_case parser text)
value-agrees ignore_case parser text = record {
  same = ap₂ (λ b k. cond b [] (k ∷ [])) (accepts-laid ignore_case parser text) (refused-laid parser);
  single = single-if (accepts ignore_case parser text) [] (refused_kind parser ∷ []) tt refl;
}

values-agree : (ignore_case : Bool) (parser : ValueParser) (texts : List Text) → Agree (values_kinds ignore_case (laid_parser parser) texts) (values_kinds ignore_case parser texts)
values-agree ignore_case parser [] = itself [] tt
values-agree ignore_case parser (text ∷ texts) = agree-or (value-agrees ignore_case parser text) (values-agree ignore_case parser texts)

value-of : (ignore_case : Bool) (parser : Option ValueParser) (text : Text)
    → Agree (value_kinds ignore_case (parser_of_value (option_map laid_parser parser)) text) (value_kinds ignore_case (parser_of_value parser) text)
value-of ignore_case None text = value-agrees ignore_case vp.String text
value-of ignore_case (Some parser) text = value-agrees ignore_case parser text

values-of : (ignore_case : Bool) (parser : Option ValueParser) (texts : List Text)
    → Agree (values_kinds ignore_case (parser_of_value (option_map laid_parser parser)) texts) (values_kinds ignore_case (parser_of_value parser) texts)
values-of ignore_case None texts = values-agree ignore_case vp.String texts
values-of ignore_case (Some parser) texts = values-agree ignore_case parser texts

-- A use of an argument --

values-fault : (a : Rule) (values : List Text) → Agree (values_fault (laid_rule a) values) (values_fault a values)
values-fault a values = values-of a.ignore_case a.parser values

count-fault : (a : Rule) (values : List Text) (rows : List Row) → Agree (count_fault (laid_rule a) values rows) (count_fault a values rows)
count-fault a [] rows = value-of a.ignore_case a.parser (count_text (min (count_of a.id rows + 1) 255))
count-fault a (v ∷ vs) rows = values-fault a (v ∷ vs)

set-fault : (again : Bool) (a : Rule) (values : List Text) (rows : List Row) → Agree (set_fault again (laid_rule a) values rows) (set_fault again a values rows)
set-fault again a values rows =
    agree-or (itself (repeat_fault again a.id rows) (single-if (has_row a.id rows && not again) (kind.ArgumentConflict ∷ []) [] refl tt)) (values-fault a values)

single-request : (x : ArgAction) → IsSingle (request_kinds x)
single-request action.Set = tt
single-request action.Append = tt
single-request action.SetTrue = tt
single-request action.SetFalse = tt
single-request action.Count = tt
single-request action.Help = refl
single-request action.HelpShort = refl
single-request action.HelpLong = refl
single-request action.Version = refl

action-fault : (x : ArgAction) (again : Bool) (a : Rule) (values : List Text) (rows : List Row) → Agree (action_fault x again (laid_rule a) values rows) (action_fault x again a values rows)
action-fault action.Set again a values rows = set-fault again a values rows
action-fault action.SetTrue again a values rows = set-fault again a values rows
action-fault action.SetFalse again a values rows = set-fault again a values rows
action-fault action.Append again a values rows = values-fault a values
action-fault action.Count again a values rows = count-fault a values rows
action-fault action.Help again a values rows = itself (request_kinds action.Help) refl
action-fault action.HelpShort again a values rows = itself (request_kinds action.HelpShort) refl
action-fault action.HelpLong again a values rows = itself (request_kinds action.HelpLong) refl
action-fault action.Version again a values rows = itself (request_kinds action.Version) refl

single-range : (least most n : ℕ) → IsSingle (range_kinds least most n)
single-range least most n =
    single-if (nat_lt 0 least && n == 0) _ _ refl
    (single-if (least == most) _ _ (single-if (least == n) _ _ tt refl)
    (single-if (nat_lt n least) _ _ refl (single-if (nat_lt most n) _ _ refl tt)))

use-fault : (again : Bool) (a : Rule) (values : List Text) (rows : List Row) → Agree (use_fault again (laid_rule a) values rows) (use_fault again a values rows)
use-fault again a values rows =
    agree-or (itself (range_kinds (unwrap_or_range a.range).start_inclusive (most_values a) (length values)) (single-range (unwrap_or_range a.range).start_inclusive (most_values a) (length values)))
    (action-fault (action_of a) again a (values_or_missing a values) rows)

-- A word --

module _ (c : List Rule) (again : Bool) where
  settle-found : (found : Option Rule) (values : List Text) (rows : List Row)
      → Agree (option_map_or (λ (a : Rule). use_fault again a values rows) (option_map laid_rule found) []) (option_map_or (λ (a : Rule). use_fault again a values rows) found [])
  settle-found None values rows = itself [] tt
  settle-found (Some a) values rows = use-fault again a values rows

  settle-pending : (pending : Option (Text × List Text)) (rows : List Row)
      → Agree (option_map_or (λ (p : Text × List Text). option_map_or (λ (a : Rule). use_fault again a p.1 rows) (arg_by_id (laid_rules c) p.0) []) pending [])
      (option_map_or (λ (p : Text × List Text). option_map_or (λ (a : Rule). use_fault again a p.1 rows) (arg_by_id c p.0) []) pending [])
  settle-pending None rows = itself [] tt
  settle-pending (Some p) rows =
      subst (λ (found : Option Rule). Agree (option_map_or (λ (a : Rule). use_fault again a p.1 rows) found []) (option_map_or (λ (a : Rule). use_fault again a p.1 rows) (arg_by_id c p.0) []))
      (sym (by-id c p.0)) (settle-found (arg_by_id c p.0) p.1 rows)

  settle-fault : (h : Held) → Agree (settle_fault (laid_rules c) again h) (settle_fault c again h)
  settle-fault h = settle-pending h.pending h.rows

  react-fault : (a : Rule) (values : List Text) (h : Held) → Agree (react_fault (laid_rules c) again (laid_rule a) values h) (react_fault c again a values h)
  react-fault a values h = agree-or (settle-fault h)
      (subst (λ (k : Held). Agree (use_fault again (laid_rule a) values k.rows) (use_fault again a values (settled c h).rows)) (sym (settled-laid c h)) (use-fault again a values (settled c h).rows))

  option-fault : (a : Rule) (v : Option Text) (h : Held) → Agree (option_fault (laid_rules c) again (laid_rule a) v h) (option_fault c again a v h)
  option-fault a (Some v) h = react-fault a (v ∷ []) h
  option-fault a None h = settle-fault h

  long-fault : (found : Option Rule) (v : Option Text) (h : Held) → Agree (long_fault (laid_rules c) again (option_map laid_rule found) v h) (long_fault c again found v h)
  long-fault None v h = itself (kind.UnknownArgument ∷ []) refl
  long-fault (Some a) v h =
      agree-if (takes_values a) (option-fault a v h) (agree-if (is_some v) (itself (kind.TooManyValues ∷ []) refl) (react-fault a [] h))

  short-fault : (found : Option Rule) (rest : Text) (h : Held) (next1 next2 : Held → Kinds) → ((k : Held) → Agree (next1 k) (next2 k))
      → Agree (short_fault (laid_rules c) again (option_map laid_rule found) rest h next1) (short_fault c again found rest h next2)
  short-fault None rest h next1 next2 same = itself (kind.UnknownArgument ∷ []) refl
  short-fault (Some a) rest h next1 next2 same =
      agree-if (takes_values a) (option-fault a (attached_value rest) h)
      (agree-or (react-fault a [] h) (subst (λ (k : Held). Agree (next1 k) (next2 (reacted c a [] h))) (sym (reacted-laid c a [] h)) (same (reacted c a [] h))))

  bundle-step-fault : (x : Option ℕ) (flags : Text) (skip : ℕ) (h : Held) (next1 next2 : Text → ℕ → Held → Kinds) → ((t : Text) (n : ℕ) (k : Held) → Agree (next1 t n k) (next2 t n k))
      → Agree (bundle_step_fault (laid_rules c) again x flags skip h next1) (bundle_step_fault c again x flags skip h next2)
  bundle-step-fault None flags skip h next1 next2 same = itself [] tt
  bundle-step-fault (Some x) flags zero h next1 next2 same =
      subst (λ (found : Option Rule). Agree (short_fault (laid_rules c) again found (drop (length (encode_utf8 x)) flags) h (next1 (drop (length (encode_utf8 x)) flags) 0))
      (short_fault c again (arg_by_short c x) (drop (length (encode_utf8 x)) flags) h (next2 (drop (length (encode_utf8 x)) flags) 0)))
      (sym (by-short c x)) (short-fault (arg_by_short c x) (drop (length (encode_utf8 x)) flags) h _ _ (same (drop (length (encode_utf8 x)) flags) 0))
  bundle-step-fault (Some x) flags (suc skip) h next1 next2 same = same (drop (length (encode_utf8 x)) flags) skip h

  flags-fault : (k : ℕ) (flags : Text) (skip : ℕ) (h : Held) → Agree (flags_fault (laid_rules c) again k flags skip h) (flags_fault c again k flags skip h)
  unfolding flags_fault
  flags-fault zero flags skip h = itself [] tt
  flags-fault (suc k) flags skip h = bundle-step-fault (slice_get (chars flags) 0) flags skip h _ _ (flags-fault k)

  short-word-fault : (flags : Option Text) (h : Held)
      → Agree (option_map_or (λ (fs : Text). flags_fault (laid_rules c) again (length fs) fs h.skip (record h { skip = 0 })) flags [])
      (option_map_or (λ (fs : Text). flags_fault c again (length fs) fs h.skip (record h { skip = 0 })) flags [])
  short-word-fault None h = itself [] tt
  short-word-fault (Some fs) h = flags-fault (length fs) fs h.skip (record h { skip = 0 })

  flag-word-fault : (long : Option (Text × Option Text)) (word : Text) (h : Held) → Agree (flag_word_fault (laid_rules c) again long word h) (flag_word_fault c again long word h)
  flag-word-fault (Some p) word h =
      subst (λ (found : Option Rule). Agree (long_fault (laid_rules c) again found p.1 h) (long_fault c again (arg_by_long c p.0) p.1 h)) (sym (by-long c p.0)) (long-fault (arg_by_long c p.0) p.1 h)
  flag-word-fault None word h = short-word-fault (short_of word) h

  positional-fault : (found : Option Rule) (stray : Kinds) (h : Held) → IsSingle stray
      → Agree (option_map_or (λ (a : Rule). positional_fault (laid_rules c) again a h) (option_map laid_rule found) stray) (option_map_or (λ (a : Rule). positional_fault c again a h) found stray)
  positional-fault None stray h single = itself stray single
  positional-fault (Some a) stray h single = agree-if (is_pending a h.pending && takes_several a) (itself [] tt) (settle-fault h)

-- Defaults --

default-fault : (rows : List Row) (a : Rule) → Agree (default_fault rows (laid_rule a)) (default_fault rows a)
default-fault rows a =
    agree-if (has_row a.id rows || is_empty a.defaults) (itself [] tt) (agree-or (itself (request_kinds (action_of a)) (single-request (action_of a))) (values-fault a a.defaults))

defaults-fault : (rows : List Row) (c : List Rule) → Agree (defaults_fault rows (laid_rules c)) (defaults_fault rows c)
unfolding defaults_fault
defaults-fault rows [] = itself [] tt
defaults-fault rows (a ∷ c) = agree-or (default-fault rows a)
    (subst (λ (r : List Row). Agree (defaults_fault r (laid_rules c)) (defaults_fault (with_default rows a) c)) (sym (default-laid rows a)) (defaults-fault (with_default rows a) c))

-- A command without subcommands --

abbrev pub laid_shape : Shape → Shape
laid_shape s = record s { rules = laid_rules s.rules }

single-check : (help subcommand argument : Bool) → IsSingle (check_kinds help subcommand argument)
single-check help wanted argument = single-if help _ _ refl (single-if wanted _ _ refl (single-if argument _ _ refl tt))

module _ (s : Shape) (leaf : s.is_leaf ≡ true) where
  single-stray : IsSingle (stray_fault s)
  single-stray = subst (λ (b : Bool). IsSingle (cond b (kind.UnknownArgument ∷ []) (kind.UnknownArgument ∷ kind.InvalidSubcommand ∷ []))) (sym leaf) refl

  other-fault : (word : Text) (h : Held) → Agree (other_fault (laid_shape s) None word h) (other_fault s None word h)
  other-fault word h = agree-if (bytes_eq word (45 ∷ 45 ∷ [])) (itself [] tt) (flag-word-fault s.rules s.args_override_self (long_of word) word h)

  word-fault : (is_trailing : Bool) (waiting : Waiting) (word : Text) (h : Held) → Agree (word_fault (laid_shape s) [] is_trailing waiting word h) (word_fault s [] is_trailing waiting word h)
  word-fault is_trailing idle word h = agree-if is_trailing (itself [] tt) (other-fault word h)
  word-fault is_trailing (option id) word h = agree-if is_trailing (itself [] tt) (other-fault word h)
  word-fault is_trailing positional word h = agree-if is_trailing (itself [] tt) (other-fault word h)

  step-fault : (position : ℕ) (h : Held) (step : Step) → Agree (step_fault (laid_shape s) position h step) (step_fault s position h step)
  step-fault position h (next waiting) = itself [] tt
  step-fault position h (trailing n) = itself [] tt
  step-fault position h (subcommand name) = itself [] tt
  step-fault position h value =
      subst (λ (found : Option Rule). Agree (option_map_or (λ (a : Rule). positional_fault (laid_rules s.rules) s.args_override_self a h) found (stray_fault s))
      (option_map_or (λ (a : Rule). positional_fault s.rules s.args_override_self a h) (arg_by_index s.rules position) (stray_fault s)))
      (sym (by-index s.rules position)) (positional-fault s.rules s.args_override_self (arg_by_index s.rules position) (stray_fault s) h single-stray)

  turn-fault : (w : Walk) (word : Text) → Agree (turn_fault (laid_shape s) [] w word) (turn_fault s [] w word)
  turn-fault w word = agree-if (is_some w.stopped) (itself [] tt) (agree-or (word-fault w.is_trailing w.waiting word w.held)
      (subst (λ (met : Held × Step). Agree (step_fault (laid_shape s) w.position met.0 met.1)
      (step_fault s w.position (word_met s.rules [] w.is_trailing w.waiting w.position word w.held).0 (word_met s.rules [] w.is_trailing w.waiting w.position word w.held).1))
      (sym (word-met s.rules [] w.is_trailing w.waiting w.position word w.held))
      (step-fault w.position (word_met s.rules [] w.is_trailing w.waiting w.position word w.held).0 (word_met s.rules [] w.is_trailing w.waiting w.position word w.held).1)))

  walk-fault : (w : Walk) (words : List Text) → Agree (walk_fault (laid_shape s) [] w words) (walk_fault s [] w words)
  unfolding walk_fault
  walk-fault w [] = itself [] tt
  walk-fault w (word ∷ words) = agree-or (turn-fault w word)
      (subst (λ (v : Walk). Agree (walk_fault (laid_shape s) [] v words) (walk_fault s [] (walked s.rules [] w word) words)) (sym (walked-laid s.rules [] w word)) (walk-fault (walked s.rules [] w word) words))

  check-fault : (rows : List Row) (has : Bool) → Agree (check_fault (laid_shape s) rows has) (check_fault s rows has)
  check-fault rows has = record {
    same = ap (λ (b : Bool). check_kinds (not has && (s.arg_required_else_help && not (list_any (λ (r : Row). explicit_source r.source) rows)))
        (not has && s.subcommand_required) (not (s.subcommand_negates_reqs && has) && b))
        (sym (list_any-map (λ (a : Rule). a.required && not (is_given a.id rows)) laid_rule s.rules));
    single = single-check _ _ _;
  }

  -- after the walk
  end-fault : (h : Held) → Agree
      (or_else (settle_fault (laid_rules s.rules) s.args_override_self h) (or_else (defaults_fault (settled (laid_rules s.rules) h).rows (laid_rules s.rules)) (check_fault (laid_shape s) (finished (laid_rules s.rules) h) false)))
      (or_else (settle_fault s.rules s.args_override_self h) (or_else (defaults_fault (settled s.rules h).rows s.rules) (check_fault s (finished s.rules h) false)))
  end-fault h = agree-or (settle-fault s.rules s.args_override_self h) (agree-or
      (subst (λ (k : Held). Agree (defaults_fault k.rows (laid_rules s.rules)) (defaults_fault (settled s.rules h).rows s.rules)) (sym (settled-laid s.rules h)) (defaults-fault (settled s.rules h).rows s.rules))
      (subst (λ (rows : List Row). Agree (check_fault (laid_shape s) rows false) (check_fault s (finished s.rules h) false)) (sym (finished-laid s.rules h)) (check-fault (finished s.rules h) false)))

  pub level-fault : (words : List Text) → Agree (level_fault (laid_shape s) [] nothing_held words false []) (level_fault s [] nothing_held words false [])
  level-fault words = agree-or (walk-fault (walk_from nothing_held) words)
      (subst (λ (w : Walk). Agree
      (or_else (settle_fault (laid_rules s.rules) s.args_override_self w.held) (or_else (defaults_fault (settled (laid_rules s.rules) w.held).rows (laid_rules s.rules)) (check_fault (laid_shape s) (finished (laid_rules s.rules) w.held) false)))
      (or_else (settle_fault s.rules s.args_override_self (walk s.rules [] nothing_held words).held) (or_else (defaults_fault (settled s.rules (walk s.rules [] nothing_held words).held).rows s.rules) (check_fault s (finished s.rules (walk s.rules [] nothing_held words).held) false))))
      (sym (walk-laid s.rules [] nothing_held words)) (end-fault (walk s.rules [] nothing_held words).held))
