-- The command line as a command of `clap`.
use Rattle.std.specs.Prelude.{ℤ, true, List, [], ◌∷◌, map, Some, codes, pos}
use Rattle.std.specs.Borrow.{Bor}
use Rattle.clap.specs.Words.{App, Rule, Text, new_app, new_rule, with_rule}
use Rattle.clap.specs.declared.builder.action.ArgAction.TheVariants.{SetTrue, Append}
use Rattle.clap.specs.declared.builder.value_parser.ValueParser.TheVariants.{Names, Signed}

-- an argument that is a word which has to be there
abbrev pub required_word : Text → Rule
required_word id = record (new_rule id) { required = true }

-- an argument that takes any number of further words
abbrev pub further_words : Text → Rule
further_words id = record (new_rule id) { action = Some Append }

-- an option with one value, a whole number in a range
abbrev pub number_option : Text → ℤ → ℤ → Rule
number_option name least most = record (new_rule name) { long = Some name; parser = Some (Signed least most) }

abbrev pub flag : Text → Rule
flag name = record (new_rule name) { long = Some name; action = Some SetTrue }

-- the words that COMMAND may be
abbrev pub verbs : List Text
verbs = codes "run" ∷ codes "solve" ∷ codes "check" ∷ codes "expand" ∷ codes "generate" ∷ codes "trace" ∷ codes "replay" ∷ []

abbrev pub verb_word : Bor (List (Bor Text)) → Rule
verb_word names = record (required_word (codes "COMMAND")) { parser = Some (Names names) }

-- The command line before it has arguments. It reads all words that it is given, and asks for its help and its version as `clap` has it.
abbrev pub plain_app : App
plain_app = record (new_app (codes "mg")) { top = record (new_app (codes "mg")).top { no_binary_name = true; has_version = true } }

abbrev pub with_words : Bor (List (Bor Text)) → App → App
with_words names app = with_rule (with_rule (with_rule app (verb_word names)) (required_word (codes "GRAPH"))) (further_words (codes "SUBGRAPH"))

abbrev pub with_numbers : App → App
with_numbers app = with_rule (with_rule (with_rule app
    (number_option (codes "workers") (pos 0) (pos 64)))
    (number_option (codes "max-queue-size") (pos 1) (pos 1000000)))
    (number_option (codes "number") (pos 0) (pos 1000000))

abbrev pub with_flags : App → App
with_flags app = with_rule (with_rule (with_rule (with_rule app
    (flag (codes "no-queue-limit")))
    (flag (codes "report")))
    (flag (codes "no-arrivals")))
    (flag (codes "unbuffered"))

abbrev pub command_with : Bor (List (Bor Text)) → App
command_with names = with_flags (with_numbers (with_words names plain_app))

-- a value in memory at address 0, as `clap` doesn't look at where a text lies
abbrev pub placed : {X : Type 0} → X → Bor X
placed x = record { ref_ptr = (0, 0); now = x }

-- the command line: COMMAND GRAPH SUBGRAPH..., with options and flags anywhere between them
abbrev pub command : App
command = command_with (placed (map placed verbs))
