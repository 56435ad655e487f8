-- What the words of a command line ask for.
use Rattle.std.specs.Prelude.{ℕ, ℤ, pos, negsuc, Bool, true, false, not, min, ◌&&◌, ◌||◌, ◌==◌, List, [], ◌∷◌, ◌++◌, Option, None, Some, is_some, option_map, unwrap_or, codes, length, nat_le, if◌then◌else◌}
use Rattle.std.specs.Option.{option_and_then, option_map_or}
use Rattle.std.specs.Str.{bytes_eq}
use Rattle.std.specs.Str.Parse.{digits_value, without_leading_plus}
use Rattle.clap.specs.Words.{Kinds, Row, Text, all_of, first_of, one_of, fault_of, matches_of}
use Rattle.clap.specs.ValueTests.{accepts}
use Rattle.clap.specs.declared.builder.value_parser.ValueParser.TheVariants.{Unsigned}
use Rattle.clap.specs.declared.error.kind.ErrorKind.{ErrorKind}
use Rattle.clap.specs.declared.error.kind.ErrorKind.TheVariants.{DisplayHelp, DisplayVersion}
use Rattle.mg_words.specs.CommandLine as lines
use Rattle.mg_words.specs.Command.{Command, command, most_files, verb_of}
use Rattle.mg_words.specs.Help.{help_text, version_text}
use Rattle.mg_words.specs.declared.options.Options.{Options}
use Rattle.mg_words.specs.declared.options.TheConstants.{MOST_LIMIT}
use Rattle.mg_words.specs.declared.words.Instruction.{Instruction}
use Rattle.mg_words.specs.declared.words.Verb.{Verb}

-- What words say that `clap` takes --

-- what words say: COMMAND, the names of the files, and the options
pub record Line : Type 0 where
  pub word : Text
  pub files : List Text
  pub options : Options

-- the number that a text stands for
abbrev pub number_in : Text → Option ℕ
number_in text = if accepts false (Unsigned 0 4294967295) text then Some (digits_value 10 (without_leading_plus text)) else None

-- the number that an option was given, if it was used
abbrev pub number_of : Text → List Row → Option ℕ
number_of name rows = option_and_then number_in (one_of name rows)

-- whether a flag was used
abbrev pub flag_of : Text → List Row → Bool
flag_of name rows = option_map_or (λ text. bytes_eq text (codes "true")) (first_of name rows) false

abbrev pub options_of : List Row → Options
options_of rows = record {
  workers = number_of (codes "workers") rows;
  max_queue_size = number_of (codes "max-queue-size") rows;
  number = number_of (codes "number") rows;
  no_queue_limit = flag_of (codes "no-queue-limit") rows;
  report = flag_of (codes "report") rows;
  no_arrivals = flag_of (codes "no-arrivals") rows;
  unbuffered = flag_of (codes "unbuffered") rows;
}

-- the words that were taken for the argument of a name
abbrev pub words_at : Text → List Row → List Text
words_at name rows = unwrap_or (all_of name rows) []

-- what words say: COMMAND, the files with that of the main graph first, and the options
abbrev pub line_of : List Row → Line
line_of rows = record {
  word = unwrap_or (first_of (codes "COMMAND") rows) [];
  files = words_at (codes "GRAPH") rows ++ words_at (codes "SUBGRAPH") rows;
  options = options_of rows;
}

-- A number is written plainly: decimal digits without a sign or a leading zero. `clap` takes others too.
abbrev pub is_plain : Text → Bool
is_plain [] = false
is_plain (first ∷ rest) = nat_le 48 first && nat_le first 57 && (not (first == 48) || (length rest == 0))

-- whether the number that an option was given is written plainly, if it was used
abbrev pub is_plain_at : Text → List Row → Bool
is_plain_at name rows = option_map_or is_plain (first_of name rows) true

-- whether all numbers are written plainly
abbrev pub are_plain : List Row → Bool
are_plain rows = is_plain_at (codes "workers") rows && is_plain_at (codes "max-queue-size") rows && is_plain_at (codes "number") rows

-- Words keep the rules that `clap` doesn't judge: there aren't too many files, and `generate` has a number.
abbrev pub keeps_rules : Line → Bool
keeps_rules line = nat_le (length line.files) most_files && (is_some line.options.number || not (bytes_eq line.word (codes "generate")))

-- The limit of queues that the options ask for, if they ask for one; below 0 there is none. If both options are used, the flag counts.
abbrev pub limit_in : Options → Option ℤ
limit_in options = if options.no_queue_limit then Some (negsuc 0) else option_map (λ size. pos (min size MOST_LIMIT)) options.max_queue_size

-- what a command does and how, by its options and its verb
abbrev pub instruction_in : Options → Verb → Instruction
instruction_in options verb = record {
  verb = verb;
  limit = limit_in options;
  workers = options.workers;
  number = unwrap_or options.number 0;
  report = options.report;
  arrivals = not options.no_arrivals;
  unbuffered = options.unbuffered;
}

-- the command that words stand for, if they keep the rules and COMMAND is one of its words
abbrev pub command_in : Line → Option Command
command_in line = if keeps_rules line then option_map (λ verb. command (instruction_in line.options verb) line.files) (verb_of line.word) else None

-- What the words ask for --

-- What words ask for: the note on how the program is used, a text of the program's own, or a command.
pub data Request : Type 0 where
  asks_usage : Request
  asks_text : List ℕ → Request
  asks_command : Command → Request

-- what words ask for that `clap` takes, by the command for which they stand, if any
abbrev pub request_by : Option Command → Request
request_by None = asks_usage
request_by (Some command) = asks_command command

-- What words ask for that `clap` refuses for this reason. A call for the help or for the version is no mistake.
abbrev pub request_at : ErrorKind → Request
request_at DisplayHelp = asks_text help_text
request_at DisplayVersion = asks_text version_text
request_at _ = asks_usage

-- what words ask for, by the reason for which `clap` refuses them, if any, and by what it takes of them
abbrev pub request_from : Kinds → List Row → Request
request_from [] rows = if are_plain rows then request_by (command_in (line_of rows)) else asks_usage
request_from (kind ∷ kinds) rows = request_at kind

-- what the words after the program's name ask for
unfoldable pub request_of : List Text → Request
request_of words = request_from (fault_of lines.command words) (matches_of lines.command words)

-- the command that words ask for, if they ask for one
abbrev pub command_by : Request → Option Command
command_by asks_usage = None
command_by (asks_text text) = None
command_by (asks_command command) = Some command

-- the command that words ask for, if they ask for one
abbrev pub command_of : List Text → Option Command
command_of words = command_by (request_of words)
