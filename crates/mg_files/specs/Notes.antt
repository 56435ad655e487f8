-- The notes on files and graphs that are refused, each one line whatever a graph or a word holds.
use Rattle.std.specs.Prelude.{ℕ, List, [], ◌++◌, codes, decimal}
use Rattle.mg_text.specs.declared.fault.TextFault.{TextFault}
use Rattle.mg_text.specs.declared.fault.TextFault.TheVariants.{Syntax, TooDeep, TooLong, OutOfMemory}
use Rattle.mg_names.specs.declared.fault.NameFault.{NameFault}
use Rattle.mg_names.specs.declared.fault.NameFault.TheVariants as names
use Rattle.mg_config.specs.declared.fault.ConfigFault.{ConfigFault}
use Rattle.mg_config.specs.declared.fault.ConfigFault.TheVariants as configs
use Rattle.mg_names.specs.Ports.{text_of}
use Rattle.mg_subgraph.specs.declared.fault.ExpandFault.{ExpandFault}
use Rattle.mg_subgraph.specs.declared.fault.ExpandFault.TheVariants.{TypeTwice, Recursive, TooManyNodes, ReservedName, PortShared, BadField, NoSuchPort}
use Rattle.mg_subgraph.specs.declared.fault.ExpandFault.TheVariants as expansions
use Rattle.mg_answer.specs.Shown.{escaped}

-- A file --

-- the note that a file couldn't be loaded
abbrev pub store_note : List ℕ → List ℕ
store_note file = codes "store: " ++ escaped file ++ codes "\n"

-- A file or an expansion is refused --

-- the words for why a file isn't text of the grammar, and where
abbrev pub text_refusal : TextFault → List ℕ
text_refusal (Syntax place) = codes "Syntax " ++ decimal place
text_refusal (TooDeep place) = codes "TooDeep " ++ decimal place
text_refusal TooLong = codes "TooLong"
text_refusal OutOfMemory = []

-- the word for why a port's names are refused
abbrev pub cause_name : NameFault → List ℕ
cause_name names.BadName = codes "BadName"
cause_name names.BadTag = codes "BadTag"
cause_name names.BadIndex = codes "BadIndex"
cause_name names.Gap = codes "Gap"
cause_name names.Twice = codes "Twice"
cause_name names.OutOfMemory = []

-- the words for why a file's fields are no configuration, and which field it is
abbrev pub config_refusal : ConfigFault → List ℕ
config_refusal (configs.UnknownField path) = codes "UnknownField " ++ escaped path
config_refusal (configs.WrongShape path) = codes "WrongShape " ++ escaped path
config_refusal (configs.Repeated path) = codes "Repeated " ++ escaped path
config_refusal (configs.BadPort path cause) = codes "BadPort " ++ escaped path ++ codes " " ++ cause_name cause
config_refusal configs.OutOfMemory = []

-- the note that a file is refused; `stage` is what refuses it: `text` or `config`
abbrev pub file_note : List ℕ → List ℕ → List ℕ → List ℕ
file_note file stage refusal = codes "refused: " ++ escaped file ++ codes " " ++ stage ++ codes " " ++ refusal ++ codes "\n"

-- The words for why an expansion is refused: what is wrong, and the fault's fields, each after a space. A port is written as in a graph
-- file.
abbrev pub expand_refusal : ExpandFault → List ℕ
expand_refusal (TypeTwice name) = codes "TypeTwice " ++ escaped name
expand_refusal (Recursive name) = codes "Recursive " ++ escaped name
expand_refusal TooManyNodes = codes "TooManyNodes"
expand_refusal (ReservedName name) = codes "ReservedName " ++ escaped name
expand_refusal (PortShared owner name) = codes "PortShared " ++ escaped owner ++ codes " " ++ escaped name
expand_refusal (BadField owner node field) = codes "BadField " ++ escaped owner ++ codes " " ++ decimal node ++ codes " " ++ escaped field
expand_refusal (NoSuchPort owner node port) = codes "NoSuchPort " ++ escaped owner ++ codes " " ++ decimal node ++ codes " " ++ escaped (text_of port)
expand_refusal expansions.OutOfMemory = []

-- the note that the expansion of a graph is refused
abbrev pub expand_note : ExpandFault → List ℕ
expand_note fault = codes "refused: expand " ++ expand_refusal fault ++ codes "\n"

-- The note that a graph with free nodes is refused, as it can't be used in the way of this word; `node` is its first free node.
abbrev pub free_note : List ℕ → ℕ → List ℕ
free_note verb node = codes "refused: " ++ verb ++ codes " FreeNode " ++ decimal node ++ codes "\n"

-- The note that a graph can't be solved, since the law of one of its nodes is an author's own; `node` is the first such node.
abbrev pub own_law_note : ℕ → List ℕ
own_law_note node = codes "refused: solve OwnLaw " ++ decimal node ++ codes "\n"
