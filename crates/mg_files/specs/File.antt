-- What the content of a graph file is: the graph that its text configures, or why it has none; and the text of a configuration.
use Rattle.std.specs.Prelude.{◌≡◌, ◌<◌, ◌≤◌, ℕ, List, Ok, Err, length}
use Rattle.mg_text.specs.Tree.{Fields, depth}
use Rattle.mg_text.specs.Grammar.{Gives}
use Rattle.mg_text.specs.Answer.{max_len, max_depth, IsSyntaxFault, IsTooDeep}
use Rattle.mg_text.specs.Canonical.{canonical}
use Rattle.mg_text.specs.declared.fault.TextFault.{TextFault}
use Rattle.mg_text.specs.declared.fault.TextFault.TheVariants.{Syntax, TooDeep, TooLong, OutOfMemory}
use Rattle.mg_config.specs.Config.{GraphView, config_of}
use Rattle.mg_config.specs.Written.{tree_of}
use Rattle.mg_config.specs.declared.fault.ConfigFault.{ConfigFault}

-- what a file is: a graph; not a text of fields; or a text whose fields are no configuration
pub data File : Type 0 where
  graph : GraphView → File
  no_text : TextFault → File
  no_graph : ConfigFault → File

-- The content is a text that stands for these fields, and it is neither too long nor too deep.
pub record IsText (content : List ℕ) (fields : Fields) : Type 0 where
  pub short : length content ≤ max_len
  pub gives : Gives content fields
  pub shallow : depth fields ≤ max_depth

-- The content isn't a text that stands for fields, for this reason.
abbrev pub IsNoText : List ℕ → TextFault → Type 0
IsNoText content (Syntax place) = (length content ≤ max_len) × IsSyntaxFault content place
IsNoText content (TooDeep place) = (length content ≤ max_len) × IsTooDeep content place
IsNoText content TooLong = max_len < length content
IsNoText content OutOfMemory = ⊥

-- the content of a file is this graph, or is refused for this reason
abbrev pub IsFile : List ℕ → File → Type 0
IsFile content (graph g) = (fields : Fields) × IsText content fields × (config_of fields ≡ Ok g)
IsFile content (no_text fault) = IsNoText content fault
IsFile content (no_graph fault) = (fields : Fields) × IsText content fields × (config_of fields ≡ Err fault)

-- the text of a configuration
abbrev pub graph_text : GraphView → List ℕ
graph_text g = canonical (tree_of g)
