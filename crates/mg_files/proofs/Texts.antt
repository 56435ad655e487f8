-- The text of a graph, and the graph of that text.
use Rattle.std.proofs.Common.{◌≡◌, ◌≤◌, ℕ, List, [], ◌∷◌, length, Result, Ok, sym, ap, ◌∙◌, subst}
use Rattle.mg_text.specs.Grammar.{Gives}
use Rattle.mg_text.specs.Answer.{max_len}
use Rattle.mg_text.proofs.Faults.{one_text}
use Rattle.mg_text.proofs.Printing.{canonical_given, text_spelled}
use Rattle.mg_config.specs.Config.{GraphView, config_of}
use Rattle.mg_config.specs.Written.{tree_of}
use Rattle.mg_config.specs.Sound.{IsSound, IsPrintable}
use Rattle.mg_config.specs.declared.fault.ConfigFault.{ConfigFault}
use Rattle.mg_config.proofs.Sounded.{sound_of}
use Rattle.mg_config.proofs.Printed.{printable_of}
use Rattle.mg_config.proofs.Spelled.{spelled_tree}
use Rattle.mg_config.proofs.Shallow.{shallow_tree}
use Rattle.mg_config.proofs.WrittenBack.{written_back}
use Rattle.mg_subgraph.specs.Expansion.{expansion_of}
use Rattle.mg_subgraph.proofs.Kept.{sound_expansion, printable_expansion}
use Rattle.mg_files.specs.File.{graph, IsFile, graph_text}
use Rattle.mg_files.specs.Files.{AreGraphs}
use Rattle.mg_files.proofs.Together.{graph-at}

-- what holds of the graph of a file
pub sound_graph : (content : List ℕ) (g : GraphView) → IsFile content (graph g) → IsSound g
sound_graph content g (fields, text, made) = sound_of fields g made

pub printable_graph : (content : List ℕ) (g : GraphView) → IsFile content (graph g) → IsPrintable g
printable_graph content g (fields, text, made) = printable_of fields g made (text_spelled content fields text.gives) text.shallow

given_text : (g : GraphView) → IsSound g → IsPrintable g → Gives (graph_text g) (tree_of g)
given_text g sound printable = canonical_given (tree_of g) (spelled_tree g sound printable)

said_by : (g : GraphView) → IsSound g → IsPrintable g → length (graph_text g) ≤ max_len → IsFile (graph_text g) (graph g)
said_by g sound printable short =
    (tree_of g, record { short = short; gives = given_text g sound printable; shallow = shallow_tree g printable }, written_back g sound)

pub said_again : (content : List ℕ) (g : GraphView) → IsFile content (graph g) → length (graph_text g) ≤ max_len → IsFile (graph_text g) (graph g)
said_again content g is = said_by g (sound_graph content g is) (printable_graph content g is)

-- So does the text of a graph that was expanded.
pub expanded_again : (contents : List (List ℕ)) (main g : GraphView) (library : List GraphView) → AreGraphs contents (main ∷ library) → expansion_of main library ≡ Ok g
    → length (graph_text g) ≤ max_len → IsFile (graph_text g) (graph g)
expanded_again [] main g library are made short = elim are [ ]
expanded_again (content ∷ contents) main g library are made short =
    said_by g (sound_expansion main library g made (sound_graph content main are.0) (graph-at IsSound sound_graph contents library are.1))
    (printable_expansion main library g made (printable_graph content main are.0) (graph-at IsPrintable printable_graph contents library are.1)) short

abbrev read_as : GraphView → Result GraphView ConfigFault
read_as g = Ok g

same_graph : (g h : GraphView) → read_as g ≡ read_as h → g ≡ h
same_graph g h e = cc

pub known_by_text : (a b : List ℕ) (g h : GraphView) → IsFile a (graph g) → IsFile b (graph h) → graph_text g ≡ graph_text h → g ≡ h
known_by_text a b g h one other same =
    let g_sound = sound_graph a g one in
    let h_sound = sound_graph b h other in
    let g_given = given_text g g_sound (printable_graph a g one) in
    let h_given = subst (λ (text : List ℕ). Gives text (tree_of h)) (sym same) (given_text h h_sound (printable_graph b h other)) in
    same_graph g h (sym (written_back g g_sound) ∙ ap config_of (one_text (graph_text g) (tree_of g) (tree_of h) g_given h_given) ∙ written_back h h_sound)
