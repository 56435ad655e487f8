-- What the files of a command are: all graphs, in order, or refused at the first file that is no graph.
use Rattle.std.specs.Prelude.{◌≡◌, ℕ, ◌⊎◌, List, [], ◌∷◌, Option, None, Some, codes}
use Rattle.mg_config.specs.Config.{GraphView}
use Rattle.mg_files.specs.File.{File, graph, no_text, no_graph, IsFile}
use Rattle.mg_files.specs.Notes.{file_note, text_refusal, config_refusal}

-- the note that refuses a file of this name, if it is no graph
abbrev pub refusal_of : List ℕ → File → Option (List ℕ)
refusal_of name (graph g) = None
refusal_of name (no_text fault) = Some (file_note name (codes "text") (text_refusal fault))
refusal_of name (no_graph fault) = Some (file_note name (codes "config") (config_refusal fault))

-- All files are graphs, and these are the graphs. Or the first file that is no graph is refused with this note.
pub data Files : Type 0 where
  graphs : List GraphView → Files
  no_graphs : List ℕ → Files

-- The contents are these graphs, in order.
abbrev pub AreGraphs : List (List ℕ) → List GraphView → Type 0
AreGraphs [] [] = Unit {0}
AreGraphs [] (g ∷ gs) = ⊥
AreGraphs (content ∷ contents) [] = ⊥
AreGraphs (content ∷ contents) (g ∷ gs) = IsFile content (graph g) × AreGraphs contents gs

-- A file of this name and content is refused with this note.
abbrev pub IsRefused : List ℕ → List ℕ → List ℕ → Type 0
IsRefused name content note = (file : File) × IsFile content file × (refusal_of name file ≡ Some note)

-- The first file that is no graph is refused with this note. The files after it don't matter.
abbrev pub FirstRefused : List (List ℕ) → List (List ℕ) → List ℕ → Type 0
FirstRefused [] contents note = ⊥
FirstRefused (name ∷ names) [] note = ⊥
FirstRefused (name ∷ names) (content ∷ contents) note =
    IsRefused name content note ⊎ ((g : GraphView) × IsFile content (graph g) × FirstRefused names contents note)

-- files of these names and contents are all these graphs, or refused with this note
abbrev pub AreFiles : List (List ℕ) → List (List ℕ) → Files → Type 0
AreFiles names contents (graphs gs) = AreGraphs contents gs
AreFiles names contents (no_graphs note) = FirstRefused names contents note
