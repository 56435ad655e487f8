-- What files are, together.
use Rattle.std.proofs.Common.{◌≡◌, ◌<◌, ◌+◌, ℕ, zero, suc, List, [], ◌∷◌, ◌++◌, length, get_or, take, map, Some, inl, inr, refl, sym, ap, ◌∙◌, subst}
use Rattle.std.specs.Prelude.{slice_get}
use Rattle.std.specs.List.{All}
use Rattle.std.specs.Global.{Vec}
use Rattle.std.proofs.lemmas.List.Elements.{All-nil, All-cons}
use Rattle.mg_config.specs.Config.{GraphView, graph_view}
use Rattle.mg_config.specs.declared.graph.GraphConfig.{GraphConfig}
use Rattle.mg_subgraph.proofs.Steps.{got_map, taken, map-push}
use Rattle.mg_files.specs.Reads.{contents_of, IsNotedOf, AreNotedOf}
use Rattle.mg_files.specs.declared.fault.Fault.{Fault}
use Rattle.mg_files.specs.declared.fault.Fault.TheVariants.{Noted, OutOfMemory}
use Rattle.mg_files.specs.File.{graph, IsFile}
use Rattle.mg_files.specs.Files.{Files, graphs, no_graphs, refusal_of, AreGraphs, IsRefused, FirstRefused, AreFiles}
use Rattle.mg_files.proofs.OneFile.{one_file}

-- Contents are one thing at most --

held : (g h : GraphView) → graph g ≡ graph h → g ≡ h
held g h e = cc

some-note : (a b : List ℕ) → Some a ≡ Some b → a ≡ b
some-note a b e = cc

no-note : (name : List ℕ) (g : GraphView) (note : List ℕ) → refusal_of name (graph g) ≡ Some note → ⊥
no-note name g note e = cc

graph-or-refused : (name content : List ℕ) (g : GraphView) (note : List ℕ) → IsFile content (graph g) → IsRefused name content note → ⊥
graph-or-refused name content g note is (file, other, why) = no-note name g note (ap (refusal_of name) (one_file content (graph g) file is other) ∙ why)

one-graphs : (contents : List (List ℕ)) (gs hs : List GraphView) → AreGraphs contents gs → AreGraphs contents hs → gs ≡ hs
one-graphs [] [] [] are other = refl
one-graphs [] [] (h ∷ hs) are other = elim other [ ]
one-graphs [] (g ∷ gs) hs are other = elim are [ ]
one-graphs (c ∷ contents) [] hs are other = elim are [ ]
one-graphs (c ∷ contents) (g ∷ gs) [] are other = elim other [ ]
one-graphs (c ∷ contents) (g ∷ gs) (h ∷ hs) are other =
    ap (λ first. first ∷ gs) (held g h (one_file c (graph g) (graph h) are.0 other.0)) ∙ ap (λ rest. h ∷ rest) (one-graphs contents gs hs are.1 other.1)

graphs-or-refused : (names contents : List (List ℕ)) (gs : List GraphView) (note : List ℕ) → AreGraphs contents gs → FirstRefused names contents note → ⊥
graphs-or-refused [] contents gs note are first = first
graphs-or-refused (n' ∷ names) [] gs note are first = first
graphs-or-refused (n' ∷ names) (c ∷ contents) [] note are first = are
graphs-or-refused (n' ∷ names) (c ∷ contents) (g ∷ gs) note are (inl here) = graph-or-refused n' c g note are.0 here
graphs-or-refused (n' ∷ names) (c ∷ contents) (g ∷ gs) note are (inr later) = graphs-or-refused names contents gs note are.1 later.2

one-refusal : (name content a b : List ℕ) → IsRefused name content a → IsRefused name content b → a ≡ b
one-refusal name content a b (file, is, why) (other, also, because) =
    some-note a b (sym why ∙ ap (refusal_of name) (one_file content file other is also) ∙ because)

one-note : (names contents : List (List ℕ)) (a b : List ℕ) → FirstRefused names contents a → FirstRefused names contents b → a ≡ b
one-note [] contents a b first other = absurd first
one-note (n' ∷ names) [] a b first other = absurd first
one-note (n' ∷ names) (c ∷ contents) a b (inl here) (inl there) = one-refusal n' c a b here there
one-note (n' ∷ names) (c ∷ contents) a b (inl here) (inr later) = absurd (graph-or-refused n' c later.0 a later.1 here)
one-note (n' ∷ names) (c ∷ contents) a b (inr later) (inl there) = absurd (graph-or-refused n' c later.0 b later.1 there)
one-note (n' ∷ names) (c ∷ contents) a b (inr later) (inr last) = one-note names contents a b later.2 last.2

pub one-reading : (names contents : List (List ℕ)) (a b : Files) → AreFiles names contents a → AreFiles names contents b → a ≡ b
one-reading names contents (graphs gs) (graphs hs) are other = ap graphs (one-graphs contents gs hs are other)
one-reading names contents (graphs gs) (no_graphs note) are other = absurd (graphs-or-refused names contents gs note are other)
one-reading names contents (no_graphs note) (graphs gs) are other = absurd (graphs-or-refused names contents gs note other are)
one-reading names contents (no_graphs a) (no_graphs b) are other = ap no_graphs (one-note names contents a b are other)

-- Reading on --

pub graphs-more : (contents : List (List ℕ)) (gs : List GraphView) (content : List ℕ) (g : GraphView) → AreGraphs contents gs → IsFile content (graph g) → AreGraphs (contents ++ content ∷ []) (gs ++ g ∷ [])
graphs-more [] [] content g are is = (is, tt)
graphs-more [] (h ∷ gs) content g are is = elim are [ ]
graphs-more (c ∷ contents) [] content g are is = elim are [ ]
graphs-more (c ∷ contents) (h ∷ gs) content g are is = (are.0, graphs-more contents gs content g are.1 is)

-- The files before a place are graphs, and the one there is refused.
pub refused-at : (names contents : List (List ℕ)) (i : ℕ) (name content note : List ℕ) (gs : List GraphView) → slice_get names i ≡ Some name → slice_get contents i ≡ Some content
    → AreGraphs (take i contents) gs → IsRefused name content note → FirstRefused names contents note
refused-at [] contents i name content note gs named holds are is = cc
refused-at (n' ∷ names) [] i name content note gs named holds are is = cc
refused-at (n' ∷ names) (c ∷ contents) zero name content note gs named holds are is =
    inl (subst (λ n. IsRefused n c note) (sym (some-note n' name named)) (subst (λ k. IsRefused name k note) (sym (some-note c content holds)) is))
refused-at (n' ∷ names) (c ∷ contents) (suc i) name content note [] named holds are is = elim are [ ]
refused-at (n' ∷ names) (c ∷ contents) (suc i) name content note (g ∷ gs) named holds are is = inr (g, are.0, refused-at names contents i name content note gs named holds are.1 is)

take-map : {X Y : Type 0} (f : X → Y) (xs : List X) (i : ℕ) → take i (map f xs) ≡ map f (take i xs)
take-map f xs zero = refl
take-map f [] (suc i) = refl
take-map f (x ∷ xs) (suc i) = ap (λ l. f x ∷ l) (take-map f xs i)

pub noted-at : (fault : Fault) (names : List (List ℕ)) (contents : List (Vec ℕ)) (i : ℕ) (name : List ℕ) (content : Vec ℕ) (gs : List GraphView) → slice_get names i ≡ Some name → slice_get contents i ≡ Some content
    → AreGraphs (contents_of (take i contents)) gs → IsNotedOf fault name content.items → AreNotedOf fault names (contents_of contents)
noted-at (Noted note) names contents i name content gs named holds are is =
    refused-at names (contents_of contents) i name content.items note.items gs named (got_map (λ v. v.items) contents i content holds)
    (subst (λ (cs : List (List ℕ)). AreGraphs cs gs) (sym (take-map (λ v. v.items) contents i)) are) is
noted-at OutOfMemory names contents i name content gs named holds are is = tt

pub graphs-step : (contents : List (Vec ℕ)) (i : ℕ) (content : Vec ℕ) (configs grown : List GraphConfig) (config : GraphConfig) → i < length contents → content ≡ get_or contents i content
    → grown ≡ configs ++ config ∷ [] → AreGraphs (contents_of (take i contents)) (map graph_view configs) → IsFile content.items (graph (graph_view config))
    → AreGraphs (contents_of (take (i + 1) contents)) (map graph_view grown)
graphs-step contents i content configs grown config inside here same are is =
    subst (λ (cs : List (List ℕ)). AreGraphs cs (map graph_view grown)) (sym (taken (λ v. v.items) contents i content inside here))
    (subst (AreGraphs (contents_of (take i contents) ++ content.items ∷ [])) (sym (ap (map graph_view) same ∙ map-push graph_view configs config))
    (graphs-more (contents_of (take i contents)) (map graph_view configs) content.items (graph_view config) are is))

-- What holds of the graph of each file holds of all graphs.
pub all-graphs : (P : GraphView → Type 0) → ((content : List ℕ) (g : GraphView) → IsFile content (graph g) → P g)
    → (contents : List (List ℕ)) (configs : List GraphConfig) → AreGraphs contents (map graph_view configs) → All {X = GraphConfig} (λ config. P (graph_view config)) configs
all-graphs P each contents [] are = All-nil {X = GraphConfig} (λ config. P (graph_view config))
all-graphs P each [] (config ∷ configs) are = elim are [ ]
all-graphs P each (c ∷ contents) (config ∷ configs) are = All-cons {X = GraphConfig} (λ config. P (graph_view config)) config configs (each c (graph_view config) are.0) (all-graphs P each contents configs are.1)

pub graph-at : (P : GraphView → Type 0) → ((content : List ℕ) (g : GraphView) → IsFile content (graph g) → P g)
    → (contents : List (List ℕ)) (gs : List GraphView) → AreGraphs contents gs → (i : ℕ) (g : GraphView) → slice_get gs i ≡ Some g → P g
graph-at P each contents [] are i g here = cc
graph-at P each [] (h ∷ gs) are i g here = elim are [ ]
graph-at P each (c ∷ contents) (h ∷ gs) are zero g here = subst P (some-graph h g here) (each c h are.0)
  where
    some-graph : (h g : GraphView) → Some h ≡ Some g → h ≡ g
    some-graph h g e = cc
graph-at P each (c ∷ contents) (h ∷ gs) are (suc i) g here = graph-at P each contents gs are.1 i g here
