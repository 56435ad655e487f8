-- The edges of a graph, part by part.
use Rattle.std.specs.Prelude.{ℕ, List, Option, flat_map}
use Rattle.std.specs.List.{enumerate_from}
use Rattle.mg_calc.specs.declared.edge.Edge.{Edge}
use Rattle.mg_check.specs.Drafts.{DraftView}
use Rattle.mg_check.specs.Names.{number_among}
use Rattle.mg_check.specs.Joining.{is_back_at, edges_into}

-- the edge into a port of a consumer, by the port's number and the name that stands there
abbrev pub edge_at : List (List ℕ) → ℕ → Option ℕ → ℕ × List ℕ → Edge
edge_at names node back e = record { stream = number_among names e.1; node = node; port = e.0; back = is_back_at back e.0 }

-- the edges into nodes that are counted from a number on, by the names of all streams
abbrev pub node_edges_from : List (List ℕ) → ℕ → List DraftView → List Edge
node_edges_from names from ds = flat_map (λ e. edges_into names e.0 e.1.back e.1.inputs) (enumerate_from from ds)
