-- The producers of streams, and the nodes without inputs, where nodes are counted from a number on.
use Rattle.std.specs.Prelude.{ℕ, List, ◌==◌, length, map, filter, flat_map}
use Rattle.std.specs.List.{enumerate_from}
use Rattle.mg_calc.specs.declared.plan_stream.Producer.{Producer}
use Rattle.mg_calc.specs.declared.plan_stream.Producer.TheVariants.{Node}
use Rattle.mg_calc.specs.Plan.{numbers}
use Rattle.mg_check.specs.Drafts.{DraftView}

abbrev pub node_writers : ℕ → List DraftView → List Producer
node_writers from ds = flat_map (λ e. map (λ port. Node e.0 port) (numbers (length e.1.outputs))) (enumerate_from from ds)

abbrev pub sources_from : ℕ → List DraftView → List ℕ
sources_from from ds = map (λ e. e.0) (filter (λ e. length e.1.inputs == 0) (enumerate_from from ds))
