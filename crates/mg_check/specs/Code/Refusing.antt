-- What the joining of nodes is refused for, in two parts: by names alone, and by how they are wired.
use Rattle.std.specs.Prelude.{ℕ, List, Option, None, Some, option_map, position, slice_get, ◌≡◌, length, map, nat_lt, if◌then◌else◌}
use Rattle.std.specs.Option.{option_and_then, option_or}
use Rattle.mg_config.specs.Config.{GraphView}
use Rattle.mg_check.specs.Drafts.{DraftView}
use Rattle.mg_calc.specs.Plan.{numbers}
use Rattle.mg_subgraph.specs.Refusals.{port_names}
use Rattle.mg_check.specs.Names.{number_among}
use Rattle.mg_check.specs.Planning.{plan_streams, plan_sides}
use Rattle.mg_check.specs.Joining.{two_producers, no_producer, side_missing, kind_clash, back_edge_misplaced, cycle, too_many, edges, writers, order, stream_meetings, stream_names, side_names}
use Rattle.mg_check.specs.Code.Meets.{inferred_of}
use Rattle.mg_check.specs.declared.wiring.Wiring.{Wiring}
use Rattle.mg_check.specs.declared.plan_names.PlanNames.{PlanNames}
use Rattle.mg_check.specs.declared.inferred.Inferred.{Inferred}
use Rattle.mg_check.specs.declared.planning.Shown.{Shown}
use Rattle.mg_check.specs.declared.fault.CheckFault.{CheckFault}
use Rattle.mg_check.specs.declared.fault.CheckFault.TheVariants.{KindClash, TooMany}
use Rattle.mg_check.specs.declared.fault.Many.TheVariants.{Edges, Outputs}

abbrev pub name_refusal : GraphView → List DraftView → Option CheckFault
name_refusal graph ds = option_or (two_producers graph ds) (option_or (no_producer graph ds) (side_missing graph ds))

abbrev pub wiring_refusal : GraphView → List DraftView → Option CheckFault
wiring_refusal graph ds = option_or (kind_clash graph ds) (option_or (back_edge_misplaced ds) (option_or (cycle graph ds) (too_many graph ds)))

-- a clash of kinds, by what is known of streams
abbrev pub clash_by : List (List ℕ) → List Inferred → Option CheckFault
clash_by names mets = option_map KindClash (option_and_then (λ n. slice_get names n) (position (λ inferred. inferred.clash) mets))

-- The names are those of the graph's streams and side packets. None of them has two producers.
pub record ArePlanNames (plan_names : PlanNames) (graph : GraphView) (ds : List DraftView) : Type 0 where
  pub of_streams : plan_names.streams ≡ stream_names graph ds
  pub of_sides : plan_names.sides ≡ side_names graph ds
  pub once : two_producers graph ds ≡ None

-- The wiring has the edges of the graph, what meets at its streams, who writes them, and the order of its nodes.
pub record AreWired (wiring : Wiring) (graph : GraphView) (ds : List DraftView) : Type 0 where
  pub all_edges : wiring.edges.items ≡ edges graph ds
  pub all_mets : wiring.mets.items ≡ map inferred_of (stream_meetings graph ds)
  pub all_writers : wiring.writers.items ≡ writers graph ds
  pub in_order : wiring.order.items ≡ order graph ds

-- the refusal of too many edges or graph outputs, by how many there are
abbrev pub count_refusal : ℕ → ℕ → Option CheckFault
count_refusal edge_count output_count =
    if nat_lt 16384 edge_count then Some (TooMany Edges)
    else (if nat_lt 256 output_count then Some (TooMany Outputs) else None)

-- The parts are those of the graph's plan that are made before its nodes.
pub record AreShown (shown : Shown) (graph : GraphView) (ds : List DraftView) : Type 0 where
  pub as_streams : shown.streams ≡ plan_streams graph ds
  pub as_sides : shown.sides ≡ plan_sides graph ds
  pub as_inputs : shown.inputs ≡ numbers (length graph.inputs)
  pub as_outputs : shown.outputs ≡ map (number_among (stream_names graph ds)) (port_names graph.outputs)
