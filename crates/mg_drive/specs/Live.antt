-- The outcomes of a run of a graph with free nodes: what a solution of its core has, by the plan's numbers. If the arrivals are asked for,
-- there is also a line for each arrival.
use Rattle.std.specs.Prelude.{◌≡◌, ℕ, true, false, List, [], ◌∷◌, map, drop, length, slice_index_or}
use Rattle.std.specs.List.{flat_map, zip}
use Rattle.mg_value.specs.Payload.{Plain}
use Rattle.mg_settled.specs.Prefix.{StreamPrefix}
use Rattle.mg_calc.specs.declared.node_fault.NodeFault.{NodeFault}
use Rattle.mg_calc.specs.declared.plan.Plan.{Plan}
use Rattle.mg_calc.specs.declared.plan_node.PlanNode.{PlanNode}
use Rattle.mg_calc.specs.Plan.{numbers}
use Rattle.mg_calc.specs.Equations.{Job, stream_of}
use Rattle.mg_calc.specs.Meaning.{faults, counts}
use Rattle.mg_free.specs.declared.node.FreeNode.{FreeNode}
use Rattle.mg_free.specs.Core.{split_of, is_free, stream_number}
use Rattle.mg_free.specs.Rounds.{Taken}
use Rattle.mg_answer.specs.Notes.{arrival_note}
use Rattle.mg_answer.specs.Report.{asked_arrivals}
use Rattle.mg_settled.specs.Ends.{end_of}
use Rattle.mg_answer.specs.declared.outcomes.Outcomes.{Outcomes}
use Rattle.mg_answer.specs.declared.run.Reporting.{Reporting}

-- a fault of a core's node, by the plan's number of the node
abbrev pub renumbered_fault : List ℕ → NodeFault → NodeFault
renumbered_fault nodes fault = record fault { node = slice_index_or nodes fault.node 0 }

-- the first of some numbers, and 0 if there is none
abbrev pub first_of : List ℕ → ℕ
first_of [] = 0
first_of (n ∷ ns) = n

-- For each node of a plan, how many sets it was shown in the core. For a free node, it is how many packets arrived there. `sets` has the
-- numbers of the core's nodes and `arrivals` those of the free nodes, each in the order of the plan.
abbrev pub sets_by : List PlanNode → List ℕ → List ℕ → List ℕ
sets_by [] sets arrivals = []
sets_by (node ∷ nodes) sets arrivals = elim (is_free node) [ true ↦ first_of arrivals ∷ sets_by nodes sets (drop 1 arrivals) | false ↦ first_of sets ∷ sets_by nodes (drop 1 sets) arrivals ]

-- the lines of the arrivals at a free node
abbrev pub lines_at : FreeNode × Taken → List ℕ
lines_at e = flat_map (λ a. arrival_note e.0.node a.port a.packet.at) e.1.log

-- the lines of the arrivals at all free nodes, node by node
abbrev pub arrivals_text : List FreeNode → List Taken → List ℕ
arrivals_text frees takens = flat_map lines_at (zip frees takens)

-- The outcomes of a plan with free nodes, by a solution of its core and by what the free nodes have taken. If the arrivals are asked for,
-- the outcomes have their lines.
pub record LiveTells (report : Reporting) (whole : Plan) (job : Job) (streams : List (StreamPrefix Plain)) (frees : List FreeNode) (takens : List Taken) (outcomes : Outcomes) : Type 0 where
  pub faults : outcomes.faults ≡ map (renumbered_fault (split_of whole).numbers) (faults job streams)
  pub sets : outcomes.sets ≡ sets_by whole.nodes (counts job streams) (map (λ t. length t.log) takens)
  pub ends : outcomes.ends.items ≡ map (λ s. end_of (stream_of streams (stream_number whole s))) (numbers (length whole.streams))
  pub arrivals : outcomes.arrivals.items ≡ asked_arrivals report (arrivals_text frees takens)
