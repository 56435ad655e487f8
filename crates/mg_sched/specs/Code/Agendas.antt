-- What contracts see of an agenda, and how it is kept.
use Rattle.std.specs.Prelude.{◌≡◌, ℕ, ◌+◌, ◌^◌, ◌<◌, ◌≤◌, ◌++◌, List, length, count_by, Option, Some, None, slice_get, slice_index_or}
use Rattle.std.specs.List.{range_with_len}
use Rattle.mg_calc.specs.declared.edge.Edge.{Edge}
use Rattle.mg_calc.specs.declared.plan.Plan.{Plan}
use Rattle.mg_calc.specs.Plan.{HasEachOnce}
use Rattle.mg_ready.specs.Ready.{ReadyNodes}
use Rattle.mg_sched.specs.Places.{source_of}

pub record AgendaView : Type 0 where
  -- the places that are to be visited, and the feeders that were found throttled
  pub ready : ReadyNodes
  pub held : ReadyNodes
  -- the places whose parts may have changed since the net was at rest
  pub touched : ReadyNodes
  -- for each place the edge from which sending goes on, and the first edge from it. For each edge the next edge from the same place
  pub heads : List (Option ℕ)
  pub starts : List (Option ℕ)
  pub links : List (Option ℕ)

-- how many places are to be visited
abbrev pub waiting_in : AgendaView → ℕ
waiting_in agenda = count_by (λ b. b) agenda.ready.is_in

-- how many places are touched
abbrev pub touched_in : AgendaView → ℕ
touched_in agenda = count_by (λ b. b) agenda.touched.is_in

-- the places by priority, the highest last: those of the graph inputs, and after them those of the nodes in the plan's order
abbrev pub priorities : Plan → List ℕ
priorities plan = range_with_len (length plan.nodes) (length plan.inputs) ++ plan.order

-- the first edge of each place, and for each edge the next one. A first edge has a number from `low` on and below `count`. A next edge has
-- a greater number than the edge before it, and one below `count`
pub record LeadOn (low count : ℕ) (heads links : List (Option ℕ)) : Type 0 where
  pub first : (place edge : ℕ) → slice_index_or heads place None ≡ Some edge → (low ≤ edge) × (edge < count)
  pub next : (edge later : ℕ) → slice_index_or links edge None ≡ Some later → (edge < later) × (later < count)

-- an edge leads from a place
abbrev pub LeadsFrom : Plan → ℕ → ℕ → Type 0
LeadsFrom plan place edge = (e : Edge) × (slice_get plan.edges edge ≡ Some e) × (source_of plan e ≡ Some place)

-- the first edge that leads from a place, of those with numbers from `low` on, if there is one
abbrev pub IsFirstFrom : Plan → ℕ → ℕ → Option ℕ → Type 0
IsFirstFrom plan low place None = (edge : ℕ) → low ≤ edge → ¬ LeadsFrom plan place edge
IsFirstFrom plan low place (Some edge) = (low ≤ edge) × LeadsFrom plan place edge × ((other : ℕ) → low ≤ other → other < edge → ¬ LeadsFrom plan place other)

-- the edges with numbers from `low` on, by the places from which they lead. There is the first of them from each place, and for each edge
-- the next one from the same place
pub record AreLeads (plan : Plan) (low : ℕ) (heads links : List (Option ℕ)) : Type 0 where
  pub first : (place : ℕ) → place < length heads → IsFirstFrom plan low place (slice_index_or heads place None)
  pub next : (place edge : ℕ) → low ≤ edge → LeadsFrom plan place edge → IsFirstFrom plan (edge + 1) place (slice_index_or links edge None)

-- an agenda is for a plan's nets: it has the edges by the places from which they lead
pub record IsAgendaOf (plan : Plan) (agenda : AgendaView) : Type 0 where
  pub places : length agenda.heads ≡ length plan.nodes + length plan.inputs
  pub edges : length agenda.links ≡ length plan.edges
  pub start_count : length agenda.starts ≡ length agenda.heads
  pub leads : AreLeads plan 0 agenda.starts agenda.links

-- the sets of an agenda are of all places. The set of the touched places has one place more, for the collector of a graph without inputs.
-- The edges of a place rise
pub record IsAgenda (places edges : ℕ) (ready held touched : List ℕ) (heads starts links : List (Option ℕ)) : Type 0 where
  pub few : places + 1 < 2 ^ 32
  pub ready_order : HasEachOnce places ready
  pub held_order : HasEachOnce places held
  pub touched_order : HasEachOnce (places + 1) touched
  pub edges_lead : LeadOn 0 edges heads links
  pub starts_lead : LeadOn 0 edges starts links
  pub start_count : length starts ≡ places
