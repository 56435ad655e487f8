-- The texts of events. An event is a line. It has the event's word, and after it the edge, or the node and the number of the work
-- if there is one. Each number is in decimal without leading zeros, and after a single space.
use Rattle.std.specs.Prelude.{ℕ, ◌<◌, ◌^◌, List, ◌++◌, codes, decimal, length, ⊤}
use Rattle.mg_calc.specs.declared.event.Event.{Event}
use Rattle.mg_calc.specs.declared.event.Event.TheVariants.{Deliver, Advance, Claim, Perform, Commit, Relax}
use Rattle.mg_calc.specs.declared.plan.Plan.{Plan}

-- the line of an event, without its line feed
abbrev pub event_line : Event → List ℕ
event_line (Deliver edge) = codes "deliver " ++ decimal edge
event_line (Advance node) = codes "advance " ++ decimal node
event_line (Claim node) = codes "claim " ++ decimal node
event_line (Perform node number) = codes "perform " ++ (decimal node ++ (codes " " ++ decimal number))
event_line (Commit node number) = codes "commit " ++ (decimal node ++ (codes " " ++ decimal number))
event_line Relax = codes "relax"

-- the line of an event, with its line feed
abbrev pub event_text : Event → List ℕ
event_text event = event_line event ++ codes "\n"

-- an event may be one of a plan: its edge or node is there, and a work's number has 64 bits
abbrev pub IsEventOf : Plan → Event → Type 0
IsEventOf plan (Deliver edge) = edge < length plan.edges
IsEventOf plan (Advance node) = node < length plan.nodes
IsEventOf plan (Claim node) = node < length plan.nodes
IsEventOf plan (Perform node number) = (node < length plan.nodes) × (number < 2 ^ 64)
IsEventOf plan (Commit node number) = (node < length plan.nodes) × (number < 2 ^ 64)
IsEventOf plan Relax = ⊤
