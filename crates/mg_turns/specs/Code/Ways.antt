-- The edges of a plan as they are found at run time.
use Rattle.mg_calc.specs.declared.edge.Edge.{Edge}
use Rattle.mg_calc.specs.declared.plan.Plan.{Plan}
use Rattle.mg_turns.specs.Parts.{source_at}
use Rattle.mg_turns.specs.declared.way.Way.{Way}

-- an edge with the word of the engine from which it leads
abbrev pub way_of : Plan → Edge → Way
way_of plan e = record { edge = e; source = source_at plan e }
