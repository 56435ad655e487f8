-- The text of a recorded run: the lines of its job, a line for each event that it made, in order, and a last line.
use Rattle.std.specs.Prelude.{ℕ, List, ◌++◌, flat_map, codes}
use Rattle.mg_calc.specs.declared.event.Event.{Event}
use Rattle.mg_calc.specs.declared.inputs.Inputs.{Inputs}
use Rattle.mg_calc.specs.declared.plan.Plan.{Plan}
use Rattle.mg_trace.specs.Event.{event_text}
use Rattle.mg_trace.specs.Job.{job_text}

-- the lines of events, in their order
abbrev pub events_text : List Event → List ℕ
events_text events = flat_map event_text events

-- the text of a recorded run
abbrev pub trace_text : Plan → Inputs → List Event → List ℕ
trace_text plan inputs events = job_text plan inputs ++ (events_text events ++ codes "end\n")
