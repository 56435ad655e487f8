-- The report: how far each node and each stream has come.
use Rattle.std.specs.Prelude.{ℕ, ◌==◌, not, List, [], ◌++◌, map, filter, codes, decimal, if◌then◌else◌}
use Rattle.std.specs.List.{flat_map}
use Rattle.mg_time.specs.Time.{done}
use Rattle.mg_time.specs.Text.{time_text}
use Rattle.mg_value.specs.Payload.{Plain}
use Rattle.mg_settled.specs.Prefix.{StreamPrefix}
use Rattle.mg_settled.specs.Ends.{end_of}
use Rattle.mg_settled.specs.declared.stream_end.StreamEnd.{StreamEnd}
use Rattle.mg_calc.specs.declared.plan.Plan.{Plan}
use Rattle.mg_calc.specs.Equations.{Job}
use Rattle.mg_calc.specs.Meaning.{numbered, counts}
use Rattle.mg_answer.specs.Shown.{escaped}
use Rattle.mg_answer.specs.Text.{name_of}
use Rattle.mg_answer.specs.Notes.{label_of}
use Rattle.mg_answer.specs.declared.run.Reporting.{Reporting}

-- the numbers of the streams that haven't ended; the list says how far each stream has come
abbrev pub open_numbers : List StreamEnd → List ℕ
open_numbers ends = map (λ entry. entry.0) (filter (λ entry. not (entry.1.bound == done)) (numbered ends))

-- the bounds of streams, by how far each has come
abbrev pub end_bounds : List StreamEnd → List ℕ
end_bounds ends = map (λ e. e.bound) ends

-- the line of a node: its number, its label and a count. The count says how many sets the node was shown. For a source it says how
-- often it was called, and for a loopback how many packets it answered. For a free node it says how many packets arrived
abbrev pub node_line : Plan → ℕ × ℕ → List ℕ
node_line plan entry = codes "node " ++ decimal entry.0 ++ codes " " ++ escaped (label_of plan entry.0) ++ codes " sets=" ++ decimal entry.1 ++ codes "\n"

-- the line of a stream: its name, how many packets it has, and its bound
abbrev pub stream_line : Plan → ℕ × StreamEnd → List ℕ
stream_line plan entry =
    codes "stream " ++ escaped (name_of plan entry.0) ++ codes " packets=" ++ decimal entry.1.packets ++ codes " bound=" ++ time_text entry.1.bound ++ codes "\n"

-- the report: a line for each node, in node order, and then one for each stream, in stream order
abbrev pub report_by : Plan → List ℕ → List StreamEnd → List ℕ
report_by plan sets ends = flat_map (node_line plan) (numbered sets) ++ flat_map (stream_line plan) (numbered ends)

-- the report that the streams of a job make
abbrev pub report_of : Job → List (StreamPrefix Plain) → List ℕ
report_of job streams = report_by job.plan (counts job streams) (map end_of streams)

-- the report if it is asked for, and else nothing
abbrev pub asked_report : Reporting → List ℕ → List ℕ
asked_report asked report = if asked.counts then report else []

-- the lines of arrivals if they are asked for, and else nothing
abbrev pub asked_arrivals : Reporting → List ℕ → List ℕ
asked_arrivals asked lines = if asked.arrivals then lines else []
