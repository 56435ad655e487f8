use Rattle.std.proofs.Common.{◌≡◌, ◌++◌, drop}
use Rattle.mg_trace.specs.Job.{side_lines}
use Rattle.mg_trace.specs.Code.{data_text}
use Rattle.mg_trace.proofs.job_text.push_sides.Given as goal

-- the lines so far stand before those of the side packets that are left
abbrev pub invariant-loop-side : goal.invariant-loop-side
invariant-loop-side l =
    l.fn.text.items ++ data_text (side_lines l.given l.side-items) ≡ l.text.items ++ data_text (side_lines l.given (drop l.side-index l.side-items))
