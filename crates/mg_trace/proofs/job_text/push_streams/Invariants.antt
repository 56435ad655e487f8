use Rattle.std.proofs.Common.{◌≡◌, ◌++◌, drop}
use Rattle.mg_trace.specs.Job.{all_stream_lines}
use Rattle.mg_trace.specs.Code.{data_text}
use Rattle.mg_trace.proofs.job_text.push_streams.Given as goal

-- the lines so far stand before those of the streams that are left
abbrev pub invariant-loop-place : goal.invariant-loop-place
invariant-loop-place l =
    l.fn.text.items ++ data_text (all_stream_lines l.ended l.names l.streams)
    ≡ l.text.items ++ data_text (all_stream_lines l.ended (drop l.place l.names) (drop l.place l.streams))
