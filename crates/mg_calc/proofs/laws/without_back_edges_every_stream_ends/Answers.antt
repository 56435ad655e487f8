use Rattle.mg_calc.proofs.Counting.{none_failed, none_stalled}
use Rattle.mg_calc.proofs.NoStall.{every_stream_ends}
use Rattle.mg_calc.proofs.laws.without_back_edges_every_stream_ends.Goals as goal

pub returns : goal.returns
returns c = λ job solution is_job is_solution ahead ended good.
    (none_stalled solution).1 (every_stream_ends job solution (record { is_job = is_job; solution = is_solution; ahead = ahead; ended = ended; good = (none_failed job solution).0 good }))
