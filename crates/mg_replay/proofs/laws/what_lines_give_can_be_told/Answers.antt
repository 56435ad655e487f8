use Rattle.std.proofs.Common.{[]}
use Rattle.mg_feed.specs.Graph.{inputs_of}
use Rattle.mg_feed.proofs.Recording.{all-recorded}
use Rattle.mg_answer.specs.Answer.{inputs_by}
use Rattle.mg_replay.proofs.JobsTold.{job_is_told, job_has_kinds}
use Rattle.mg_replay.proofs.TraceRead.{job_packets, inputs_back}
use Rattle.mg_replay.proofs.laws.what_lines_give_can_be_told.Goals as goal

pub returns-clause-told : goal.returns-clause-told
returns-clause-told c = λ plan read valid names good. job_is_told plan read valid names (all-recorded (inputs_of plan) [] read.lines good)

pub returns-clause-kinds : goal.returns-clause-kinds
returns-clause-kinds c = λ plan read good. job_has_kinds plan read (all-recorded (inputs_of plan) [] read.lines good)

pub returns-clause-packets : goal.returns-clause-packets
returns-clause-packets c = λ plan read valid names good.
    let recorded = all-recorded (inputs_of plan) [] read.lines good in
    job_packets plan (inputs_by (inputs_of plan) read) (job_is_told plan read valid names recorded) (job_has_kinds plan read recorded)

pub returns-clause-again : goal.returns-clause-again
returns-clause-again c = λ plan read valid names good.
    inputs_back plan (inputs_by (inputs_of plan) read) (job_is_told plan read valid names (all-recorded (inputs_of plan) [] read.lines good))
