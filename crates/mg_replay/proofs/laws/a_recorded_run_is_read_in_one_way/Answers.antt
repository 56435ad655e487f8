use Rattle.mg_replay.proofs.OneReading.{lines_come_to_one, was_read_one, trace_answer_one}
use Rattle.mg_replay.proofs.laws.a_recorded_run_is_read_in_one_way.Goals as goal

pub returns-clause-lines : goal.returns-clause-lines
returns-clause-lines c = λ laws plan boxes lines job other end twin h k. (let one = lines_come_to_one laws plan boxes lines job other end twin h k in (one.jobs, one.ends))

pub returns-clause-bytes : goal.returns-clause-bytes
returns-clause-bytes c = λ laws plan boxes input twin_input job other end twin bytes h k left left_too unrisen unrisen_too.
    (let one = was_read_one plan boxes input twin_input job other end twin bytes h k left left_too unrisen unrisen_too in (one.jobs, one.ends))

pub returns-clause-answer : goal.returns-clause-answer
returns-clause-answer c = trace_answer_one
