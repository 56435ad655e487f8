use Rattle.mg_answer.proofs.Writing.{nothing-put, put-front}
use Rattle.mg_answer.proofs.laws.what_is_put_is_taken_in_front.Goals as goal

pub returns-clause-nothing : goal.returns-clause-nothing
returns-clause-nothing c = λ first names. nothing-put first names

pub returns-clause-front : goal.returns-clause-front
returns-clause-front c = λ first now view text put. put-front view.failed first now view.kept text put
