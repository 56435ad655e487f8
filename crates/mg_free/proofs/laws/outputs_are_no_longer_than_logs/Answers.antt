use Rattle.std.proofs.Common.{arith}
use Rattle.mg_free.specs.Free.{begun}
use Rattle.mg_free.proofs.Counting.{first_come_count, limiter_count, limiter_flight, lawful_count}
use Rattle.mg_free.proofs.laws.outputs_are_no_longer_than_logs.Goals as goal

pub returns-clause-first_come : goal.returns-clause-first_come
returns-clause-first_come c = λ lanes log. (let most = first_come_count lanes begun log in omega (arith, most))

pub returns-clause-limiter : goal.returns-clause-limiter
returns-clause-limiter c = λ most log. (let many = limiter_count most begun log in omega (arith, many))

pub returns-clause-in_flight : goal.returns-clause-in_flight
returns-clause-in_flight c = λ most log. limiter_flight most begun log (omega arith)

pub returns-clause-inputs : goal.returns-clause-inputs
returns-clause-inputs c = lawful_count
