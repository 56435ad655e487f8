use Rattle.mg_loopback.proofs.Standing.{arrivals_keep}
use Rattle.mg_loopback.proofs.Streams.{first_stay}
use Rattle.mg_loopback.proofs.laws.arrivals_keep_the_answers.Goals as goal

pub returns-clause-stands : goal.returns-clause-stands
returns-clause-stands c = λ k held now main wider loop more h e f at_main at_loop far. arrivals_keep k held now main wider loop more h e f at_main at_loop far

pub returns-clause-answers : goal.returns-clause-answers
returns-clause-answers c = λ k held main wider loop more h e f. first_stay k held main wider loop more h e f
