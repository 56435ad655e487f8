use Rattle.mg_settled.proofs.Extending.{extended_by_itself}
use Rattle.mg_settled.proofs.LoopbackStream.{replies-most, replies-stay, loopback-same}
use Rattle.mg_settled.proofs.laws.replies_stay.Goals as goal

pub returns-clause-most : goal.returns-clause-most
returns-clause-most c = λ main loop. replies-most main loop

pub returns-clause-stay : goal.returns-clause-stay
returns-clause-stay c = λ main wider loop more e f. replies-stay main wider loop more e f

pub returns-clause-same : goal.returns-clause-same
returns-clause-same c = λ main loop more e same. loopback-same main loop more e (extended_by_itself main) same
