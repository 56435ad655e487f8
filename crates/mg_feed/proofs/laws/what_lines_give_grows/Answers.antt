use Rattle.mg_feed.proofs.Growing.{streams-grow, sides-stay, named-stays}
use Rattle.mg_feed.proofs.laws.what_lines_give_grows.Goals as goal

pub returns-clause-streams : goal.returns-clause-streams
returns-clause-streams c = λ graph lines more ended good. streams-grow graph lines more ended good

pub returns-clause-sides : goal.returns-clause-sides
returns-clause-sides c = λ graph lines more good named. sides-stay graph lines more good named

pub returns-clause-named : goal.returns-clause-named
returns-clause-named c = λ graph lines more named. named-stays graph lines more named
