use Rattle.mg_feed.proofs.Moving.{gave-then, met-then, spends-then, unfailed-then, failed-by}
use Rattle.mg_feed.proofs.laws.batches_go_on.Goals as goal

pub returns-clause-gave : goal.returns-clause-gave
returns-clause-gave c = λ first before now came more one two. gave-then first before now came more one two

pub returns-clause-met : goal.returns-clause-met
returns-clause-met c = λ a b d first before now came gave one two. met-then a b d first before now came gave one two

pub returns-clause-reads : goal.returns-clause-reads
returns-clause-reads c = λ a b d first before now was between reads one two. spends-then a b d first before now was between reads one two

pub returns-clause-unfailed : goal.returns-clause-unfailed
returns-clause-unfailed c = λ first before now one two. unfailed-then first before now one two

pub returns-clause-failed : goal.returns-clause-failed
returns-clause-failed c = λ end first before now came gave one two. failed-by end first before now came gave one two
