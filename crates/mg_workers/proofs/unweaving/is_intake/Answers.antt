use Rattle.mg_workers.proofs.Weaves.{word_of_intake, word_of_engine, word_of_input}
use Rattle.mg_workers.proofs.unweaving.is_intake.Goals as goal

pub returns-then-word-nodes-clause-yes : goal.returns-then-word-nodes-clause-yes
returns-then-word-nodes-clause-yes c = word_of_intake c.args.nodes c.args.word c.if-word-nodes.true

pub returns-then-word-nodes-clause-no : goal.returns-then-word-nodes-clause-no
returns-then-word-nodes-clause-no c = word_of_engine c.args.nodes c.args.word c.if-word-nodes.true

pub returns-else-word-nodes-clause-no : goal.returns-else-word-nodes-clause-no
returns-else-word-nodes-clause-no c = λ _. word_of_input c.args.nodes c.args.word c.if-word-nodes.false
