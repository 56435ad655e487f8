use Rattle.mg_node.proofs.CommitKeeps.{result_lawful}
use Rattle.mg_node.proofs.FrontGrows.{commit_grows}
use Rattle.mg_node.proofs.KeptOut.{commit_back, commit_set_up}
use Rattle.mg_node.proofs.engine.Engine.commit.Goals as goal

pub returns-clause-comes_back : goal.returns-clause-comes_back
returns-clause-comes_back g c = commit_back c.args.outcome c.commit_outcome.result c.args.self.now c.commit_outcome.new.self c.requires.out c.requires.lawful c.commit_outcome.ensures.commits

pub returns-clause-set_up : goal.returns-clause-set_up
returns-clause-set_up g c = commit_set_up c.args.outcome c.commit_outcome.result c.args.self.now c.commit_outcome.new.self c.commit_outcome.ensures.commits c.commit_outcome.ensures.unchanged

pub returns-clause-grows : goal.returns-clause-grows
returns-clause-grows g c = commit_grows c.args.outcome c.commit_outcome.result c.args.self.now c.commit_outcome.new.self c.requires.lawful c.commit_outcome.ensures.commits c.commit_outcome.ensures.unchanged

pub returns-clause-lawful : goal.returns-clause-lawful
returns-clause-lawful g c = λ job number engine outcome.
    result_lawful job number c.args.outcome c.commit_outcome.result c.args.self.now c.commit_outcome.new.self c.requires.out engine outcome c.commit_outcome.ensures.commits c.commit_outcome.ensures.unchanged
