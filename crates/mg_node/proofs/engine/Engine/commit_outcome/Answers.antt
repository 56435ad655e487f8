use Rattle.std.proofs.Common.{◌∙◌}
use Rattle.mg_node.proofs.EngineFronts.{committed_whole, committed_few, committed_there, commits_by, taken_back, back_again}
use Rattle.mg_node.proofs.engine.Engine.commit_outcome.Goals as goal

pub lay_front-requires-clause-whole : goal.lay_front-requires-clause-whole
lay_front-requires-clause-whole g c = committed_whole c.args.self.now c.put_committed.new.self c.args.outcome c.put_committed.ensures.put c.requires.lawful

pub lay_front-requires-clause-few : goal.lay_front-requires-clause-few
lay_front-requires-clause-few g c = committed_few c.args.self.now c.put_committed.new.self c.args.outcome c.put_committed.ensures.put c.requires.lawful c.requires.out c.put_committed.ensures.few

pub take_back-requires-clause-there : goal.take_back-requires-clause-there
take_back-requires-clause-there g c = committed_there c.args.self.now c.lay_front.new.self c.args.outcome c.number-number.result (c.in-Err.ensures.unchanged ∙ c.put_committed.ensures.put) c.requires.out c.number-number.ensures

pub returns-in-Err-clause-returned : goal.returns-in-Err-clause-returned
returns-in-Err-clause-returned g c =
    taken_back c.args.self.now c.lay_front.new.self c.args.outcome c.take_back.result c.number-number.result (c.in-Err.ensures.unchanged ∙ c.put_committed.ensures.put) c.requires.out c.number-number.ensures c.take_back.ensures.outcome

pub returns-in-Err-clause-unchanged : goal.returns-in-Err-clause-unchanged
returns-in-Err-clause-unchanged g c =
    back_again c.args.self.now c.lay_front.new.self c.take_back.new.self c.args.outcome c.number-number.result c.phase-phase.result (c.in-Err.ensures.unchanged ∙ c.put_committed.ensures.put) c.requires.lawful c.requires.out c.number-number.ensures c.phase-phase.ensures
    c.take_back.ensures.left

pub returns-in-Ok-clause-commits : goal.returns-in-Ok-clause-commits
returns-in-Ok-clause-commits g c = commits_by c.args.self.now c.put_committed.new.self c.lay_front.new.self c.args.outcome c.in-Ok.laid c.put_committed.ensures.put c.requires.lawful c.in-Ok.ensures.laid
