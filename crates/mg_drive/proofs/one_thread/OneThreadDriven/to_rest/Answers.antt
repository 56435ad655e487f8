use Rattle.mg_drive.proofs.Moving.{heard_notes, all_noted}
use Rattle.mg_drive.proofs.one_thread.OneThreadDriven.to_rest.Goals as goal

pub returns-then-moved-clause-moved : goal.returns-then-moved-clause-moved
returns-then-moved-clause-moved g c = all_noted c.args.moved.now c.args.moved.now c.args.self.now.net c.sweep.new.self.net c.if-moved.true c.in_ok-sweep.ensures.keeps.plan

pub returns-clause-moved : goal.returns-clause-moved
returns-clause-moved g c = heard_notes c.args.moved.now c.sweep-2.new.hearer c.args.self.now.net c.sweep-2.new.self.net c.in_ok-sweep-2.ensures.heard
