use Rattle.mg_sched.proofs.Becoming.{becomes_runs, becomes_stands, becomes_taken}
use Rattle.mg_sched.proofs.WeightOf.{claims_within}
use Rattle.mg_sched.proofs.net.Net.sweep.Goals as goal

pub returns-clause-running : goal.returns-clause-running
returns-clause-running g c = becomes_runs c.args.self.now c.come_to_rest.new.self c.requires.running c.come_to_rest.ensures.becomes

pub returns-clause-stands : goal.returns-clause-stands
returns-clause-stands g c = λ job stands. becomes_stands job c.args.self.now c.come_to_rest.new.self c.requires.running stands c.come_to_rest.ensures.becomes

pub returns-clause-taken : goal.returns-clause-taken
returns-clause-taken g c = becomes_taken c.args.self.now c.come_to_rest.new.self c.come_to_rest.ensures.becomes

pub returns-clause-weight : goal.returns-clause-weight
returns-clause-weight g c = λ job solution stands solves.
    claims_within job c.come_to_rest.new.self solution (becomes_stands job c.args.self.now c.come_to_rest.new.self c.requires.running stands c.come_to_rest.ensures.becomes)
    (becomes_runs c.args.self.now c.come_to_rest.new.self c.requires.running c.come_to_rest.ensures.becomes) solves
