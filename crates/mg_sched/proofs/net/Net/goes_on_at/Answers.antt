use Rattle.mg_sched.specs.Sweeps.{itself}
use Rattle.mg_sched.proofs.RestingFinds.{work_goes_on}
use Rattle.mg_sched.proofs.net.Net.goes_on_at.Goals as goal

pub returns-in-Some-clause-finds : goal.returns-in-Some-clause-finds
returns-in-Some-clause-finds g c = work_goes_on c.args.self.now c.args.node c.in-Some.field-0 c.requires.stands c.requires.there c.in-Some.ensures.some

pub returns-in-Some-clause-becomes : goal.returns-in-Some-clause-becomes
returns-in-Some-clause-becomes g c = itself
