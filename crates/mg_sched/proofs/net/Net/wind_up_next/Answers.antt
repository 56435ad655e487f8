use Rattle.mg_sched.proofs.WoundNets.{next_of}
use Rattle.mg_sched.proofs.net.Net.wind_up_next.Goals as goal

pub returns-clause-next : goal.returns-clause-next
returns-clause-next g c = next_of _ c.args.self.now c.index_mut.result.now c.wind_up.new.self c.self.view_is c.requires.may c.requires.there c.index_mut.ensures.value c.in_ok-wind_up.ensures.wound_up
