use Rattle.std.proofs.Common.{◌∙◌}
use Rattle.mg_sched.proofs.Finding.{intake_read_at}
use Rattle.mg_sched.proofs.RestingPlaces.{consumer_there, consumer_fits, ports_counted}
use Rattle.mg_sched.proofs.net.Net.port_count.Goals as goal

pub index-requires : goal.index-requires
index-requires g c = consumer_fits _ c.args.self.now c.args.consumer _ c.self.view_is c.requires.stands c.requires.there c.self.inside.intakes.ok.0

pub returns : goal.returns
returns g c = c.ports.ensures ∙ ports_counted c.args.self.now c.args.consumer c.index.result.now c.requires.stands c.requires.there (intake_read_at _ c.args.self.now c.args.consumer _ c.self.view_is (consumer_there c.args.self.now c.args.consumer c.requires.stands c.requires.there) c.index.ensures)
