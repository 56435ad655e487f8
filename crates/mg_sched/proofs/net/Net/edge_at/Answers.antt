use Rattle.mg_sched.proofs.Finding.{edge_read}
use Rattle.mg_sched.proofs.net.Net.edge_at.Goals as goal

pub returns : goal.returns
returns g c = edge_read _ c.args.self.now c.args.number _ c.self.view_is c.requires c.as_slice.ensures
