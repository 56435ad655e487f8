use Rattle.mg_node.proofs.EngineFronts.{out_place}
use Rattle.mg_node.proofs.engine.Engine.put_committed.Goals as goal

pub put_committed-requires : goal.put_committed-requires
put_committed-requires g c = out_place c.args.self.now _ c.args.outcome.work c.number.result c.self.view_is c.requires c.number.ensures
