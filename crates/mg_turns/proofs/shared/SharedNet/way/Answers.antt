use Rattle.std.proofs.Common.{rules}
use Rattle.mg_turns.specs.Calls.{key_of}
use Rattle.mg_turns.proofs.Ways.{way_there}
use Rattle.mg_turns.proofs.shared.SharedNet.way.Goals as goal

pub returns-clause-source : goal.returns-clause-source
returns-clause-source g c = (let plan = (key_of c.args.self.now).plan in (way_there plan plan.edges c.args.self.now.ways.items c.args.number c.in-Some.way.now c.args.self.now.led (search rules)).1)
