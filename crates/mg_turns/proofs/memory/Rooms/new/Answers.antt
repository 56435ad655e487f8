use Rattle.std.proofs.Common.{ap}
use Rattle.mg_turns.specs.Parts.{LayoutView}
use Rattle.mg_turns.proofs.Shares.{few_sources}
use Rattle.mg_turns.proofs.memory.Rooms.new.Goals as goal

pub ways_of-requires : goal.ways_of-requires
ways_of-requires g c = few_sources c.args.layout.now c.layout.inside.plan (ap (λ (f : LayoutView). f.plan) c.layout.view_is) c.requires.ready.edges c.requires.few
