use Rattle.std.proofs.Common.{refl}
use Rattle.mg_edge.proofs.Counts.{rises-after}
use Rattle.mg_edge.proofs.laws.a_step_is_a_rise.Goals as goal

pub returns : goal.returns
returns c = λ before now one. rises-after before before now refl one
