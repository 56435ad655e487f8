use Rattle.std.proofs.Common.{◌≡◌, subst}
use Rattle.mg_node.proofs.Horizons.{horizon_sets}
use Rattle.mg_node.specs.Ports.{horizon_of}
use Rattle.mg_node.specs.Views.{IntakeView}
use Rattle.mg_node.proofs.intake.Intake.horizon.Goals as goal

pub returns-in-Sets : goal.returns-in-Sets
returns-in-Sets c = subst (λ (view : IntakeView). c.horizon.result ≡ horizon_of view.waits) c.self.view_is (rw c.in-Sets.is (horizon_sets c.in-Sets.inbox c.horizon.result c.horizon.ensures))
