use Rattle.std.proofs.Common.{ap, sym, ◌∙◌}
use Rattle.mg_node.specs.Views.{EngineView}
use Rattle.mg_node.proofs.Claimable.{cell_never_input}
use Rattle.mg_node.proofs.engine.Engine.claim_next.Goals as goal

pub unreachable-requires : goal.unreachable-requires
unreachable-requires g c = cell_never_input _ _ c.requires.cell (sym (ap (λ (v : EngineView). v.role) c.self.view_is) ∙ c.in-Input.is)
