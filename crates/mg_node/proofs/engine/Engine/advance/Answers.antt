use Rattle.std.proofs.Common.{subst, sym}
use Rattle.mg_node.specs.Views.{EngineView}
use Rattle.mg_node.specs.Lawful.{LawfulEngine, of_node}
use Rattle.mg_node.proofs.AdvanceKeeps.{advance_lawful}
use Rattle.mg_node.proofs.Growing.{advance_grows}
use Rattle.mg_node.proofs.KeptOut.{advance_out, advance_set_up}
use Rattle.mg_node.proofs.engine.Engine.advance.Goals as goal

pub returns-clause-out : goal.returns-clause-out
returns-clause-out g c = advance_out c.args.self.now _ c.args.intake.now.waits c.raise_outputs.ensures.advanced

pub returns-clause-set_up : goal.returns-clause-set_up
returns-clause-set_up g c = advance_set_up c.args.self.now _ c.args.intake.now.waits c.raise_outputs.ensures.advanced

pub returns-clause-grows : goal.returns-clause-grows
returns-clause-grows g c = advance_grows c.args.self.now _ c.args.intake.now.waits c.raise_outputs.ensures.advanced

pub returns-clause-lawful : goal.returns-clause-lawful
returns-clause-lawful g c = λ job number engine intake agree.
    subst (λ (v : EngineView). LawfulEngine job (of_node number) v) (sym c.raise_outputs.ensures.advanced) (advance_lawful job number c.args.self.now c.args.intake.now engine intake agree)
