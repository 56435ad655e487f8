use Rattle.mg_node.proofs.Cells.{claim_lawful}
use Rattle.mg_node.proofs.ClaimsGrow.{claim_grows}
use Rattle.mg_node.proofs.KeptOut.{claim_puts_out, claim_set_up, claim_stays}
use Rattle.mg_node.proofs.WorksOut.{claim_out}
use Rattle.mg_node.proofs.engine.Engine.claim.Goals as goal

pub returns-clause-out : goal.returns-clause-out
returns-clause-out g c = claim_out c.claim_next.result _ _ _ _ c.requires.cell c.claim_next.ensures

pub returns-clause-puts_out : goal.returns-clause-puts_out
returns-clause-puts_out g c = claim_puts_out c.claim_next.result _ _ _ _ c.requires.cell c.claim_next.ensures

pub returns-clause-set_up : goal.returns-clause-set_up
returns-clause-set_up g c = claim_set_up c.claim_next.result _ _ _ _ c.claim_next.ensures

pub returns-clause-ports : goal.returns-clause-ports
returns-clause-ports g c = claim_stays c.claim_next.result _ _ _ _ c.claim_next.ensures

pub returns-clause-grows : goal.returns-clause-grows
returns-clause-grows g c = (claim_grows c.claim_next.result _ _ _ _ c.requires.cell c.claim_next.ensures).engine_grows

pub returns-clause-intake_grows : goal.returns-clause-intake_grows
returns-clause-intake_grows g c = (claim_grows c.claim_next.result _ _ _ _ c.requires.cell c.claim_next.ensures).intake_grows

pub returns-clause-lawful : goal.returns-clause-lawful
returns-clause-lawful g c = λ job number engine intake agree. claim_lawful job number c.claim_next.result _ _ _ _ engine intake agree c.claim_next.ensures
