use Rattle.mg_node.proofs.ClaimsGrow.{claim_grows}
use Rattle.mg_node.proofs.KeptOut.{claim_puts_out, claim_set_up, claim_stays}
use Rattle.mg_node.proofs.laws.claims_put_works_out.Goals as goal

pub returns-clause-out : goal.returns-clause-out
returns-clause-out c = λ laws. claim_puts_out

pub returns-clause-set_up : goal.returns-clause-set_up
returns-clause-set_up c = claim_set_up

pub returns-clause-ports : goal.returns-clause-ports
returns-clause-ports c = claim_stays

pub returns-clause-engine_grows : goal.returns-clause-engine_grows
returns-clause-engine_grows c = λ laws result engine engine_now intake intake_now cell claims. (claim_grows result engine engine_now intake intake_now cell claims).engine_grows

pub returns-clause-intake_grows : goal.returns-clause-intake_grows
returns-clause-intake_grows c = λ laws result engine engine_now intake intake_now cell claims. (claim_grows result engine engine_now intake intake_now cell claims).intake_grows
