use Rattle.mg_node.proofs.ClaimsLeave.{answer_stays}
use Rattle.mg_node.proofs.laws.what_is_answered_stays_counted.Goals as goal

pub returns : goal.returns
returns c = λ engine engine_now intake intake_now port takes. answer_stays engine engine_now intake intake_now takes port
