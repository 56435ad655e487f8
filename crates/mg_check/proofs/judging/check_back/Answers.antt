use Rattle.std.proofs.Common.{sym, Some, None}
use Rattle.mg_check.proofs.Refused.{misplaced_is}
use Rattle.mg_check.proofs.judging.check_back.Goals as goal

pub returns-in-Some-clause-err : goal.returns-in-Some-clause-err
returns-in-Some-clause-err c = sym (misplaced_is c.args.drafts.now (Some c.in-Some.node) c.in-Some.ensures.found)

pub returns-in-None-clause-ok : goal.returns-in-None-clause-ok
returns-in-None-clause-ok c = sym (misplaced_is c.args.drafts.now None c.in-None.ensures.found)
