use Rattle.std.proofs.Common.{sym, ap, subst, ◌∙◌}
use Rattle.mg_node.specs.Code.QueueLaying.{all_appended, MayAllCome}
use Rattle.mg_node.proofs.laying.append_all.Goals as goal

pub append-requires-clause-may_come : goal.append-requires-clause-may_come
append-requires-clause-may_come c = (subst (MayAllCome c.args.output.now) c.in-Ok.ensures.one c.requires).0

pub append-requires-clause-room : goal.append-requires-clause-room
append-requires-clause-room c = (subst (MayAllCome c.args.output.now) c.in-Ok.ensures.one c.requires).1

pub append_each-requires : goal.append_each-requires
append_each-requires c = subst (MayAllCome c.args.output.now) c.in-Err.ensures.many c.requires

pub returns-in-Ok : goal.returns-in-Ok
returns-in-Ok c = c.append.ensures ∙ ap (all_appended c.args.output.now) (sym c.in-Ok.ensures.one)

pub returns-in-Err : goal.returns-in-Err
returns-in-Err c = c.append_each.ensures ∙ ap (all_appended c.args.output.now) (sym c.in-Err.ensures.many)
