use Rattle.mg_route.specs.HolderView.{told_by}
use Rattle.mg_sched.proofs.GivenBack.{handed_by}
use Rattle.mg_sched.proofs.work_queue.handed_of.Goals as goal

pub returns : goal.returns
returns g c = handed_by g.C.NodeCalculator.told c.into_calculator.result c.args.work.context.told.handed (told_by c.args.work.context.told) c.into_calculator.ensures.there c.into_calculator.ensures.told
