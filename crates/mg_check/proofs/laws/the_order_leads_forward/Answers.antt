use Rattle.std.proofs.lemmas.List.Elements.{All-from_recursion}
use Rattle.mg_calc.specs.Plan.{StandsBefore}
use Rattle.mg_check.specs.Joining.{links, order}
use Rattle.mg_check.proofs.ValidOrder.{left_out_is, links_forward, order_each_once}
use Rattle.mg_check.proofs.laws.the_order_leads_forward.Goals as goal

pub returns-clause-forward : goal.returns-clause-forward
returns-clause-forward c = λ graph ds. All-from_recursion (λ link. StandsBefore (order graph ds) link.from link.to) (links graph ds) (links_forward graph ds)

pub returns-clause-left : goal.returns-clause-left
returns-clause-left c = λ graph ds. left_out_is graph ds

pub returns-clause-each : goal.returns-clause-each
returns-clause-each c = λ graph ds none. order_each_once graph ds none
