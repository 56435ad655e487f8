use Rattle.std.proofs.Common.{subst, arith}
use Rattle.mg_calc.specs.declared.edge.Edge.{Edge}
use Rattle.mg_ready.specs.Ready.{IsIn, ChangesOnly}
use Rattle.mg_node.proofs.Lemmas.{some_same}
use Rattle.mg_sched.proofs.Finding.{valid}
use Rattle.mg_sched.proofs.PlanEdges.{edge_ends}
use Rattle.mg_sched.proofs.Sweeping.{agenda_same}
use Rattle.mg_sched.proofs.net.Net.put_consumer.Goals as goal

pub put_next-requires-clause-place : goal.put_next-requires-clause-place
put_next-requires-clause-place g c = (let upto = (edge_ends c.args.self.now.plan (valid c.args.self.now c.requires.stands) c.args.edge c.edge_at-edge.result c.edge_at-edge.ensures).0 in let long = c.requires.agenda.places in omega (arith, upto, long))

pub put_next-requires-clause-nodes : goal.put_next-requires-clause-nodes
put_next-requires-clause-nodes g c = (let count = c.node_count-nodes.ensures in let long = c.requires.agenda.places in omega (arith, count, long))

pub returns-clause-agenda : goal.returns-clause-agenda
returns-clause-agenda g c = agenda_same c.args.self.now.plan c.args.agenda.now c.put_next.new.agenda c.requires.agenda c.put_next.ensures.leads.0 c.put_next.ensures.leads.1 c.put_next.ensures.leads.2

pub returns-clause-touched : goal.returns-clause-touched
returns-clause-touched g c = λ e at. subst (λ (x : Edge). IsIn c.put_next.new.agenda.touched x.node × ChangesOnly c.args.agenda.now.touched c.put_next.new.agenda.touched x.node) (some_same _ _ e c.edge_at-edge.ensures at) (c.put_next.ensures.touched, c.put_next.ensures.only)
