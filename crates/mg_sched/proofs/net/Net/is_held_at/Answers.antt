use Rattle.std.proofs.Common.{subst}
use Rattle.mg_calc.specs.declared.edge.Edge.{Edge}
use Rattle.mg_node.proofs.Lemmas.{some_same}
use Rattle.mg_sched.specs.Acts.{IsHeld}
use Rattle.mg_sched.proofs.Finding.{valid, edge_read}
use Rattle.mg_sched.proofs.PlanEdges.{edge_stream}
use Rattle.mg_sched.proofs.net.Net.is_held_at.Goals as goal

pub is_held-requires-clause-stream : goal.is_held-requires-clause-stream
is_held-requires-clause-stream g c =
    edge_stream c.args.self.now.plan (valid c.args.self.now c.requires.stands) c.args.edge _ (edge_read _ c.args.self.now c.args.edge _ c.self.view_is c.requires.there c.as_slice.ensures)

pub returns-clause-held : goal.returns-clause-held
returns-clause-held g c = λ e at is.
    subst (λ (x : Edge). IsHeld c.args.self.now x) (some_same _ _ e (edge_read _ c.args.self.now c.args.edge _ c.self.view_is c.requires.there c.as_slice.ensures) at) (c.is_held.ensures.held is)

pub returns-clause-not_held : goal.returns-clause-not_held
returns-clause-not_held g c = λ e at is.
    subst (λ (x : Edge). ¬ IsHeld c.args.self.now x) (some_same _ _ e (edge_read _ c.args.self.now c.args.edge _ c.self.view_is c.requires.there c.as_slice.ensures) at) (c.is_held.ensures.not_held is)
