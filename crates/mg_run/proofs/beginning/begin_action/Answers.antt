use Rattle.std.proofs.Common.{List, ℕ, refl, subst}
use Rattle.mg_run.specs.Code.Action.{action_view, CanBeDone, use_action}
use Rattle.mg_run.specs.declared.action.Action.{Action}
use Rattle.mg_run.specs.Call.{Written, IsDue, graph_used}
use Rattle.mg_run.specs.Devices.{device, devices, TookNotes}
use Rattle.mg_run.proofs.Calling.{called-refused, called-shown}
use Rattle.mg_run.proofs.beginning.begin_action.Goals as goal

pub returns-in-Refuse-clause-begun : goal.returns-in-Refuse-clause-begun
returns-in-Refuse-clause-begun g c = λ laws invocation store boxes due can lawful.
    called-refused laws invocation c.in-Refuse.note.items c.refused.result
    (devices store (device (g.S.Source.told c.args.devices.now.input.now) (g.S.Source.told c.args.devices.now.input.now)) (device (g.K.Sink.told c.args.devices.now.output.now) (g.K.Sink.told c.args.devices.now.output.now)) (device (g.E.Sink.told c.args.devices.now.notes.now) (g.E.Sink.told c.refused.new.notes)) (device boxes boxes))
    c.refused.ensures.status (subst (λ (action : Action). IsDue invocation store (action_view action)) c.in-Refuse.is due)
    (subst (λ (note : List ℕ). TookNotes (device (g.E.Sink.told c.args.devices.now.notes.now) (g.E.Sink.told c.refused.new.notes)) note) c.deref.ensures.value c.refused.ensures.noted)
    (record { unread = refl; unwritten = refl; uncalled = refl })

pub returns-in-Show-clause-begun : goal.returns-in-Show-clause-begun
returns-in-Show-clause-begun g c = λ laws invocation store boxes due can lawful.
    let all = devices store (device (g.S.Source.told c.args.devices.now.input.now) (g.S.Source.told c.args.devices.now.input.now)) (device (g.K.Sink.told c.args.devices.now.output.now) (g.K.Sink.told c.told.new.output)) (device (g.E.Sink.told c.args.devices.now.notes.now) (g.E.Sink.told c.told.new.notes)) (device boxes boxes) in
    called-shown laws invocation c.in-Show.text.items c.told.result all (subst (λ (action : Action). IsDue invocation store (action_view action)) c.in-Show.is due)
    (subst (λ (text : List ℕ). Written text c.told.result all) c.deref-in-Show.ensures.value c.told.ensures) refl refl

pub returns-in-Graph-clause-begun : goal.returns-in-Graph-clause-begun
returns-in-Graph-clause-begun g c = λ laws invocation store boxes due can lawful. record {
  can = subst (λ (action : Action). CanBeDone invocation.outers (action_view action)) c.in-Graph.is can;
  lawful = lawful;
  unread = refl;
  unwritten = refl;
  unnoted = refl;
  comes = λ status later now graph. graph_used (use_action c.in-Graph.used c.in-Graph.report c.in-Graph.plan) (subst (λ (action : Action). IsDue invocation store (action_view action)) c.in-Graph.is due) graph;
}
