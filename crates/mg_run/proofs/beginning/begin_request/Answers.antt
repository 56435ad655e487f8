use Rattle.std.proofs.Common.{List, ℕ, map, ap, refl, sym, subst}
use Rattle.mg_feed.specs.Sent.{Sent}
use Rattle.mg_run.specs.Boxes.{outers_told}
use Rattle.mg_words.specs.Command.{command}
use Rattle.mg_words.specs.Request.{request_view}
use Rattle.mg_words.specs.Words.{Request}
use Rattle.mg_run.specs.Call.{CallEnded, Called}
use Rattle.mg_run.specs.Invocation.{invocation}
use Rattle.mg_run.specs.Devices.{device, with_run, told_by}
use Rattle.mg_run.proofs.Begins.{begun_then}
use Rattle.mg_run.proofs.Coming.{usage-came}
use Rattle.mg_run.proofs.beginning.begin_request.Goals as goal

pub returns-in-Usage-clause-begun : goal.returns-in-Usage-clause-begun
returns-in-Usage-clause-begun g c = usage-came g.C.NodeCalculator.laws (outers_told (map g.C.NodeCalculator.told c.args.boxes.now.items)) (request_view c.args.request) _ c.put_all.result (ap request_view c.in-Usage.is)
    (subst (λ (text : List ℕ). Sent c.put_all.result (g.E.Sink.told c.args.devices.now.notes.now) (g.E.Sink.told c.put_all.new.sink) text) c.usage_text.ensures c.put_all.ensures)
    refl refl refl refl

pub returns-in-Command-clause-begun : goal.returns-in-Command-clause-begun
returns-in-Command-clause-begun g c =
    let outers = outers_told (map g.C.NodeCalculator.told c.args.boxes.now.items) in
    let store = device (g.T.Store.told c.args.store.now) (g.T.Store.told c.begin_command.new.store) in
    begun_then g.C.NodeCalculator.laws outers (λ status all. Called g.C.NodeCalculator.laws (invocation (command c.in-Command.instruction c.deref.result.now) outers) all status) (CallEnded g.C.NodeCalculator.laws outers (request_view c.args.request)) c.begin_command.result store
    (told_by g.S.Source.told g.K.Sink.told g.E.Sink.told c.args.devices.now c.begin_command.new.devices) (map g.C.NodeCalculator.told c.args.boxes.now.items) (λ status later now h.
    subst (λ (request : Request). CallEnded g.C.NodeCalculator.laws outers request status (with_run store later now)) (sym (ap request_view c.in-Command.is))
    (subst (λ (files : List (List ℕ)). Called g.C.NodeCalculator.laws (invocation (command c.in-Command.instruction files) outers) (with_run store later now) status) c.deref.ensures.value h)) c.begin_command.ensures.begun
