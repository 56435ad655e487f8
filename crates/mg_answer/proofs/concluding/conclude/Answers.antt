use Rattle.std.proofs.Common.{not, ap, ◌∙◌}
use Rattle.mg_answer.specs.Report.{open_numbers}
use Rattle.mg_answer.proofs.Answering.{wrote-told, wrote-so}
use Rattle.mg_answer.proofs.Telling.{open-there}
use Rattle.mg_answer.proofs.concluding.conclude.Goals as goal

pub tell-requires-clause-numbers : goal.tell-requires-clause-numbers
tell-requires-clause-numbers g c = open-there c.deref.result.now c.args.outcomes.now.ends.items (c.deref.ensures.value ∙ c.in_ok-stalled.ensures ∙ ap open_numbers c.as_slice.ensures.value)

pub returns-clause-wrote : goal.returns-clause-wrote
returns-clause-wrote g c =
    wrote-told c.args.run.now.plan.now c.args.end c.args.outcomes.now c.deref.result.now c.args.run.now.report c.args.text c.flush.new.self c.in_ok-told.told.status c.unless_failed.result (not c.has_failed.result) c.put_all-noted.result
    c.deref-2.result.now c.in_ok-told.told.notes.items (g.K.Sink.told c.args.output.now) (g.K.Sink.told c.flush.new.output) (g.E.Sink.told c.args.notes.now) (g.E.Sink.told c.put_all-noted.new.sink)
    c.flush.ensures.put c.flush.ensures.kept (ap not c.has_failed.ensures) (c.deref.ensures.value ∙ c.in_ok-stalled.ensures ∙ ap open_numbers c.as_slice.ensures.value) c.in_ok-told.ensures.status c.in_ok-told.ensures.notes c.deref-2.ensures.value c.put_all-noted.ensures c.unless_failed.ensures

pub returns-clause-told : goal.returns-clause-told
returns-clause-told g c =
    wrote-so c.args.run.now.plan.now c.args.end c.args.outcomes.now c.deref.result.now c.args.run.now.report c.args.text c.flush.new.self c.in_ok-told.told.status c.unless_failed.result (not c.has_failed.result) c.put_all-noted.result
    c.deref-2.result.now c.in_ok-told.told.notes.items (g.K.Sink.told c.args.output.now) (g.K.Sink.told c.flush.new.output) (g.E.Sink.told c.args.notes.now) (g.E.Sink.told c.put_all-noted.new.sink)
    c.flush.ensures.put c.flush.ensures.kept (ap not c.has_failed.ensures) (c.deref.ensures.value ∙ c.in_ok-stalled.ensures ∙ ap open_numbers c.as_slice.ensures.value) c.in_ok-told.ensures.status c.in_ok-told.ensures.notes c.deref-2.ensures.value c.put_all-noted.ensures c.unless_failed.ensures
