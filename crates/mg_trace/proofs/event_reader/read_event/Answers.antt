use Rattle.std.proofs.Common.{[], ◌∷◌, ◌++◌, ap, ◌∙◌}
use Rattle.mg_trace.proofs.Reading.{read-fed, none_is}
use Rattle.mg_trace.proofs.event_reader.read_event.Goals as goal

pub returns-then-last-eq10-clause-none : goal.returns-then-last-eq10-clause-none
returns-then-last-eq10-clause-none c =
    let fed = c.in_ok-last.ensures.cases.0 ∙ ap (λ b. c.in_ok-last.line.now ++ b ∷ []) c.if-last-eq10.true in
    none_is c.args.plan.now c.args.text.now c.event_of.result (read-fed c.args.plan.now c.in_ok-last.line.now c.args.text.now c.event_of.result fed c.event_of.ensures)
