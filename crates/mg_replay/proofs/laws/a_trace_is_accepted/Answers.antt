use Rattle.std.proofs.Common.{List, ℕ, Some, subst, sym}
use Rattle.mg_feed.specs.Lines.{all_lines}
use Rattle.mg_replay.specs.Replay.{LinesComeTo}
use Rattle.mg_replay.specs.declared.trace_end.TraceEnd.TheVariants.{Accepted}
use Rattle.mg_replay.proofs.TraceRead.{trace_accepted, traced_accepted, traced_answers}
use Rattle.mg_replay.proofs.laws.a_trace_is_accepted.Goals as goal

pub returns-clause-trace : goal.returns-clause-trace
returns-clause-trace c = λ laws plan inputs boxes text valid told kinds t.
    subst (λ (l : List ℕ). LinesComeTo laws plan boxes (all_lines l) (Some inputs) Accepted) (sym t.is) (trace_accepted plan inputs boxes t.events valid told kinds t.run)

pub returns-clause-traced : goal.returns-clause-traced
returns-clause-traced c = λ laws report plan boxes read answer valid names good t. traced_accepted report plan boxes read answer valid names good t

pub returns-clause-answer : goal.returns-clause-answer
returns-clause-answer c = λ laws report plan boxes read answer run valid names good is t answers. traced_answers report plan boxes read answer run valid names good is t answers
