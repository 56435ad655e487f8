use Rattle.mg_trace.proofs.EventLines.{one_trace}
use Rattle.mg_trace.proofs.laws.a_trace_has_its_own_events.Goals as goal

pub returns : goal.returns
returns c = one_trace
