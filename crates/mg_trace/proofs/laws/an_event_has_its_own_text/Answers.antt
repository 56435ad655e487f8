use Rattle.mg_trace.proofs.Reading.{one_event}
use Rattle.mg_trace.proofs.laws.an_event_has_its_own_text.Goals as goal

pub returns : goal.returns
returns c = λ plan one other valid of_one of_other same. one_event plan one other valid of_one of_other same
