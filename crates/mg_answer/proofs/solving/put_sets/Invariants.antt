use Rattle.std.proofs.Common.{◌≡◌, drop}
use Rattle.mg_answer.specs.Text.{sets_text}
use Rattle.mg_answer.specs.Code.Written.{Pours}
use Rattle.mg_answer.proofs.solving.put_sets.Given as goal

abbrev pub invariant-loop-timed : goal.invariant-loop-timed
invariant-loop-timed g l =
    (l.text.names ≡ l.fn.text.names)
    × Pours (g.K.Sink.told l.fn.output) (g.K.Sink.told l.output) l.text (sets_text l.fn.text.names l.sets) (sets_text l.fn.text.names (drop l.timed-index l.sets))
