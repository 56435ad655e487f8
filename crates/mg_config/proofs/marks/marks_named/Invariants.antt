use Rattle.mg_config.proofs.Marked.{IsMarked}
use Rattle.mg_config.proofs.marks.marks_named.Given as goal

abbrev pub invariant-loop-field : goal.invariant-loop-field
invariant-loop-field l = IsMarked l.fields l.field-index l.k l.marks.items
