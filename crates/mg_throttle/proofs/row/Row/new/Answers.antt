use Rattle.std.proofs.Common.{◌∙◌, ap}
use Rattle.mg_throttle.specs.Code.Rows.{marks_of}
use Rattle.mg_throttle.proofs.RowMarks.{marks-none}
use Rattle.mg_throttle.proofs.row.Row.new.Goals as goal

pub returns : goal.returns
returns c = ap (λ w. marks_of c.args.len w) c.in_ok-words.ensures ∙ marks-none c.args.len c.div_ceil.result
