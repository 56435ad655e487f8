use Rattle.std.proofs.Common.{◌∙◌, sym, ap, length}
use Rattle.mg_throttle.proofs.RowMarks.{length-marks}
use Rattle.mg_throttle.proofs.row.Row.len.Goals as goal

pub returns-clause-len : goal.returns-clause-len
returns-clause-len c = sym (length-marks c.self.inside.len c.self.inside.words.items) ∙ ap length c.self.view_is
