use Rattle.std.proofs.Common.{ap, sym, subst, length, arith}
use Rattle.mg_throttle.specs.Code.Rows.{marks_of, Joins}
use Rattle.mg_throttle.proofs.RowMarks.{length-marks, Joins-read, rejoined}
use Rattle.mg_throttle.proofs.row.Row.join.Goals as goal

pub join_words-requires : goal.join_words-requires
join_words-requires c =
    let one = ap length c.self.view_is in
    let two = ap length c.other.view_is in
    omega (arith, length-marks c.self.inside.len c.self.inside.words.items, length-marks c.other.inside.len c.other.inside.words.items)

pub returns : goal.returns
returns c =
    let whole = rejoined c.self.inside.words.len c.join_words.new.into c.self.inside.words.items (omega arith) in
    subst (λ w. Joins c.args.self.now c.args.other.now (marks_of c.self.inside.len w)) (sym whole)
    (Joins-read _ _ _ _ _ _ _ _ _ c.self.view_is c.other.view_is c.requires c.deref_mut.ensures.value c.deref.ensures.value c.join_words.ensures)
