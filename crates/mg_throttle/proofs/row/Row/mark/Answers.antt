use Rattle.std.proofs.Common.{◌∙◌, ap, length, slice_set, true, arith}
use Rattle.mg_throttle.proofs.RowMarks.{marks-set, length-marks}
use Rattle.mg_throttle.proofs.row.Row.mark.Goals as goal

pub index_mut-requires : goal.index_mut-requires
index_mut-requires c =
    let same = ap length c.self.view_is in
    omega (arith, length-marks c.self.inside.len c.self.inside.words.items)

pub returns : goal.returns
returns c =
    let same = ap length c.self.view_is in
    marks-set c.self.inside.len c.self.inside.words.items c.args.place c.index_mut.result.now c.self.invariant
    (omega (arith, length-marks c.self.inside.len c.self.inside.words.items)) c.index_mut.ensures.value
    ∙ ap (λ m. slice_set m c.args.place true) c.self.view_is
