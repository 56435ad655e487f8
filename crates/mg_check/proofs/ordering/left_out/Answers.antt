use Rattle.std.proofs.Common.{◌∙◌, ap, sym, false, arith}
use Rattle.std.proofs.lemmas.List.{get_or_default}
use Rattle.mg_check.proofs.OrderingMarks.{left_out-yes, left_out-no}
use Rattle.mg_check.proofs.ordering.left_out.Goals as goal
use Rattle.mg_check.proofs.ordering.left_out.Goals.{then-not-index+in_ok-push, else-not-index}

pub loop-number-preserved : goal.loop-number-preserved
loop-number-preserved c =
    let has = c.in_ok-marks.ensures in
    let read = get_or_default c.in_ok-marks.marks.items c.loop-number.number false c.index.result.now (let l = has.len in omega arith) in
    elim c.if-not-index.branch [
      | then-not-index+in_ok-push w ↦ ap (λ v. v.items) w.out-is ∙ w.in_ok-push.ensures.items
          ∙ left_out-yes c.args.count c.loop-number.number c.args.order.now c.loop-number.out.items c.in_ok-marks.marks.items (omega arith) has
          (read ∙ sym c.index.ensures ∙ w.if-not-index.true) c.loop-number.invariant
      | else-not-index w ↦ ap (λ v. v.items) w.out-is
          ∙ left_out-no c.args.count c.loop-number.number c.args.order.now c.loop-number.out.items c.in_ok-marks.marks.items (omega arith) has
          (read ∙ sym c.index.ensures ∙ w.if-not-index.false) c.loop-number.invariant
    ]
