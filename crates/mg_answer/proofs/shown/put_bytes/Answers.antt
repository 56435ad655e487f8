use Rattle.std.proofs.lemmas.Result.{err_from_is_err_and}
use Rattle.mg_feed.proofs.WholeOrNone.{with_same}
use Rattle.mg_answer.proofs.shown.put_bytes.Goals as goal

pub returns-in_err-put_byte-clause-part : goal.returns-in_err-put_byte-clause-part
returns-in_err-put_byte-clause-part c =
    let p = err_from_is_err_and c.from_residual.result c.from_residual.ensures.1 in
    rw p.1 (with_same c.args.note.now.items c.loop-b.note.items c.put_byte.new.note.items (_, c.loop-b.invariant) c.in_err-put_byte.ensures.unchanged)
