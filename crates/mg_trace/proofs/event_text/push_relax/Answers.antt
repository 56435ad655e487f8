use Rattle.std.proofs.lemmas.Result.{err_from_is_err_and}
use Rattle.mg_feed.proofs.WholeOrNone.{with_nothing}
use Rattle.mg_trace.proofs.event_text.push_relax.Goals as goal

pub returns-in_err-push_bytes-clause-part : goal.returns-in_err-push_bytes-clause-part
returns-in_err-push_bytes-clause-part c =
    let p = err_from_is_err_and c.from_residual.result c.from_residual.ensures.1 in
    rw p.1 (with_nothing c.args.text.now.items c.push_bytes.new.text.items c.in_err-push_bytes.ensures.unchanged)
