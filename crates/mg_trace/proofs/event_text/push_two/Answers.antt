use Rattle.std.proofs.lemmas.Result.{err_from_is_err_and}
use Rattle.mg_feed.proofs.WholeOrNone.{with_nothing, with_more, with_same}
use Rattle.mg_trace.proofs.event_text.push_two.Goals as goal

pub returns-in_err-push_bytes-clause-part : goal.returns-in_err-push_bytes-clause-part
returns-in_err-push_bytes-clause-part c =
    let p = err_from_is_err_and c.from_residual.result c.from_residual.ensures.1 in
    rw p.1 (with_nothing c.args.text.now.items c.push_bytes.new.text.items c.in_err-push_bytes.ensures.unchanged)

pub returns-in_err-push_number-clause-part : goal.returns-in_err-push_number-clause-part
returns-in_err-push_number-clause-part c =
    let p = err_from_is_err_and c.from_residual-in_err-push_number.result c.from_residual-in_err-push_number.ensures.1 in
    rw p.1 (with_same c.args.text.now.items c.push_bytes.new.text.items c.push_number.new.text.items (_, c.in_ok-push_bytes.ensures.put) c.in_err-push_number.ensures.unchanged)

pub returns-in_err-push_bytes-2-clause-part : goal.returns-in_err-push_bytes-2-clause-part
returns-in_err-push_bytes-2-clause-part c =
    let p = err_from_is_err_and c.from_residual-in_err-push_bytes-2.result c.from_residual-in_err-push_bytes-2.ensures.1 in
    let old = c.args.text.now.items in
    let node = with_more old c.push_bytes.new.text.items c.push_number.new.text.items _ (_, c.in_ok-push_bytes.ensures.put) c.in_ok-push_number.ensures.put in
    rw p.1 (with_same old c.push_number.new.text.items c.push_bytes-2.new.text.items node c.in_err-push_bytes-2.ensures.unchanged)

pub returns-in_err-push_number-2-clause-part : goal.returns-in_err-push_number-2-clause-part
returns-in_err-push_number-2-clause-part c =
    let p = err_from_is_err_and c.from_residual-in_err-push_number-2.result c.from_residual-in_err-push_number-2.ensures.1 in
    let old = c.args.text.now.items in
    let node = with_more old c.push_bytes.new.text.items c.push_number.new.text.items _ (_, c.in_ok-push_bytes.ensures.put) c.in_ok-push_number.ensures.put in
    let apart = with_more old c.push_number.new.text.items c.push_bytes-2.new.text.items _ node c.in_ok-push_bytes-2.ensures.put in
    rw p.1 (with_same old c.push_bytes-2.new.text.items c.push_number-2.new.text.items apart c.in_err-push_number-2.ensures.unchanged)

pub returns-in_err-push_bytes-3-clause-part : goal.returns-in_err-push_bytes-3-clause-part
returns-in_err-push_bytes-3-clause-part c =
    let p = err_from_is_err_and c.from_residual-in_err-push_bytes-3.result c.from_residual-in_err-push_bytes-3.ensures.1 in
    let old = c.args.text.now.items in
    let node = with_more old c.push_bytes.new.text.items c.push_number.new.text.items _ (_, c.in_ok-push_bytes.ensures.put) c.in_ok-push_number.ensures.put in
    let apart = with_more old c.push_number.new.text.items c.push_bytes-2.new.text.items _ node c.in_ok-push_bytes-2.ensures.put in
    let both = with_more old c.push_bytes-2.new.text.items c.push_number-2.new.text.items _ apart c.in_ok-push_number-2.ensures.put in
    rw p.1 (with_same old c.push_number-2.new.text.items c.push_bytes-3.new.text.items both c.in_err-push_bytes-3.ensures.unchanged)
