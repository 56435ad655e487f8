use Rattle.std.proofs.Common.{◌∙◌, ap, ◌++◌}
use Rattle.serde_json.specs.Written.{compact_text}
use Rattle.mg_value.specs.Payload.{plain}
use Rattle.mg_json.specs.Json.{json_of}
use Rattle.mg_feed.specs.Code.LineHead.{line_tail}
use Rattle.std.proofs.lemmas.Result.{err_from_is_err_and}
use Rattle.mg_feed.proofs.Text.{pieces_are_line}
use Rattle.mg_feed.proofs.WholeOrNone.{with_nothing, with_more, with_same, with_then}
use Rattle.mg_feed.proofs.line_writer.push_with_head.Goals as goal

pub returns-clause-line : goal.returns-clause-line
returns-clause-line c =
    pieces_are_line c.args.text.now.items c.args.head.now c.push_bytes.new.text.items c.push_time.new.text.items c.push_bytes-2.new.text.items
    c.push_payload.new.text.items c.push_bytes-3.new.text.items c.packet.inside.at _
    c.in_ok-push_bytes.ensures.put c.in_ok-push_time.ensures.put c.in_ok-push_bytes-2.ensures.put
    (c.in_ok-push_payload.ensures.put ∙ ap (λ p. c.push_bytes-2.new.text.items ++ compact_text (json_of (plain p))) c.deref.ensures)
    c.in_ok-push_bytes-3.ensures.put
    ∙ ap (λ p. c.args.text.now.items ++ (c.args.head.now ++ line_tail p)) c.packet.view_is

pub returns-in_err-push_bytes-clause-part : goal.returns-in_err-push_bytes-clause-part
returns-in_err-push_bytes-clause-part c =
    let p = err_from_is_err_and c.from_residual.result c.from_residual.ensures.1 in
    rw p.1 (with_nothing c.args.text.now.items c.push_bytes.new.text.items c.in_err-push_bytes.ensures.unchanged)

pub returns-in_err-push_time-clause-part : goal.returns-in_err-push_time-clause-part
returns-in_err-push_time-clause-part c =
    let p = err_from_is_err_and c.from_residual-in_err-push_time.result c.from_residual-in_err-push_time.ensures.1 in
    rw p.1 (with_same c.args.text.now.items c.push_bytes.new.text.items c.push_time.new.text.items (_, c.in_ok-push_bytes.ensures.put) c.in_err-push_time.ensures.unchanged)

pub returns-in_err-push_bytes-2-clause-part : goal.returns-in_err-push_bytes-2-clause-part
returns-in_err-push_bytes-2-clause-part c =
    let p = err_from_is_err_and c.from_residual-in_err-push_bytes-2.result c.from_residual-in_err-push_bytes-2.ensures.1 in
    let old = c.args.text.now.items in
    let timed = with_more old c.push_bytes.new.text.items c.push_time.new.text.items _ (_, c.in_ok-push_bytes.ensures.put) c.in_ok-push_time.ensures.put in
    rw p.1 (with_same old c.push_time.new.text.items c.push_bytes-2.new.text.items timed c.in_err-push_bytes-2.ensures.unchanged)

pub returns-in_err-push_payload-clause-part : goal.returns-in_err-push_payload-clause-part
returns-in_err-push_payload-clause-part c =
    let p = err_from_is_err_and c.from_residual-in_err-push_payload.result c.from_residual-in_err-push_payload.ensures.1 in
    let old = c.args.text.now.items in
    let timed = with_more old c.push_bytes.new.text.items c.push_time.new.text.items _ (_, c.in_ok-push_bytes.ensures.put) c.in_ok-push_time.ensures.put in
    let named = with_more old c.push_time.new.text.items c.push_bytes-2.new.text.items _ timed c.in_ok-push_bytes-2.ensures.put in
    rw p.1 (with_then old c.push_bytes-2.new.text.items c.push_payload.new.text.items named c.in_err-push_payload.ensures.part)

pub returns-in_err-push_bytes-3-clause-part : goal.returns-in_err-push_bytes-3-clause-part
returns-in_err-push_bytes-3-clause-part c =
    let p = err_from_is_err_and c.from_residual-in_err-push_bytes-3.result c.from_residual-in_err-push_bytes-3.ensures.1 in
    let old = c.args.text.now.items in
    let timed = with_more old c.push_bytes.new.text.items c.push_time.new.text.items _ (_, c.in_ok-push_bytes.ensures.put) c.in_ok-push_time.ensures.put in
    let named = with_more old c.push_time.new.text.items c.push_bytes-2.new.text.items _ timed c.in_ok-push_bytes-2.ensures.put in
    let said = with_more old c.push_bytes-2.new.text.items c.push_payload.new.text.items _ named c.in_ok-push_payload.ensures.put in
    rw p.1 (with_same old c.push_payload.new.text.items c.push_bytes-3.new.text.items said c.in_err-push_bytes-3.ensures.unchanged)
