use Rattle.std.proofs.Common.{◌+◌, ◌++◌, ◌∷◌, [], false, drop, sym, ap, refl, ◌∙◌, append_assoc, arith}
use Rattle.std.proofs.lemmas.List.{drop_more, drop_all}
use Rattle.std.proofs.lemmas.Result.{err_from_is_err_and}
use Rattle.mg_value.specs.Plain.{depth}
use Rattle.mg_value.specs.Payload.{plain}
use Rattle.mg_json.proofs.JsonWriting.{item_within}
use Rattle.mg_feed.proofs.ItemTexts.{left_text, item_put}
use Rattle.mg_feed.proofs.WholeOrNone.{with_nothing, with_more, with_same, with_then}
use Rattle.mg_feed.proofs.payload_text.+payload_text.Goals as goal

pub push_items-loop-payload-init : goal.push_items-loop-payload-init
push_items-loop-payload-init t c =
    let all = left_text false c.args.payloads.now in
    let old = c.args.text.now.items in (
      ap (λ text. text ++ all) c.in_ok-push_bytes.ensures.put ∙ append_assoc old (91 ∷ []) all,
      with_more old old c.push_bytes.new.text.items _ (with_nothing old old refl) c.in_ok-push_bytes.ensures.put,
    )

pub push_items-push_payload-requires : goal.push_items-push_payload-requires
push_items-push_payload-requires t c =
    let w = item_within c.args.payloads.now c.loop-payload.payload-index c.payload-item.result (omega arith) in
    let s = ap (λ p. depth (plain p)) c.payload-item.is in
    (omega (arith, w, s, c.decreases), tt)

pub push_items-loop-payload-preserved : goal.push_items-loop-payload-preserved
push_items-loop-payload-preserved t c =
    let l = c.loop-payload in
    let ps = c.args.payloads.now in
    let rest = drop (l.payload-index + 1) ps in (
      sym (item_put l.text.items _ _ l.later c.payload-item.result rest c.in_ok-push_comma.ensures.put c.in_ok-push_payload.ensures.put)
          ∙ ap (λ qs. l.text.items ++ left_text l.later qs) (ap (λ p. p ∷ rest) c.payload-item.is ∙ sym (drop_more ps l.payload-index c.payload-item.result c.loop-payload-test.true))
          ∙ l.invariant.0,
      with_more c.args.text.now.items c.push_comma.new.text.items c.push_payload.new.text.items _
          (with_more c.args.text.now.items l.text.items c.push_comma.new.text.items _ l.invariant.1 c.in_ok-push_comma.ensures.put) c.in_ok-push_payload.ensures.put,
    )

pub push_items-returns-in_err-push_bytes-clause-part : goal.push_items-returns-in_err-push_bytes-clause-part
push_items-returns-in_err-push_bytes-clause-part t c =
    let p = err_from_is_err_and c.from_residual.result c.from_residual.ensures.1 in
    rw p.1 (with_nothing c.args.text.now.items c.push_bytes.new.text.items c.in_err-push_bytes.ensures.unchanged)

pub push_items-returns-in_err-push_comma-clause-part : goal.push_items-returns-in_err-push_comma-clause-part
push_items-returns-in_err-push_comma-clause-part t c =
    let p = err_from_is_err_and c.from_residual-in_err-push_comma.result c.from_residual-in_err-push_comma.ensures.1 in
    rw p.1 (with_same c.args.text.now.items c.loop-payload.text.items c.push_comma.new.text.items c.loop-payload.invariant.1 c.in_err-push_comma.ensures.unchanged)

pub push_items-returns-in_err-push_payload-clause-part : goal.push_items-returns-in_err-push_payload-clause-part
push_items-returns-in_err-push_payload-clause-part t c =
    let p = err_from_is_err_and c.from_residual-in_err-push_payload.result c.from_residual-in_err-push_payload.ensures.1 in
    rw p.1 (with_then c.args.text.now.items c.push_comma.new.text.items c.push_payload.new.text.items
    (with_more c.args.text.now.items c.loop-payload.text.items c.push_comma.new.text.items _ c.loop-payload.invariant.1 c.in_ok-push_comma.ensures.put) c.in_err-push_payload.ensures.part)

pub push_items-returns-in_err-push_bytes-2-clause-part : goal.push_items-returns-in_err-push_bytes-2-clause-part
push_items-returns-in_err-push_bytes-2-clause-part t c =
    let p = err_from_is_err_and c.from_residual-in_err-push_bytes-2.result c.from_residual-in_err-push_bytes-2.ensures.1 in
    rw p.1 (with_same c.args.text.now.items c.loop-payload.text.items c.push_bytes-2.new.text.items c.loop-payload.invariant.1 c.in_err-push_bytes-2.ensures.unchanged)

pub push_items-returns-clause-put : goal.push_items-returns-clause-put
push_items-returns-clause-put t c =
    let l = c.loop-payload in
    c.in_ok-push_bytes-2.ensures.put
    ∙ ap (λ qs. l.text.items ++ left_text l.later qs) (sym (drop_all l.payload-index c.args.payloads.now (omega (arith, c.loop-payload-test.false))))
    ∙ l.invariant.0
