use Rattle.std.proofs.Common.{◌≡◌, ◌∙◌, ◌+◌, drop, take, sym}
use Rattle.std.proofs.lemmas.Result.{err_from_is_err_and}
use Rattle.mg_names.proofs.Causes.{has_cause}
use Rattle.mg_names.proofs.Counting.{placed_stop}
use Rattle.mg_names.proofs.port_map.PortMap.read_placed.Goals as goal

pub returns-in_err-read-clause-err : goal.returns-in_err-read-clause-err
returns-in_err-read-clause-err c =
    let p = err_from_is_err_and c.from_residual.result c.from_residual.ensures.1 in
    let i = c.loop-text.text-index in
    rw (p.1, p.2) (λ ne. placed_stop c.args.texts.now i c.text-item.result c.as_str.result.now c.in_err-read.field-0.0 c.loop-text-test.true (c.as_str.ensures ∙ c.text-item.is)
    (c.in_err-read.ensures.err ne (take i c.args.texts.now) (drop (i + 1) c.args.texts.now) c.loop-text.invariant))

pub returns-in_err-read-clause-cause : goal.returns-in_err-read-clause-cause
returns-in_err-read-clause-cause c =
    let p = err_from_is_err_and c.from_residual.result c.from_residual.ensures.1 in
    let i = c.loop-text.text-index in
    rw (p.1, p.2) (has_cause c.args.texts.now c.in_err-read.field-0.0
    (λ ne. placed_stop c.args.texts.now i c.text-item.result c.as_str.result.now c.in_err-read.field-0.0 c.loop-text-test.true (c.as_str.ensures ∙ c.text-item.is)
    (c.in_err-read.ensures.err ne (take i c.args.texts.now) (drop (i + 1) c.args.texts.now) c.loop-text.invariant)))
