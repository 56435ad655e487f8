use Rattle.std.proofs.Common.{◌≡◌, ◌∙◌, subst, sym, true}
use Rattle.std.proofs.lemmas.Result.{err_from_is_err_and}
use Rattle.mg_text.specs.View.{field_view}
use Rattle.mg_config.specs.Values.{has_name}
use Rattle.mg_config.proofs.ReadNamed.{HasRead, read_none, read_more, read_skip, read_stop, read_all}
use Rattle.mg_config.proofs.ports.read_named.Goals as goal

pub loop-field-init : goal.loop-field-init
loop-field-init c = subst (HasRead c.args.name.now c.args.fields.now 0) (sym c.new-reader.ensures) (read_none c.args.name.now c.args.fields.now)

pub loop-field-preserved : goal.loop-field-preserved
loop-field-preserved c =
    let here : has_name c.args.name.now (field_view c.field-item.result) ≡ true = sym c.if-not-has_name.ensures in
    read_more c.args.name.now c.args.fields.now c.loop-field.field-index c.field-item.result c.lent_text.result.now c.loop-field.reader _
    c.loop-field-test.true c.field-item.is here c.lent_text.ensures c.loop-field.invariant c.in_ok-read.ensures.ok

pub loop-field-preserved-then-not-has_name : goal.loop-field-preserved-then-not-has_name
loop-field-preserved-then-not-has_name c =
    read_skip c.args.name.now c.args.fields.now c.loop-field.field-index c.field-item.result c.loop-field.reader c.loop-field-test.true c.field-item.is (sym c.if-not-has_name.ensures) c.loop-field.invariant

pub returns-in_err-read-clause-err : goal.returns-in_err-read-clause-err
returns-in_err-read-clause-err c =
    let p = err_from_is_err_and c.from_residual.result c.from_residual.ensures.1 in
    let here : has_name c.args.name.now (field_view c.field-item.result) ≡ true = sym c.if-not-has_name.ensures in
    rw (p.1, p.2) (λ ne. read_stop c.args.name.now c.args.fields.now c.loop-field.field-index c.field-item.result c.lent_text.result.now c.loop-field.reader c.in_err-read.field-0.0
    c.loop-field-test.true c.field-item.is here c.lent_text.ensures c.loop-field.invariant (c.in_err-read.ensures.err ne))

pub returns-in_err-ports-clause-err : goal.returns-in_err-ports-clause-err
returns-in_err-ports-clause-err c =
    let r = c.from_residual-in_err-ports in
    let p = err_from_is_err_and r.result r.ensures.1 in
    rw (p.1, p.2) (λ ne. read_all c.args.name.now c.args.fields.now c.loop-field.field-index c.loop-field.reader c.loop-field-test.false c.loop-field.invariant ∙ c.in_err-ports.ensures.err ne)

pub returns-clause-ok : goal.returns-clause-ok
returns-clause-ok c =
    read_all c.args.name.now c.args.fields.now c.loop-field.field-index c.loop-field.reader c.loop-field-test.false c.loop-field.invariant ∙ c.in_ok-ports.ensures.ok
