use Rattle.std.proofs.Common.{◌∙◌, sym, ap, map, Some}
use Rattle.mg_text.specs.View.{field_view}
use Rattle.mg_config.specs.Faults.{own_fault, repeated_by}
use Rattle.mg_config.specs.declared.fault.ConfigFault.TheVariants.{Repeated}
use Rattle.mg_config.proofs.Checked.{own_by}
use Rattle.mg_config.proofs.check.check_own.Goals as goal

pub returns-then-is_again-clause-err : goal.returns-then-is_again-clause-err
returns-then-is_again-clause-err c = λ ne.
    ap (λ r. own_fault r (map field_view c.args.before.now) (field_view c.args.field.now).name (field_view c.args.field.now).value) c.in-Some.is
    ∙ own_by c.in-Some.rule c.args.before.now c.args.field.now c.as_bytes.result.now c.is_again.result c.as_bytes.ensures.bytes (cc) c.is_again.ensures
    ∙ ap (λ b. repeated_by b c.args.field.now.name) c.if-is_again.true ∙ ap (λ n. Some (Repeated n)) (sym c.in_ok-try_clone-2.ensures)

pub returns-clause-ok : goal.returns-clause-ok
returns-clause-ok c =
    ap (λ r. own_fault r (map field_view c.args.before.now) (field_view c.args.field.now).name (field_view c.args.field.now).value) c.in-Some.is
    ∙ own_by c.in-Some.rule c.args.before.now c.args.field.now c.as_bytes.result.now c.is_again.result c.as_bytes.ensures.bytes (cc) c.is_again.ensures
    ∙ ap (λ b. repeated_by b c.args.field.now.name) c.if-is_again.false
