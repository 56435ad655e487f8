use Rattle.std.proofs.Common.{◌≡◌, ◌∙◌, sym, arith, true}
use Rattle.mg_text.specs.View.{field_view}
use Rattle.mg_config.specs.Values.{has_name}
use Rattle.mg_config.proofs.Named.{named_more, unnamed, node_name}
use Rattle.mg_config.proofs.calculators.check_calculators.Goals as goal

pub loop-field-preserved : goal.loop-field-preserved
loop-field-preserved c =
    let here : has_name node_name (field_view c.field-item.result) ≡ true = cc in
    named_more c.args.fields.now c.loop-field.field-index c.loop-field.k c.field-item.result c.fields_of_value.result.now (omega arith) c.field-item.is here c.loop-field.invariant c.fields_of_value.ensures (sym c.if-lacks_calculator.false ∙ c.lacks_calculator.ensures)

pub returns-then-lacks_calculator-clause-err : goal.returns-then-lacks_calculator-clause-err
returns-then-lacks_calculator-clause-err c = λ ne.
    let here : has_name node_name (field_view c.field-item.result) ≡ true = cc in
    unnamed c.args.fields.now c.loop-field.field-index c.loop-field.k c.field-item.result c.fields_of_value.result.now c.in_ok-calculator_path.field-0 (omega arith) c.field-item.is here c.loop-field.invariant c.fields_of_value.ensures (sym c.if-lacks_calculator.true ∙ c.lacks_calculator.ensures) c.in_ok-calculator_path.ensures
