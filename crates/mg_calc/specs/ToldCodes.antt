-- How the logic stores laws, plans, and what calculators tell of themselves.
use Rattle.std.proofs.Common.{List, Option, refl}
use Rattle.std.specs.Coded.{Coded, code_by, coded×, coded_list, coded_option}
use Rattle.mg_value.specs.Plain.{Plain}
use Rattle.mg_value.specs.Codes.{plain_code}
use Rattle.mg_calc.specs.declared.law.Law.{Law}
use Rattle.mg_calc.specs.declared.shape.Shape.{Shape}
use Rattle.mg_calc.specs.declared.call.Call.{Call}
use Rattle.mg_calc.specs.declared.emission.Laid.{Laid}
use Rattle.mg_calc.specs.declared.plan_node.PlanNode.{PlanNode}
use Rattle.mg_calc.specs.declared.plan.Plan.{Plan}
use Rattle.mg_calc.specs.declared.inputs.Inputs.{Inputs}
use Rattle.mg_calc.specs.contracts.law.Law as law
use Rattle.mg_calc.specs.contracts.shape.Shape as shape
use Rattle.mg_calc.specs.contracts.call.Call as call
use Rattle.mg_calc.specs.contracts.emission.Laid as laid
use Rattle.mg_calc.specs.contracts.plan_node.PlanNode as plan_node
use Rattle.mg_calc.specs.contracts.plan.Plan as plan
use Rattle.mg_calc.specs.contracts.inputs.Inputs as inputs
use Rattle.mg_calc.specs.Told.{BoxTold}

abbrev pub law_code : Coded Law
law_code = law.the_row.coded

abbrev pub shape_code : Coded Shape
shape_code = shape.the_row.coded

abbrev pub call_code : Coded Call
call_code = call.the_row.coded

abbrev pub emission_code : Coded (List Laid)
emission_code = coded_list laid.the_row.coded

abbrev pub plan_code : Coded Plan
plan_code = plan.the_row.coded

abbrev pub told_code : Coded BoxTold
told_code =
    code_by ((Law × Shape) × (List Plain × Option (List Call)))
    (coded× (coded× law_code shape_code) (coded× (coded_list plain_code) (coded_option (coded_list call_code))))
    (λ c. ((c.law, c.shape), (c.state, c.log))) (λ p. record { law = p.0.0; shape = p.0.1; state = p.1.0; log = p.1.1 }) (λ _. refl)
