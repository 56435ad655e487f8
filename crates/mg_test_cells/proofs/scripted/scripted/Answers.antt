use Rattle.std.proofs.Common.{rules, ◌≡◌, [], ◌∷◌, ◌∙◌}
use Rattle.mg_test_cells.proofs.Scripting.{scripted_shape}
use Rattle.mg_test_cells.proofs.scripted.scripted.Goals as goal

pub returns : goal.returns
returns c = λ may.
    let is : c.in_ok-steps.steps ≡ c.in_ok-step.step ∷ [] = search rules in (
      tt,
      scripted_shape c.args.offset c.in_ok-first.first c.in_ok-step.step c.in_ok-last.last c.in_ok-steps.steps c.in_ok-shape.shape is c.in_ok-first.ensures c.in_ok-step.ensures c.in_ok-last.ensures
          (c.in_ok-shape.ensures.inputs ∙ c.in_ok-inputs.ensures) c.in_ok-shape.ensures.outputs c.in_ok-shape.ensures.sides c.in_ok-shape.ensures.offset c.in_ok-shape.ensures.stateless,
    )
