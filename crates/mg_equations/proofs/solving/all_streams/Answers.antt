use Rattle.std.proofs.Common.{◌∙◌, ◌∷◌, [], ◌++◌, ℕ, List, ap}
use Rattle.mg_equations.proofs.SolveSteps.{numbers_more}
use Rattle.mg_equations.proofs.solving.all_streams.Goals as goal

pub loop-number-preserved : goal.loop-number-preserved
loop-number-preserved c = c.in_ok-push.ensures.items ∙ ap (λ (l : List ℕ). l ++ c.loop-number.number ∷ []) c.loop-number.invariant ∙ numbers_more c.loop-number.number
