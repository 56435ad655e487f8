use Rattle.std.proofs.Common.{◌∙◌, ap, arith}
use Rattle.mg_text.specs.Code.Machine.{at}
use Rattle.mg_text.proofs.Views.{pushed, same_state}
use Rattle.mg_text.proofs.machine.Machine.emit.Goals as goal

pub returns-clause-state : goal.returns-clause-state
returns-clause-state c =
    same_state _ _ _ _ _ _ (grind (arith, pushed _ _ _ _ _ c.in_ok-push.ensures.items c.scalar_of-value.ensures))
    (grind arith)
    (ap at (c.after-place.ensures _ _ ∙ c.take_name.ensures.place))
