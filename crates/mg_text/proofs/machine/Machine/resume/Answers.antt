use Rattle.std.proofs.Common.{◌∙◌, ap, arith}
use Rattle.mg_text.specs.Code.Machine.{at}
use Rattle.mg_text.proofs.Views.{pushed, same_state}
use Rattle.mg_text.proofs.machine.Machine.resume.Goals as goal

pub returns : goal.returns
returns c =
    same_state _ _ _ _ _ _ (grind (arith, pushed _ _ _ _ _ c.in_ok-push.ensures.items c.in_ok-value.ensures))
    (grind arith)
    (ap at (c.after.ensures _ _ ∙ c.take_name.ensures.place))
