use Rattle.mg_text.specs.Code.Running.{state_of}
use Rattle.mg_text.proofs.Clean.{step_clean}
use Rattle.mg_text.proofs.Faults.{took_some}
use Rattle.mg_text.proofs.reader.end.Goals as goal

pub finish-requires : goal.finish-requires
finish-requires c = step_clean (state_of c.args.machine) _ 10 (took_some _ _ _ c.in_ok-step.ensures c.if-not-branch.false) c.requires
