use Rattle.mg_text.proofs.Clean.{clean_utf8}
use Rattle.mg_text.proofs.machine.Machine.step_scalar.Goals as goal

pub emit-requires : goal.emit-requires
emit-requires c = clean_utf8 _ c.requires
