use Rattle.mg_text.proofs.Clean.{clean_utf8}
use Rattle.mg_text.proofs.machine.Machine.step_name.Goals as goal

pub end_name-requires : goal.end_name-requires
end_name-requires c = clean_utf8 _ c.requires
