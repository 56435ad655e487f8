use Rattle.std.proofs.Common.{sym}
use Rattle.mg_names.proofs.Parts.{parts_when_cut}
use Rattle.mg_names.proofs.grammar.cut.Goals as goal

pub returns-in-Some : goal.returns-in-Some
returns-in-Some c = (parts_when_cut _ _ _ _ (sym c.in-Some.ensures) c.split_at.ensures.front c.split_at.ensures.back).1
