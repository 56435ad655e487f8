use Rattle.mg_text.proofs.Faults.{given_text, only_text}
use Rattle.mg_text.proofs.printer.print.Goals as goal

pub returns-clause-given : goal.returns-clause-given
returns-clause-given c = given_text _ _ c.requires.spelled c.written.ensures

pub returns-clause-only : goal.returns-clause-only
returns-clause-only c = only_text _ _ c.requires.spelled c.written.ensures
