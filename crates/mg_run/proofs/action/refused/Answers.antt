use Rattle.std.proofs.Common.{refl, subst}
use Rattle.mg_files.specs.Files.{no_graphs}
use Rattle.mg_files.specs.Reads.{AreNotedOf}
use Rattle.mg_files.specs.declared.fault.Fault.{Fault}
use Rattle.mg_run.proofs.action.refused.Goals as goal

pub returns-in-Noted-clause-due : goal.returns-in-Noted-clause-due
returns-in-Noted-clause-due c = λ invocation contents refused.
    (no_graphs c.in-Noted.note.items, subst (λ (fault : Fault). AreNotedOf fault invocation.files contents) c.in-Noted.is refused, refl)
