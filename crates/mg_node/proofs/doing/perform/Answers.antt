use Rattle.std.proofs.Common.{subst, sym}
use Rattle.mg_node.specs.Views.{PerformedView}
use Rattle.mg_node.specs.Running.{IsPerformed}
use Rattle.mg_node.specs.Lawful.{LawfulPerformed}
use Rattle.mg_node.proofs.Performing.{may_run, performed_well, performed_fault, performed_lawful}
use Rattle.mg_node.proofs.doing.perform.Goals as goal

pub run-requires : goal.run-requires
run-requires g c = may_run _ c.requires

pub returns-in-Ok-clause-performed : goal.returns-in-Ok-clause-performed
returns-in-Ok-clause-performed g c = subst (λ (p : PerformedView). IsPerformed g.C.NodeCalculator.laws c.args.work p) (sym c.new.ensures) (performed_well _ _ _ (may_run _ c.requires) c.in-Ok.ensures.ran c.in-Ok.ensures.same)

pub returns-in-Ok-clause-lawful : goal.returns-in-Ok-clause-lawful
returns-in-Ok-clause-lawful g c = λ job lawful. subst (λ (p : PerformedView). LawfulPerformed job p) (sym c.new.ensures)
    (performed_lawful job _ _ _ lawful (performed_well _ _ _ (may_run _ c.requires) c.in-Ok.ensures.ran c.in-Ok.ensures.same))

pub returns-in-Err-Fault-clause-lawful : goal.returns-in-Err-Fault-clause-lawful
returns-in-Err-Fault-clause-lawful g c = λ job lawful. subst (λ (p : PerformedView). LawfulPerformed job p) (sym c.new-in-Err-Fault.ensures)
    (performed_lawful job _ _ _ lawful (performed_fault _ _ _ (may_run _ c.requires) (rw c.in-Err-Fault.field-0-is at c.in-Err-Fault.ensures.ran) c.in-Err-Fault.ensures.same))
