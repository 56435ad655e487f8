-- What is done at once keeps a cell lawful, as a claim, a work that is performed and a commit do, one after the other.
use Rattle.mg_calc.specs.Rules.{Laws}
use Rattle.std.proofs.Common.{ℕ, sym, subst}
use Rattle.mg_node.specs.declared.at_once.AtOnce.{AtOnce}
use Rattle.mg_node.specs.declared.at_once.AtOnce.TheVariants.{Other, NotReady, Claimed, Performed, Committed}
use Rattle.mg_node.specs.declared.claimed.Claimed.TheVariants.{Work}
use Rattle.mg_node.specs.Views.{IntakeView, WorkView, PerformedView, EngineView}
use Rattle.mg_node.specs.Job.{LoggedJob}
use Rattle.mg_node.specs.Lawful.{LawfulEngine, LawfulIntake, LawfulPerformed, LawfulOutcome, of_node, Agree}
use Rattle.mg_node.specs.Shelves.{IsOut, outcome_of}
use Rattle.mg_node.specs.Claims.{AreSame, LawfulClaim}
use Rattle.mg_node.specs.AtOnce.{IsDoneBetween, DoesAtOnce}
use Rattle.mg_node.proofs.Cells.{claim_lawful}
use Rattle.mg_node.proofs.WorksOut.{claim_out}
use Rattle.mg_node.proofs.Performing.{performed_lawful}
use Rattle.mg_node.proofs.Shelving.{shelved_lawful}
use Rattle.mg_node.proofs.CommitKeeps.{commit_lawful}

same_lawful : {laws : Laws} (job : LoggedJob laws) (number : ℕ) (e e1 : EngineView) (i i1 : IntakeView) → LawfulEngine job (of_node number) e → LawfulIntake job number i → AreSame e i e1 i1 → LawfulEngine job (of_node number) e1 × LawfulIntake job number i1
same_lawful {laws} job number e e1 i i1 h hi same =
    (subst (λ (v : EngineView). LawfulEngine job (of_node number) v) (sym same.same_engine) h, subst (λ (v : IntakeView). LawfulIntake job number v) (sym same.same_intake) hi)

outcome_lawful : {laws : Laws} (job : LoggedJob laws) (p : PerformedView) → LawfulPerformed job p → LawfulOutcome job (outcome_of p)
unfolding LawfulPerformed LawfulOutcome
outcome_lawful {laws} job p h = h

module _ {laws : Laws} (C : Type 0) (job : LoggedJob laws) (number k : ℕ) (e between : EngineView) (i i1 : IntakeView) (h : LawfulEngine job (of_node number) e) (hi : LawfulIntake job number i) (agree : Agree e i) (d : IsDoneBetween laws C k e between i i1) where
  claim_is : LawfulClaim {C = C} job number (Work d.work) between i1
  claim_is = claim_lawful {C = C} job number (Work d.work) e between i i1 h hi agree d.claims

  done_is : LawfulOutcome job (outcome_of d.performed)
  done_is = outcome_lawful job d.performed (performed_lawful job d.work d.performed.work d.performed.answer claim_is.work d.done)

  out_is : IsOut between d.performed.work
  out_is =
      let o : IsOut between d.work = claim_out {C = C} (Work d.work) e between i i1 (record { job = job; number = number; lawful_engine = h; lawful_intake = hi; agree = agree }) d.claims in
      subst (λ (w : WorkView). IsOut between w) (sym d.done.same) (record { node_is = o.node_is; laid = o.laid; entry = o.entry; there = o.there; out = o.out; phase_is = o.phase_is })

pub at_once_lawful : {laws : Laws} {C : Type 0} (job : LoggedJob laws) (number : ℕ) (result : AtOnce C) (e e1 : EngineView) (i i1 : IntakeView) → LawfulEngine job (of_node number) e → LawfulIntake job number i → Agree e i → DoesAtOnce laws {C = C} result e e1 i i1
    → LawfulEngine job (of_node number) e1 × LawfulIntake job number i1
at_once_lawful {laws} {C} job number Other e e1 i i1 h hi agree does = same_lawful job number e e1 i i1 h hi does
at_once_lawful {laws} {C} job number NotReady e e1 i i1 h hi agree does = same_lawful job number e e1 i i1 h hi does.2
at_once_lawful {laws} {C} job number (Claimed work) e e1 i i1 h hi agree does = (let l = claim_lawful {C = C} job number (Work work) e e1 i i1 h hi agree does in (l.lawful_engine, l.lawful_intake))
at_once_lawful {laws} {C} job number (Performed k) e e1 i i1 h hi agree does =
    let l = claim_is C job number k e does.between i i1 h hi agree does.done in (
      subst (λ (v : EngineView). LawfulEngine job (of_node number) v) (sym does.left)
          (shelved_lawful job number does.between (outcome_of does.done.performed) (out_is C job number k e does.between i i1 h hi agree does.done) l.lawful_engine (done_is C job number k e does.between i i1 h hi agree does.done)),
      l.lawful_intake,
    )
at_once_lawful {laws} {C} job number (Committed k) e e1 i i1 h hi agree does =
    let l = claim_is C job number k e does.between i i1 h hi agree does.done in (
      commit_lawful job number (outcome_of does.done.performed) does.laid does.between e1 (out_is C job number k e does.between i i1 h hi agree does.done) l.lawful_engine (done_is C job number k e does.between i i1 h hi agree does.done) does.commits,
      l.lawful_intake,
    )
