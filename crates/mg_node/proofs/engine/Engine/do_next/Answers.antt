use Rattle.std.proofs.Common.{ℕ, refl}
use Rattle.mg_policy.specs.declared.readiness.Readiness.TheVariants.{NotReady, Close}
use Rattle.mg_node.proofs.Claimable.{cell_sets}
use Rattle.mg_node.proofs.ShownAtOnce.{none_shown, no_next}
use Rattle.mg_node.proofs.engine.Engine.do_next.Goals as goal

pub set_readiness-requires : goal.set_readiness-requires
set_readiness-requires g c = cell_sets _ _ c.requires.cell (c.if-not-may_show.ensures.may refl).role

pub returns-in-NotReady-clause-does : goal.returns-in-NotReady-clause-does
returns-in-NotReady-clause-does g c = none_shown ℕ _ _ c.requires.cell (c.if-not-may_show.ensures.may refl) c.in-NotReady.ensures

pub returns-in-NotReady-clause-shown : goal.returns-in-NotReady-clause-shown
returns-in-NotReady-clause-shown g c = λ at may next. no_next _ _ at NotReady c.requires.cell may c.in-NotReady.ensures next tt

pub returns-in-Close-clause-shown : goal.returns-in-Close-clause-shown
returns-in-Close-clause-shown g c = λ at may next. no_next _ _ at Close c.requires.cell may c.in-Close.ensures next tt
