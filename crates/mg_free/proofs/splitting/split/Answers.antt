use Rattle.std.proofs.Common.{subst, sym}
use Rattle.mg_calc.specs.Plan.{IsValid}
use Rattle.mg_free.proofs.CoreValid.{core_is_valid}
use Rattle.mg_free.proofs.splitting.split.Goals as goal

pub returns-clause-valid : goal.returns-clause-valid
returns-clause-valid c = subst IsValid (sym c.in_ok-core.ensures) (core_is_valid c.args.plan.now c.requires)
