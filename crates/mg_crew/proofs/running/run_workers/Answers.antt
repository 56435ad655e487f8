use Rattle.std.proofs.Common.{◌∙◌, inl, inr, sym, subst}
use Rattle.mg_calc.specs.Plan.{IsValid}
use Rattle.mg_crew.proofs.Levelled.{kept_plan, kept_valid, goes_on}
use Rattle.mg_crew.proofs.running.run_workers.Goals as goal

pub run_shared-seat-requires-clause-valid : goal.run_shared-seat-requires-clause-valid
run_shared-seat-requires-clause-valid g c κs within = subst IsValid (sym c.plan.ensures) (kept_valid _ _ _ c.requires.stands c.in-Ok.ensures.of)

pub run_shared-seat-requires-clause-plan : goal.run_shared-seat-requires-clause-plan
run_shared-seat-requires-clause-plan g c κs within = c.plan.ensures ∙ kept_plan _ _ _ c.in-Ok.ensures.of

pub unshare-requires-clause-whole : goal.unshare-requires-clause-whole
unshare-requires-clause-whole g c = c.run_shared-seat.ensures.portion ∙ c.in-Ok.ensures.whole

pub unshare-requires-clause-kept : goal.unshare-requires-clause-kept
unshare-requires-clause-kept g c = (c.args.net, c.requires.stands, c.in-Ok.ensures.of)

pub returns-in-Ok-clause-became : goal.returns-in-Ok-clause-became
returns-in-Ok-clause-became g c = c.unshare.ensures.became c.args.net c.requires.stands c.in-Ok.ensures.of

pub returns-in-Ok-clause-left : goal.returns-in-Ok-clause-left
returns-in-Ok-clause-left g c = inr (inr (goes_on _ _ _ _ _ c.in-Ok.ensures.of c.unshare.ensures.parts))

pub returns-in-Err-clause-left : goal.returns-in-Err-clause-left
returns-in-Err-clause-left g c = inr (inl c.in-Err.ensures.back)
