use Rattle.std.proofs.Common.{◌≡◌, Option, None, Some, IfNone}
use Rattle.mg_calc.specs.Plan.{IsValid}
use Rattle.mg_run.proofs.action.plan_action.Goals as goal

none_holds : {X : Type 0} (o : Option X) (P : Type 0) → o ≡ None → IfNone o P → P
none_holds None P is holds = holds
none_holds (Some x) P is holds = absurd (let e = is in cc)

pub returns-in-None-clause-valid : goal.returns-in-None-clause-valid
returns-in-None-clause-valid c =
    c.way_action.ensures.valid c.args.outers.now (none_holds _ (IsValid c.in-Ok.plan) c.in-None.is (c.first_free.ensures.valid c.in-Ok.ensures.valid)) c.in-Ok.ensures.fit

pub returns-in-Some-clause-valid : goal.returns-in-Some-clause-valid
returns-in-Some-clause-valid c = c.live_action.ensures.valid c.args.outers.now c.in-Ok.ensures.valid c.in-Ok.ensures.fit
