use Rattle.std.proofs.Common.{◌≡◌, ◌∙◌, List, None, length, ap, sym, arith}
use Rattle.std.proofs.lemmas.List.{with_items_is}
use Rattle.mg_value.specs.Payload.{Plain}
use Rattle.mg_settled.specs.Prefix.{StreamPrefix}
use Rattle.mg_calc.specs.Laying.{laid_behind}
use Rattle.mg_route.specs.Reasons.{reason_of, laid_on, all_laid_on}
use Rattle.mg_equations.specs.Code.Seen.{seen}
use Rattle.mg_route.proofs.LayingLemmas.{emission_laid, laid_long}
use Rattle.mg_equations.proofs.OutcomeSteps.{laid_well}
use Rattle.mg_equations.proofs.outcome.Outcome.lay.Goals as goal

pub returns-in_ok-lay_all-in-None : goal.returns-in_ok-lay_all-in-None
returns-in_ok-lay_all-in-None c =
    let offset = c.args.offset in
    let phase = c.args.phase.now in
    let before = seen c.args.self.now in
    let emission = c.args.emission.now in
    let none : reason_of (laid_behind offset phase before.outputs emission) ≡ None =
    ap (λ (xs : List (StreamPrefix Plain)). reason_of (laid_behind offset phase xs emission)) (sym c.deref.ensures.value) ∙ (sym c.emission_fault.ensures ∙ c.in-None.is) in
    let now = c.in_ok-lay_all-in-None.ensures in
    laid_well phase before (laid_behind offset phase before.outputs emission) (all_laid_on before.outputs emission) _ (emission_laid offset phase before.outputs emission none)
    (with_items_is c.args.self.now.outputs c.lay_all.new.outputs (omega (arith, ap length now, laid_long laid_on c.deref_mut.result.now emission, c.deref_mut.ensures.len))
    ∙ (now ∙ ap (λ (xs : List (StreamPrefix Plain)). all_laid_on xs emission) c.deref_mut.ensures.value))
