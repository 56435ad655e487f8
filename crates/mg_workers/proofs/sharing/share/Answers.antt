use Rattle.std.proofs.Common.{◌≡◌, List, ap, sym, subst, refl, ◌∙◌}
use Rattle.mg_calc.specs.declared.plan.Plan.{Plan}
use Rattle.mg_node.specs.Views.{IntakeView, EngineView}
use Rattle.mg_sched.specs.ComesApart.{PartsView, AreParts, ArePartsOf, IsPutTogether}
use Rattle.mg_turns.specs.Parts.{LayoutView, Fits, FitsSome, EdgesFit}
use Rattle.mg_turns.specs.Rule.{Ready}
use Rattle.mg_turns.specs.Calls.{key_of}
use Rattle.mg_turns.specs.declared.view.View.{View}
use Rattle.mg_workers.specs.Woven.{layout_by, layout_of}
use Rattle.mg_workers.proofs.Layouts.{some_fits, edges_fit, fits, can_be_shared}
use Rattle.mg_workers.proofs.Returning.{same_became}
use Rattle.mg_workers.proofs.sharing.share.Goals as goal

pub share_parts-requires-clause-ready : goal.share_parts-requires-clause-ready
share_parts-requires-clause-ready g c =
    let ps : PartsView = record { plan = c.apart-plan.result.plan; engines = c.apart-plan.result.engines.items; intakes = c.apart-plan.result.intakes.items; rest = c.apart-plan.result.rest } in
    let some = c.requires.stands in
    subst (λ (p : Plan). Ready (layout_by p c.apart-plan.result.engines.items c.apart-plan.result.intakes.items)) (sym c.plan.ensures) (can_be_shared some.job ps (c.apart-plan.ensures.parts some.job some.stands))

pub put_together-requires : goal.put_together-requires
put_together-requires g c =
    let some = c.requires.stands in
    let same = c.in-None.ensures.unchanged refl in
    subst (λ (es : List EngineView). AreParts g.C.NodeCalculator.laws (record { plan = c.apart-plan.result.plan; engines = es; intakes = c.share_parts.new.intakes.items; rest = c.apart-plan.result.rest })) (sym same.0)
    (subst (λ (is : List IntakeView). AreParts g.C.NodeCalculator.laws (record { plan = c.apart-plan.result.plan; engines = c.apart-plan.result.engines.items; intakes = is; rest = c.apart-plan.result.rest })) (sym same.1)
    (record { job = some.job; parts_of = c.apart-plan.ensures.parts some.job some.stands }))

pub returns-in-Some-clause-shared : goal.returns-in-Some-clause-shared
returns-in-Some-clause-shared g c =
    let ps : PartsView = record { plan = c.apart-plan.result.plan; engines = c.apart-plan.result.engines.items; intakes = c.apart-plan.result.intakes.items; rest = c.apart-plan.result.rest } in
    let some = c.requires.stands in
    let h = c.apart-plan.ensures.parts some.job some.stands in
    let key : key_of c.in-Some.shared ≡ layout_of ps = c.in-Some.ensures.key ∙ ap (λ (p : Plan). layout_by p c.apart-plan.result.engines.items c.apart-plan.result.intakes.items) c.plan.ensures in
    record {
      of = c.in-Some.ensures.seat.0;
      some = subst (λ (f : LayoutView). FitsSome g.C.NodeCalculator.laws f) (sym key) (some_fits some.job ps h);
      edges = subst (λ (f : LayoutView). EdgesFit f) (sym key) (edges_fit some.job ps h);
      free = ap (λ (v : View). v.work) c.in-Some.ensures.seat.1;
    }

pub returns-in-Some-clause-jobs : goal.returns-in-Some-clause-jobs
returns-in-Some-clause-jobs g c = λ job stands.
    let ps : PartsView = record { plan = c.apart-plan.result.plan; engines = c.apart-plan.result.engines.items; intakes = c.apart-plan.result.intakes.items; rest = c.apart-plan.result.rest } in
    let key : key_of c.in-Some.shared ≡ layout_of ps = c.in-Some.ensures.key ∙ ap (λ (p : Plan). layout_by p c.apart-plan.result.engines.items c.apart-plan.result.intakes.items) c.plan.ensures in
    subst (λ (f : LayoutView). Fits job f) (sym key) (fits job ps (c.apart-plan.ensures.parts job stands))

pub returns-in-None-clause-became : goal.returns-in-None-clause-became
returns-in-None-clause-became g c =
    let ps : PartsView = record { plan = c.apart-plan.result.plan; engines = c.apart-plan.result.engines.items; intakes = c.apart-plan.result.intakes.items; rest = c.apart-plan.result.rest } in
    let some = c.requires.stands in
    let same = c.in-None.ensures.unchanged refl in
    let given : PartsView = record { plan = c.apart-plan.result.plan; engines = c.share_parts.new.engines.items; intakes = c.share_parts.new.intakes.items; rest = c.apart-plan.result.rest } in
    let is : ps ≡ given = λ k. record { plan = c.apart-plan.result.plan; engines = sym same.0 k; intakes = sym same.1 k; rest = c.apart-plan.result.rest } in (
      c.put_together.ensures.running,
      same_became c.args.net c.put_together.result ps some c.apart-plan.ensures.apart (subst (λ (p : PartsView). IsPutTogether p c.put_together.result) (sym is) c.put_together.ensures.together)
          (λ job h. c.put_together.ensures.stands job (subst (λ (p : PartsView). ArePartsOf job p) is (c.apart-plan.ensures.parts job h))),
    )
