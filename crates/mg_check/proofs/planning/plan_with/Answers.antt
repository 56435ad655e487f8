use Rattle.std.proofs.Common.{◌∙◌, sym, ap, subst, List}
use Rattle.std.proofs.lemmas.Result.{err_from_is_err_and}
use Rattle.mg_config.specs.Config.{graph_view}
use Rattle.mg_check.specs.DraftView.{drafts_view}
use Rattle.mg_check.specs.Joining.{join_refusal}
use Rattle.mg_check.specs.Code.Refusing.{AreWired}
use Rattle.mg_check.specs.declared.draft.Draft.{Draft}
use Rattle.mg_check.proofs.planning.plan_with.Goals as goal

pub returns-in_err-joined-clause-err : goal.returns-in_err-joined-clause-err
returns-in_err-joined-clause-err c =
    let p = err_from_is_err_and c.from_residual.result c.from_residual.ensures.1 in
    rw (p.1, p.2) (λ ne. ap (λ l. join_refusal (graph_view c.args.graph.now) (drafts_view l)) (sym c.as_slice.ensures.value) ∙ c.in_err-joined.ensures.err ne)

pub plan_of-requires-clause-wiring : goal.plan_of-requires-clause-wiring
plan_of-requires-clause-wiring c =
    let P : List Draft → Type 0 = λ l. AreWired c.in_ok-joined.joined.wiring (graph_view c.args.graph.now) (drafts_view l) in
    subst P c.as_slice.ensures.value c.in_ok-joined.ensures.wiring

pub returns-clause-ok : goal.returns-clause-ok
returns-clause-ok c = ap (λ l. join_refusal (graph_view c.args.graph.now) (drafts_view l)) (sym c.as_slice.ensures.value) ∙ c.in_ok-joined.ensures.ok
