use Rattle.std.proofs.Common.{◌≡◌, None, List, map, ap, subst}
use Rattle.std.proofs.lemmas.Result.{err_from_is_err_and}
use Rattle.mg_config.specs.Config.{NodeView, graph_view, node_view}
use Rattle.mg_check.specs.Drafts.{drafts, node_refusal}
use Rattle.mg_check.specs.DraftView.{drafts_view}
use Rattle.mg_check.proofs.Checked.{has-plan, refused-then, few-drafts, few-nodes}
use Rattle.mg_check.proofs.Valid.{checked_is_valid}
use Rattle.mg_check.proofs.checking.check.Goals as goal

pub plan_with-requires : goal.plan_with-requires
plan_with-requires c =
    let same = ap (map node_view) c.as_slice.ensures in
    few-drafts c.args.outers.now (graph_view c.args.config.now).nodes c.in_ok-drafts.drafts.items
    (subst (λ (ns : List NodeView). drafts_view c.in_ok-drafts.drafts.items ≡ drafts c.args.outers.now ns) same c.in_ok-drafts.ensures.ok.1)
    (few-nodes c.args.config.now c.requires.few)

pub returns-in_err-plan-clause-err : goal.returns-in_err-plan-clause-err
returns-in_err-plan-clause-err c =
    let same = ap (map node_view) c.as_slice.ensures in
    let p = err_from_is_err_and c.from_residual-in_err-plan.result c.from_residual-in_err-plan.ensures.1 in
    rw (p.1, p.2) (λ known. refused-then c.args.outers.now (graph_view c.args.config.now) (drafts_view c.in_ok-drafts.drafts.items) c.in_err-plan.field-0.0
    (subst (λ (ns : List NodeView). node_refusal c.args.outers.now ns ≡ None) same c.in_ok-drafts.ensures.ok.0)
    (subst (λ (ns : List NodeView). drafts_view c.in_ok-drafts.drafts.items ≡ drafts c.args.outers.now ns) same c.in_ok-drafts.ensures.ok.1)
    (c.in_err-plan.ensures.err known))

pub returns-clause-ok : goal.returns-clause-ok
returns-clause-ok c =
    let same = ap (map node_view) c.as_slice.ensures in
    has-plan c.args.outers.now (graph_view c.args.config.now) (drafts_view c.in_ok-drafts.drafts.items) c.in_ok-plan.plan
    (subst (λ (ns : List NodeView). node_refusal c.args.outers.now ns ≡ None) same c.in_ok-drafts.ensures.ok.0)
    (subst (λ (ns : List NodeView). drafts_view c.in_ok-drafts.drafts.items ≡ drafts c.args.outers.now ns) same c.in_ok-drafts.ensures.ok.1)
    c.in_ok-plan.ensures.ok c.in_ok-plan.ensures.plan

pub returns-clause-valid : goal.returns-clause-valid
returns-clause-valid c =
    (checked_is_valid c.args.outers.now (graph_view c.args.config.now) c.in_ok-plan.plan c.requires.outers (few-nodes c.args.config.now c.requires.few) (returns-clause-ok c)).0

pub returns-clause-fit : goal.returns-clause-fit
returns-clause-fit c =
    (checked_is_valid c.args.outers.now (graph_view c.args.config.now) c.in_ok-plan.plan c.requires.outers (few-nodes c.args.config.now c.requires.few) (returns-clause-ok c)).1
