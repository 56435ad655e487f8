use Rattle.std.proofs.Common.{◌≡◌, ◌∙◌, sym, ap, subst, map}
use Rattle.std.proofs.lemmas.Result.{err_from_is_err_and}
use Rattle.mg_config.specs.Config.{node_view}
use Rattle.mg_check.specs.Drafts.{node_refusal}
use Rattle.mg_check.specs.Code.Choices.{choices_view}
use Rattle.mg_check.specs.Code.Judged.{AreJudged, fault_by}
use Rattle.mg_check.proofs.NodeFaults.{refusal_is, drafts_are}
use Rattle.mg_check.proofs.drafting.drafts_of.Goals as goal

pub returns-in_err-check_wrongs-clause-err : goal.returns-in_err-check_wrongs-clause-err
returns-in_err-check_wrongs-clause-err c =
    let outers = c.args.outers.now in
    let nodes = map node_view c.args.nodes.now in
    let stock = c.in_ok-stock.ensures in
    let chose = c.in_ok-choices.ensures in
    let judged : AreJudged c.in_ok-node_drafts.node_drafts outers (choices_view c.in_ok-choices.choices.list.items) =
    subst (λ l. AreJudged c.in_ok-node_drafts.node_drafts outers (choices_view l)) c.as_slice.ensures.value c.in_ok-node_drafts.ensures in
    let same : fault_by c.in_ok-node_drafts.node_drafts.wrongs.items ≡ node_refusal outers nodes =
    refusal_is outers nodes c.in_ok-stock.stock c.in_ok-choices.choices c.in_ok-node_drafts.node_drafts (c.in_ok-check_known.ensures.ok outers stock) (c.in_ok-check_boxes.ensures.ok outers nodes stock chose.wanted) stock chose
    judged in
    let p = err_from_is_err_and c.from_residual-in_err-check_wrongs.result c.from_residual-in_err-check_wrongs.ensures.1 in
    rw (p.1, p.2) (λ ne. sym same ∙ (ap fault_by (sym c.as_slice-2.ensures.value) ∙ c.in_err-check_wrongs.ensures.err ne))

pub returns-clause-ok : goal.returns-clause-ok
returns-clause-ok c =
    let outers = c.args.outers.now in
    let nodes = map node_view c.args.nodes.now in
    let stock = c.in_ok-stock.ensures in
    let chose = c.in_ok-choices.ensures in
    let judged : AreJudged c.in_ok-node_drafts.node_drafts outers (choices_view c.in_ok-choices.choices.list.items) =
    subst (λ l. AreJudged c.in_ok-node_drafts.node_drafts outers (choices_view l)) c.as_slice.ensures.value c.in_ok-node_drafts.ensures in
    let same : fault_by c.in_ok-node_drafts.node_drafts.wrongs.items ≡ node_refusal outers nodes =
    refusal_is outers nodes c.in_ok-stock.stock c.in_ok-choices.choices c.in_ok-node_drafts.node_drafts (c.in_ok-check_known.ensures.ok outers stock) (c.in_ok-check_boxes.ensures.ok outers nodes stock chose.wanted) stock chose
    judged in
    (sym same ∙ (ap fault_by (sym c.as_slice-2.ensures.value) ∙ c.in_ok-check_wrongs.ensures.ok), drafts_are outers nodes c.in_ok-stock.stock c.in_ok-choices.choices c.in_ok-node_drafts.node_drafts stock chose judged)
