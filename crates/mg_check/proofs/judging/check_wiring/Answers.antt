use Rattle.std.proofs.Common.{◌∙◌, sym, ap, length, None, Some}
use Rattle.std.proofs.lemmas.Result.{err_from_is_err_and}
use Rattle.mg_names.proofs.Keys.{on_ok}
use Rattle.mg_config.specs.Config.{graph_view}
use Rattle.mg_check.specs.DraftView.{drafts_view}
use Rattle.mg_check.specs.Joining.{kind_clash, back_edge_misplaced, cycle, too_many}
use Rattle.std.specs.Option.{option_or}
use Rattle.mg_check.proofs.Refused.{or_first, or_next, clash_is, cycle_is, count_is, on_err}
use Rattle.mg_check.proofs.Between.{order_within}
use Rattle.mg_check.proofs.judging.check_wiring.Goals as goal

pub returns-in_err-check_kinds-clause-err : goal.returns-in_err-check_kinds-clause-err
returns-in_err-check_kinds-clause-err c =
    let graph = graph_view c.args.graph.now in
    let ds = drafts_view c.args.drafts.now in
    let same_kinds = sym (clash_is c.args.plan_names.now.streams c.as_slice.result.now c.args.wiring.now.mets.items graph ds c.requires.plan_names.of_streams c.as_slice.ensures.value c.requires.wiring.all_mets) in
    let p = err_from_is_err_and c.from_residual.result c.from_residual.ensures.1 in
    rw (p.1, p.2) (λ ne. or_first (kind_clash graph ds) (option_or (back_edge_misplaced ds) (option_or (cycle graph ds) (too_many graph ds))) c.in_err-check_kinds.field-0.0 (same_kinds ∙ c.in_err-check_kinds.ensures.err ne))

pub returns-in_err-check_back-clause-err : goal.returns-in_err-check_back-clause-err
returns-in_err-check_back-clause-err c =
    let graph = graph_view c.args.graph.now in
    let ds = drafts_view c.args.drafts.now in
    let same_kinds = sym (clash_is c.args.plan_names.now.streams c.as_slice.result.now c.args.wiring.now.mets.items graph ds c.requires.plan_names.of_streams c.as_slice.ensures.value c.requires.wiring.all_mets) in
    let p = err_from_is_err_and c.from_residual-in_err-check_back.result c.from_residual-in_err-check_back.ensures.1 in
    rw (p.1, p.2) (λ ne. or_next (kind_clash graph ds) (option_or (back_edge_misplaced ds) (option_or (cycle graph ds) (too_many graph ds))) (Some c.in_err-check_back.field-0.0) (same_kinds ∙ c.in_ok-check_kinds.ensures.ok)
    (or_first (back_edge_misplaced ds) (option_or (cycle graph ds) (too_many graph ds)) c.in_err-check_back.field-0.0 c.in_err-check_back.ensures.err))

pub check_cycle-requires : goal.check_cycle-requires
check_cycle-requires c = order_within c.args.drafts.now (graph_view c.args.graph.now) c.as_slice-2.result.now c.args.wiring.now.order.items c.as_slice-2.ensures.value c.requires.wiring.in_order

pub returns-in_err-check_cycle-clause-err : goal.returns-in_err-check_cycle-clause-err
returns-in_err-check_cycle-clause-err c =
    let graph = graph_view c.args.graph.now in
    let ds = drafts_view c.args.drafts.now in
    let same_kinds = sym (clash_is c.args.plan_names.now.streams c.as_slice.result.now c.args.wiring.now.mets.items graph ds c.requires.plan_names.of_streams c.as_slice.ensures.value c.requires.wiring.all_mets) in
    let same_order = sym (cycle_is c.args.drafts.now graph c.as_slice-2.result.now c.args.wiring.now.order.items c.as_slice-2.ensures.value c.requires.wiring.in_order) in
    let p = err_from_is_err_and c.from_residual-in_err-check_cycle.result c.from_residual-in_err-check_cycle.ensures.1 in
    rw (p.1, p.2) (λ ne. or_next (kind_clash graph ds) (option_or (back_edge_misplaced ds) (option_or (cycle graph ds) (too_many graph ds))) (Some c.in_err-check_cycle.field-0.0) (same_kinds ∙ c.in_ok-check_kinds.ensures.ok)
    (or_next (back_edge_misplaced ds) (option_or (cycle graph ds) (too_many graph ds)) (Some c.in_err-check_cycle.field-0.0) c.in_ok-check_back.ensures.ok
    (or_first (cycle graph ds) (too_many graph ds) c.in_err-check_cycle.field-0.0 (same_order ∙ c.in_err-check_cycle.ensures.err ne))))

pub returns-clause-ok : goal.returns-clause-ok
returns-clause-ok c =
    let graph = graph_view c.args.graph.now in
    let ds = drafts_view c.args.drafts.now in
    let same_kinds = sym (clash_is c.args.plan_names.now.streams c.as_slice.result.now c.args.wiring.now.mets.items graph ds c.requires.plan_names.of_streams c.as_slice.ensures.value c.requires.wiring.all_mets) in
    let same_order = sym (cycle_is c.args.drafts.now graph c.as_slice-2.result.now c.args.wiring.now.order.items c.as_slice-2.ensures.value c.requires.wiring.in_order) in
    let same_counts = sym (count_is graph ds (length c.as_slice-3.result.now) c.len.result (ap length (c.as_slice-3.ensures.value ∙ c.requires.wiring.all_edges)) c.len.ensures) in
    on_ok c.check_counts.result (λ last. or_next (kind_clash graph ds) (option_or (back_edge_misplaced ds) (option_or (cycle graph ds) (too_many graph ds))) None (same_kinds ∙ c.in_ok-check_kinds.ensures.ok)
    (or_next (back_edge_misplaced ds) (option_or (cycle graph ds) (too_many graph ds)) None c.in_ok-check_back.ensures.ok
    (or_next (cycle graph ds) (too_many graph ds) None (same_order ∙ c.in_ok-check_cycle.ensures.ok) (same_counts ∙ last)))) c.check_counts.ensures.ok

pub returns-clause-err : goal.returns-clause-err
returns-clause-err c =
    let graph = graph_view c.args.graph.now in
    let ds = drafts_view c.args.drafts.now in
    let same_kinds = sym (clash_is c.args.plan_names.now.streams c.as_slice.result.now c.args.wiring.now.mets.items graph ds c.requires.plan_names.of_streams c.as_slice.ensures.value c.requires.wiring.all_mets) in
    let same_order = sym (cycle_is c.args.drafts.now graph c.as_slice-2.result.now c.args.wiring.now.order.items c.as_slice-2.ensures.value c.requires.wiring.in_order) in
    let same_counts = sym (count_is graph ds (length c.as_slice-3.result.now) c.len.result (ap length (c.as_slice-3.ensures.value ∙ c.requires.wiring.all_edges)) c.len.ensures) in
    on_err c.check_counts.result (λ fault last ne. or_next (kind_clash graph ds) (option_or (back_edge_misplaced ds) (option_or (cycle graph ds) (too_many graph ds))) (Some fault) (same_kinds ∙ c.in_ok-check_kinds.ensures.ok)
    (or_next (back_edge_misplaced ds) (option_or (cycle graph ds) (too_many graph ds)) (Some fault) c.in_ok-check_back.ensures.ok
    (or_next (cycle graph ds) (too_many graph ds) (Some fault) (same_order ∙ c.in_ok-check_cycle.ensures.ok) (same_counts ∙ last)))) c.check_counts.ensures.err
