use Rattle.std.proofs.Common.{Some}
use Rattle.std.proofs.lemmas.Result.{err_from_is_err_and}
use Rattle.mg_config.specs.Config.{graph_view}
use Rattle.mg_check.specs.DraftView.{drafts_view}
use Rattle.std.specs.Option.{option_or}
use Rattle.mg_check.specs.Joining.{two_producers, no_producer, side_missing}
use Rattle.mg_check.proofs.Refused.{or_first, refused_by_names, refused_by_wiring}
use Rattle.mg_check.proofs.planning.join.Goals as goal

pub returns-in_err-plan_names-clause-err : goal.returns-in_err-plan_names-clause-err
returns-in_err-plan_names-clause-err c =
    let graph = graph_view c.args.graph.now in
    let ds = drafts_view c.args.drafts.now in
    let p = err_from_is_err_and c.from_residual.result c.from_residual.ensures.1 in
    rw (p.1, p.2) (λ ne. refused_by_names graph ds c.in_err-plan_names.field-0.0
    (or_first (two_producers graph ds) (option_or (no_producer graph ds) (side_missing graph ds)) c.in_err-plan_names.field-0.0 (c.in_err-plan_names.ensures.err ne)))

pub returns-in_err-check_names-clause-err : goal.returns-in_err-check_names-clause-err
returns-in_err-check_names-clause-err c =
    let p = err_from_is_err_and c.from_residual-in_err-check_names.result c.from_residual-in_err-check_names.ensures.1 in
    rw (p.1, p.2) (λ ne. refused_by_names (graph_view c.args.graph.now) (drafts_view c.args.drafts.now) c.in_err-check_names.field-0.0 (c.in_err-check_names.ensures.err ne))

pub returns-in_err-check_wiring-clause-err : goal.returns-in_err-check_wiring-clause-err
returns-in_err-check_wiring-clause-err c =
    let p = err_from_is_err_and c.from_residual-in_err-check_wiring.result c.from_residual-in_err-check_wiring.ensures.1 in
    rw (p.1, p.2) (λ ne. refused_by_wiring (graph_view c.args.graph.now) (drafts_view c.args.drafts.now) (Some c.in_err-check_wiring.field-0.0) c.in_ok-check_names.ensures.ok (c.in_err-check_wiring.ensures.err ne))
