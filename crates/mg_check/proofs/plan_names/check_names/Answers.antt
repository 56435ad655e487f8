use Rattle.std.proofs.Common.{None, Some}
use Rattle.std.proofs.lemmas.Result.{err_from_is_err_and}
use Rattle.mg_names.proofs.Keys.{on_ok}
use Rattle.mg_config.specs.Config.{graph_view}
use Rattle.mg_check.specs.DraftView.{drafts_view}
use Rattle.mg_check.specs.Joining.{two_producers, no_producer, side_missing}
use Rattle.std.specs.Option.{option_or}
use Rattle.mg_check.proofs.Refused.{or_first, or_next, on_err}
use Rattle.mg_check.proofs.plan_names.check_names.Goals as goal

pub returns-in_err-check_streams-clause-err : goal.returns-in_err-check_streams-clause-err
returns-in_err-check_streams-clause-err c =
    let graph = graph_view c.args.graph.now in
    let ds = drafts_view c.args.drafts.now in
    let p = err_from_is_err_and c.from_residual.result c.from_residual.ensures.1 in
    rw (p.1, p.2) (λ ne. or_next (two_producers graph ds) (option_or (no_producer graph ds) (side_missing graph ds)) (Some c.in_err-check_streams.field-0.0) c.requires.once
    (or_first (no_producer graph ds) (side_missing graph ds) c.in_err-check_streams.field-0.0 (c.in_err-check_streams.ensures.err ne)))

pub returns-clause-ok : goal.returns-clause-ok
returns-clause-ok c =
    let graph = graph_view c.args.graph.now in
    let ds = drafts_view c.args.drafts.now in
    on_ok c.check_sides.result (λ last. or_next (two_producers graph ds) (option_or (no_producer graph ds) (side_missing graph ds)) None c.requires.once
    (or_next (no_producer graph ds) (side_missing graph ds) None c.in_ok-check_streams.ensures.ok last)) c.check_sides.ensures.ok

pub returns-clause-err : goal.returns-clause-err
returns-clause-err c =
    let graph = graph_view c.args.graph.now in
    let ds = drafts_view c.args.drafts.now in
    on_err c.check_sides.result (λ fault last ne. or_next (two_producers graph ds) (option_or (no_producer graph ds) (side_missing graph ds)) (Some fault) c.requires.once
    (or_next (no_producer graph ds) (side_missing graph ds) (Some fault) c.in_ok-check_streams.ensures.ok (last ne))) c.check_sides.ensures.err
