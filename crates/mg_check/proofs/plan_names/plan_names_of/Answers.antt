use Rattle.std.proofs.Common.{◌∙◌, ap}
use Rattle.std.specs.Prelude.{option_map}
use Rattle.std.proofs.lemmas.Result.{err_from_is_err_and}
use Rattle.mg_config.specs.Config.{graph_view}
use Rattle.mg_kinds.specs.Kinds.{names_of}
use Rattle.mg_check.specs.DraftView.{drafts_view}
use Rattle.mg_check.specs.declared.fault.CheckFault.TheVariants.{TwoProducers}
use Rattle.mg_check.proofs.Refused.{stream_again, side_again}
use Rattle.mg_check.proofs.plan_names.plan_names_of.Goals as goal

pub returns-in_err-streams-clause-err : goal.returns-in_err-streams-clause-err
returns-in_err-streams-clause-err c =
    let p = err_from_is_err_and c.from_residual-in_err-streams.result c.from_residual-in_err-streams.ensures.1 in
    rw (p.1, p.2) (λ ne. stream_again (graph_view c.args.graph.now) (drafts_view c.args.drafts.now) (names_of c.as_slice.result.now) c.in_err-streams.field-0.0
    (ap names_of c.as_slice.ensures.value ∙ c.in_ok-texts.ensures) (c.in_err-streams.ensures.err ne))

pub returns-in_err-sides-clause-err : goal.returns-in_err-sides-clause-err
returns-in_err-sides-clause-err c =
    let p = err_from_is_err_and c.from_residual-in_err-sides.result c.from_residual-in_err-sides.ensures.1 in
    rw (p.1, p.2) (λ ne.
    side_again (graph_view c.args.graph.now) (drafts_view c.args.drafts.now) (names_of c.as_slice.result.now) (names_of c.as_slice-2.result.now)
    (ap names_of c.as_slice.ensures.value ∙ c.in_ok-texts.ensures) (ap names_of c.as_slice-2.ensures.value ∙ c.in_ok-texts-2.ensures) c.in_ok-streams.ensures.once
    ∙ c.in_err-sides.ensures.err ne)

pub returns-clause-ok : goal.returns-clause-ok
returns-clause-ok c =
    let one = ap names_of c.as_slice.ensures.value ∙ c.in_ok-texts.ensures in
    let two = ap names_of c.as_slice-2.ensures.value ∙ c.in_ok-texts-2.ensures in
    record {
      of_streams = c.in_ok-streams.ensures.ok ∙ one;
      of_sides = c.in_ok-sides.ensures.ok ∙ two;
      once =
          side_again (graph_view c.args.graph.now) (drafts_view c.args.drafts.now) (names_of c.as_slice.result.now) (names_of c.as_slice-2.result.now) one two c.in_ok-streams.ensures.once
          ∙ ap (option_map TwoProducers) c.in_ok-sides.ensures.once;
    }
