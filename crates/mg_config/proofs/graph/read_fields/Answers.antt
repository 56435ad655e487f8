use Rattle.std.proofs.Common.{◌∙◌, ap, map, codes}
use Rattle.std.proofs.lemmas.Result.{err_from_is_err_and, IfOk-weaker, MatchResult-weaker}
use Rattle.mg_text.specs.View.{field_view}
use Rattle.mg_config.specs.Values.{messages_in}
use Rattle.mg_config.specs.Faults.{calculator_fault}
use Rattle.mg_config.specs.Config.{graph_of, unless}
use Rattle.mg_config.proofs.Made.{config_stages}
use Rattle.mg_config.proofs.graph.read_fields.Goals as goal

pub returns-in_err-check_calculators-clause-err : goal.returns-in_err-check_calculators-clause-err
returns-in_err-check_calculators-clause-err c =
    let p = err_from_is_err_and c.from_residual-in_err-check_calculators.result c.from_residual-in_err-check_calculators.ensures.1 in
    rw (p.1, p.2) (λ ne. config_stages c.args.fields.now
    ∙ ap (λ o. unless o (unless (calculator_fault 0 (messages_in (codes "node") (map field_view c.args.fields.now))) (graph_of (map field_view c.args.fields.now)))) c.in_ok-check.ensures.ok
    ∙ ap (λ o. unless o (graph_of (map field_view c.args.fields.now))) (c.in_err-check_calculators.ensures.err ne))

pub returns-clause-ok : goal.returns-clause-ok
returns-clause-ok c = IfOk-weaker c.graph_of.result _ _ (λ graph h. config_stages c.args.fields.now
    ∙ ap (λ o. unless o (unless (calculator_fault 0 (messages_in (codes "node") (map field_view c.args.fields.now))) (graph_of (map field_view c.args.fields.now)))) c.in_ok-check.ensures.ok
    ∙ ap (λ o. unless o (graph_of (map field_view c.args.fields.now))) c.in_ok-check_calculators.ensures.ok ∙ h) c.graph_of.ensures.ok

pub returns-clause-err : goal.returns-clause-err
returns-clause-err c = MatchResult-weaker c.graph_of.result c.graph_of.ensures.err (λ x t. t) (λ fault h ne. config_stages c.args.fields.now
    ∙ ap (λ o. unless o (unless (calculator_fault 0 (messages_in (codes "node") (map field_view c.args.fields.now))) (graph_of (map field_view c.args.fields.now)))) c.in_ok-check.ensures.ok
    ∙ ap (λ o. unless o (graph_of (map field_view c.args.fields.now))) c.in_ok-check_calculators.ensures.ok ∙ h ne)
