use Rattle.std.proofs.Common.{sym, ◌∙◌}
use Rattle.mg_names.proofs.Standing.{table_ok, table_gap}
use Rattle.mg_names.proofs.indexing.table_of.Goals as goal

pub returns-then-any_lacks_lower-clause-err : goal.returns-then-any_lacks_lower-clause-err
returns-then-any_lacks_lower-clause-err c =
    λ _. table_gap c.args.ports.now c.in_ok-places.places c.in_ok-places.ensures.once c.in_ok-places.ensures.places (sym c.any_lacks_lower.ensures ∙ c.if-any_lacks_lower.true)

pub returns-clause-ok : goal.returns-clause-ok
returns-clause-ok c = table_ok c.args.ports.now c.in_ok-places.places c.in_ok-places.ensures.once c.in_ok-places.ensures.places (sym c.any_lacks_lower.ensures ∙ c.if-any_lacks_lower.false)
