use Rattle.std.proofs.lemmas.List.Elements.{recursion_from_All}
use Rattle.mg_settled.specs.Prefix.{IsPrefix}
use Rattle.mg_calc.proofs.Counting.{shown_ascend, shown_below, shown_as_counted, log_long}
use Rattle.mg_calc.proofs.laws.shown_sets_are_settled.Goals as goal

pub returns-clause-ascend : goal.returns-clause-ascend
returns-clause-ascend c = λ job streams node k. shown_ascend job streams node (recursion_from_All IsPrefix streams k)

pub returns-clause-bounds : goal.returns-clause-bounds
returns-clause-bounds c = λ job streams node k. shown_below job streams node (recursion_from_All IsPrefix streams k)

pub returns-clause-counted : goal.returns-clause-counted
returns-clause-counted c = λ job streams node is. shown_as_counted job streams node is

pub returns-clause-logged : goal.returns-clause-logged
returns-clause-logged c = λ job streams node. log_long job streams node
