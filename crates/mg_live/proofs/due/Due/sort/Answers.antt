use Rattle.std.proofs.lemmas.List.Sorted.{IsNonDecreasingBy-from_sort}
use Rattle.mg_live.proofs.Turned.{below_rise, below_undue, sorted_none}
use Rattle.mg_live.proofs.due.Due.sort.Goals as goal

pub returns-then-self-clause-sorted : goal.returns-then-self-clause-sorted
returns-then-self-clause-sorted c = below_rise c.args.count c.fill.new.due.items c.in_ok-fill.ensures

pub returns-then-self-clause-due : goal.returns-then-self-clause-due
returns-then-self-clause-due c = λ place less none. below_undue c.args.self.now c.args.count c.fill.new.due.items place c.in_ok-fill.ensures less none

pub returns-clause-sorted : goal.returns-clause-sorted
returns-clause-sorted c = IsNonDecreasingBy-from_sort (λ n. n) _ c.sort_unstable.ensures.sorted

pub returns-clause-due : goal.returns-clause-due
returns-clause-due c = λ place less none. (c.if-self.false, sorted_none c.args.self.now.places.items c.sort_unstable.new.self.items place c.sort_unstable.ensures.permutation none)
