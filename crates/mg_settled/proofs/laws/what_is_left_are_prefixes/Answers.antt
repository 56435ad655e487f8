use Rattle.mg_settled.proofs.Behind.{all_after_sets, all_without_first, from_is_prefix, behind_is_prefix}
use Rattle.mg_settled.proofs.laws.what_is_left_are_prefixes.Goals as goal

pub returns-clause-after_sets : goal.returns-clause-after_sets
returns-clause-after_sets c = λ policy k ss h. all_after_sets policy k ss h

pub returns-clause-without_first : goal.returns-clause-without_first
returns-clause-without_first c = λ ss gone h. all_without_first ss gone h

pub returns-clause-from : goal.returns-clause-from
returns-clause-from c = λ t s h. from_is_prefix t s h

pub returns-clause-behind : goal.returns-clause-behind
returns-clause-behind c = λ t s h. behind_is_prefix t s h
