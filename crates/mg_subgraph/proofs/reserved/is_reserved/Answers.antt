use Rattle.std.proofs.Common.{arith}
use Rattle.std.proofs.lemmas.List.Sums.{prefix_len-le-length}
use Rattle.mg_names.specs.Grammar.{is_digit}
use Rattle.mg_subgraph.proofs.reserved.is_reserved.Goals as goal

pub split_at-requires : goal.split_at-requires
split_at-requires c = omega (arith, c.digit_count-count.ensures, prefix_len-le-length is_digit c.in-Some-eq115-default.rest.now)
