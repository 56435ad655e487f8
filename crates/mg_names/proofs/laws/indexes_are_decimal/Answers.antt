use Rattle.std.proofs.Common.{ap, ◌∙◌}
use Rattle.mg_names.specs.Grammar.{index_of}
use Rattle.mg_names.proofs.Again.{index_below}
use Rattle.mg_names.proofs.Pairs.{index_is_decimal}
use Rattle.mg_names.proofs.ReadBack.{index_of-decimal}
use Rattle.mg_names.proofs.laws.indexes_are_decimal.Goals as goal

pub returns : goal.returns
returns c = λ text index. (λ spelled. (index_below text index spelled, index_is_decimal text index spelled), λ known. ap index_of known.1 ∙ index_of-decimal index known.0)
