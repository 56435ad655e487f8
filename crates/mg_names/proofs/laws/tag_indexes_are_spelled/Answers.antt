use Rattle.mg_names.proofs.TagIndexes.{tag_index_passes}
use Rattle.mg_names.proofs.laws.tag_indexes_are_spelled.Goals as goal

pub returns : goal.returns
returns c = tag_index_passes
