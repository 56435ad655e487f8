use Rattle.std.proofs.Common.{◌∙◌, ap}
use Rattle.mg_names.specs.TagIndex.{tag_index_of}
use Rattle.mg_names.proofs.TagIndexes.{tag_index_back}
use Rattle.mg_names.proofs.tag_index.print_tag_index.Goals as goal

pub returns-clause-read_back : goal.returns-clause-read_back
returns-clause-read_back c = λ known. ap tag_index_of (c.from_string.ensures ∙ c.in_ok-text.ensures) ∙ tag_index_back c.args.tag.now c.args.index known
