use Rattle.std.proofs.Common.{◌∙◌, ap, length}
use Rattle.std.specs.Prelude.{unwrap_or}
use Rattle.mg_subgraph.proofs.Looked.{digits_in_front}
use Rattle.mg_subgraph.proofs.reserved.digit_count.Goals as goal

pub returns : goal.returns
returns c = c.unwrap_or.ensures ∙ (ap (λ o. unwrap_or o (length c.args.bytes.now)) c.first_other.ensures ∙ digits_in_front c.args.bytes.now)
