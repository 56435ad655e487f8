use Rattle.std.proofs.Common.{◌∙◌, ap, map, List, ℕ}
use Rattle.mg_free.specs.Core.{core_streams, stream_number}
use Rattle.mg_free.proofs.core_parts.core_node.Goals as goal

pub returns : goal.returns
returns c =
    let plan = c.args.plan.now in
    let same = c.in_ok-now.ensures in
    let inputs = c.in_ok-inputs.ensures (core_streams plan) c.requires.streams ∙ ap (λ (l : List ℕ). map (stream_number plan) l) c.as_slice.ensures in
    let outputs = c.in_ok-outputs.ensures (core_streams plan) c.requires.streams ∙ ap (λ (l : List ℕ). map (stream_number plan) l) c.as_slice-2.ensures in
    λ i. record (same i) { inputs = inputs i; outputs = outputs i }
