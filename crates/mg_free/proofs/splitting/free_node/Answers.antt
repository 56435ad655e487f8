use Rattle.std.proofs.Common.{◌∙◌, ℕ, List, Option, Some, map, option_map, slice_index_or, ap}
use Rattle.mg_free.specs.declared.law.FreeLaw.{FreeLaw}
use Rattle.mg_free.specs.declared.node.FreeNode.{FreeNode}
use Rattle.mg_free.specs.Core.{core_streams, stream_number}
use Rattle.mg_free.proofs.splitting.free_node.Goals as goal

pub returns : goal.returns
returns c =
    let plan = c.args.plan.now in
    let node = c.args.node.now in
    let inputs = c.in_ok-inputs.ensures (core_streams plan) c.requires.streams ∙ ap (λ (l : List ℕ). map (stream_number plan) l) c.as_slice.ensures in
    let outputs = c.in_ok-outputs.ensures (core_streams plan) c.requires.streams ∙ ap (λ (l : List ℕ). map (stream_number plan) l) c.as_slice-2.ensures in
    let output = c.first_of-output.ensures ∙ ap (λ (l : List ℕ). slice_index_or l 0 0) outputs in
    let made : FreeLaw → FreeNode = λ rule. record { node = c.args.number; law = rule; inputs = map (stream_number plan) node.inputs; output = slice_index_or (map (stream_number plan) node.outputs) 0 0 } in
    (λ i. Some (record { node = c.args.number; law = c.in-Some.law; inputs = inputs i; output = output i })) ∙ ap (λ (o : Option FreeLaw). option_map made o) c.in-Some.ensures
