use Rattle.std.proofs.Common.{◌∙◌, ℕ, List, map, ap, rules, w32}
use Rattle.std.proofs.lemmas.Int.{to_z-of_z}
use mir.Val.{SFits}
use Rattle.mg_free.specs.Core.{core_streams, stream_number}
use Rattle.mg_free.proofs.splitting.core.Goals as goal

pub returns : goal.returns
returns c =
    let plan = c.args.plan.now in
    let nodes = c.in_ok-nodes.ensures in
    let streams = c.in_ok-streams.ensures in
    let edges = c.in_ok-edges.ensures in
    let order = c.in_ok-order.ensures in
    let inputs = c.in_ok-inputs.ensures in
    let outputs = c.in_ok-outputs.ensures (core_streams plan) c.requires.streams ∙ ap (λ (l : List ℕ). map (stream_number plan) l) c.as_slice.ensures in
    let sides = c.in_ok-sides.ensures in
    let fits : SFits w32 plan.limit = search rules in
    let limit = to_z-of_z w32 plan.limit fits in
    λ i. record {
      nodes = nodes i;
      streams = streams i;
      edges = edges i;
      order = order i;
      inputs = inputs i;
      outputs = outputs i;
      sides = sides i;
      limit = limit i;
      workers = plan.workers;
    }
