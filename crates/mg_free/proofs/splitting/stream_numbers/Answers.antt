use Rattle.std.proofs.Common.{◌∙◌, ℕ, List, map, ap}
use Rattle.mg_calc.specs.Plan.{numbers}
use Rattle.mg_free.specs.Core.{core_streams, stream_number}
use Rattle.mg_free.proofs.splitting.stream_numbers.Goals as goal

pub returns : goal.returns
returns c =
    let plan = c.args.plan.now in
    c.in_ok-streams.ensures (core_streams plan) c.requires.streams ∙ ap (λ (l : List ℕ). map (stream_number plan) l) (c.as_slice.ensures ∙ c.in_ok-all.ensures ∙ ap numbers c.len.ensures)
