use Rattle.std.proofs.Common.{◌∙◌, ap}
use Rattle.mg_value.specs.Payload.{Plain}
use Rattle.mg_stream.specs.Pool.{Backlog}
use Rattle.mg_sched.proofs.Finding.{read_at}
use Rattle.mg_sched.proofs.StreamLooks.{output_found}
use Rattle.mg_sched.proofs.net.looking.bound_of.Goals as goal

pub bounds-engines-place : goal.bounds-engines-place
bounds-engines-place g c = c.requires.outputs.place _ _ _ c.output_of-place.ensures.laid

pub bound-requires : goal.bound-requires
bound-requires g c =
    (c.requires.outputs.output _ _ _ c.index-engines-place.result c.output_of-place.ensures.laid
    (read_at c.args.engines.now c.output_of-place.result.0 c.index-engines-place.result (c.requires.outputs.place _ _ _ c.output_of-place.ensures.laid) c.index-engines-place.is)).within

pub returns : goal.returns
returns g c = λ output is.
    let there = read_at c.args.engines.now c.output_of-place.result.0 c.index-engines-place.result (c.requires.outputs.place _ _ _ c.output_of-place.ensures.laid) c.index-engines-place.is in
    c.bound.ensures
    ∙ ap (λ (b : Backlog Plain). b.bound)
    (output_found c.args.plan.now c.args.engines.now c.args.stream c.output_of-place.result.0 c.output_of-place.result.1 c.index-engines-place.result output c.output_of-place.ensures.laid there is)
