use Rattle.std.proofs.Common.{◌≡◌, ◌∙◌, ℕ, ap, refl, replicate, arith}
use Rattle.mg_stream.specs.Code.Chain.{empty_chain}
use Rattle.mg_stream.specs.declared.pool.Pool.TheInside.{Inside}
use Rattle.mg_stream.proofs.PoolSteps.{view_new}
use Rattle.mg_stream.proofs.pool.Pool.new.Goals as goal

pub returns : goal.returns
returns c =
    let all : c.loop.counter ≡ c.args.ports = omega arith in
    let p : Inside = record { entries = c.new.result; chains = c.loop.chains; room = 0 } in
    view_new p c.args.ports c.new.ensures.empty (c.loop.invariant ∙ ap (λ (n : ℕ). replicate n empty_chain) all) refl
