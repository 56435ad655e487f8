use Rattle.std.proofs.Common.{◌≡◌, replicate}
use Rattle.mg_stream.specs.Code.Chain.{empty_chain}
use Rattle.mg_stream.proofs.pool.Pool.new.Given as goal

abbrev pub invariant-loop : goal.invariant-loop
invariant-loop l = l.chains.items ≡ replicate l.counter empty_chain
