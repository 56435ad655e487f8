-- Who writes a stream of a plan, and at which of its outputs.
use Rattle.std.specs.Prelude.{ℕ, Option, option_map, slice_get}
use Rattle.mg_calc.specs.declared.plan.Plan.{Plan}
use Rattle.mg_calc.specs.declared.plan_stream.Producer.{Producer}
use Rattle.mg_calc.specs.declared.plan_stream.Producer.TheVariants.{Input, Node}

-- who writes a stream
abbrev pub writer_at : Plan → ℕ → Option Producer
writer_at plan stream = option_map (λ s. s.producer) (slice_get plan.streams stream)

-- the output of a producer
abbrev pub output_of : Producer → ℕ
output_of (Input number) = 0
output_of (Node node port) = port
