-- The streams so far, and then those from this place on, are all streams that enter the core.
use Rattle.std.proofs.Common.{◌≡◌, ◌++◌, map, drop}
use Rattle.std.specs.List.{enumerate_from}
use Rattle.mg_calc.specs.declared.plan_stream.Producer.TheVariants.{Input}
use Rattle.mg_free.specs.Core.{entering, written_by}
use Rattle.mg_free.proofs.core_streams.entering_streams.Given as goal

abbrev pub invariant-loop-place : goal.invariant-loop-place
invariant-loop-place l =
    l.streams.items ++ map (λ e. written_by l.plan e.1 (Input e.0)) (enumerate_from l.place (drop l.place l.numbers))
    ≡ map (λ e. written_by l.plan e.1 (Input e.0)) (enumerate_from 0 (entering l.plan))
