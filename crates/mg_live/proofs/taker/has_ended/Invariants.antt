-- The ports from this one on decide.
use Rattle.std.proofs.Common.{◌≡◌, List, drop, ◌==◌}
use Rattle.std.specs.List.{list_all}
use Rattle.mg_time.specs.Time.{done}
use Rattle.mg_value.specs.Payload.{Plain}
use Rattle.mg_settled.specs.Prefix.{StreamPrefix}
use Rattle.mg_free.specs.Logs.{ending, has_ended}
use Rattle.mg_free.specs.Rounds.{free_inputs}
use Rattle.mg_live.proofs.taker.has_ended.Given as goal

abbrev pub invariant-loop-port : goal.invariant-loop-port
invariant-loop-port g l = (ss : List (StreamPrefix Plain)) → g.S.Streams.are l.streams ss → list_all (λ s. s.bound == done) (drop l.port (ending l.free.law (free_inputs ss l.free))) ≡ has_ended l.free.law (free_inputs ss l.free)
