use Rattle.std.proofs.Common.{◌≡◌, ℕ, ◌<◌, ◌++◌, map, take, drop, length, get_or, cond, None}
use Rattle.mg_settled.specs.Settled.{packet_at, port_of, shows}
use Rattle.mg_settled.specs.FirstSet.{behind}
use Rattle.mg_settled.proofs.sets.take_set.Given as goal

abbrev pub invariant-loop-port : goal.invariant-loop-port
invariant-loop-port l = record {
  places : length l.set ≡ length l.fn.rests;
  set : (k : ℕ) → k < l.port → get_or l.set k None ≡ cond (shows l.policy l.fn.rests l.at k) (packet_at l.at (port_of l.fn.rests k).packets) None;
  rests : l.rests ≡ map (behind l.at) (take l.port l.fn.rests) ++ drop l.port l.fn.rests;
}
