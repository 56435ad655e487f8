use Rattle.std.proofs.Common.{◌≡◌, ◌+◌, drop}
use Rattle.std.specs.List.{prefix_len}
use Rattle.mg_settled.specs.Settled.{is_settled}
use Rattle.mg_settled.proofs.reaching.mux_reach.Given as goal

abbrev pub invariant-loop-packet : goal.invariant-loop-packet
invariant-loop-packet l =
    prefix_len (is_settled l.rests) l.packet-items
    ≡ l.packet-index + prefix_len (is_settled l.rests) (drop l.packet-index l.packet-items)
