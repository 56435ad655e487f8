use Rattle.std.proofs.Common.{◌≡◌, ◌+◌, drop, nat_lt}
use Rattle.std.specs.List.{prefix_len}
use Rattle.mg_settled.proofs.rest.count_before.Given as goal

abbrev pub invariant-loop-i : goal.invariant-loop-i
invariant-loop-i l = prefix_len (λ p. nat_lt p.at l.at) l.packets ≡ l.i + prefix_len (λ p. nat_lt p.at l.at) (drop l.i l.packets)
