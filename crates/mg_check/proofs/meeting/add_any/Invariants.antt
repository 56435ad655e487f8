-- The list so far, followed by what the remaining ports give, is the whole list.
use Rattle.std.proofs.Common.{◌≡◌, ◌++◌, drop, map}
use Rattle.mg_value.specs.declared.kind.Kind.TheVariants.{Any}
use Rattle.mg_check.proofs.meeting.add_any.Given as goal

abbrev pub invariant-loop : goal.invariant-loop
invariant-loop l = l.out.items ++ map (λ p. Any) (drop l.counter l.ports) ≡ l.fn.out.items ++ map (λ p. Any) l.ports
