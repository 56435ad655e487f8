use Rattle.std.proofs.Common.{◌≡◌, ◌++◌}
use Rattle.mg_calc.specs.Shape.{ports}
use Rattle.mg_kinds.specs.Tags.{tag_text}
use Rattle.mg_kinds.proofs.row.put_ports.Given as goal

abbrev pub invariant-loop-index : goal.invariant-loop-index
invariant-loop-index l = l.out.items ≡ l.fn.out.items ++ ports (tag_text l.tag) l.index l.kind
