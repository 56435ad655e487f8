use Rattle.std.proofs.Common.{◌≡◌, ◌++◌, replicate}
use Rattle.mg_text.proofs.printer.put_indent.Given as goal

abbrev pub invariant-loop-i : goal.invariant-loop-i
invariant-loop-i l = l.out.items ≡ l.fn.out.items ++ replicate l._i 32
