use Rattle.std.proofs.Common.{◌≡◌, ◌++◌, drop}
use Rattle.mg_answer.specs.Text.{set_text}
use Rattle.mg_feed.proofs.WholeOrNone.{With}
use Rattle.mg_answer.proofs.set_lines.push_set.Given as goal

abbrev pub invariant-loop-port : goal.invariant-loop-port
invariant-loop-port l =
    (l.fn.text.items ++ set_text l.writers l.set ≡ l.text.items ++ set_text (drop l.port l.writers) (drop l.port l.set)) × With l.fn.text.items l.text.items
