use Rattle.std.proofs.Common.{◌≡◌}
use Rattle.mg_config.specs.Faults.{field_fault}
use Rattle.mg_text.specs.Tree.{depth}
use Rattle.mg_text.specs.View.{fields_view}
use Rattle.mg_config.proofs.Checked.{left_from}
use Rattle.mg_config.proofs.check.+check.Given as goal

abbrev pub decreases-check : goal.decreases-check
decreases-check l = depth (fields_view l.fields.now)

abbrev pub invariant-loop-i : goal.invariant-loop-i
invariant-loop-i l = field_fault l.kind (fields_view l.fields) ≡ left_from l.kind l.fields l.i
