use Rattle.std.proofs.Common.{◌+◌, ◌*◌}
use Rattle.mg_test_turns.proofs.threads.+many.Given as goal

abbrev pub decreases-many : goal.decreases-many
decreases-many g l = 2 * l.threads

abbrev pub decreases-most : goal.decreases-most
decreases-most g l = 2 * l.others + 1
