use Rattle.std.proofs.Common.{◌+◌, ◌*◌}
use Rattle.mg_crew.proofs.crew.+crew.Given as goal

abbrev pub decreases-crew : goal.decreases-crew
decreases-crew g l = 2 * l.workers

abbrev pub decreases-many : goal.decreases-many
decreases-many g l = 2 * l.others + 1
