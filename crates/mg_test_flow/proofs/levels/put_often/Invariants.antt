use Rattle.mg_levels.specs.Levels.{IsSeatOf}
use Rattle.mg_test_flow.proofs.levels.put_often.Given as goal

abbrev pub invariant-puts : goal.invariant-puts
invariant-puts g l = IsSeatOf l.levels l.seat
