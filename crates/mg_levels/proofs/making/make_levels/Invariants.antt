use Rattle.std.proofs.Common.{◌*◌, ◌≤◌}
use Rattle.mg_levels.specs.Code.Making.{AreMade}
use Rattle.mg_levels.proofs.making.make_levels.Given as goal

abbrev pub invariant-loop-level : goal.invariant-loop-level
invariant-loop-level l = AreMade l.nodes l.level l.made × (l.made.room ≤ 128 * l.level)
