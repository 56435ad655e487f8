use Rattle.std.proofs.Common.{◌≡◌, drop}
use Rattle.std.specs.Prelude.{position}
use Rattle.std.specs.List.{position_from}
use Rattle.mg_check.specs.Code.Judged.{is_wrong}
use Rattle.mg_check.proofs.drafting.first_with.Given as goal

abbrev pub invariant-loop-place : goal.invariant-loop-place
invariant-loop-place l = position (is_wrong l.wrong) l.wrongs ≡ position_from (is_wrong l.wrong) l.place (drop l.place l.wrongs)
