use Rattle.std.proofs.Common.{take}
use Rattle.mg_check.specs.Code.Choices.{IsStock}
use Rattle.mg_check.proofs.choosing.stock_of.Given as goal

abbrev pub invariant-loop-place : goal.invariant-loop-place
invariant-loop-place l = IsStock l.stock (take l.place l.outers)
