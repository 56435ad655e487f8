-- The list so far, followed by what the remaining names and payloads give, is the whole list.
use Rattle.std.proofs.Common.{◌≡◌, ◌++◌, drop}
use Rattle.mg_kinds.specs.Kinds.{names_of}
use Rattle.mg_kinds.specs.Views.{plain_of}
use Rattle.mg_check.specs.Code.Streams.{fixed_by}
use Rattle.mg_check.proofs.sides.add_fixed.Given as goal

abbrev pub invariant-loop-place : goal.invariant-loop-place
invariant-loop-place l = l.out.items ++ fixed_by (names_of (drop l.place l.names)) (plain_of (drop l.place l.constants)) ≡ l.fn.out.items ++ fixed_by (names_of l.draft.side_outputs.items) (plain_of l.draft.constants.items)
