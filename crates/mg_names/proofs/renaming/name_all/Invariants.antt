use Rattle.std.proofs.Common.{◌≡◌, length, min}
use Rattle.mg_names.specs.Renaming.{with_names}
use Rattle.mg_names.proofs.renaming.name_all.Given as goal

abbrev pub invariant-loop-name : goal.invariant-loop-name
invariant-loop-name l = record {
  named : l.ports ≡ with_names l.initial.ports l.yielded;
  counted : l.i ≡ min (length l.yielded) (length l.ports);
}
