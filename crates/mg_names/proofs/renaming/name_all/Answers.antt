use Rattle.std.proofs.Common.{arith, length-append, length-set}
use Rattle.mg_names.proofs.Renamed.{named_next}
use Rattle.mg_names.proofs.renaming.name_all.Goals as goal

pub loop-name-preserved-then-i-ports : goal.loop-name-preserved-then-i-ports
loop-name-preserved-then-i-ports c = record {
  named = named_next c.args.ports.now c.loop-name.ports c.loop-name.yielded c.in-Some.name c.index-ports-i.result c.loop-name.i c.loop-name.invariant.named c.loop-name.invariant.counted c.if-i-ports.true;
  counted = simp (length-append, length-set) (omega arith);
}
