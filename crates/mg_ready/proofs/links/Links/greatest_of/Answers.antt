use Rattle.std.proofs.Common.{ap, length, arith}
use Rattle.mg_ready.proofs.Slots.{bucket_read, in_bucket, small_place, IsEmptyIn-found, greatest_read}
use Rattle.mg_ready.proofs.links.Links.greatest_of.Goals as goal

pub overflow_sub-result : goal.overflow_sub-result
overflow_sub-result c =
    in_bucket _ _ _ (bucket_read _ _ _ _ _ _ c.self.view_is c.self.invariant c.requires.bucket c.index-slot.ensures)

pub overflow_sub-result-else-slot-floor : goal.overflow_sub-result-else-slot-floor
overflow_sub-result-else-slot-floor c =
    let low = in_bucket _ _ _ (bucket_read _ _ _ _ _ _ c.self.view_is c.self.invariant c.requires.bucket c.index-slot.ensures) in
    omega arith

pub overflow_cast-result : goal.overflow_cast-result
overflow_cast-result c =
    let gap = bucket_read _ _ _ _ _ _ c.self.view_is c.self.invariant c.requires.bucket c.index-slot.ensures in
    let all = ap length c.self.view_is in
    small_place c.args.self.now _ (greatest_read _ _ _ gap c.if-slot-floor.false).there (omega arith)

pub returns-then-slot-floor : goal.returns-then-slot-floor
returns-then-slot-floor c =
    IsEmptyIn-found _ _ _ (bucket_read _ _ _ _ _ _ c.self.view_is c.self.invariant c.requires.bucket c.index-slot.ensures) c.if-slot-floor.true

pub returns-else-slot-floor : goal.returns-else-slot-floor
returns-else-slot-floor c =
    greatest_read _ _ _ (bucket_read _ _ _ _ _ _ c.self.view_is c.self.invariant c.requires.bucket c.index-slot.ensures) c.if-slot-floor.false
