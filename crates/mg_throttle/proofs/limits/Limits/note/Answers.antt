use Rattle.std.proofs.Common.{ap, length, arith}
use Rattle.mg_throttle.proofs.Counts.{whole, View-noted, AreLimitsOf-noted}
use Rattle.mg_throttle.proofs.Listing.{listed_noted, listed_same}
use Rattle.mg_throttle.proofs.Firsts.{let_go_reaches}
use Rattle.mg_throttle.proofs.Pressing.{IsKept-changed, IsKept-unchanged, still_full}
use Rattle.mg_throttle.proofs.limits.Limits.note.Goals as goal

pub invariant_of-self : goal.invariant_of-self
invariant_of-self c =
    let same = ap (λ t. length t.queues) c.self.view_is in
    let again = whole c.self.inside.counts.len c.change.new.counts c.self.inside.counts.items (omega arith) in (
      rw again (IsKept-changed c.self.inside.queues.items c.self.inside.rows.items c.self.inside.counts.items c.deref_mut.result.now c.change.new.counts c.args.edge c.index.result.now c.args.packets _ _ _ _ _
          c.self.invariant.0 (omega arith) c.index.ensures c.requires.packets c.deref_mut.ensures.value c.is_full-was.ensures c.is_full-is.ensures c.if-was-is.true
          c.from.ensures c.from-then-was-is.ensures c.index-row.ensures c.change.ensures),
      listed_noted c.self.inside.queues.items c.self.inside.listed c.put.new.self c.args.edge c.args.packets c.index.result.now c.self.invariant.1 c.put.ensures.put c.put.ensures.only,
    )

pub put-requires : goal.put-requires
put-requires c = (let same = ap (λ t. length t.queues) c.self.view_is in c.self.invariant.1.numbers.there c.args.edge (omega arith))

pub invariant_of-self-else-was-is : goal.invariant_of-self-else-was-is
invariant_of-self-else-was-is c =
    let same = ap (λ t. length t.queues) c.self.view_is in (
      IsKept-unchanged c.self.inside.queues.items c.self.inside.rows.items c.self.inside.counts.items c.args.edge c.index.result.now c.args.packets _ _
          c.self.invariant.0 (omega arith) c.index.ensures c.requires.packets c.is_full-was.ensures c.is_full-is.ensures c.if-was-is.false,
      listed_same c.self.inside.queues.items c.self.inside.listed c.args.edge c.args.packets c.index.result.now c.self.invariant.1 (omega arith) c.index.ensures
          (still_full c.index.result.now c.args.packets _ _ c.is_full-was.ensures c.is_full-is.ensures c.if-was-is.false),
    )

pub returns-then-was-is-clause-noted : goal.returns-then-was-is-clause-noted
returns-then-was-is-clause-noted c =
    let same = ap (λ t. length t.queues) c.self.view_is in
    View-noted c.self.inside.queues.items c.self.inside.rows.items _ _ c.args.edge c.args.packets c.index.result.now c.self.view_is (omega arith) c.index.ensures

pub returns-then-was-is-clause-of : goal.returns-then-was-is-clause-of
returns-then-was-is-clause-of c =
    let same = ap (λ t. length t.queues) c.self.view_is in
    AreLimitsOf-noted c.self.inside.queues.items c.self.inside.rows.items _ _ c.args.edge c.args.packets c.index.result.now c.self.view_is (omega arith) c.index.ensures

pub returns-else-was-is-clause-noted : goal.returns-else-was-is-clause-noted
returns-else-was-is-clause-noted c =
    let same = ap (λ t. length t.queues) c.self.view_is in
    View-noted c.self.inside.queues.items c.self.inside.rows.items _ _ c.args.edge c.args.packets c.index.result.now c.self.view_is (omega arith) c.index.ensures

pub returns-else-was-is-clause-of : goal.returns-else-was-is-clause-of
returns-else-was-is-clause-of c =
    let same = ap (λ t. length t.queues) c.self.view_is in
    AreLimitsOf-noted c.self.inside.queues.items c.self.inside.rows.items _ _ c.args.edge c.args.packets c.index.result.now c.self.view_is (omega arith) c.index.ensures

pub returns-then-was-is-clause-let_go : goal.returns-then-was-is-clause-let_go
returns-then-was-is-clause-let_go c = let_go_reaches c.self.inside.queues.items c.self.inside.rows.items _ _ c.args.edge c.args.packets c.index.result.now c.self.view_is

pub returns-else-was-is-clause-let_go : goal.returns-else-was-is-clause-let_go
returns-else-was-is-clause-let_go c = let_go_reaches c.self.inside.queues.items c.self.inside.rows.items _ _ c.args.edge c.args.packets c.index.result.now c.self.view_is
