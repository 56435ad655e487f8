use Rattle.std.proofs.Common.{◌≡◌, ◌<◌, ◌≤◌, ℕ, ◌+◌, ◌-◌, [], ◌∷◌, ◌++◌, take, drop, true, slice_set, ◌∙◌, ap, sym, subst, All, length, slice_index, count_by, eqb, arith}
use Rattle.mg_check.specs.Order.{order_of, taken_on}
use Rattle.mg_check.specs.Code.Taking.{IsAfter, HasPassing, HasReleased, may_be_taken, readers_of}
use Rattle.mg_check.proofs.OrderingLinks.{readers_below, readers_wait}
use Rattle.mg_check.proofs.OrderingNext.{ready_new, ready_row, next_is_least, next_is_none, empty_list, IsAfter-taken, taken_on-some, taken_on-none, taken_on-all, whole}
use Rattle.mg_check.proofs.ordering.order_of.Goals as goal
use Rattle.mg_check.proofs.ordering.order_of.Goals.{else-loop-test, then-loop-test+in_default}

pub release-requires-clause-readers : goal.release-requires-clause-readers
release-requires-clause-readers c k d within =
    let t = c.loop.taking in
    let after = c.loop.invariant.after in
    let row = ready_row c.args.count c.args.links.now t.order.items t.taken.items t.waiting.items t.ready c.in-Some.node c.in_ok-readers.readers.items c.index.result.now
    c.as_slice-row.result.now after c.in-Some.ensures.member c.in_ok-readers.ensures c.index.ensures c.as_slice-row.ensures in
    let below = subst (λ xs. All (λ n. n < c.args.count) xs) (sym row) (readers_below c.args.count c.args.links.now c.in-Some.node c.requires.links) k d within in
    let len = after.waits.len in
    omega (arith, below, len, c.deref_mut.ensures.len, ap length c.deref_mut.ensures.value)

pub release-requires-clause-waits : goal.release-requires-clause-waits
release-requires-clause-waits c n within =
    let t = c.loop.taking in
    let after = c.loop.invariant.after in
    let m : ℕ = c.in-Some.node in
    let new = ready_new c.args.count c.args.links.now t.order.items t.taken.items t.waiting.items t.ready m after c.in-Some.ensures.member in
    let row = ready_row c.args.count c.args.links.now t.order.items t.taken.items t.waiting.items t.ready m c.in_ok-readers.readers.items c.index.result.now
    c.as_slice-row.result.now after c.in-Some.ensures.member c.in_ok-readers.ensures c.index.ensures c.as_slice-row.ensures in
    let len = after.waits.len in
    subst (λ xs. count_by (λ k. eqb k n) xs ≤ slice_index c.deref_mut.result.now n) (sym row)
    (subst (λ ws. count_by (λ k. eqb k n) (readers_of c.args.links.now m) ≤ slice_index ws n) (sym c.deref_mut.ensures.value)
    (readers_wait c.args.count c.args.links.now t.order.items m t.waiting.items new.1 after.waits n
    (omega (arith, len, c.deref_mut.ensures.len, ap length c.deref_mut.ensures.value))))

pub loop-preserved : goal.loop-preserved
loop-preserved c =
    let t = c.loop.taking in
    let after = c.loop.invariant.after in
    let count : ℕ = c.args.count in
    let m : ℕ = c.in-Some.node in
    let new = ready_new count c.args.links.now t.order.items t.taken.items t.waiting.items t.ready m after c.in-Some.ensures.member in
    let row = ready_row count c.args.links.now t.order.items t.taken.items t.waiting.items t.ready m c.in_ok-readers.readers.items c.index.result.now
    c.as_slice-row.result.now after c.in-Some.ensures.member c.in_ok-readers.ensures c.index.ensures c.as_slice-row.ensures in
    let found = next_is_least count c.args.links.now t.order.items t.taken.items t.waiting.items t.ready m after c.in-Some.ensures.member c.in-Some.ensures.least in
    let back = whole t.waiting.len c.release.new.waiting t.waiting.items (c.release.ensures.len ∙ c.deref_mut.ensures.len) in
    let released = subst (λ xs. HasReleased xs t.waiting.items c.release.new.waiting) row
    (subst (λ ws. HasReleased c.as_slice-row.result.now ws c.release.new.waiting) c.deref_mut.ensures.value c.in_ok-release.ensures.waiting) in
    let len : length c.deref_mut.result.now ≡ count = ap length c.deref_mut.ensures.value ∙ after.waits.len in
    let free = subst (λ n. HasPassing n (may_be_taken (slice_set t.taken.items m true) c.release.new.waiting) c.release.new.ready) len
    (subst (λ ms. HasPassing (length c.deref_mut.result.now) (may_be_taken ms c.release.new.waiting) c.release.new.ready) c.deref.ensures.value c.in_ok-release.ensures.ready) in
    let pushed = c.in_ok-push.ensures.items in
    record {
      same = ap (λ xs. taken_on (count - (c.loop.counter + 1)) count c.args.links.now xs) pushed
          ∙ taken_on-some count c.args.links.now t.order.items (order_of count c.args.sources.now c.args.links.now) c.loop.counter m (omega arith) found c.loop.invariant.same;
      after = subst (λ xs. IsAfter count c.args.links.now xs (slice_set t.taken.items m true) (take t.waiting.len (c.release.new.waiting ++ drop (length c.release.new.waiting) t.waiting.items)) c.release.new.ready) (sym pushed)
          (subst (λ ws. IsAfter count c.args.links.now (t.order.items ++ m ∷ []) (slice_set t.taken.items m true) ws c.release.new.ready) (sym back)
          (IsAfter-taken count c.args.links.now t.order.items t.taken.items t.waiting.items c.release.new.waiting t.ready c.release.new.ready m new.0 new.1 after released free));
    }

pub returns : goal.returns
returns c = elim c.loop-test.branch [
  | else-loop-test w ↦ ap (λ t. t.order.items) w.taking-is
      ∙ taken_on-all c.args.count c.args.links.now c.loop.taking.order.items (order_of c.args.count c.args.sources.now c.args.links.now) c.loop.counter (omega arith) c.loop.invariant.same
  | then-loop-test+in_default w ↦
      let t = c.loop.taking in
      let none = next_is_none c.args.count c.args.links.now t.order.items t.taken.items t.waiting.items t.ready c.loop.invariant.after (empty_list t.ready.keys w.in_default.ensures.variant.1) in
      ap (λ t. t.order.items) w.taking-is ∙ sym (taken_on-none c.args.count c.args.links.now t.order.items (c.args.count - c.loop.counter) none) ∙ c.loop.invariant.same
]
