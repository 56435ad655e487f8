use Rattle.std.proofs.Common.{◌≡◌, ◌≤◌, ℕ, Bool, true, false, cond, ◌∙◌, ◌+◌, sym, subst, take, length, slice_index_or, slice_set, arith}
use Rattle.std.proofs.lemmas.List.{get_or_default, length-take}
use Rattle.mg_check.specs.declared.ordering.Link.{Link}
use Rattle.mg_check.specs.Code.Taking.{HasWaits, is_marked}
use Rattle.mg_check.proofs.OrderingLinks.{HasWaits-le, HasWaits-more}
use Rattle.mg_check.proofs.waiting.waiting_of.Goals as goal

pub overflow_add-index_mut : goal.overflow_add-index_mut
overflow_add-index_mut c =
    let none : Link = record { from = 0; to = 0 } in
    let i : ℕ = c.loop-link.link-index in
    let link : Link = slice_index_or c.args.links.now i none in
    let between = c.requires.links i none (omega arith) in
    let le = HasWaits-le c.args.count c.args.links.now (is_marked c.args.taken.now) c.loop-link.waiting.items i link.to between.to c.loop-link.invariant in
    let front : length (take i c.args.links.now) ≡ i = length-take i c.args.links.now ∙ omega arith in
    let at = c.index_mut.ensures.value ∙ get_or_default c.loop-link.waiting.items link.to c.index_mut.result.now 0 (let l = c.loop-link.invariant.len in let b = between.to in omega arith) in
    let byte : c.waited_for.result ≤ 1 = small (is_marked c.args.taken.now link.from) c.waited_for.result c.waited_for.ensures in
    omega (arith, le, front, byte, at, between.to)
  where
    small : (b : Bool) (n : ℕ) → n ≡ cond b 0 1 → n ≤ 1
    small true n e = omega (arith, e)
    small false n e = omega (arith, e)

pub loop-link-preserved : goal.loop-link-preserved
loop-link-preserved c =
    let none : Link = record { from = 0; to = 0 } in
    let i : ℕ = c.loop-link.link-index in
    let link : Link = slice_index_or c.args.links.now i none in
    let between = c.requires.links i none (omega arith) in
    subst (λ w. HasWaits c.args.count (take (i + 1) c.args.links.now) (is_marked c.args.taken.now) (slice_set c.loop-link.waiting.items link.to (w + c.waited_for.result)))
    (sym (c.index_mut.ensures.value ∙ get_or_default c.loop-link.waiting.items link.to c.index_mut.result.now 0 (let l = c.loop-link.invariant.len in let b = between.to in omega arith)))
    (HasWaits-more c.args.count c.args.links.now (is_marked c.args.taken.now) c.loop-link.waiting.items i link c.waited_for.result (omega arith)
    (get_or_default c.args.links.now i none link (omega arith)) between.to c.waited_for.ensures c.loop-link.invariant)
