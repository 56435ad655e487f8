use Rattle.std.proofs.Common.{rules, arith, ap, ◌∙◌, ℕ, ◌<◌, ◌≡◌, List, length, false, true, Bool, set, get_or, get_or-set_same, get_or-set_other}
use Rattle.std.specs.Mem.Slots.{slots_counts, slots_filled}
use mathlib.Core.Logic.{dite}
use native.Mathlib.Decide.{ℕ_discrete}
use Rattle.mg_turns.specs.Calls.{key_of}
use Rattle.mg_turns.proofs.Apart.{settled_apart}
use Rattle.mg_turns.proofs.Ends.{not_none, one_more, came_back}
use Rattle.mg_turns.proofs.shared.SharedNet.unshare.Goals as goal

pub unreachable-requires : goal.unreachable-requires
unreachable-requires g c =
    let all = settled_apart _ _ _ _ _ c.requires.whole c.args.seat.idle.1 c.requires.free c.close_with-closed.ensures.values.2 in
    let n = slots_counts c.close_with-closed.result.slots in
    not_none _ _ _ _ _ (all.homes c.loop-i.i (omega (arith, n.0, all.count, c.close_with-closed.ensures.counts.1, c.args.self.sized.1, c.loop-i-test.true))) c.loop-i.invariant.items c.take.ensures.value c.in-None.is

pub loop-i-preserved : goal.loop-i-preserved
loop-i-preserved g c =
    let all = settled_apart _ _ _ _ _ c.requires.whole c.args.seat.idle.1 c.requires.free c.close_with-closed.ensures.values.2 in
    let n = slots_counts c.close_with-closed.result.slots in
    let o = c.take.ensures.others in
    let v = c.loop-i.invariant in
    let within : c.loop-i.i < length (slots_filled c.loop-i.closed.slots) = omega (arith, v.len, (slots_counts c.loop-i.closed.slots).1, c.loop-i-test.true) in
    record {
      filled = λ k l h. ap (λ (f : List Bool). get_or f k false) o.1 ∙ (get_or-set_other _ c.loop-i.i k false false (λ e. omega arith) ∙ v.filled k (omega arith) (omega (arith, o.2)));
      emptied = λ k h. ap (λ (f : List Bool). get_or f k false) o.1 ∙ dite (ℕ_discrete k c.loop-i.i)
          (λ z. ap (λ (n : ℕ). get_or (set (slots_filled c.loop-i.closed.slots) c.loop-i.i false) n false) z ∙ get_or-set_same (slots_filled c.loop-i.closed.slots) c.loop-i.i false false within)
          (λ ne. get_or-set_other _ c.loop-i.i k false false ne ∙ v.emptied k (omega arith));
      items = o.0 ∙ v.items;
      len = o.2 ∙ v.len;
      room = search rules;
      count = search rules;
      each = one_more (key_of c.args.self) _ _ _ _ _ _ _ v.items c.take.ensures.value c.in-Some.is c.push_reserved.ensures.items v.count v.each;
    }

pub returns : goal.returns
returns g c =
    let all = settled_apart _ _ _ _ _ c.requires.whole c.args.seat.idle.1 c.requires.free c.close_with-closed.ensures.values.2 in
    let n = slots_counts c.close_with-closed.result.slots in
    let v = c.loop-i.invariant in
    let long : c.args.self.size ≡ length (key_of c.args.self).parts = omega (arith, n.0, all.count, c.close_with-closed.ensures.counts.1, c.args.self.sized.1) in
    came_back (key_of c.args.self) _ _ _ all (omega (arith, v.count, long, c.loop-i-test.false, c.loop-i.auto.i-end)) (λ k h. v.each k (omega (arith, long, c.loop-i-test.false)))
