use Rattle.mg_ready.specs.Code.Bits.{ChangesBit}
use Rattle.std.proofs.Common.{◌/◌, ap, subst, length, arith}
use Rattle.mg_ready.proofs.Marks.{IsMarked-kept, IsMarked-cleared, rejoined}
use Rattle.mg_ready.proofs.places.Places.remove.Goals as goal

pub invariant_of-self : goal.invariant_of-self
invariant_of-self c =
    let same = ap length c.self.view_is in
    IsMarked-kept c.self.inside.links _ _ _ _ c.remove.ensures c.self.invariant (omega arith) c.in-Some.ensures

pub invariant_of-self-in-None : goal.invariant_of-self-in-None
invariant_of-self-in-None c =
    let same = ap length c.self.view_is in
    rw (rejoined c.self.inside.words.len c.clear_bit.new.words c.self.inside.words.items (omega (arith, c.clear_bit.ensures.others.len)))
    (IsMarked-cleared c.self.inside.links _ _ _ _ c.remove.ensures c.self.invariant (omega arith) c.in-None.ensures
    c.clear_bit.ensures.clear (subst (λ w. ChangesBit w c.clear_bit.new.words (c.args.place / 32)) c.deref_mut.ensures.value c.clear_bit.ensures.others))
