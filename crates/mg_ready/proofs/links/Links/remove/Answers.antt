use Rattle.std.proofs.Common.{arith}
use Rattle.mg_ready.proofs.Slots.{IsAround-read}
use Rattle.mg_ready.proofs.links.Links.remove.Goals as goal

pub index_mut-requires : goal.index_mut-requires
index_mut-requires c =
    omega (
      arith,
      (IsAround-read _ _ _ _ _ _ _ _ c.self.view_is c.self.invariant c.requires.place c.requires.there c.slot_of-slot.ensures
          c.index-lower.ensures c.index-upper.ensures).0,
    )

pub index_mut-requires-2 : goal.index_mut-requires-2
index_mut-requires-2 c =
    omega (
      arith,
      (IsAround-read _ _ _ _ _ _ _ _ c.self.view_is c.self.invariant c.requires.place c.requires.there c.slot_of-slot.ensures
          c.index-lower.ensures c.index-upper.ensures).1,
    )

pub invariant_of-self : goal.invariant_of-self
invariant_of-self c =
    (IsAround-read _ _ _ _ _ _ _ _ c.self.view_is c.self.invariant c.requires.place c.requires.there c.slot_of-slot.ensures
    c.index-lower.ensures c.index-upper.ensures).2
