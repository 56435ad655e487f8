use Rattle.mg_ready.proofs.Slots.{IsLinked-put}
use Rattle.mg_ready.proofs.links.Links.insert.Goals as goal

pub invariant_of-self : goal.invariant_of-self
invariant_of-self c =
    IsLinked-put _ _ _ _ _ _ _ _ c.self.view_is c.self.invariant c.requires.place c.requires.out c.slot_of-slot.ensures
    c.roof_over-upper.ensures c.index-lower.ensures
