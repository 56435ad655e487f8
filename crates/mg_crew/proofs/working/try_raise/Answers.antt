use Rattle.mg_crew.proofs.Sharing.{stays_shared}
use Rattle.mg_crew.proofs.working.try_raise.Goals as goal

pub returns-in-Done : goal.returns-in-Done
returns-in-Done g c = stays_shared _ _ _ c.requires.shared c.try_raise-tried.ensures.of c.try_raise-tried.ensures.work c.try_raise-tried.ensures.keeps

pub returns-in-Busy : goal.returns-in-Busy
returns-in-Busy g c = stays_shared _ _ _ c.requires.shared c.try_raise-tried.ensures.of c.try_raise-tried.ensures.work c.try_raise-tried.ensures.keeps
