use Rattle.mg_crew.proofs.Sharing.{stays_shared}
use Rattle.mg_crew.proofs.working.try_bring.Goals as goal

pub returns-in-Done-OutOfMemory : goal.returns-in-Done-OutOfMemory
returns-in-Done-OutOfMemory g c = stays_shared _ _ _ c.requires.shared c.try_append-tried.ensures.of c.try_append-tried.ensures.work c.try_append-tried.ensures.keeps

pub returns-in-Busy : goal.returns-in-Busy
returns-in-Busy g c = stays_shared _ _ _ c.requires.shared c.try_append-tried.ensures.of c.try_append-tried.ensures.work c.try_append-tried.ensures.keeps
