use Rattle.std.proofs.Common.{refl}
use Rattle.mg_loopback.proofs.Standing.{fresh_stands}
use Rattle.mg_loopback.proofs.loopback.Loopback.new.Goals as goal

pub returns-clause-stands_after : goal.returns-clause-stands_after
returns-clause-stands_after c = fresh_stands _ (record { loop = c.new.ensures.empty; main = c.new-2.ensures.empty; previous = refl })
