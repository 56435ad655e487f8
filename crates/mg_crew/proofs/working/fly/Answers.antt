use Rattle.mg_crew.proofs.Sharing.{ends_on}
use Rattle.mg_crew.proofs.working.fly.Goals as goal

pub share_node-requires-clause-node : goal.share_node-requires-clause-node
share_node-requires-clause-node g c = c.requires.at_work.fits.ordered.there c.args.node c.requires.node

pub returns-in-Ok : goal.returns-in-Ok
returns-in-Ok g c = record { stays = ends_on _ _ _ _ c.in-Ok.ensures.portion c.finish-did.ensures; placed = c.call_waiting.ensures.place }

pub returns-in-Err : goal.returns-in-Err
returns-in-Err g c = record { stays = c.in-Err.ensures.none; placed = c.requires.at_work.placed }
