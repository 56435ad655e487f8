use Rattle.std.proofs.Common.{◌+◌, ◌≤◌, arith}
use Rattle.mg_time.specs.Time.{done}
use Rattle.mg_node.proofs.Claimable.{cell_sets, cell_places, cell_fits}
use Rattle.mg_node.proofs.engine.Engine.claim_set.Goals as goal

pub set_readiness-requires : goal.set_readiness-requires
set_readiness-requires g c = cell_sets _ _ c.requires.cell c.requires.role

pub take_context-context-requires-clause-fits : goal.take_context-context-requires-clause-fits
take_context-context-requires-clause-fits g c = (let few : c.args.self.now.claimed + 1 ≤ done = cell_fits _ _ c.in-Ready.at c.requires.cell c.requires.role c.in-Ready.ensures in omega (arith, few))

pub fill-requires-clause-places : goal.fill-requires-clause-places
fill-requires-clause-places g c = cell_places _ _ _ _ c.requires.cell c.take_context-context.ensures.idle

pub fill-requires-clause-sets : goal.fill-requires-clause-sets
fill-requires-clause-sets g c = cell_sets _ _ c.requires.cell c.requires.role

pub fill-requires-clause-next : goal.fill-requires-clause-next
fill-requires-clause-next g c = c.in-Ready.ensures
