use Rattle.mg_crew.proofs.serving.serve.Goals as goal

pub leave-requires-clause-node : goal.leave-requires-clause-node
leave-requires-clause-node g c = c.requires.at_work.fits.ordered.there c.args.node c.requires.node

pub returns : goal.returns
returns g c = record { stays = c.visit-came.ensures.stays; placed = c.leave.ensures.place }
