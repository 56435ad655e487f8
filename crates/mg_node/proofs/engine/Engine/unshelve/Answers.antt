use Rattle.mg_node.proofs.Shelving.{unshelved_all}
use Rattle.mg_node.proofs.Growing.{unshelving_grows}
use Rattle.mg_node.proofs.KeptOut.{unshelve_out, unshelving_set_up}
use Rattle.mg_node.proofs.WorksOut.{result_numbered, result_out}
use Rattle.mg_node.proofs.engine.Engine.unshelve.Goals as goal

pub returns-clause-numbered : goal.returns-clause-numbered
returns-clause-numbered g c = λ job owner engine. result_numbered job owner c.args.self.now c.args.number c.take_shelf.result c.take_shelf.ensures.found engine

pub returns-clause-out : goal.returns-clause-out
returns-clause-out g c = λ job owner engine. result_out job owner c.args.self.now _ c.args.number c.take_shelf.result c.take_shelf.ensures.found c.take_shelf.ensures.taken engine

pub returns-clause-goes_out : goal.returns-clause-goes_out
returns-clause-goes_out g c = λ job owner engine. unshelve_out job owner c.take_shelf.result c.args.self.now _ c.args.number c.take_shelf.ensures.found c.take_shelf.ensures.taken engine

pub returns-clause-set_up : goal.returns-clause-set_up
returns-clause-set_up g c = unshelving_set_up c.take_shelf.result c.args.self.now _ c.args.number c.take_shelf.ensures.taken

pub returns-clause-grows : goal.returns-clause-grows
returns-clause-grows g c = unshelving_grows c.take_shelf.result c.args.self.now _ c.args.number c.take_shelf.ensures.taken

pub returns-clause-lawful : goal.returns-clause-lawful
returns-clause-lawful g c = λ job owner engine. unshelved_all job owner c.args.self.now _ c.args.number c.take_shelf.result c.take_shelf.ensures.found c.take_shelf.ensures.taken engine
