use Rattle.std.proofs.Common.{ap, subst, sym}
use Rattle.mg_stream.specs.Queue.{Waiting}
use Rattle.mg_value.specs.Payload.{Plain}
use Rattle.mg_node.specs.Ports.{port_queue}
use Rattle.mg_node.specs.Delivery.{Delivers, AreOfOne}
use Rattle.mg_node.specs.Views.{EngineView}
use Rattle.mg_node.proofs.IntakesGrow.{deliver_grows}
use Rattle.mg_node.proofs.Leads.{leads_port, leads_one, delivery_lawful, output_of, of_one_output, delivers_output}
use Rattle.mg_node.proofs.engine.Engine.deliver.Goals as goal

pub deliver-requires-clause-port : goal.deliver-requires-clause-port
deliver-requires-clause-port g c = leads_port _ _ _ c.requires

pub deliver-requires-clause-of_one : goal.deliver-requires-clause-of_one
deliver-requires-clause-of_one g c =
    of_one_output _ _ (subst (λ (o : Waiting Plain). AreOfOne o (port_queue c.args.intake.now.waits c.args.edge.port))
    (output_of c.self.inside.outputs.items _ c.args.self.now c.args.edge c.index-output.result.now (ap (λ (v : EngineView). v.outputs) c.self.view_is) (ap (λ (v : EngineView). v.first) c.self.view_is) c.index-output.ensures c.requires.leaves)
    (leads_one _ _ _ c.requires))

pub returns-clause-moved : goal.returns-clause-moved
returns-clause-moved g c =
    subst (λ (o : Waiting Plain). Delivers c.deliver.result o c.args.edge.port c.args.most c.args.intake.now.waits c.deliver.new.intake.waits)
    (sym (output_of c.self.inside.outputs.items _ c.args.self.now c.args.edge c.index-output.result.now (ap (λ (v : EngineView). v.outputs) c.self.view_is) (ap (λ (v : EngineView). v.first) c.self.view_is) c.index-output.ensures c.requires.leaves))
    (delivers_output c.deliver.result c.index-output.result.now _ _ _ _ c.deliver.ensures.moved)

pub returns-clause-grows : goal.returns-clause-grows
returns-clause-grows g c = deliver_grows c.deliver.result _ c.args.edge.port c.args.most c.args.intake.now c.deliver.new.intake (leads_one _ _ _ c.requires) (returns-clause-moved g c) c.deliver.ensures.claimed

pub returns-clause-lawful : goal.returns-clause-lawful
returns-clause-lawful g c = λ job owner from into stream.
    delivery_lawful job owner c.args.self.now c.args.edge c.args.intake.now c.deliver.new.intake c.args.most c.deliver.result c.requires.leaves c.requires.held from into stream
    (returns-clause-moved g c) c.deliver.ensures.claimed
