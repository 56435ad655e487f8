use Rattle.std.proofs.Common.{ℕ, List, get_or, ap, subst, sym}
use Rattle.mg_node.specs.Views.{EngineView}
use Rattle.mg_node.specs.Lawful.{of_input, LawfulEngine}
use Rattle.mg_node.proofs.Filling.{input_lawful, input_made}
use Rattle.mg_node.proofs.engine.Engine.of_input.Goals as goal

pub returns-clause-engine : goal.returns-clause-engine
returns-clause-engine g c =
    input_made c.args.input (get_or c.args.plan.now.inputs c.args.input 0) _ c.args.prefix.now c.in_ok-outputs.outputs.items _ c.new.result.items c.new-2.result.items
    (ap (λ (ns : List ℕ). get_or ns c.args.input 0) c.as_slice.ensures) c.in_ok-outputs.ensures.items c.in_ok-queue_of.ensures c.new.ensures.items c.new-2.ensures.items

pub returns-clause-lawful : goal.returns-clause-lawful
returns-clause-lawful g c = λ job streams same solves given.
    subst (λ (v : EngineView). LawfulEngine job (of_input c.args.input) v) (sym (returns-clause-engine g c))
    (input_lawful job streams c.args.plan.now c.args.input c.args.prefix.now c.requires.input c.requires.prefix same solves given)
