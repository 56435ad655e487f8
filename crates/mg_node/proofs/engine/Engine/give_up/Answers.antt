use Rattle.std.proofs.Common.{◌∙◌, map, set, ap, subst, sym}
use Rattle.mg_stream.specs.Pool.{backlog_of}
use Rattle.mg_node.specs.Views.{EngineView}
use Rattle.mg_node.specs.Lawful.{LawfulEngine}
use Rattle.mg_node.proofs.Growing.{giving_grows}
use Rattle.mg_node.proofs.Giving.{with_outputs, gave, giving_lawful}
use Rattle.mg_node.proofs.engine.Engine.give_up.Goals as goal

pub returns-clause-given_up : goal.returns-clause-given_up
returns-clause-given_up g c =
    ap (λ (v : EngineView). with_outputs v (map backlog_of (set c.self.inside.outputs.items c.args.output c.give_up.new.queue))) c.self.view_is
    ∙ gave c.args.self.now c.self.inside.outputs.items c.args.output c.args.got _ c.give_up.new.queue (ap (λ (v : EngineView). v.outputs) c.self.view_is) c.requires.output c.index_mut.ensures.value c.give_up.ensures

pub returns-clause-grows : goal.returns-clause-grows
returns-clause-grows g c = giving_grows c.args.self.now _ c.args.output c.args.got (returns-clause-given_up g c)

pub returns-clause-lawful : goal.returns-clause-lawful
returns-clause-lawful g c = λ job owner lawful.
    subst (λ (v : EngineView). LawfulEngine job owner v)
    (sym (returns-clause-given_up g c))
    (giving_lawful job owner c.args.self.now c.args.output c.args.got c.requires.output c.requires.laid lawful)
