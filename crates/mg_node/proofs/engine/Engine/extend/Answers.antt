use Rattle.std.proofs.Common.{map, set, ap, ◌∙◌, sym, subst, arith}
use Rattle.mg_stream.specs.Pool.{backlog_of}
use Rattle.mg_node.specs.Views.{EngineView}
use Rattle.mg_node.specs.Lawful.{LawfulEngine, of_input}
use Rattle.mg_node.proofs.Extending.{some_output, may_lengthen, made_longer, made_same, at_err, extended_lawful}
use Rattle.mg_node.proofs.Giving.{with_outputs}
use Rattle.mg_node.proofs.engine.Engine.extend.Goals as goal

pub index_mut-requires : goal.index_mut-requires
index_mut-requires g c =
    (let some = some_output c.args.self.now c.args.more.now c.self.inside.outputs.items (ap (λ (v : EngineView). v.outputs) c.self.view_is) c.requires in
    let long = c.self.inside.outputs.ok.0 in
    omega (arith, some, long))

pub lengthen-requires : goal.lengthen-requires
lengthen-requires g c = may_lengthen c.args.self.now c.args.more.now c.self.inside.outputs.items c.index_mut.result.now c.requires (ap (λ (v : EngineView). v.outputs) c.self.view_is) c.index_mut.ensures.value

pub returns-in_err-lengthen-clause-unchanged : goal.returns-in_err-lengthen-clause-unchanged
returns-in_err-lengthen-clause-unchanged g c = at_err c.from_residual.result _
    (ap (λ (v : EngineView). with_outputs v (map backlog_of (set c.self.inside.outputs.items 0 c.lengthen.new.queue))) c.self.view_is
    ∙ made_same c.args.self.now c.self.inside.outputs.items c.index_mut.result.now c.lengthen.new.queue (ap (λ (v : EngineView). v.outputs) c.self.view_is) c.index_mut.ensures.value c.in_err-lengthen.ensures.unchanged)

pub returns-clause-engine : goal.returns-clause-engine
returns-clause-engine g c =
    ap (λ (v : EngineView). with_outputs v (map backlog_of (set c.self.inside.outputs.items 0 c.lengthen.new.queue))) c.self.view_is
    ∙ made_longer c.args.self.now c.args.more.now c.self.inside.outputs.items c.index_mut.result.now c.lengthen.new.queue c.requires (ap (λ (v : EngineView). v.outputs) c.self.view_is) c.index_mut.ensures.value c.in_ok-lengthen.ensures.longer

pub returns-clause-lawful : goal.returns-clause-lawful
returns-clause-lawful g c = λ job later input streams longer lawful solves further there is.
    subst (λ (v : EngineView). LawfulEngine later (of_input input) v)
    (sym (returns-clause-engine g c))
    (extended_lawful job later input streams longer c.args.self.now c.args.more.now lawful solves further there is)
