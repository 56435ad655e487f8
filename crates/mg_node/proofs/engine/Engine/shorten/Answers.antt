use Rattle.std.proofs.Common.{map, set, ap, ◌∙◌, arith}
use Rattle.mg_stream.specs.Pool.{backlog_of}
use Rattle.mg_node.specs.Views.{EngineView}
use Rattle.mg_node.proofs.Extending.{has_output, has_more, is_left, made_again}
use Rattle.mg_node.proofs.Giving.{with_outputs}
use Rattle.mg_node.proofs.engine.Engine.shorten.Goals as goal

pub index_mut-requires : goal.index_mut-requires
index_mut-requires g c =
    (let some = has_output c.args.more.now c.args.bound c.args.self.now c.self.inside.outputs.items c.requires (ap (λ (v : EngineView). v.outputs) c.self.view_is) in
    let long = c.self.inside.outputs.ok.0 in
    omega (arith, some, long))

pub shorten-requires-clause-count : goal.shorten-requires-clause-count
shorten-requires-clause-count g c =
    has_more c.args.more.now c.args.bound c.args.self.now c.self.inside.outputs.items c.index_mut.result.now c.requires (ap (λ (v : EngineView). v.outputs) c.self.view_is) c.index_mut.ensures.value

pub shorten-requires-clause-left : goal.shorten-requires-clause-left
shorten-requires-clause-left g c =
    is_left c.args.more.now c.args.bound c.args.self.now c.self.inside.outputs.items c.index_mut.result.now c.requires (ap (λ (v : EngineView). v.outputs) c.self.view_is) c.index_mut.ensures.value

pub returns : goal.returns
returns g c = λ before was.
    ap (λ (v : EngineView). with_outputs v (map backlog_of (set c.self.inside.outputs.items 0 c.shorten.new.queue))) c.self.view_is
    ∙ made_again c.args.more.now c.args.bound before c.args.self.now c.self.inside.outputs.items c.index_mut.result.now c.shorten.new.queue was (ap (λ (v : EngineView). v.outputs) c.self.view_is) c.index_mut.ensures.value c.shorten.ensures
