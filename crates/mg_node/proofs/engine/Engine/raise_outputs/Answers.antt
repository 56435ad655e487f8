use Rattle.std.proofs.Common.{◌≡◌, ◌∙◌, ◌++◌, length, take, drop, map, ap, sym}
use Rattle.std.proofs.lemmas.List.{length-map}
use Rattle.mg_value.specs.Payload.{Plain}
use Rattle.mg_stream.specs.Queue.{Waiting, raised_to}
use Rattle.mg_stream.specs.Pool.{backlog_of}
use Rattle.mg_node.specs.Views.{EngineView}
use Rattle.mg_node.proofs.Giving.{with_outputs}
use Rattle.mg_node.proofs.Advancing.{none_advanced, some_advanced, whole}
use Rattle.mg_node.proofs.engine.Engine.raise_outputs.Goals as goal

pub returns-in-Some-clause-advanced : goal.returns-in-Some-clause-advanced
returns-in-Some-clause-advanced g c =
    let items = c.self.inside.outputs.items in
    let new = c.raise_all.new.outputs in
    let raised : new ≡ map (λ (q : Waiting Plain). raised_to q c.in-Some.bound) items = c.raise_all.ensures ∙ ap (map (λ (q : Waiting Plain). raised_to q c.in-Some.bound)) c.deref_mut.ensures.value in
    let all : take c.self.inside.outputs.len (new ++ drop (length new) items) ≡ new =
    whole c.self.inside.outputs.len items new c.self.inside.outputs.ok.0 (ap length raised ∙ length-map items (λ (q : Waiting Plain). raised_to q c.in-Some.bound)) in
    ap (λ (v : EngineView). with_outputs v (map backlog_of (take c.self.inside.outputs.len (new ++ drop (length new) items)))) c.self.view_is
    ∙ some_advanced c.args.self.now c.args.intake.now.waits c.in-Some.bound items _ (ap (λ (v : EngineView). v.outputs) c.self.view_is) (sym c.advance_bound.ensures ∙ c.in-Some.is) (all ∙ raised)

pub returns-in-None-clause-advanced : goal.returns-in-None-clause-advanced
returns-in-None-clause-advanced g c = none_advanced c.args.self.now c.args.intake.now.waits (sym c.advance_bound.ensures ∙ c.in-None.is)
