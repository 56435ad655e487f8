use Rattle.std.proofs.Common.{ℕ, ◌-◌, ◌^◌, List, length, min, sum_by, ap, sym, ◌∙◌}
use Rattle.mg_value.specs.Payload.{Plain}
use Rattle.mg_stream.specs.Queue.{Waiting}
use Rattle.mg_node.specs.Views.{EngineView}
use Rattle.mg_node.specs.Outputs.{packets_kept}
use Rattle.mg_node.proofs.Held.{held_seen}
use Rattle.mg_node.proofs.engine.Engine.held.Goals as goal

pub returns : goal.returns
returns g c =
    c.held_at.ensures ∙ ap (λ (qs : List (Waiting Plain)). min (sum_by (λ (q : Waiting Plain). length q.packets) qs) (2 ^ 64 - 1)) c.deref.ensures.value
    ∙ ap (λ (n : ℕ). min n (2 ^ 64 - 1)) (sym (held_seen c.self.inside.outputs.items) ∙ ap (λ (v : EngineView). packets_kept v) c.self.view_is)
