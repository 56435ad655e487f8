use Rattle.std.proofs.Common.{◌∙◌, ◌++◌, ◌∷◌, [], sym, ap, map, take}
use Rattle.mg_subgraph.specs.Code.Bindings.{new_name}
use Rattle.mg_subgraph.proofs.Meeting.{taken_got}
use Rattle.mg_subgraph.proofs.renaming.Binding.new_names.Goals as goal

pub loop-i-preserved : goal.loop-i-preserved
loop-i-preserved c =
    let binding = c.args.self.now in
    let ports = c.args.ports.now in
    let port = c.in-Some.port.now in
    c.in_ok-push.ensures.items
    ∙ (ap (λ l. l ++ c.in_ok-new_name.field-0 ∷ []) c.loop-i.invariant
    ∙ (ap (λ name. map (λ p. new_name binding c.args.prefix.now p.name) (take c.loop-i.i ports) ++ name ∷ []) c.in_ok-new_name.ensures
    ∙ sym (taken_got (λ p. new_name binding c.args.prefix.now p.name) ports c.loop-i.i port (sym c.in-Some.ensures))))
