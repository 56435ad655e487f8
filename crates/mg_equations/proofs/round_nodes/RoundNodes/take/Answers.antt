use Rattle.std.proofs.Common.{◌∙◌, ℕ, List, ap, refl}
use Rattle.std.specs.List.{flat_map}
use Rattle.mg_equations.specs.Code.RoundNodes.{outputs_at}
use Rattle.mg_equations.proofs.RoundNodeSteps.{readers_within, all_gone_on}
use Rattle.mg_equations.proofs.round_nodes.RoundNodes.take.Goals as goal

pub go_on_all-requires-clause-numbers : goal.go_on_all-requires-clause-numbers
go_on_all-requires-clause-numbers c = readers_within c.args.plan.now c.args.readers.now c.args.changed.now c.deref.result.now c.requires.readers (c.deref.ensures.value ∙ c.in_ok-numbers.ensures)

pub returns-clause-gone_on : goal.returns-clause-gone_on
returns-clause-gone_on c =
    all_gone_on c.args.plan.now c.args.streams.now c.args.readers.now c.args.changed.now c.deref.result.now c.args.self.now.nodes.items c.go_on_all.new.self.nodes.items c.go_on_all.new.self c.in_ok-due.due.items c.requires.plan c.requires.readers
    (c.deref.ensures.value ∙ c.in_ok-numbers.ensures) c.in_ok-go_on_all.ensures (c.in_ok-due.ensures ∙ ap (λ (l : List ℕ). flat_map (outputs_at c.args.plan.now.nodes) l) c.deref-2.ensures.value) refl
