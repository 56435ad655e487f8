use Rattle.std.proofs.Common.{List, ap, sym, ◌∙◌}
use Rattle.std.specs.List.{filter_map}
use Rattle.mg_node.specs.Views.{EntryView}
use Rattle.mg_node.specs.Leaving.{calculator_in}
use Rattle.mg_node.proofs.HandedBack.{first_told, told_here, told_later}
use Rattle.mg_node.proofs.leaving.from_window.Goals as goal

pub returns-in-Some-into_calculator : goal.returns-in-Some-into_calculator
returns-in-Some-into_calculator g c =
    told_here (calculator_in c.in-Some.entry) _ (filter_map calculator_in c.pop_front.new.self.items) c.in-Some-into_calculator.ensures
    ∙ ap (λ (es : List EntryView). first_told (filter_map calculator_in es)) (sym c.in-Some.ensures.items) ∙ c.loop-entry.invariant

pub loop-entry-preserved : goal.loop-entry-preserved
loop-entry-preserved g c =
    told_later (calculator_in c.in-Some.entry) (filter_map calculator_in c.pop_front.new.self.items) c.in_default-into_calculator.ensures
    ∙ ap (λ (es : List EntryView). first_told (filter_map calculator_in es)) (sym c.in-Some.ensures.items) ∙ c.loop-entry.invariant
