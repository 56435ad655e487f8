use Rattle.std.proofs.Common.{refl, ap, ◌∙◌, length}
use Rattle.mg_feed.specs.Graph.{inputs_of}
use Rattle.mg_feed.specs.Generated.{generated_sides}
use Rattle.mg_feed.specs.View.{View}
use Rattle.mg_feed.specs.Seen.{input_buffer}
use Rattle.mg_feed.proofs.PiecesMade.{none-made}
use Rattle.mg_feed.proofs.generator.Generator.new.Goals as goal

pub returns-clause-fresh : goal.returns-clause-fresh
returns-clause-fresh c =
    let is = c.in_ok-input_buffer.ensures in
    none-made (inputs_of c.args.plan.now) c.args.number (record { view = input_buffer c.give_sides.new.self; number = c.args.number; made = 0 })
    (c.in_ok-give_sides.ensures.graph ∙ ap (λ (v : View). v.graph) is) refl refl
    (c.in_ok-give_sides.ensures.streams ∙ ap (λ (v : View). v.given.streams) is)
    (c.in_ok-give_sides.ensures.sides ∙ ap (λ (v : View). generated_sides (length v.graph.sides)) is)
