use Rattle.std.proofs.Common.{◌∙◌}
use Rattle.mg_node.proofs.Bringing.{delivers, moved_none}
use Rattle.mg_node.proofs.delivery.deliver.Goals as goal

pub returns-clause-moved : goal.returns-clause-moved
returns-clause-moved c = delivers _ _ _ _ _ _ _ _ c.requires.port c.in-Ok.ensures.brought.0 c.in-Ok.ensures.brought.1 c.raise_behind-raised.ensures.raised c.raise_behind-raised.ensures.rose

pub returns-clause-still : goal.returns-clause-still
returns-clause-still c = λ none.
    (let parts = moved_none _ _ none in
    c.raise_behind-raised.ensures.still parts.1 ∙ c.in-Ok.ensures.still parts.0)
