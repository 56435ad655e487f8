use Rattle.std.proofs.Common.{ap, ◌∙◌}
use Rattle.mg_value.specs.Payload.{Plain}
use Rattle.mg_settled.specs.Prefix.{StreamPrefix}
use Rattle.mg_node.proofs.Extending.{lengthened_from, left_queue, left_same}
use Rattle.mg_node.proofs.laid.lengthen.Goals as goal

pub returns-clause-longer : goal.returns-clause-longer
returns-clause-longer c =
    lengthened_from c.args.queue.now c.fill.new.queue c.raise.new.self c.args.more.now c.as_slice.result.now c.more.inside.bound c.requires
    (c.as_slice.ensures ∙ ap (λ (s : StreamPrefix Plain). s.packets) c.more.view_is) (ap (λ (s : StreamPrefix Plain). s.bound) c.more.view_is)
    c.in-Ok.ensures.gone c.in-Ok.ensures.packets c.in-Ok.ensures.bound c.in-Ok.ensures.above c.in-Ok.ensures.grows c.raise.ensures.raised

pub cut_back-requires : goal.cut_back-requires
cut_back-requires c = left_queue c.args.queue.now c.fill.new.queue c.args.more.now c.waiting-waiting.result c.bound-bound.result c.requires c.waiting-waiting.ensures c.bound-bound.ensures c.in_default.ensures.left

pub returns-in_default-clause-unchanged : goal.returns-in_default-clause-unchanged
returns-in_default-clause-unchanged c = left_same c.args.queue.now c.fill.new.queue c.cut_back.new.self c.waiting-waiting.result c.bound-bound.result c.waiting-waiting.ensures c.bound-bound.ensures c.in_default.ensures.left c.cut_back.ensures
