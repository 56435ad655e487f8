use Rattle.std.proofs.Common.{List, [], refl, sym, ap, subst, ◌∙◌}
use Rattle.mg_calc.specs.declared.emission.Laid.{Laid}
use Rattle.mg_route.specs.Reasons.{laid_each, all_laid_on}
use Rattle.mg_node.specs.Code.QueueLaying.{Stand, with_part, MayBeLaid}
use Rattle.mg_node.proofs.LayingBehind.{part_may, part_put, only_stands}
use Rattle.mg_node.proofs.laying.lay_all.Goals as goal

pub lay_at-requires : goal.lay_at-requires
lay_at-requires c = λ le. part_may c.args.outputs.now c.args.emission [] c.in-Ok.laid 0 c.in-Ok.ensures.one refl c.requires le

pub lay_parts-requires : goal.lay_parts-requires
lay_parts-requires c = subst (MayBeLaid c.args.outputs.now) c.in-Err.ensures.many c.requires

pub returns-in-Ok-clause-laid : goal.returns-in-Ok-clause-laid
returns-in-Ok-clause-laid c = part_put c.args.outputs.now c.lay_at.new.outputs c.args.emission [] c.in-Ok.laid 0 c.in-Ok.ensures.one refl c.lay_at.ensures.laid

pub returns-in-Ok-clause-stands : goal.returns-in-Ok-clause-stands
returns-in-Ok-clause-stands c = λ whole stand. only_stands c.args.outputs.now c.lay_at.new.outputs c.args.emission c.in-Ok.laid whole c.in-Ok.ensures.one c.lay_at.ensures.laid c.requires c.lay_at.ensures.timed stand

pub returns-in-Err-clause-laid : goal.returns-in-Err-clause-laid
returns-in-Err-clause-laid c = c.lay_parts.ensures.laid ∙ ap (laid_each with_part c.args.outputs.now) (sym c.in-Err.ensures.many)

pub returns-in-Err-clause-stands : goal.returns-in-Err-clause-stands
returns-in-Err-clause-stands c = λ whole stand. subst (λ (es : List Laid). Stand c.lay_parts.new.outputs (all_laid_on whole es)) (sym c.in-Err.ensures.many) (c.lay_parts.ensures.stands whole stand)
