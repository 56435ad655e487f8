use Rattle.mg_node.proofs.LayingBehind.{may_lay, emission_put}
use Rattle.std.proofs.Common.{sym, ◌∙◌}
use Rattle.mg_node.proofs.laying.lay_whole.Goals as goal

pub lay_all-requires : goal.lay_all-requires
lay_all-requires c =
    may_lay c.args.offset c.args.phase.now c.args.outputs.now c.args.emission c.requires.stands (sym c.in_default.is ∙ c.emission_fault.ensures c.requires.stands.whole c.requires.stands.stand) c.requires.room

pub returns : goal.returns
returns c =
    emission_put c.args.offset c.args.phase.now c.args.emission c.args.outputs.now c.lay_all.new.outputs c.close_behind.new.outputs
    (λ whole stand. sym c.in_default.is ∙ c.emission_fault.ensures whole stand) c.lay_all.ensures.laid c.lay_all.ensures.stands c.close_behind.ensures
