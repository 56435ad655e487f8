use Rattle.mg_feed.specs.Graph.{inputs_of}
use Rattle.mg_feed.specs.GeneratorSeen.{making}
use Rattle.mg_feed.proofs.PiecesMade.{whole-piece}
use Rattle.mg_feed.proofs.generator.generate.Goals as goal

pub returns-clause-streams : goal.returns-clause-streams
returns-clause-streams c =
    let fresh = c.in_ok-generator.ensures.fresh in
    let graph = inputs_of c.args.plan.now in
    (whole-piece graph c.args.number (making c.in_ok-generator.generator).made (making c.next_piece.new.self).made (making c.in_ok-generator.generator).number c.in_ok-inputs.inputs
    (c.in_ok-inputs.ensures.piece graph c.args.number fresh) c.in_ok-generator.ensures.none fresh.number_is c.in_ok-inputs.ensures.further).0

pub returns-clause-sides : goal.returns-clause-sides
returns-clause-sides c =
    (c.in_ok-inputs.ensures.piece (inputs_of c.args.plan.now) c.args.number c.in_ok-generator.ensures.fresh).sides

pub returns-clause-ended : goal.returns-clause-ended
returns-clause-ended c =
    let fresh = c.in_ok-generator.ensures.fresh in
    let graph = inputs_of c.args.plan.now in
    (whole-piece graph c.args.number (making c.in_ok-generator.generator).made (making c.next_piece.new.self).made (making c.in_ok-generator.generator).number c.in_ok-inputs.inputs
    (c.in_ok-inputs.ensures.piece graph c.args.number fresh) c.in_ok-generator.ensures.none fresh.number_is c.in_ok-inputs.ensures.further).1
