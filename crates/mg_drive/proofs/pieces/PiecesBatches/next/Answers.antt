use Rattle.mg_feed.specs.Graph.{inputs_of}
use Rattle.mg_feed.specs.GeneratorSeen.{making}
use Rattle.mg_drive.proofs.PiecesGoOn.{first_made, first_made_came, more_made, more_made_came, fewer_left, made_no_fewer}
use Rattle.mg_drive.proofs.pieces.PiecesBatches.next.Goals as goal

pub returns-clause-first : goal.returns-clause-first
returns-clause-first g c = λ laws plan valid fresh.
    let number = c.args.self.now.generator.number in
    first_made plan number (making c.args.self.now.generator) (making c.next_piece.new.self) c.end_by-end.result c.in_ok-inputs.inputs valid fresh
    (c.in_ok-inputs.ensures.piece (inputs_of plan) number fresh.handed_on) (c.in_ok-inputs.ensures.handed_on (inputs_of plan) number fresh.handed_on) c.end_by-end.ensures

pub returns-clause-first_came : goal.returns-clause-first_came
returns-clause-first_came g c = λ laws plan valid fresh.
    let number = c.args.self.now.generator.number in
    first_made_came plan number c.args.self.now.most (making c.args.self.now.generator) (making c.next_piece.new.self) c.end_by-end.result c.in_ok-inputs.inputs valid fresh
    (c.in_ok-inputs.ensures.piece (inputs_of plan) number fresh.handed_on) (c.in_ok-inputs.ensures.handed_on (inputs_of plan) number fresh.handed_on) c.in_ok-inputs.ensures.further c.end_by-end.ensures

pub returns-clause-goes_on : goal.returns-clause-goes_on
returns-clause-goes_on g c = λ laws began plan first so_far valid gave due.
    let number = began.generator.number in
    let has = gave.handed_on in
    more_made plan number (making c.args.self.now.generator) (making c.next_piece.new.self) c.end_by-end.result c.in_ok-inputs.inputs so_far valid gave
    (c.in_ok-inputs.ensures.piece (inputs_of plan) number has) (c.in_ok-inputs.ensures.handed_on (inputs_of plan) number has)
    (made_no_fewer c.args.self.now.generator.made c.next_piece.new.self.made c.args.self.now.generator.number c.args.self.now.most c.args.self.now.generator.few c.in_ok-inputs.ensures.further) c.end_by-end.ensures

pub returns-clause-comes_on : goal.returns-clause-comes_on
returns-clause-comes_on g c = λ laws began plan first so_far earlier valid came due.
    let number = began.generator.number in
    let has = came.given.handed_on in
    more_made_came plan number began.most c.args.self.now.most (making c.args.self.now.generator) (making c.next_piece.new.self) c.end_by-end.result c.in_ok-inputs.inputs so_far earlier valid came
    (c.in_ok-inputs.ensures.piece (inputs_of plan) number has) (c.in_ok-inputs.ensures.handed_on (inputs_of plan) number has)
    (made_no_fewer c.args.self.now.generator.made c.next_piece.new.self.made c.args.self.now.generator.number c.args.self.now.most c.args.self.now.generator.few c.in_ok-inputs.ensures.further) c.end_by-end.ensures

pub returns-clause-fewer : goal.returns-clause-fewer
returns-clause-fewer g c = λ laws began plan first so_far gave due more.
    let number = began.generator.number in
    let has = gave.handed_on in
    let piece = c.in_ok-inputs.ensures.piece (inputs_of plan) number has in
    fewer_left (inputs_of plan) number c.args.self.now.most (making c.args.self.now.generator) (making c.next_piece.new.self) c.end_by-end.result c.in_ok-inputs.inputs.ended has
    (c.in_ok-inputs.ensures.handed_on (inputs_of plan) number has) piece.ended_is c.end_by-end.ensures c.in_ok-inputs.ensures.further c.args.self.now.some more
