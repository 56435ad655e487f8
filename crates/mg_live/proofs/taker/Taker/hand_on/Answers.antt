use Rattle.std.proofs.Common.{◌∙◌}
use Rattle.mg_live.proofs.RestTaken.{piece_is, handed_all, taken_still}
use Rattle.mg_live.proofs.taker.Taker.hand_on.Goals as goal

pub returns-clause-piece : goal.returns-clause-piece
returns-clause-piece c = λ free taken h. c.in_ok-piece.ensures.piece ∙ piece_is free taken c.args.self.now h

pub returns-clause-handed : goal.returns-clause-handed
returns-clause-handed c = λ free taken h. handed_all free taken c.args.self.now c.hand_out.new.self h c.in_ok-piece.ensures.rest

pub returns-clause-taken : goal.returns-clause-taken
returns-clause-taken c = λ free taken h. taken_still free taken c.args.self.now c.hand_out.new.self h c.in_ok-piece.ensures.rest c.hand_out.ensures.others
