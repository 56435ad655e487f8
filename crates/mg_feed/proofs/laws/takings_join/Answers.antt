use Rattle.mg_feed.proofs.Joining.{one-piece, as-many, same-sides, taken-all}
use Rattle.mg_feed.proofs.laws.takings_join.Goals as goal

pub returns-clause-piece : goal.returns-clause-piece
returns-clause-piece c = λ lines more v ended input stands there. one-piece lines more v ended input stands there

pub returns-clause-count : goal.returns-clause-count
returns-clause-count c = λ lines more v stands. as-many lines more v stands

pub returns-clause-sides : goal.returns-clause-sides
returns-clause-sides c = λ lines gone v stands. same-sides lines gone v stands

pub returns-clause-taken : goal.returns-clause-taken
returns-clause-taken c = λ lines gone v stands. taken-all lines gone v stands
