use Rattle.std.proofs.Common.{List, Ok, ap, sym, subst, length, arith}
use Rattle.mg_calc.specs.declared.emission.Laid.{Laid}
use Rattle.mg_node.specs.Code.QueueLaying.{HasRoomFor, IsLaid}
use Rattle.mg_node.proofs.laying.lay_emission.Goals as goal

pub lay_one-requires-clause-room : goal.lay_one-requires-clause-room
lay_one-requires-clause-room c = subst (λ (es : List Laid). HasRoomFor c.args.outputs.now (Ok es)) c.in-Ok.ensures.one c.requires.room

pub lay_many-requires-clause-room : goal.lay_many-requires-clause-room
lay_many-requires-clause-room c = subst (λ (es : List Laid). HasRoomFor c.args.outputs.now (Ok es)) c.in-Err.ensures.many c.requires.room

pub lay_many-requires-clause-few : goal.lay_many-requires-clause-few
lay_many-requires-clause-few c = omega (arith, ap length c.in-Err.ensures.many, c.len.ensures)

pub returns-in-Ok : goal.returns-in-Ok
returns-in-Ok c = subst (λ (es : List Laid). IsLaid c.args.offset c.args.phase.now (λ whole. whole) (Ok es) c.args.outputs.now c.lay_one.new.outputs c.lay_one.result) (sym c.in-Ok.ensures.one) c.lay_one.ensures

pub returns-in-Err : goal.returns-in-Err
returns-in-Err c = subst (λ (es : List Laid). IsLaid c.args.offset c.args.phase.now (λ whole. whole) (Ok es) c.args.outputs.now c.lay_many.new.outputs c.lay_many.result) (sym c.in-Err.ensures.many) c.lay_many.ensures
