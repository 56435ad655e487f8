use Rattle.std.proofs.Common.{arith}
use Rattle.mg_live.proofs.TakenOn.{few_read}
use Rattle.mg_live.proofs.taker.Taker.note.Goals as goal

pub overflow_add-index_mut : goal.overflow_add-index_mut
overflow_add-index_mut c =
    let few = few_read c.args.free.now c.requires.some.0 c.args.self.now c.args.port c.index_mut.result.now _ c.requires.some.1 c.requires.port c.index_mut.ensures.value in
    let small = c.args.self.now.log.small in
    let long = c.args.self.now.log.ok.0 in
    omega (arith, few, small, long)
