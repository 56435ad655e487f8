use Rattle.std.proofs.Common.{map}
use Rattle.mg_kinds.specs.Kinds.{names_of}
use Rattle.mg_check.specs.Names.{number_among}
use Rattle.mg_check.proofs.Filling.{mapped_get}
use Rattle.mg_check.proofs.names.numbers_of.Goals as goal

pub loop-text-preserved : goal.loop-text-preserved
loop-text-preserved c =
    let f = number_among c.args.names.now in
    mapped_get f c.push.new.self.items c.loop-text.numbers.items (map f (names_of c.args.texts.now)) c.args.texts.now c.loop-text.text-index _ c.number.result
    c.loop-text-test.true c.in_ok-push.ensures.items c.number.ensures c.loop-text.invariant
