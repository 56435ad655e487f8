use Rattle.std.proofs.Common.{◌<◌, length, slice_index_or, length-set, refl, ◌∙◌, arith}
use Rattle.mg_live.proofs.InTurn.{found_or}
use Rattle.mg_live.proofs.Places.{number_at, none_handed_at, one_handed_at, same_but_more, all_pieces, all_counted}
use Rattle.mg_live.proofs.live_nodes.hand_on.Goals as goal

pub loop-i-init : goal.loop-i-init
loop-i-init c = record {
  count = refl;
  same = λ place none. refl;
  handed = λ frees takens h. none_handed_at frees takens c.args.places.now c.args.takers.now c.new-pieces.result.items c.new-pieces.ensures.items h;
}

pub loop-i-preserved : goal.loop-i-preserved
loop-i-preserved c =
    let less : c.loop-i.i < length c.args.places.now = omega (arith, c.loop-i-test.true) in
    let p = slice_index_or c.args.places.now c.loop-i.i 0 in
    let at = number_at c.args.places.now c.loop-i.i less in
    let within = c.requires.within c.loop-i.i p at in
    let count = c.loop-i.invariant.count in
    let taker = found_or c.loop-i.takers p c.index-takers-places.result (omega (arith, within, count)) in
    record {
      count = length-set c.loop-i.takers p c.hand_on.new.self ∙ count;
      same = same_but_more c.args.places.now c.loop-i.i p c.args.takers.now c.loop-i.takers c.hand_on.new.self at c.loop-i.invariant.same;
      handed = λ frees takens h.
          one_handed_at frees takens c.args.places.now c.args.takers.now c.loop-i.takers c.loop-i.pieces.items c.push.new.self.items c.in_ok-hand_on.field-0 c.loop-i.i p _ c.hand_on.new.self c.requires.rising at taker c.loop-i.invariant.same
          c.in_ok-hand_on.ensures.piece c.in_ok-hand_on.ensures.handed c.in_ok-hand_on.ensures.taken c.in_ok-push.ensures.items (c.loop-i.invariant.handed frees takens h);
    }

pub returns-clause-pieces : goal.returns-clause-pieces
returns-clause-pieces c = λ frees takens h.
    all_pieces frees takens c.args.places.now c.args.takers.now c.loop-i.takers c.loop-i.pieces.items c.loop-i.i (let past = c.loop-i-test.false in let most = c.loop-i.auto.i-end in omega (arith, past, most)) (c.loop-i.invariant.handed frees takens h)

pub returns-clause-handed : goal.returns-clause-handed
returns-clause-handed c = λ frees takens h counted.
    all_counted frees takens c.args.places.now c.args.takers.now c.loop-i.takers c.loop-i.pieces.items c.loop-i.i (let past = c.loop-i-test.false in let most = c.loop-i.auto.i-end in omega (arith, past, most)) c.loop-i.invariant.same counted
    (c.loop-i.invariant.handed frees takens h)
