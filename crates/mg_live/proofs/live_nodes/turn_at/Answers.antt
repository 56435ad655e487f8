use Rattle.std.proofs.Common.{Some, slice_index_or, inr, refl, sym, ap, ◌∙◌, arith}
use Rattle.mg_live.proofs.InTurn.{get_other, read_there, found_or, handed_then}
use Rattle.mg_live.proofs.Places.{number_at}
use Rattle.mg_live.proofs.Turned.{turned_here}
use Rattle.mg_live.proofs.live_nodes.turn_at.Goals as goal

pub turn-requires : goal.turn-requires
turn-requires g c =
    let less = c.if-place-frees.false in
    let long = c.requires.long in
    c.requires.may (c.is_first.ensures.first c.if-not-is_first.false) (slice_index_or c.args.due.now c.args.i 0) _ _ (number_at c.args.due.now c.args.i c.requires.there)
    (read_there c.args.frees.now (slice_index_or c.args.due.now c.args.i 0) c.index-frees-place.result (omega (arith, less)) c.index-frees-place.is)
    (found_or c.args.takers.now (slice_index_or c.args.due.now c.args.i 0) c.index-takers-place.result (omega (arith, less, long)))

pub returns-in_err-did-clause-handed : goal.returns-in_err-did-clause-handed
returns-in_err-did-clause-handed g c =
    let less = c.if-place-frees.false in
    let long = c.requires.long in
    handed_then c.args.takers.now c.args.takers.now (slice_index_or c.args.due.now c.args.i 0) c.turn.new.self c.index-takers-place.result (omega (arith, less, long)) c.turn.ensures.handed refl

pub returns-in_err-did-clause-others : goal.returns-in_err-did-clause-others
returns-in_err-did-clause-others g c = λ place no.
    get_other c.args.takers.now (slice_index_or c.args.due.now c.args.i 0) place c.turn.new.self (λ same. no (number_at c.args.due.now c.args.i c.requires.there ∙ ap (λ n. Some n) (sym same)))

pub returns-clause-handed : goal.returns-clause-handed
returns-clause-handed g c =
    let less = c.if-place-frees.false in
    let long = c.requires.long in
    handed_then c.args.takers.now c.args.takers.now (slice_index_or c.args.due.now c.args.i 0) c.turn.new.self c.index-takers-place.result (omega (arith, less, long)) c.turn.ensures.handed refl

pub returns-clause-others : goal.returns-clause-others
returns-clause-others g c = λ place no.
    get_other c.args.takers.now (slice_index_or c.args.due.now c.args.i 0) place c.turn.new.self (λ same. no (number_at c.args.due.now c.args.i c.requires.there ∙ ap (λ n. Some n) (sym same)))

pub returns-clause-had : goal.returns-clause-had
returns-clause-had g c = λ ss are.
    let less = c.if-place-frees.false in
    let long = c.requires.long in
    inr (turned_here ss c.args.frees.now c.args.due.now c.args.i (slice_index_or c.args.due.now c.args.i 0) c.in_ok-did.did c.args.takers.now _ _ c.turn.new.self (c.is_first.ensures.first c.if-not-is_first.false) (number_at c.args.due.now c.args.i c.requires.there)
    (read_there c.args.frees.now (slice_index_or c.args.due.now c.args.i 0) c.index-frees-place.result (omega (arith, less)) c.index-frees-place.is)
    (found_or c.args.takers.now (slice_index_or c.args.due.now c.args.i 0) c.index-takers-place.result (omega (arith, less, long)))
    (record {
      taken = λ taken has. c.in_ok-did.ensures.taken ss taken are has;
      changes = λ taken has. c.in_ok-did.ensures.did ss taken are has;
      idle = c.in_ok-did.ensures.idle;
    }))
