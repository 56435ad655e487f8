use Rattle.std.proofs.Common.{option_copied, ap, sym, subst, ◌∙◌, arith}
use Rattle.std.proofs.lemmas.List.{length-map}
use Rattle.std.proofs.lemmas.Option.{none-some}
use Rattle.mg_calc.specs.Equations.{stream_of}
use Rattle.mg_free.specs.Rounds.{Taken}
use Rattle.mg_live.specs.Takes.{HasTaken}
use Rattle.mg_live.proofs.LastWaits.{is_last, turn_takes}
use Rattle.mg_live.proofs.TakenOn.{may_come}
use Rattle.mg_live.proofs.taker.Taker.turn.Goals as goal

pub next_at-requires-clause-port : goal.next_at-requires-clause-port
next_at-requires-clause-port g c =
    let r = c.requires in
    let l = is_last r.streams c.args.free.now r.taken c.in-Some.port (sym c.in-Some.is ∙ c.last_port.ensures r.streams r.taken r.are_they r.has_taken) in
    let less = l.next.port in
    let long = length-map c.args.free.now.inputs (stream_of r.streams) in
    omega (arith, less, long)

pub unreachable-requires : goal.unreachable-requires
unreachable-requires g c =
    let r = c.requires in
    let l = is_last r.streams c.args.free.now r.taken c.in-Some.port (sym c.in-Some.is ∙ c.last_port.ensures r.streams r.taken r.are_they r.has_taken) in
    none-some l.packet (sym (ap option_copied c.in_default-next_at.is) ∙ c.next_at.ensures r.streams r.taken r.are_they r.has_taken ∙ l.next.next)

pub take-requires-clause-port : goal.take-requires-clause-port
take-requires-clause-port g c =
    let r = c.requires in
    let l = is_last r.streams c.args.free.now r.taken c.in-Some.port (sym c.in-Some.is ∙ c.last_port.ensures r.streams r.taken r.are_they r.has_taken) in
    let less = l.next.port in
    let long = length-map c.args.free.now.inputs (stream_of r.streams) in
    omega (arith, less, long)

pub take-requires-clause-allowed : goal.take-requires-clause-allowed
take-requires-clause-allowed g c =
    let r = c.requires in
    may_come r.streams c.args.free.now r.taken c.in-Some.port c.in-Some-next_at.packet.now r.may (sym c.in-Some.is ∙ c.last_port.ensures r.streams r.taken r.are_they r.has_taken)
    (sym (ap option_copied c.in-Some-next_at.is) ∙ c.next_at.ensures r.streams r.taken r.are_they r.has_taken)

pub returns-clause-taken : goal.returns-clause-taken
returns-clause-taken g c = λ ss taken are has.
    subst (λ (t : Taken). HasTaken c.args.free.now t c.take.new.self)
    (sym (turn_takes ss c.args.free.now taken c.in-Some.port c.in-Some-next_at.packet.now (sym c.in-Some.is ∙ c.last_port.ensures ss taken are has) (sym (ap option_copied c.in-Some-next_at.is) ∙ c.next_at.ensures ss taken are has)))
    (c.in_ok-take.ensures.taken taken has)
