use Rattle.std.proofs.Common.{◌≡◌, List, [], ◌∷◌, Ok, ap, sym, subst, ◌∙◌, length, arith}
use Rattle.mg_value.specs.Payload.{Plain}
use Rattle.mg_value.specs.Packet.{Stamped}
use Rattle.mg_calc.specs.declared.emission.Laid.{Laid}
use Rattle.mg_node.specs.Code.QueueLaying.{HasRoomFor, IsLaid, part_of}
use Rattle.mg_node.proofs.laying.lay_one.Goals as goal

pub lay_whole-requires-clause-room : goal.lay_whole-requires-clause-room
lay_whole-requires-clause-room c =
    let same : c.one_output.result ≡ part_of c.args.laid.packets c.args.laid.bound ∷ [] =
    c.one_output.ensures ∙ ap (λ (ps : List (Stamped Plain)). part_of ps c.args.laid.bound ∷ []) (c.one-packets.ensures ∙ sym c.in-Ok.ensures.one) in
    subst (λ (es : List Laid). HasRoomFor c.args.outputs.now (Ok es)) (sym same) c.requires.room

pub lay_several-requires-clause-room : goal.lay_several-requires-clause-room
lay_several-requires-clause-room c = subst (λ (ps : List (Stamped Plain)). HasRoomFor c.args.outputs.now (Ok (part_of ps c.args.laid.bound ∷ []))) c.in-Err.ensures.many c.requires.room

pub lay_several-requires-clause-few : goal.lay_several-requires-clause-few
lay_several-requires-clause-few c = omega (arith, ap length c.in-Err.ensures.many, c.len.ensures)

pub returns-in-Ok : goal.returns-in-Ok
returns-in-Ok c =
    let same : c.one_output.result ≡ part_of c.args.laid.packets c.args.laid.bound ∷ [] =
    c.one_output.ensures ∙ ap (λ (ps : List (Stamped Plain)). part_of ps c.args.laid.bound ∷ []) (c.one-packets.ensures ∙ sym c.in-Ok.ensures.one) in
    subst (λ (es : List Laid). IsLaid c.args.offset c.args.phase.now (λ whole. whole) (Ok es) c.args.outputs.now c.lay_whole.new.outputs c.lay_whole.result) same c.lay_whole.ensures

pub returns-in-Err : goal.returns-in-Err
returns-in-Err c =
    subst (λ (ps : List (Stamped Plain)). IsLaid c.args.offset c.args.phase.now (λ whole. whole) (Ok (part_of ps c.args.laid.bound ∷ [])) c.args.outputs.now c.lay_several.new.outputs c.lay_several.result) (sym c.in-Err.ensures.many) c.lay_several.ensures
