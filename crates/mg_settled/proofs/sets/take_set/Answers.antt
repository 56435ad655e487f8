use Rattle.std.proofs.Common.{◌≡◌, ℕ, ◌<◌, ◌∙◌, Bool, List, Option, None, cond, length, length-set, get_or, set, ap, ap₂, sym, arith}
use Rattle.std.proofs.lemmas.List.{get_or_default}
use Rattle.mg_value.specs.Payload.{Plain}
use Rattle.mg_value.specs.Packet.{Stamped}
use Rattle.mg_settled.specs.Prefix.{StreamPrefix, closed, empty_prefix}
use Rattle.mg_settled.specs.Settled.{packet_at, port_of, shows}
use Rattle.mg_settled.specs.FirstSet.{is_shown, behind}
use Rattle.mg_settled.proofs.SetSteps.{shown-set, shown-is, place-more, mapped-more, mapped-later}
use Rattle.mg_settled.proofs.sets.take_set.Goals as goal

pub loop-port-preserved : goal.loop-port-preserved
loop-port-preserved c =
    let old = c.args.rests.now in
    let at = c.args.at in
    let policy = c.args.policy in
    let i = c.loop-port.port in
    let q = c.index-rests-port.result in
    let below : i < length old = omega arith in
    let is : q ≡ get_or old i q = c.index-rests-port.is ∙ ap (λ (l : List (StreamPrefix Plain)). get_or l i q) c.loop-port.invariant.rests ∙ mapped-later (behind at) old i q below in
    let again = sym c.index-rests-port.is in
    let want : ℕ → Option (Stamped Plain) = λ k. cond (shows policy old at k) (packet_at at (port_of old k).packets) None in
    let shown = c.is_shown-shown.ensures ∙ ap (λ (chosen : Option ℕ). is_shown policy (length old) chosen i) c.chosen_port-chosen.ensures ∙ shown-is policy old at i c.requires.first in
    let packet : c.in_ok-packet.packet ≡ want i =
    c.in_ok-packet.ensures.packet
    ∙ ap₂ (λ (b : Bool) (r : StreamPrefix Plain). cond b (packet_at at r.packets) None) shown (again ∙ is ∙ get_or_default old i q (closed empty_prefix) below) in
    let places = c.loop-port.invariant.places in
    let in_set : i < length c.loop-port.set = omega (arith, below, places) in
    record {
      places = ap length c.put.ensures ∙ length-set c.loop-port.set i c.in_ok-packet.packet ∙ places;
      set = rw c.put.ensures (place-more c.loop-port.set want i c.in_ok-packet.packet in_set packet c.loop-port.invariant.set);
      rests =
          ap (λ (r : StreamPrefix Plain). set c.loop-port.rests i r) (c.read_port.ensures.left ∙ ap (behind at) again)
          ∙ mapped-more (behind at) old c.loop-port.rests i q below is c.loop-port.invariant.rests;
    }

pub returns-clause-set : goal.returns-clause-set
returns-clause-set c = shown-set c.args.policy c.args.rests.now c.args.at c.loop-port.set c.requires.streams c.requires.first c.loop-port.invariant.places (λ k there. c.loop-port.invariant.set k (omega (arith, there)))
