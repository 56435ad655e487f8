use Rattle.std.proofs.Common.{◌∙◌, Option, cond, drop, is_some, ap, sym}
use Rattle.mg_value.specs.Payload.{Plain}
use Rattle.mg_value.specs.Packet.{Stamped}
use Rattle.mg_settled.specs.Prefix.{StreamPrefix}
use Rattle.mg_settled.specs.FirstSet.{front_at, from, behind}
use Rattle.mg_settled.proofs.Climbs.{prefix-climbs}
use Rattle.mg_settled.proofs.Extending.{same_prefix}
use Rattle.mg_settled.proofs.FirstSets.{found-first, left-first}
use Rattle.mg_settled.proofs.rest.Rest.read_at.Goals as goal

pub returns-clause-found : goal.returns-clause-found
returns-clause-found c =
    let at = c.args.at in
    let s = c.args.self.now in
    c.take_at.ensures.found
    ∙ ap (λ (r : StreamPrefix Plain). front_at at r.packets) c.pass.ensures
    ∙ sym (found-first at 0 s.bound s.packets (prefix-climbs s c.requires))

pub returns-clause-left : goal.returns-clause-left
returns-clause-left c =
    let at = c.args.at in
    let s = c.args.self.now in
    let climbs = prefix-climbs s c.requires in
    same_prefix c.take_at.new.self (behind at s)
    (c.take_at.ensures.packets
    ∙ ap (λ (r : StreamPrefix Plain). cond (is_some (front_at at r.packets)) (drop 1 r.packets) r.packets) c.pass.ensures
    ∙ ap (λ (o : Option (Stamped Plain)). cond (is_some o) (drop 1 (from at s).packets) (from at s).packets) (sym (found-first at 0 s.bound s.packets climbs))
    ∙ sym (left-first at 0 s.bound s.packets climbs))
    (c.take_at.ensures.bound ∙ ap (λ (r : StreamPrefix Plain). r.bound) c.pass.ensures)
