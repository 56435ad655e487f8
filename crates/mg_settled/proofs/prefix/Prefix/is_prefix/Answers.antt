use Rattle.std.proofs.Common.{rules, tests, IsTrue, ℕ, ◌≤◌, ◌∙◌, length, ap, sym, subst, arith}
use Rattle.std.proofs.lemmas.Bool.{false≢true}
use Rattle.mg_time.specs.Time.{done}
use Rattle.mg_value.specs.Payload.{Plain}
use Rattle.mg_value.specs.Packet.{Stamped}
use Rattle.mg_settled.specs.Prefix.{StreamPrefix}
use Rattle.mg_settled.specs.Code.Standing.{MayStand}
use Rattle.mg_settled.proofs.Standing.{to_stand, from_stand, checked-stops, checked-all}
use Rattle.mg_settled.proofs.prefix.Prefix.is_prefix.Goals as goal

pub returns-then-not-may_stand : goal.returns-then-not-may_stand
returns-then-not-may_stand c =
    let ps = c.as_slice-packets.result.now in
    let same = c.as_slice-packets.ensures ∙ ap (λ (s : StreamPrefix Plain). s.packets) c.self.view_is in
    let at = ap (λ (p : Stamped Plain). p.at) c.packet.view_is in (
      λ no. absurd (false≢true no),
      λ h. absurd (checked-stops (length ps) c.args.self.now.bound ps c.loop-packet.packet-index c.loop-packet.lowest c.packet-item.result (omega arith) c.packet-item.is c.loop-packet.invariant
          (λ may. false≢true (c.if-not-may_stand.ensures.1 (subst (λ (t : ℕ). MayStand (length ps) c.loop-packet.lowest t) (sym at) may))) (to_stand c.args.self.now ps same h)),
    )

pub returns : goal.returns
returns c =
    let ps = c.as_slice-packets.result.now in
    let same = c.as_slice-packets.ensures ∙ ap (λ (s : StreamPrefix Plain). s.packets) c.self.view_is in
    let bound = ap (λ (s : StreamPrefix Plain). s.bound) c.self.view_is in
    let all = checked-all (length ps) c.args.self.now.bound ps c.loop-packet.packet-index c.loop-packet.lowest (omega arith) c.loop-packet.invariant in
    let top : c.args.self.now.bound ≤ done = (let within = c.done_is_greatest.ensures in omega (arith, within, bound)) in
    let le : (IsTrue c.le.result → c.loop-packet.lowest ≤ c.self.inside.bound) × (c.loop-packet.lowest ≤ c.self.inside.bound → IsTrue c.le.result) = search (rules, tests) in (
      λ yes. from_stand c.args.self.now ps same top (all.0 (let under = le.0 yes in omega (arith, under, bound))),
      λ h. le.1 (let under = all.1 (to_stand c.args.self.now ps same h) in omega (arith, under, bound)),
    )
