use Rattle.std.proofs.Common.{◌≡◌, ◌≤◌, ◌∙◌, sym, ℕ, Some, option_map, slice_get}
use Rattle.std.proofs.lemmas.Map.Keys.{le_from_is_le}
use Rattle.mg_loopback.proofs.Leaving.{ends, found_first, found_none}
use Rattle.mg_loopback.proofs.turn.take_up_to.Goals as goal
use Rattle.mg_loopback.proofs.turn.take_up_to.Goals.{in-Some+then-le, in_default}

pub returns-clause-packet : goal.returns-clause-packet
returns-clause-packet c =
    let q = c.loop-first.queue in
    let far : (u : ℕ) → Some u ≡ option_map (λ p. p.at) (slice_get q.packets 0) → c.args.at ≤ u = λ u e. elim c.match-first.branch [
      | in-Some+then-le w ↦ (let le : c.args.at ≤ w.in-Some.first = le_from_is_le c.args.at w.in-Some.first (sym w.le.ensures ∙ w.if-le.true) in found_first c.args.at u w.in-Some.first c.first.result _ c.first.ensures.first w.in-Some.is le e)
      | in_default w ↦ found_none c.args.at u c.first.result _ c.first.ensures.first w.in_default.is e
    ] in
    c.pop_at-2.ensures.packet ∙ (ends c.args.at q c.first.ensures.rest far).found ∙ c.loop-first.invariant.found

pub returns-clause-left : goal.returns-clause-left
returns-clause-left c =
    let q = c.loop-first.queue in
    let far : (u : ℕ) → Some u ≡ option_map (λ p. p.at) (slice_get q.packets 0) → c.args.at ≤ u = λ u e. elim c.match-first.branch [
      | in-Some+then-le w ↦ (let le : c.args.at ≤ w.in-Some.first = le_from_is_le c.args.at w.in-Some.first (sym w.le.ensures ∙ w.if-le.true) in found_first c.args.at u w.in-Some.first c.first.result _ c.first.ensures.first w.in-Some.is le e)
      | in_default w ↦ found_none c.args.at u c.first.result _ c.first.ensures.first w.in_default.is e
    ] in
    c.pop_at-2.ensures.popped ∙ (ends c.args.at q c.first.ensures.rest far).left ∙ c.loop-first.invariant.left
