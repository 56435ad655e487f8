use Rattle.std.proofs.Common.{◌≡◌, ◌∙◌, ℕ, ◌↔◌, Option, Some, None, ap, subst, sym, true, false}
use Rattle.mg_value.specs.Payload.{Plain}
use Rattle.mg_settled.specs.Loopback.{Reply}
use Rattle.mg_loopback.specs.Loopback.{Held, is_settled, next_reply, told}
use Rattle.mg_loopback.specs.declared.answered.Answered.TheVariants.{Silent}
use Rattle.mg_loopback.specs.Standing.{StandsAfter}
use Rattle.mg_loopback.specs.contracts.loopback.Loopback.{the_view}
use Rattle.mg_loopback.proofs.Standing.{next_is}
use Rattle.mg_loopback.proofs.Steps.{IsDue, none_waits, none_next, unsettled_next, not_yet_for_none, told_next, due_stands, silent_exactly}
use Rattle.mg_loopback.proofs.loopback.Loopback.answer.Goals as goal

pub returns-in_default-clause-next : goal.returns-in_default-clause-next
returns-in_default-clause-next c = λ k main loop h.
    let held = the_view c.self.inside in
    let before : StandsAfter k held main loop = rw c.self.view_is h in
    let none = none_next held (none_waits held c.first.result c.first.ensures.first c.in_default.is) in
    ap (λ (r : Option (Reply Plain)). told r) (sym none ∙ next_is k held main loop before)

pub returns-in_default-clause-not_yet : goal.returns-in_default-clause-not_yet
returns-in_default-clause-not_yet c =
    rw (← c.self.view_is) (let held = the_view c.self.inside in not_yet_for_none held _ (none_waits held c.first.result c.first.ensures.first c.in_default.is))

pub returns-then-not-is_settled-clause-next : goal.returns-then-not-is_settled-clause-next
returns-then-not-is_settled-clause-next c = λ k main loop h.
    let held = c.args.self.now in
    let fails : is_settled held ≡ false = sym c.is_settled.ensures ∙ c.if-not-is_settled.true in
    ap (λ (r : Option (Reply Plain)). told r) (sym (unsettled_next held fails) ∙ next_is k held main loop h)

pub returns-clause-next : goal.returns-clause-next
returns-clause-next c = λ k main loop h.
    let held = the_view c.self.inside in
    let before : StandsAfter k held main loop = rw c.self.view_is h in
    let settled : is_settled held ≡ true = subst (λ (v : Held Plain). is_settled v ≡ true) (sym c.self.view_is) (sym c.is_settled.ensures ∙ c.if-not-is_settled.false) in
    let due : IsDue held c.in-Some.at = record { settled = settled; first = sym c.first.ensures.first ∙ c.in-Some.is } in
    c.told_at.ensures ∙ told_next held c.in-Some.at _ due c.take_previous-packet.ensures.value ∙ ap (λ (r : Option (Reply Plain)). told r) (next_is k held main loop before)

pub returns-clause-stands_after : goal.returns-clause-stands_after
returns-clause-stands_after c = λ k main loop h _.
    let held = the_view c.self.inside in
    let before : StandsAfter k held main loop = rw c.self.view_is h in
    let settled : is_settled held ≡ true = subst (λ (v : Held Plain). is_settled v ≡ true) (sym c.self.view_is) (sym c.is_settled.ensures ∙ c.if-not-is_settled.false) in
    let due : IsDue held c.in-Some.at = record { settled = settled; first = sym c.first.ensures.first ∙ c.in-Some.is } in
    due_stands k held main loop c.in-Some.at c.take_previous-packet.new.queue c.pop_at.new.self due c.take_previous-packet.ensures.left c.pop_at.ensures.popped before

pub returns-in_default-clause-silent : goal.returns-in_default-clause-silent
returns-in_default-clause-silent c =
    rw (← c.self.view_is) (let held = the_view c.self.inside in
    let none = none_next held (none_waits held c.first.result c.first.ensures.first c.in_default.is) in
    λ t. silent_exactly (next_reply held) _ (ap (λ (r : Option (Reply Plain)). told r) (sym none)) t)

pub returns-then-not-is_settled-clause-silent : goal.returns-then-not-is_settled-clause-silent
returns-then-not-is_settled-clause-silent c = λ t.
    let held = c.args.self.now in
    let fails : is_settled held ≡ false = sym c.is_settled.ensures ∙ c.if-not-is_settled.true in
    silent_exactly (next_reply held) _ (ap (λ (r : Option (Reply Plain)). told r) (sym (unsettled_next held fails))) t

pub returns-clause-silent : goal.returns-clause-silent
returns-clause-silent c =
    let due : IsDue (the_view c.self.inside) c.in-Some.at = record {
      settled = subst (λ (v : Held Plain). is_settled v ≡ true) (sym c.self.view_is) (sym c.is_settled.ensures ∙ c.if-not-is_settled.false);
      first = sym c.first.ensures.first ∙ c.in-Some.is;
    } in
    let is = c.told_at.ensures ∙ told_next (the_view c.self.inside) c.in-Some.at _ due c.take_previous-packet.ensures.value in
    subst (λ (v : Held Plain). (t : ℕ) → (c.told_at.result ≡ Silent t) ↔ (next_reply v ≡ Some (record { at = t; value = None }))) c.self.view_is (λ t. silent_exactly (next_reply (the_view c.self.inside)) _ is t)
