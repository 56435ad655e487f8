use Rattle.std.proofs.Common.{Option, ℕ, [], ◌∷◌, take, ap, ◌∙◌, sym}
use Rattle.mg_value.specs.Plain.{Plain}
use Rattle.mg_value.specs.Packet.{Stamped}
use Rattle.mg_calc.specs.Answer.{emission_of}
use Rattle.mg_route.proofs.Passing.{first_one}
use Rattle.mg_route.proofs.emissions.front.Goals as goal

pub returns-then-lanes-eq1 : goal.returns-then-lanes-eq1
returns-then-lanes-eq1 c =
    c.in_ok-only.ensures
    ∙ ap (λ (place : Option (Stamped Plain)). emission_of (place ∷ [])) c.get.ensures
    ∙ first_one c.args.set.now
    ∙ ap (λ (n : ℕ). emission_of (take n c.args.set.now)) (sym c.if-lanes-eq1.true)
