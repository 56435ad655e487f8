-- A law that hands on each packet takes packets of any kind, so it gives what it is shown.
use Rattle.std.proofs.Common.{◌≡◌, ℕ, ℤ, List, Bool, Option, Ok, Err, [], ◌∷◌, None, if◌then◌else◌, take, length, slice_get, unwrap_or, refl, sym, ap, ◌∙◌, arith}
use Rattle.std.proofs.lemmas.List.{take_all}
use Rattle.mg_value.specs.Plain.{Plain}
use Rattle.mg_value.specs.Packet.{Stamped}
use Rattle.mg_calc.specs.declared.law.Law.TheVariants.{Pass, Stated}
use Rattle.mg_calc.specs.declared.emission.Laid.{Laid}
use Rattle.mg_calc.specs.declared.cause.Cause.TheVariants.{WrongKind}
use Rattle.mg_calc.specs.Answer.{Answer, emission_of}
use Rattle.mg_calc.specs.Law.{step}
use Rattle.mg_calc.specs.Routing.{pass}
use Rattle.mg_route.proofs.TakenKinds.{takes_any}

pub passes : (set : List (Option (Stamped Plain))) (emission : List Laid) (count : ℕ) → count ≡ length set → emission ≡ emission_of (take count set)
    → (state : List Plain) (at : ℕ) → step Pass state at set ≡ Ok (state, emission)
passes set emission count all gives state at =
    ap (λ (wrong : Bool). (let answer : Answer = if wrong then Err WrongKind else pass state set in answer)) (takes_any Pass (λ i. refl) set)
    ∙ ap (λ (es : List Laid). (let answer : Answer = Ok (state, es) in answer)) (sym (gives ∙ ap emission_of (take_all count set (omega (arith, all)))))

-- a stated law takes packets of any kind too; the table has that it does nothing
pub stated_stays : (number : ℕ) (parameters : List Plain) (offset : Option ℤ) (state : List Plain) (at : ℕ) (set : List (Option (Stamped Plain))) → step (Stated number parameters offset) state at set ≡ Ok (state, [])
stated_stays number parameters offset state at set =
    ap (λ (wrong : Bool). (let answer : Answer = if wrong then Err WrongKind else Ok (state, []) in answer)) (takes_any (Stated number parameters offset) (λ i. refl) set)

-- what is emitted for the first place of a set alone
pub first_one : (set : List (Option (Stamped Plain))) → emission_of (unwrap_or (slice_get set 0) None ∷ []) ≡ emission_of (take 1 set)
first_one [] = refl
first_one (place ∷ places) = refl
