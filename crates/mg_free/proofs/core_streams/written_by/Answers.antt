use Rattle.std.proofs.Common.{◌≡◌, ◌∙◌, ℕ, zero, suc, List, [], ◌∷◌, None, slice_get, slice_index_or, refl, sym, ap}
use Rattle.mg_value.specs.declared.kind.Kind.TheVariants.{Any}
use Rattle.mg_calc.specs.declared.plan_stream.PlanStream.{PlanStream}
use Rattle.mg_free.specs.Core.{no_stream}
use Rattle.mg_free.proofs.core_streams.written_by.Goals as goal

-- what isn't there
past_all : {X : Type 0} (xs : List X) (i : ℕ) (d : X) → slice_get xs i ≡ None → slice_index_or xs i d ≡ d
past_all [] i d none = refl
past_all (x ∷ xs) zero d none = absurd cc
past_all (x ∷ xs) (suc i) d none = past_all xs i d none

pub returns-in_ok-name-in-None : goal.returns-in_ok-name-in-None
returns-in_ok-name-in-None c =
    let name = c.in_ok-name-in-None.ensures in
    let none = past_all c.args.plan.now.streams c.args.number no_stream (sym c.in-None.ensures) in
    (λ i. record { name = name i; kind = Any; producer = c.args.producer }) ∙ sym (ap (λ (s : PlanStream). record s { producer = c.args.producer }) none)
