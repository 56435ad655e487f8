-- An engine gives up packets only if it is told to.
use Rattle.std.proofs.Common.{◌≡◌, ℕ, zero, suc, ◌∷◌, List, [], map, All, Option, Some, None, get_or, ap, sym, refl, subst, ◌∙◌}
use Rattle.std.specs.List.{AllByRecursion}
use Rattle.std.proofs.lemmas.List.Elements.{All-from_recursion, recursion_from_All}
use Rattle.mg_value.specs.Payload.{Plain}
use Rattle.mg_settled.specs.Prefix.{StreamPrefix}
use Rattle.mg_stream.specs.Pool.{Backlog, empty_backlog}
use Rattle.mg_node.specs.declared.pending.Pending.{Pending}
use Rattle.mg_node.specs.Views.{EngineView}
use Rattle.mg_node.specs.Advances.{advanced, advance_bound, raised_output}
use Rattle.mg_node.specs.Outputs.{kept_whole}
use Rattle.mg_test_cells.specs.Cell.{KeepsAll}

-- how many packets of each output were given up
abbrev pub gone_of : EngineView → List ℕ
gone_of engine = map (λ b. b.gone) engine.outputs

pub keeps_by : (engine engine_now : EngineView) → gone_of engine_now ≡ gone_of engine → KeepsAll engine → KeepsAll engine_now
keeps_by engine engine_now same keeps = subst (λ (ns : List ℕ). All (λ n. n ≡ 0) ns) (sym same) keeps

raised_gone : (bound : Option ℕ) (b : Backlog Plain) → (raised_output bound b).gone ≡ b.gone
raised_gone None b = refl
raised_gone (Some bound) b = refl

all_raised_gone : (bound : Option ℕ) (bs : List (Backlog Plain)) → map (λ b. b.gone) (map (raised_output bound) bs) ≡ map (λ b. b.gone) bs
all_raised_gone bound [] = refl
all_raised_gone bound (b ∷ bs) = ap (λ (n : ℕ). n ∷ map (λ (c : Backlog Plain). c.gone) (map (raised_output bound) bs)) (raised_gone bound b) ∙ ap (λ (ns : List ℕ). b.gone ∷ ns) (all_raised_gone bound bs)

-- an advance
pub advanced_gone : (engine engine_now : EngineView) (waits : Pending) → engine_now ≡ advanced engine waits → gone_of engine_now ≡ gone_of engine
advanced_gone engine engine_now waits is = ap gone_of is ∙ all_raised_gone (advance_bound engine waits) engine.outputs

-- what is kept whole
zeros : (ss : List (StreamPrefix Plain)) → All (λ n. n ≡ 0) (map (λ b. b.gone) (map kept_whole ss))
zeros ss = All-from_recursion (λ n. n ≡ 0) _ (by_recursion ss)
  where
    by_recursion : (ss : List (StreamPrefix Plain)) → AllByRecursion (λ n. n ≡ 0) (map (λ b. b.gone) (map kept_whole ss))
    by_recursion [] = tt
    by_recursion (s ∷ ss) = (refl, by_recursion ss)

pub whole_keeps : (engine : EngineView) (ss : List (StreamPrefix Plain)) → engine.outputs ≡ map kept_whole ss → KeepsAll engine
whole_keeps engine ss is = subst (λ (bs : List (Backlog Plain)). All (λ n. n ≡ 0) (map (λ b. b.gone) bs)) (sym is) (zeros ss)

-- nothing is given up of one of its outputs
pub none_gone : (engine : EngineView) (output : ℕ) → KeepsAll engine → (get_or engine.outputs output empty_backlog).gone ≡ 0
none_gone engine output keeps = at engine.outputs output (recursion_from_All (λ n. n ≡ 0) (gone_of engine) keeps)
  where
    at : (bs : List (Backlog Plain)) (i : ℕ) → AllByRecursion (λ n. n ≡ 0) (map (λ b. b.gone) bs) → (get_or bs i empty_backlog).gone ≡ 0
    at [] i keeps = refl
    at (b ∷ bs) zero keeps = keeps.0
    at (b ∷ bs) (suc i) keeps = at bs i keeps.1
