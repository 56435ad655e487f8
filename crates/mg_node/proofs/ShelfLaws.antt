-- What stands in a window once a work came back.
use Rattle.std.proofs.Common.{◌≡◌, ℕ, zero, suc, ◌+◌, ◌-◌, Bool, true, false, List, [], ◌∷◌, set, Some, None, is_some, option_and_then, slice_get, nat_lt, ap, refl, ◌∙◌, arith, if◌then◌else◌}
use Rattle.std.proofs.lemmas.Bool.Decides.{nat_tests}
use Rattle.mg_node.specs.Views.{OutcomeView, EntryView, EngineView}
use Rattle.mg_node.specs.Claims.{is_unrun, first_unrun}
use Rattle.mg_node.specs.Shelves.{IsOut, back, shelved, shelf_of, shelf_at, performed_of}

pub get_set : {X : Type 0} (xs : List X) (i : ℕ) (x y : X) → slice_get xs i ≡ Some x → slice_get (set xs i y) i ≡ Some y
get_set [] i x y h = absurd cc
get_set (z ∷ xs) zero x y h = refl
get_set (z ∷ xs) (suc i) x y h = get_set xs i x y h

pub found_again : (engine : EngineView) (outcome : OutcomeView) → IsOut engine outcome.work → shelf_at (shelved engine outcome) outcome.work.number ≡ performed_of outcome
found_again engine outcome out =
    let place = outcome.work.number - engine.laid in
    let low : nat_lt outcome.work.number engine.laid ≡ false = (let laid = out.laid in grind (arith, nat_tests, laid)) in
    ap (λ (b : Bool). if b then None else option_and_then shelf_of (slice_get (set engine.window place (back outcome)) place)) low
    ∙ ap (option_and_then shelf_of) (get_set engine.window place out.entry (back outcome) out.there)

some_unrun : (n : ℕ) (entries : List EntryView) (i : ℕ) (entry : EntryView) → slice_get entries i ≡ Some entry → is_unrun entry ≡ true → is_some (first_unrun n entries) ≡ true
some_unrun n [] i entry there unrun = absurd cc
some_unrun n (x ∷ entries) zero entry there unrun =
    let same : x ≡ entry = cc in
    ap (λ (b : Bool). is_some (if b then Some n else first_unrun (n + 1) entries)) (ap is_unrun same ∙ unrun)
some_unrun n (x ∷ entries) (suc i) entry there unrun = by_test (is_unrun x) refl (some_unrun (n + 1) entries i entry there unrun)
  where
    by_test : (b : Bool) → is_unrun x ≡ b → is_some (first_unrun (n + 1) entries) ≡ true → is_some (if is_unrun x then Some n else first_unrun (n + 1) entries) ≡ true
    by_test true is later = ap (λ (b : Bool). is_some (if b then Some n else first_unrun (n + 1) entries)) is
    by_test false is later = ap (λ (b : Bool). is_some (if b then Some n else first_unrun (n + 1) entries)) is ∙ later

pub unrun_again : (engine : EngineView) (outcome : OutcomeView) → IsOut engine outcome.work → outcome.answer ≡ None → is_some (first_unrun 0 (shelved engine outcome).window) ≡ true
unrun_again engine outcome out none =
    some_unrun 0 (set engine.window (outcome.work.number - engine.laid) (back outcome)) (outcome.work.number - engine.laid) (back outcome)
    (get_set engine.window (outcome.work.number - engine.laid) out.entry (back outcome) out.there)
    (ap (λ o. if is_some o then false else true) none)
