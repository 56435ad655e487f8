-- Of each law: the state that it keeps is of its form.
use Rattle.std.proofs.Common.{◌≡◌, ℕ, ◌+◌, ◌+ℤ◌, ◌*ℤ◌, pos, List, [], ◌∷◌, map, take, Option, Some, None, is_some, Ok, Err, unwrap_or, slice_get, refl, subst, IfOk}
use Rattle.mg_value.specs.Plain.{Plain, int}
use Rattle.mg_value.specs.Packet.{Stamped}
use Rattle.mg_settled.specs.Settled.{selected}
use Rattle.mg_calc.specs.declared.emission.Laid.{Laid}
use Rattle.mg_calc.specs.declared.law.Law.{Law}
use Rattle.mg_calc.specs.declared.law.Law.TheVariants.{Pass, Gate, Mux, Cloner, Merge, Thin, Compute, Filter, Shift, Count, SideOnce, Constants, Loopback, Tally, Scripted, BeginLoop, EndLoop, FirstCome, Limiter, Stated}
use Rattle.mg_calc.specs.declared.cause.Cause.TheVariants.{WrongKind}
use Rattle.mg_calc.specs.Answer.{Answer, emission_of}
use Rattle.mg_calc.specs.Values.{place_at, time_of, moved_time}
use Rattle.mg_calc.specs.State.{state_of, number_in, kept_at, kept_list}
use Rattle.mg_calc.specs.StateForm.{IsStateOf}
use Rattle.mg_calc.specs.Kinds.{has_wrong_kind}
use Rattle.mg_calc.specs.Routing.{is_open, chosen, copy_at, renewed_places, first_packet, thinned}
use Rattle.mg_calc.specs.Batch.{batch_of, with_item}
use Rattle.mg_calc.specs.Law.{emits_at, filtered, is_kept, opening, rule, step, call, finish, keeps_side}
use Rattle.mg_calc.specs.Computations.{row_of}
use Rattle.mg_calc.specs.Shape.{ParametersFit, IsShapeOf, FitsInputs}
use Rattle.mg_calc.specs.declared.shape.Shape.{Shape}
use Rattle.mg_calc.proofs.StateForms.{Keeps, by_test, by_place, emits, computes, moves, picks, cloned, thins, counts, steps_on, by_batch, keeps_list, items_stay}

-- each law's rule
follows : (law : Law) (shape : Shape) (state : List Plain) (t : ℕ) (set : List (Option (Stamped Plain))) → IsShapeOf law shape → FitsInputs shape set
    → IsStateOf law state → Keeps (IsStateOf law) (rule law state t set)
follows Pass shape state t set of_law places good = good
follows (Gate a b c) shape state t set of_law places good =
    by_test (IsStateOf (Gate a b c)) (is_open b c (place_at set a)) (Ok (state, emission_of (take a set))) (Ok (state, [])) (λ _. good) good
follows (Mux lanes) shape state t set of_law places good =
    by_place (IsStateOf (Mux lanes)) (place_at set lanes) _ _ (λ p. picks (IsStateOf (Mux lanes)) state set (selected (lanes + 1) p.value) good) good
follows (Cloner lanes) shape state t set of_law places good = cloned lanes shape state set of_law places
follows (Merge lanes) shape state t set of_law places good = good
follows (Thin period) shape state t set of_law places good =
    by_place (IsStateOf (Thin period)) (place_at set 0) _ _ (λ p. thins period state t p good) good
follows (Compute computation) shape state t set of_law places good = computes (row_of computation.formula) state t set good
follows (Filter keep raises) shape state t set of_law places good =
    by_place (IsStateOf (Filter keep raises)) (place_at set 0) _ _ (λ p. good) good
follows (Shift offset) shape state t set of_law places good =
    by_place (IsStateOf (Shift offset)) (place_at set 0) _ _ (λ p. moves (IsStateOf (Shift offset)) state _ p.value good) good
follows (Count a b c) shape state t set of_law places good = good
follows (SideOnce at) shape state t set of_law places good = good
follows Constants shape state t set of_law places good = good
follows Loopback shape state t set of_law places good = good
follows Tally shape state t set of_law places good =
    let count = number_in state +ℤ pos 1 in emits (IsStateOf Tally) (state_of count) t count (counts state good)
follows (BeginLoop clones always_end) shape state t set of_law places good =
    by_batch clones always_end state t set (batch_of always_end (place_at set clones)) good
follows (EndLoop empty_as_bound) shape state t set of_law places good =
    keeps_list empty_as_bound (place_at set 0) (with_item (kept_list state) (place_at set 1)) (items_stay (kept_list state) (place_at set 1) good.1)
follows (FirstCome lanes) shape state t set of_law places good = good
follows (Limiter most) shape state t set of_law places good = good
follows (Stated number parameters offset) shape state t set of_law places good = good
follows (Scripted offset first steps last) shape state t set of_law places good = steps_on offset first steps last state _ refl good

pub stepped : (law : Law) (shape : Shape) (state : List Plain) (t : ℕ) (set : List (Option (Stamped Plain))) → IsShapeOf law shape → FitsInputs shape set
    → IsStateOf law state → IfOk (step law state t set) (λ given. IsStateOf law given.0)
stepped law shape state t set of_law places good =
    by_test (IsStateOf law) (has_wrong_kind law set) _ _ (λ _. tt) (follows law shape state t set of_law places good)
