-- A net goes on with a further piece of its inputs.
use Rattle.std.proofs.Common.{◌≡◌, ℕ, zero, suc, ◌<◌, List, [], ◌∷◌, length, Some, get_or, slice_get, ap, sym, refl, subst, ◌∙◌, arith}
use Rattle.std.specs.List.{AllZip}
use Rattle.std.proofs.lemmas.Option.{slice_get-get_or, slice_get_within}
use Rattle.mg_value.specs.Payload.{Plain}
use Rattle.mg_settled.specs.Prefix.{StreamPrefix, empty_prefix}
use Rattle.mg_settled.specs.Extension.{IsExtendedBy, AreExtendedBy}
use Rattle.mg_calc.specs.Rules.{Laws}
use Rattle.mg_calc.specs.declared.inputs.Inputs.{Inputs}
use Rattle.mg_calc.specs.declared.plan.Plan.{Plan}
use Rattle.mg_calc.specs.Equations.{Job, IsJob}
use Rattle.mg_node.specs.Job.{LoggedJob}
use Rattle.mg_node.specs.Extending.{joined}
use Rattle.mg_sched.specs.Views.{NetView}
use Rattle.mg_sched.specs.StandsFor.{StandsFor, IsRunning}
use Rattle.mg_sched.specs.Extends.{GoesOnWith, MayGoOnWith, Extends}
use Rattle.mg_nets.specs.Driven.{IsDriven}
use Rattle.mg_test_nets.specs.Behind.{IsBehind, HasBehind}

-- Streams.

-- what holds of two elements of one number, of lists of one length, holds of each pair
all_by_number : {X : Type 0} (R : X → X → Type 0) (xs ys : List X) → length ys ≡ length xs → ((i : ℕ) (x y : X) → slice_get xs i ≡ Some x → slice_get ys i ≡ Some y → R x y) → AllZip R xs ys
all_by_number R [] [] same each = tt
all_by_number R [] (y ∷ ys) same each = absurd (omega (arith, same))
all_by_number R (x ∷ xs) [] same each = absurd (omega (arith, same))
all_by_number R (x ∷ xs) (y ∷ ys) same each = (each zero x y refl refl, all_by_number R xs ys (omega (arith, same)) (λ i a b. each (suc i) a b))

extended_by : (s piece now : StreamPrefix Plain) → IsBehind s piece now → IsExtendedBy s now
extended_by s piece now b = subst (IsExtendedBy s) (sym b.whole) (record { further = piece.packets; packets = refl; bound = omega arith; above = b.above })

all_extended : (before piece now : Inputs) → HasBehind before piece now → AreExtendedBy before.streams now.streams
all_extended before piece now h =
    let pieces = h.pieces in
    all_by_number IsExtendedBy before.streams now.streams h.count (λ i s t at at_now.
    let less = slice_get_within before.streams i s at in
    let more = get_or piece.streams i empty_prefix in
    extended_by s more t (h.each i t at_now s more at (slice_get-get_or piece.streams i empty_prefix (omega (arith, less, pieces)))))

joined_at : (before piece now : Inputs) → HasBehind before piece now → (input : ℕ) → input < length piece.streams
    → get_or now.streams input empty_prefix ≡ joined (get_or before.streams input empty_prefix) (get_or piece.streams input empty_prefix)
joined_at before piece now h input less =
    let pieces = h.pieces in
    let count = h.count in
    let b = h.each input (get_or now.streams input empty_prefix) (slice_get-get_or now.streams input empty_prefix (omega (arith, less, pieces, count)))
    (get_or before.streams input empty_prefix) (get_or piece.streams input empty_prefix)
    (slice_get-get_or before.streams input empty_prefix (omega (arith, less, pieces))) (slice_get-get_or piece.streams input empty_prefix less) in
    b.whole

-- Jobs.

-- the same job over the longer inputs
abbrev later_job : {laws : Laws} → Plan → Inputs → LoggedJob laws → LoggedJob laws
later_job {laws} plan now first = record { job = record { plan = plan; inputs = now; laws = laws }; boxes = first.boxes; same = refl }

goes_on : {laws : Laws} (plan : Plan) (before piece now : Inputs) (first : LoggedJob laws) → first.job ≡ record { plan = plan; inputs = before; laws = first.job.laws } → IsJob first.job → HasBehind before piece now
    → GoesOnWith piece first (later_job plan now first)
goes_on {laws} plan before piece now first of is h = subst P (sym (of ∙ ap (λ (l : Laws). record { plan = plan; inputs = before; laws = l }) first.same)) base first.same is
  where
    P : Job → Type 0
    P = λ (j : Job). (same : j.laws ≡ laws) → IsJob j → GoesOnWith piece (record { job = j; boxes = first.boxes; same = same }) (later_job plan now first)

    base : P (record { plan = plan; inputs = before; laws = laws })
    base = λ same job. record {
      grows = record {
        plan = refl;
        sides = sym h.sides;
        boxes = refl;
        is_job = record { plan = job.plan; inputs = record { streams = h.count ∙ job.inputs.streams; prefixes = h.prefixes; sides = ap length h.sides ∙ job.inputs.sides } };
        extended = all_extended before piece now h;
      };
      pieces = h.pieces;
      streams = joined_at before piece now h;
    }

stands_job : {laws : Laws} (job : LoggedJob laws) (net : NetView) → StandsFor job net → IsJob job.job
unfolding StandsFor
stands_job {laws} job net s = s.is_job

of_plan_of : {laws : Laws} (job : LoggedJob laws) (net : NetView) → StandsFor job net → net.plan ≡ job.job.plan
unfolding StandsFor
of_plan_of {laws} job net s = s.plan

pub may_go_on : {laws : Laws} (plan : Plan) (before piece now : Inputs) (net : NetView) → IsDriven laws plan before net → HasBehind before piece now → MayGoOnWith laws piece net
may_go_on {laws} plan before piece now net d h =
    let s = d.stands in
    record { first = s.job; later = later_job plan now s.job; stands = s.stands; goes_on = goes_on plan before piece now s.job d.of_job (stands_job s.job net s.stands) h }

pub gone_on : {laws : Laws} (plan : Plan) (before piece now : Inputs) (net longer : NetView) → IsDriven laws plan before net → HasBehind before piece now → Extends piece net longer
    → ((first later : LoggedJob laws) → GoesOnWith piece first later → StandsFor first net → StandsFor later longer) → IsDriven laws plan now longer
gone_on {laws} plan before piece now net longer d h e keeps =
    let s = d.stands in
    let later = later_job plan now s.job in
    let stands = keeps s.job later (goes_on plan before piece now s.job d.of_job (stands_job s.job net s.stands) h) s.stands in
    record { of_plan = of_plan_of later longer stands; running = subst IsRunning (sym e.parts) d.running; stands = record { job = later; stands = stands }; of_job = refl }
