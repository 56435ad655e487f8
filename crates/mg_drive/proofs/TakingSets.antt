-- The sets that leave a net.
use Rattle.std.proofs.Common.{◌≡◌, ◌<◌, ◌≤◌, ◌-◌, ◌^◌, ℕ, zero, suc, List, [], ◌∷◌, ◌++◌, length, take, Bool, true, false, Option, Some, slice_get, refl, sym, ap, ◌∙◌, subst, arith}
use Rattle.std.specs.Bool.{OnTrue}
use Rattle.std.proofs.lemmas.List.{length-map, length-take}
use Rattle.mg_edge.specs.Edge.{SinkTold}
use Rattle.mg_time.specs.Time.{done}
use Rattle.mg_value.specs.Payload.{Plain}
use Rattle.mg_value.specs.Packet.{Stamped}
use Rattle.mg_value.specs.declared.policy.Policy.TheVariants.{Default}
use Rattle.mg_settled.specs.Prefix.{StreamPrefix, IsPrefix}
use Rattle.mg_settled.specs.Settled.{TimedSet, settled_sets, inputs_of, port_of}
use Rattle.mg_settled.proofs.Lemmas.{all_inputs, sets-places}
use Rattle.std.proofs.lemmas.List.Elements.{All-from_recursion}
use Rattle.mg_calc.specs.Rules.{Laws}
use Rattle.mg_calc.specs.declared.plan.Plan.{Plan}
use Rattle.mg_calc.proofs.Solutions.{solution_keeps}
use Rattle.mg_calc.proofs.Jobs.{job_known}
use Rattle.mg_node.specs.Job.{LoggedJob, Solves}
use Rattle.mg_node.specs.Intakes.{HasSet}
use Rattle.mg_node.proofs.Claiming.{few_sets}
use Rattle.mg_sched.specs.Views.{NetView}
use Rattle.mg_sched.specs.StandsFor.{StandsFor, StandsForSome}
use Rattle.mg_sched.specs.Taking.{taken_out, settled_outputs, TakesOut}
use Rattle.mg_sched.proofs.Solved.{solved}
use Rattle.mg_sched.proofs.PlanEdges.{all_at}
use Rattle.mg_sched.proofs.OutputsTaken.{one_more_taken, few_taken, outputs_by_default}
use Rattle.mg_drive.specs.Told.{IsFewTold}
use Rattle.mg_drive.specs.Code.Running.{TellingSets, IsTold, IsToldSome, IsSomeTold}
use Rattle.mg_drive.proofs.Jobs.{valid_plan, plan_stood}

-- Counts --

-- the sets of a solution are few
few_settled : {laws : Laws} (job : LoggedJob laws) (streams : List (StreamPrefix Plain)) → Solves job streams → length (settled_outputs job.job.plan streams) ≤ done
few_settled {laws} job streams solves =
    let all = All-from_recursion IsPrefix streams (solution_keeps job.job (job_known job.job solves.is_job) streams solves.solution) in
    subst (λ (l : List (TimedSet Plain)). length l ≤ done) (sym (outputs_by_default job streams solves)) (few_sets Default (inputs_of streams job.job.plan.outputs) (all_inputs streams job.job.plan.outputs all))

-- so few sets are taken
pub few_are_taken : {laws : Laws} (job : LoggedJob laws) (net : NetView) → StandsFor job net → taken_out net ≤ done
few_are_taken {laws} job net stands =
    let found = solved job (valid_plan job net stands) in
    let few = few_taken job found.0 net stands found.1 in
    let most = few_settled job found.0 found.1 in
    let same : length (settled_outputs net.plan found.0) ≡ length (settled_outputs job.job.plan found.0) = ap (λ (p : Plan). length (settled_outputs p found.0)) (plan_stood job net stands) in
    omega (arith, few, most, same)

-- each set that is taken leaves fewer to take
pub fewer_to_take : {laws : Laws} (set_old set_now : List (Option (Stamped Plain))) (before now : NetView) → StandsForSome laws now → TakesOut true set_old set_now before now
    → 2 ^ 65 - taken_out now < 2 ^ 65 - taken_out before
fewer_to_take {laws} set_old set_now before now some takes =
    let few = few_are_taken some.job now some.stands in
    let more = one_more_taken set_old set_now before now takes in
    let small : done < 2 ^ 65 = omega arith in
    omega (arith, few, more, small)

-- Lists --

-- one more of a list
pub take_more : {X : Type 0} (xs : List X) (n : ℕ) (x : X) → slice_get xs n ≡ Some x → take (suc n) xs ≡ take n xs ++ x ∷ []
take_more [] n x is = cc
take_more {X} (y ∷ xs) zero x is = (let one : y ≡ x = cc in ap (λ (z : X). z ∷ []) one)
take_more {X} (y ∷ xs) (suc n) x is = ap (λ (l : List X). y ∷ l) (take_more xs n x is)

-- a set that was taken is that of its number in the solution
pub set_there : {laws : Laws} (job : LoggedJob laws) (streams : List (StreamPrefix Plain)) (before : NetView) (set : List (Option (Stamped Plain))) → StandsFor job before
    → HasSet job streams (length before.plan.nodes) (taken_out before) set → (at : ℕ) × (slice_get (settled_outputs job.job.plan streams) (taken_out before) ≡ Some (record { at = at; set = set }))
set_there {laws} job streams before set stands has =
    let h : HasSet job streams (length job.job.plan.nodes) (taken_out before) set = subst (λ (p : Plan). HasSet job streams (length p.nodes) (taken_out before) set) (plan_stood job before stands) has in
    (h.at, h.is)

-- Takings --

-- what was taken, if something was
pub taken_true : (taken : Bool) (set_old set_now : List (Option (Stamped Plain))) (before now : NetView) → taken ≡ true → TakesOut taken set_old set_now before now → TakesOut true set_old set_now before now
taken_true taken set_old set_now before now is takes = subst (λ (b : Bool). TakesOut b set_old set_now before now) is takes

-- what was taken, if nothing was
pub taken_false : (taken : Bool) (set_old set_now : List (Option (Stamped Plain))) (before now : NetView) → taken ≡ false → TakesOut taken set_old set_now before now → TakesOut false set_old set_now before now
taken_false taken set_old set_now before now is takes = subst (λ (b : Bool). TakesOut b set_old set_now before now) is takes

-- the set that was taken is the solution's
shown_true : (taken : Bool) (P : Type 0) → taken ≡ true → OnTrue taken P → P
shown_true true P is p = p
shown_true false P is p = absurd (let no : false ≡ true = is in cc)

pub set_shown : {laws : Laws} (taken : Bool) (job : LoggedJob laws) (streams : List (StreamPrefix Plain)) (net : NetView) (set : List (Option (Stamped Plain))) → taken ≡ true
    → OnTrue taken (HasSet job streams (length net.plan.nodes) (taken_out net) set) → HasSet job streams (length net.plan.nodes) (taken_out net) set
set_shown {laws} taken job streams net set is has = shown_true taken (HasSet job streams (length net.plan.nodes) (taken_out net) set) is has

-- a set has a place for each output
pub set_places : {laws : Laws} (job : LoggedJob laws) (before : NetView) (set : List (Option (Stamped Plain))) → StandsFor job before
    → ((streams : List (StreamPrefix Plain)) → Solves job streams → HasSet job streams (length before.plan.nodes) (taken_out before) set) → length set ≡ length before.plan.outputs
set_places {laws} job before set stands shows =
    let found = solved job (valid_plan job before stands) in
    let at = set_there job found.0 before set stands (shows found.0 found.1) in
    let there : slice_get (settled_sets Default (inputs_of found.0 job.job.plan.outputs)) (taken_out before) ≡ Some (record { at = at.0; set = set }) =
    subst (λ (l : List (TimedSet Plain)). slice_get l (taken_out before) ≡ Some (record { at = at.0; set = set })) (outputs_by_default job found.0 found.1) at.1 in
    all_at (λ (e : TimedSet Plain). length e.set ≡ length (inputs_of found.0 job.job.plan.outputs)) (settled_sets Default (inputs_of found.0 job.job.plan.outputs)) (taken_out before) (record { at = at.0; set = set }) there
    (sets-places Default (inputs_of found.0 job.job.plan.outputs))
    ∙ length-map job.job.plan.outputs (port_of found.0) ∙ ap (λ (p : Plan). length p.outputs) (sym (plan_stood job before stands))

-- What is told --

-- one more set was told
pub told_more : {laws : Laws} {T : Type 0} (has_told : TellingSets T) (job : LoggedJob laws) (first was sink : SinkTold) (before now : NetView) (old new : T) (set_old set : List (Option (Stamped Plain))) → StandsFor job before
    → IsTold has_told job.job first was (taken_out before) old → TakesOut true set_old set before now
    → ((streams : List (StreamPrefix Plain)) → Solves job streams → HasSet job streams (length before.plan.nodes) (taken_out before) set)
    → ((plan : Plan) (f : SinkTold) (sets : List (TimedSet Plain)) (timed : TimedSet Plain) → timed.set ≡ set → has_told old plan f was sets → has_told new plan f sink (sets ++ timed ∷ []))
    → IsTold has_told job.job first sink (taken_out now) new
told_more {laws} {T} has_told job first was sink before now old new set_old set stands told takes shows tells = record {
  told = λ streams solution.
      let all = settled_outputs job.job.plan streams in
      let at = set_there job streams before set stands (shows streams (record { is_job = valid_plan job before stands; solution = solution })) in
      let one : TimedSet Plain = record { at = at.0; set = set } in
      let longer : taken_out now ≡ suc (taken_out before) = (let more = one_more_taken set_old set before now takes in omega (arith, more)) in
      subst (λ (l : List (TimedSet Plain)). has_told new job.job.plan first sink l) (sym (ap (λ (n : ℕ). take n all) longer ∙ take_more all (taken_out before) one at.1))
      (tells job.job.plan first (take (taken_out before) all) one refl (told.told streams solution));
}

-- one more set can be counted
pub told_few : {laws : Laws} {T : Type 0} (has_told : TellingSets T) (job : LoggedJob laws) (first was : SinkTold) (before now : NetView) (telling : T) (set_old set : List (Option (Stamped Plain))) → StandsFor job before → StandsFor job now
    → IsTold has_told job.job first was (taken_out before) telling → TakesOut true set_old set before now → IsFewTold has_told was telling
told_few {laws} {T} has_told job first was before now telling set_old set stands stands_now told takes =
    let found = solved job (valid_plan job before stands) in
    let all = settled_outputs job.job.plan found.0 in
    let short = length-take (taken_out before) all in
    let few = few_are_taken job now stands_now in
    let more = one_more_taken set_old set before now takes in
    record {
      plan = job.job.plan;
      first = first;
      sets = take (taken_out before) all;
      has = told.told found.0 found.1.solution;
      few = omega (arith, short, few, more);
    }

-- if as many sets are taken, as many were told
pub told_same : {laws : Laws} {T : Type 0} (has_told : TellingSets T) (job : LoggedJob laws) (first sink : SinkTold) (n m : ℕ) (telling : T) → m ≡ n → IsTold has_told job.job first sink n telling → IsTold has_told job.job first sink m telling
told_same {laws} {T} has_told job first sink n m telling same told = subst (λ (k : ℕ). IsTold has_told job.job first sink k telling) (sym same) told

-- a number of sets was told
pub told_some : {laws : Laws} {T : Type 0} (has_told : TellingSets T) (job : LoggedJob laws) (first sink : SinkTold) (taken : ℕ) (telling : T) → IsTold has_told job.job first sink taken telling → IsToldSome has_told job.job first sink
told_some {laws} {T} has_told job first sink taken telling told = record { telling = telling; taken = taken; is_told = told }

-- a number of sets was told, if nothing was written since
pub told_some_then : {laws : Laws} {T : Type 0} (has_told : TellingSets T) (job : LoggedJob laws) (first sink now : SinkTold) (taken : ℕ) (telling : T) → now ≡ sink → IsTold has_told job.job first sink taken telling → IsToldSome has_told job.job first now
told_some_then {laws} {T} has_told job first sink now taken telling same told =
    subst (λ (s : SinkTold). IsToldSome has_told job.job first s) (sym same) (told_some has_told job first sink taken telling told)

-- if sets of a net are told, the net stands for a job
pub told_stands : {laws : Laws} {T : Type 0} (has_told : TellingSets T) (sink : SinkTold) (net : NetView) (telling : T) → IsSomeTold laws has_told sink net telling → StandsForSome laws net
told_stands {laws} {T} has_told sink net telling some = record { job = some.job; stands = some.stands }
