-- The job of a net that is driven, and the same with more input.
use Rattle.std.proofs.Common.{◌≡◌, ◌≤◌, ℕ, zero, suc, List, [], ◌∷◌, length, take, refl, sym, ap, ◌∙◌, subst, arith}
use Rattle.mg_edge.specs.Edge.{SinkTold}
use Rattle.mg_value.specs.Payload.{Plain}
use Rattle.mg_value.specs.declared.policy.Policy.TheVariants.{Default}
use Rattle.mg_settled.specs.Prefix.{StreamPrefix}
use Rattle.mg_settled.specs.Settled.{TimedSet, settled_sets, inputs_of}
use Rattle.mg_settled.proofs.Lemmas.{inputs-extended, sets-stay}
use Rattle.mg_calc.specs.Rules.{Laws}
use Rattle.mg_calc.specs.Told.{BoxTold}
use Rattle.mg_calc.specs.declared.inputs.Inputs.{Inputs}
use Rattle.mg_calc.specs.declared.plan.Plan.{Plan}
use Rattle.mg_calc.specs.Plan.{IsValid}
use Rattle.mg_calc.specs.Equations.{Job, IsJob, IsSolution}
use Rattle.mg_calc.proofs.Jobs.{solution_grows}
use Rattle.mg_node.specs.Job.{LoggedJob, Solves}
use Rattle.mg_node.specs.Batches.{Grows}
use Rattle.mg_sched.specs.Views.{NetView}
use Rattle.mg_sched.specs.StandsFor.{StandsFor}
use Rattle.mg_sched.specs.Taking.{taken_out, settled_outputs}
use Rattle.mg_sched.proofs.Solved.{solved}
use Rattle.mg_sched.proofs.OutputsTaken.{few_taken, outputs_by_default}
use Rattle.mg_sched.specs.Extends.{GoesOnWith}
use Rattle.mg_drive.specs.Batches.{logged, InputsGoOn}
use Rattle.mg_drive.specs.Code.Running.{TellingSets, IsTold}

-- What stands --

pub valid_plan : {laws : Laws} (job : LoggedJob laws) (net : NetView) → StandsFor job net → IsJob job.job
unfolding StandsFor
valid_plan {laws} job net stands = stands.is_job

pub plan_stood : {laws : Laws} (job : LoggedJob laws) (net : NetView) → StandsFor job net → net.plan ≡ job.job.plan
unfolding StandsFor
plan_stood {laws} job net stands = stands.plan

-- Sets --

-- the first elements of a prefix of a list are the first elements of the list
front_of : {X : Type 0} (n : ℕ) (short long : List X) → n ≤ length short → take (length short) long ≡ short → take n short ≡ take n long
front_of zero short long few is = refl
front_of (suc n) [] long few is = absurd (omega arith)
front_of (suc n) (x ∷ short) [] few is = absurd (omega (arith, ap length is))
front_of (suc n) (x ∷ short) (y ∷ long) few is =
    let heads : y ≡ x = cc in
    let tails : take (length short) long ≡ short = cc in
    ap (λ z. z ∷ take n short) (sym heads) ∙ ap (λ l. y ∷ l) (front_of n short long (omega arith) tails)

-- the sets that a job's solution settles are a prefix of those of a later job's solution
sets_grow : {laws : Laws} (first later : LoggedJob laws) (xs ys : List (StreamPrefix Plain)) → Solves first xs → Grows first later → IsSolution later.job ys
    → take (length (settled_outputs first.job.plan xs)) (settled_outputs first.job.plan ys) ≡ settled_outputs first.job.plan xs
sets_grow {laws} first later xs ys solves grows b =
    let plan = first.job.plan in
    let next : Job = record { plan = plan; inputs = later.job.inputs; laws = first.job.laws } in
    let same : later.job ≡ next = ap (λ (p : Plan). record { plan = p; inputs = later.job.inputs; laws = later.job.laws }) grows.plan ∙ ap (λ (l : Laws). record { plan = plan; inputs = later.job.inputs; laws = l }) (later.same ∙ sym first.same) in
    let is_next : IsJob next = subst IsJob same grows.is_job in
    let solution : IsSolution next ys = subst (λ (j : Job). IsSolution j ys) same b in
    let extended = solution_grows plan first.job.inputs later.job.inputs xs ys solves.is_job is_next grows.sides grows.extended solves.solution solution in
    let one = outputs_by_default first xs solves in
    let two = outputs_by_default (record { job = next; boxes = []; same = first.same }) ys (record { is_job = is_next; solution = solution }) in
    let stay = sets-stay Default (inputs_of xs plan.outputs) (inputs_of ys plan.outputs) (inputs-extended xs ys plan.outputs extended) in
    subst (λ (l : List (TimedSet Plain)). take (length l) (settled_outputs plan ys) ≡ l) (sym one)
    (subst (λ (l : List (TimedSet Plain)). take (length (settled_sets Default (inputs_of xs plan.outputs))) l ≡ settled_sets Default (inputs_of xs plan.outputs)) (sym two) stay)

-- what was told of a job's sets was told of a later job's
pub told_of_later : {laws : Laws} {T : Type 0} (has_told : TellingSets T) (first later : LoggedJob laws) (began sink : SinkTold) (net now : NetView) (telling : T) → StandsFor first net → Grows first later → taken_out now ≡ taken_out net
    → IsTold has_told first.job began sink (taken_out net) telling → IsTold has_told later.job began sink (taken_out now) telling
told_of_later {laws} {T} has_told first later began sink net now telling stands grows same told =
    let is = valid_plan first net stands in
    let found = solved first is in
    let plan = first.job.plan in
    let few = subst (λ (p : Plan). taken_out net ≤ length (settled_outputs p found.0)) (plan_stood first net stands) (few_taken first found.0 net stands found.1) in
    record {
      told = λ streams solution.
          let fronts = front_of (taken_out net) (settled_outputs plan found.0) (settled_outputs plan streams) few (sets_grow first later found.0 streams found.1 grows solution) in
          subst (λ (p : Plan). has_told telling p began sink (take (taken_out now) (settled_outputs p streams))) (sym grows.plan)
          (subst (λ (n : ℕ). has_told telling plan began sink (take n (settled_outputs plan streams))) (sym same)
          (subst (λ (sets : List (TimedSet Plain)). has_told telling plan began sink sets) fronts (told.told found.0 found.1.solution)));
    }

-- More input --

-- a job goes on if its inputs do
pub job_goes_on : {laws : Laws} (plan : Plan) (so_far more all : Inputs) (boxes : List BoxTold) → IsValid plan → InputsGoOn plan so_far more all → GoesOnWith more (logged laws plan so_far boxes) (logged laws plan all boxes)
job_goes_on {laws} plan so_far more all boxes valid g = record {
  grows = record { plan = refl; sides = g.sides; boxes = refl; is_job = record { plan = valid; inputs = g.fits }; extended = g.extended };
  pieces = g.pieces;
  streams = g.streams;
}
