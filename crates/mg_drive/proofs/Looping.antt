-- A net that is driven over batches, step by step.
use Rattle.std.proofs.Common.{◌≡◌, ◌<◌, ◌+◌, inl, inr, ℕ, List, length, refl, sym, ap, ◌∙◌, subst, arith}
use Rattle.mg_edge.specs.Edge.{SourceTold, SinkTold}
use Rattle.mg_value.specs.Payload.{Plain}
use Rattle.mg_settled.specs.Prefix.{StreamPrefix}
use Rattle.mg_settled.specs.Settled.{TimedSet}
use Rattle.mg_calc.specs.Rules.{Laws}
use Rattle.mg_calc.specs.declared.inputs.Inputs.{Inputs}
use Rattle.mg_calc.specs.declared.plan.Plan.{Plan}
use Rattle.mg_feed.specs.declared.feed_end.FeedEnd.{FeedEnd}
use Rattle.mg_feed.specs.declared.feed_end.BatchEnd.{BatchEnd}
use Rattle.mg_feed.specs.declared.feed_end.BatchEnd.TheVariants.{More, End}
use Rattle.mg_answer.specs.Answer.{OutputForm}
use Rattle.mg_node.specs.Job.{LoggedJob, Solves}
use Rattle.mg_sched.specs.Views.{NetView}
use Rattle.mg_sched.specs.StandsFor.{StandsFor, IsRunning}
use Rattle.mg_sched.specs.AtRest.{IsAtRest}
use Rattle.mg_sched.specs.Sweeps.{Becomes}
use Rattle.mg_sched.specs.Begins.{BeginsNet}
use Rattle.mg_sched.specs.Trims.{Trims}
use Rattle.mg_sched.specs.GivesBack.{StoodFor}
use Rattle.mg_sched.specs.Taking.{taken_out, settled_outputs, HasAllOutputs, LeavesNodes}
use Rattle.mg_sched.proofs.Becoming.{becomes_plan, becomes_spare}
use Rattle.mg_sched.proofs.OutputsTaken.{all_come_at_rest}
use Rattle.mg_sched.specs.Extends.{GoesOnWith, ComesAt, MayGoOnAt, Extends}
use Rattle.mg_drive.specs.Nets.{Keeps, Wanted, AreRead}
use Rattle.mg_drive.specs.Batches.{Due, IsMore, IsAsGiven, SomeGiven, GoesOnward}
use Rattle.mg_drive.specs.declared.batches.Onward.{Onward}
use Rattle.mg_drive.specs.declared.batches.Onward.TheVariants.{Round, Next, End as Over}
use Rattle.mg_drive.specs.declared.driving.Step.{Step}
use Rattle.mg_drive.specs.declared.driving.Step.TheVariants.{On as GoesOn, Over as IsOver}
use Rattle.mg_drive.specs.Code.Running.{Giving, ReadingOn, TellingSets, Start, job_with, IsTold, IsToldSome, IsSomeTold, IsUnderWay, IsSomeMore, WentOn, HasRested, IsAllTaken, RunIsOver, HasStepped, steps_left, LeavesFewer, IsShort}
use Rattle.mg_drive.proofs.TakingSets.{told_same, told_some}
use Rattle.mg_drive.proofs.Jobs.{valid_plan, job_goes_on, told_of_later}

-- Measure --

pub fewer_rounds : (last : BatchEnd) (old new : ℕ) → last ≡ More → new < old → steps_left last new < steps_left last old
fewer_rounds More old new is less = omega (arith, less)
fewer_rounds (End end) old new is less = absurd cc

pub fewer_batches : (last next : BatchEnd) (old new : ℕ) → last ≡ More → (IsMore next → new < old) → steps_left next new < steps_left last old
fewer_batches last More old new is falls = subst (λ (e : BatchEnd). new + 1 < steps_left e old) (sym is) (let less = falls tt in omega (arith, less))
fewer_batches last (End end) old new is falls = subst (λ (e : BatchEnd). 0 < steps_left e old) (sym is) (omega arith)

-- What is kept --

pub keeps_itself : (net : NetView) → Keeps net net
keeps_itself net = record { plan = refl; spare = refl }

pub keeps_on : (a b c : NetView) → Keeps a b → Keeps b c → Keeps a c
keeps_on a b c one two = record { plan = two.plan ∙ one.plan; spare = two.spare ∙ one.spare }

pub begins_keep : {laws : Laws} (before now : NetView) → BeginsNet laws before now → Keeps before now
begins_keep {laws} before now b = record { plan = ap (λ (v : NetView). v.plan) b.parts; spare = ap (λ (v : NetView). v.spare) b.parts }

pub begins_taken : {laws : Laws} (before now : NetView) → BeginsNet laws before now → taken_out now ≡ taken_out before
begins_taken {laws} before now b = ap taken_out b.parts

pub becomes_keeps : {laws : Laws} (before now : NetView) → Becomes laws before now → Keeps before now
becomes_keeps {laws} before now b = record { plan = becomes_plan before now b; spare = becomes_spare before now b }

pub takings_keep : (before now : NetView) → LeavesNodes before now → Keeps before now
takings_keep before now l = record { plan = ap (λ (v : NetView). v.plan) l; spare = ap (λ (v : NetView). v.spare) l }

pub takings_run : (before now : NetView) → LeavesNodes before now → IsRunning before → IsRunning now
takings_run before now l running = subst IsRunning (sym l) running

pub trims_keep : (before now : NetView) → Trims before now → Keeps before now
trims_keep before now t = record { plan = ap (λ (v : NetView). v.plan) t.parts; spare = ap (λ (v : NetView). v.spare) t.parts }

pub trims_run : (before now : NetView) → Trims before now → IsRunning before → IsRunning now
trims_run before now t running = subst IsRunning (sym t.parts) running

pub trims_taken : (before now : NetView) → Trims before now → taken_out now ≡ taken_out before
trims_taken before now t = ap taken_out t.parts

pub extends_keep : (inputs : Inputs) (before now : NetView) → Extends inputs before now → Keeps before now
extends_keep inputs before now e = record { plan = ap (λ (v : NetView). v.plan) e.parts; spare = ap (λ (v : NetView). v.spare) e.parts }

pub extends_run : (inputs : Inputs) (before now : NetView) → Extends inputs before now → IsRunning before → IsRunning now
extends_run inputs before now e running = subst IsRunning (sym e.parts) running

pub extends_taken : (inputs : Inputs) (before now : NetView) → Extends inputs before now → taken_out now ≡ taken_out before
extends_taken inputs before now e = ap taken_out e.parts

pub same_keeps : (before now : NetView) → now ≡ before → Keeps before now
same_keeps before now same = subst (λ (v : NetView). Keeps before v) (sym same) (keeps_itself before)

pub same_runs : (before now : NetView) → now ≡ before → IsRunning before → IsRunning now
same_runs before now same running = subst IsRunning (sym same) running

-- Sets --

-- a net came to rest, and then its sets were taken until none was left
pub rested_at : {laws : Laws} (job : LoggedJob laws) (before rested now : NetView) → ((j : LoggedJob laws) → StandsFor j before → StandsFor j rested) → StandsFor job before → IsRunning rested → IsAtRest laws rested
    → LeavesNodes rested now → ((j : LoggedJob laws) (streams : List (StreamPrefix Plain)) → StandsFor j rested → Solves j streams → HasAllOutputs streams rested
    → taken_out now ≡ length (settled_outputs now.plan streams)) → HasRested job now × IsAllTaken job now
rested_at {laws} job before rested now keeps stands running rests since all = (
  record { rested = rested; stands = keeps job stands; running = running; rests = rests; since = since },
  λ streams solves. all job streams (keeps job stands) solves (all_come_at_rest job streams rested (keeps job stands) running rests solves),
)

-- Runs --

pub stands_still : {laws : Laws} (job : LoggedJob laws) (net : NetView) → StandsFor job net → StoodFor job net
stands_still {laws} job net stands = record { before = net; stands = stands; since = inl refl }

-- what a run has told
pub run_told : {laws : Laws} {B T : Type 0} (gives : Giving B) (has_told : TellingSets T) (start : Start B) (end : BatchEnd) (source : SourceTold) (sink : SinkTold) (batches : B) (telling : T) (net : NetView)
    → IsUnderWay laws gives has_told start end source sink batches telling net → IsSomeTold laws has_told sink net telling
run_told {laws} {B} {T} gives has_told start end source sink batches telling net u = record { job = job_with laws start u.inputs; first = start.sink; stands = u.stands; is_told = u.is_told }

-- a run is still under way if its net still stands for each job, and as many sets are taken
pub still_under_way : {laws : Laws} {B T : Type 0} (gives : Giving B) (has_told : TellingSets T) (start : Start B) (end : BatchEnd) (source : SourceTold) (sink : SinkTold) (batches : B) (telling : T) (net now : NetView)
    → ((job : LoggedJob laws) → StandsFor job net → StandsFor job now) → taken_out now ≡ taken_out net
    → IsUnderWay laws gives has_told start end source sink batches telling net → IsUnderWay laws gives has_told start end source sink batches telling now
still_under_way {laws} {B} {T} gives has_told start end source sink batches telling net now keeps same u = record {
  inputs = u.inputs;
  given = u.given;
  stands = keeps (job_with laws start u.inputs) u.stands;
  is_told = told_same has_told (job_with laws start u.inputs) start.sink sink (taken_out net) (taken_out now) telling same u.is_told;
}

-- a run whose net has come to rest, with all that was given
abbrev pub as_given : {laws : Laws} {B T : Type 0} (gives : Giving B) (has_told : TellingSets T) (start : Start B) (last : BatchEnd) (source : SourceTold) (sink : SinkTold) (batches : B) (telling : T) (net now : NetView)
    → ((job : LoggedJob laws) → StandsFor job net → StandsFor job now) → ((job : LoggedJob laws) → StandsFor job net → HasRested job now × IsAllTaken job now) → (u : IsUnderWay laws gives has_told start last source sink batches telling net)
    → IsAsGiven laws gives start.batches start.plan start.source source last u.inputs now batches
as_given {laws} {B} {T} gives has_told start last source sink batches telling net now keeps rests u = record {
  valid = (valid_plan (job_with laws start u.inputs) net u.stands).plan;
  given = u.given;
  boxes = start.boxes;
  stands = keeps (job_with laws start u.inputs) u.stands;
  has_rested = (rests (job_with laws start u.inputs) u.stands).0;
}

pub some_given : {laws : Laws} {B T : Type 0} (gives : Giving B) (has_told : TellingSets T) (start : Start B) (last : BatchEnd) (source : SourceTold) (sink : SinkTold) (batches : B) (telling : T) (net now : NetView)
    → ((job : LoggedJob laws) → StandsFor job net → StandsFor job now) → ((job : LoggedJob laws) → StandsFor job net → HasRested job now × IsAllTaken job now) → IsUnderWay laws gives has_told start last source sink batches telling net
    → SomeGiven laws gives last now batches
some_given {laws} {B} {T} gives has_told start last source sink batches telling net now keeps rests u = record {
  began = start.batches;
  plan = start.plan;
  first = start.source;
  source = source;
  so_far = u.inputs;
  as_given = as_given gives has_told start last source sink batches telling net now keeps rests u;
}

-- how a run goes on
abbrev pub Onwards : (laws : Laws) {B : Type 0} → Giving B → Due B → (B → List Wanted) → BatchEnd → SourceTold → B → B → NetView → Onward → Type 0
Onwards laws {B} gives is_due wants last source batches batches_now now onward =
    (began : B) (plan : Plan) (first source_is : SourceTold) (so_far : Inputs) → IsAsGiven laws gives began plan first source_is last so_far now batches → GoesOnward gives is_due wants began plan first source_is last so_far now batches_now onward

-- a run may go on with further input that comes before the next batch
pub round_may : {laws : Laws} {B T : Type 0} (gives : Giving B) (is_due : Due B) (wants : B → List Wanted) (has_told : TellingSets T) (start : Start B) (last : BatchEnd) (source : SourceTold) (sink : SinkTold) (batches batches_now : B) (telling : T) (net now : NetView) (onward : Onward) (inputs : List ℕ) (pieces : List (StreamPrefix Plain)) → onward ≡ Round inputs pieces
    → ((job : LoggedJob laws) → StandsFor job net → StandsFor job now) → ((job : LoggedJob laws) → StandsFor job net → HasRested job now × IsAllTaken job now)
    → Onwards laws gives is_due wants last source batches batches_now now onward → IsUnderWay laws gives has_told start last source sink batches telling net → MayGoOnAt laws inputs pieces now
round_may {laws} {B} {T} gives is_due wants has_told start last source sink batches batches_now telling net now onward inputs pieces is keeps rests on u =
    let given = as_given gives has_told start last source sink batches telling net now keeps rests u in
    let g = subst (λ (o : Onward). GoesOnward gives is_due wants start.batches start.plan start.source source last u.inputs now batches_now o) is (on start.batches start.plan start.source source u.inputs given) in
    record {
      more = g.1.more;
      first = job_with laws start u.inputs;
      later = job_with laws start g.1.goes.all;
      stands = given.stands;
      goes_on = job_goes_on start.plan u.inputs g.1.more g.1.goes.all start.boxes given.valid g.1.goes.goes_on;
      comes = g.1.comes;
    }

pub round_is_more : {laws : Laws} {B T : Type 0} (gives : Giving B) (is_due : Due B) (wants : B → List Wanted) (has_told : TellingSets T) (start : Start B) (last : BatchEnd) (source : SourceTold) (sink : SinkTold) (batches batches_now : B) (telling : T) (net now : NetView) (onward : Onward) (inputs : List ℕ) (pieces : List (StreamPrefix Plain)) → onward ≡ Round inputs pieces
    → ((job : LoggedJob laws) → StandsFor job net → StandsFor job now) → ((job : LoggedJob laws) → StandsFor job net → HasRested job now × IsAllTaken job now)
    → Onwards laws gives is_due wants last source batches batches_now now onward → IsUnderWay laws gives has_told start last source sink batches telling net → last ≡ More
round_is_more {laws} {B} {T} gives is_due wants has_told start last source sink batches batches_now telling net now onward inputs pieces is keeps rests on u =
    (subst (λ (o : Onward). GoesOnward gives is_due wants start.batches start.plan start.source source last u.inputs now batches_now o) is
    (on start.batches start.plan start.source source u.inputs (as_given gives has_told start last source sink batches telling net now keeps rests u))).0

pub round_goes_on : {laws : Laws} {B T : Type 0} (gives : Giving B) (is_due : Due B) (wants : B → List Wanted) (has_told : TellingSets T) (start : Start B) (last : BatchEnd) (source : SourceTold) (sink later : SinkTold) (batches batches_now : B) (telling telling_now : T) (net now after : NetView) (onward : Onward) (inputs : List ℕ) (pieces : List (StreamPrefix Plain)) → onward ≡ Round inputs pieces
    → ((job : LoggedJob laws) → StandsFor job net → StandsFor job now)
    → ((job : LoggedJob laws) (first : SinkTold) → StandsFor job net → IsTold has_told job.job first sink (taken_out net) telling → IsTold has_told job.job first later (taken_out now) telling_now)
    → ((job : LoggedJob laws) → StandsFor job net → HasRested job now × IsAllTaken job now)
    → Onwards laws gives is_due wants last source batches batches_now now onward
    → ((more : Inputs) (first later : LoggedJob laws) → ComesAt inputs pieces first.job.inputs.streams more → GoesOnWith more first later → StandsFor first now → StandsFor later after) → taken_out after ≡ taken_out now
    → IsUnderWay laws gives has_told start last source sink batches telling net → IsUnderWay laws gives has_told start last source later batches_now telling_now after
round_goes_on {laws} {B} {T} gives is_due wants has_told start last source sink later batches batches_now telling telling_now net now after onward inputs pieces is keeps tells rests on extends same u =
    let given = as_given gives has_told start last source sink batches telling net now keeps rests u in
    let g = subst (λ (o : Onward). GoesOnward gives is_due wants start.batches start.plan start.source source last u.inputs now batches_now o) is (on start.batches start.plan start.source source u.inputs given) in
    let goes = job_goes_on start.plan u.inputs g.1.more g.1.goes.all start.boxes given.valid g.1.goes.goes_on in
    record {
      inputs = g.1.goes.all;
      given = subst (λ (e : BatchEnd). gives start.batches batches_now start.plan start.source source e g.1.goes.all) (sym g.0) g.1.goes.given;
      stands = extends g.1.more (job_with laws start u.inputs) (job_with laws start g.1.goes.all) g.1.comes goes given.stands;
      is_told = told_of_later has_told (job_with laws start u.inputs) (job_with laws start g.1.goes.all) start.sink later now after telling_now given.stands goes.grows same (tells (job_with laws start u.inputs) start.sink u.stands u.is_told);
    }

-- the input has ended, and the net has rested
pub over_at : {laws : Laws} {B T : Type 0} (gives : Giving B) (is_due : Due B) (wants : B → List Wanted) (has_told : TellingSets T) (start : Start B) (last : BatchEnd) (end : FeedEnd) (source : SourceTold) (sink later : SinkTold) (batches batches_now : B) (telling telling_now : T) (net now : NetView) (onward : Onward) → onward ≡ Over end
    → ((job : LoggedJob laws) → StandsFor job net → StandsFor job now)
    → ((job : LoggedJob laws) (first : SinkTold) → StandsFor job net → IsTold has_told job.job first sink (taken_out net) telling → IsTold has_told job.job first later (taken_out now) telling_now)
    → ((job : LoggedJob laws) → StandsFor job net → HasRested job now × IsAllTaken job now)
    → Onwards laws gives is_due wants last source batches batches_now now onward
    → IsUnderWay laws gives has_told start last source sink batches telling net → RunIsOver laws gives has_told start end source later batches_now telling_now now
over_at {laws} {B} {T} gives is_due wants has_told start last end source sink later batches batches_now telling telling_now net now onward is keeps tells rests on u =
    let given = as_given gives has_told start last source sink batches telling net now keeps rests u in
    let g = subst (λ (o : Onward). GoesOnward gives is_due wants start.batches start.plan start.source source last u.inputs now batches_now o) is (on start.batches start.plan start.source source u.inputs given) in
    record {
      under_way = record { inputs = u.inputs; given = g; stands = given.stands; is_told = tells (job_with laws start u.inputs) start.sink u.stands u.is_told };
      has_rested = (rests (job_with laws start u.inputs) u.stands).0;
      all = (rests (job_with laws start u.inputs) u.stands).1;
    }

-- a run may go on with the next batch, which is due
abbrev pub IsDueNow : (laws : Laws) {B T : Type 0} → Giving B → Due B → TellingSets T → Start B → SourceTold → SinkTold → B → T → NetView → Type 0
IsDueNow laws gives is_due has_told start source sink batches telling net =
    (u : IsUnderWay laws gives has_told start More source sink batches telling net) × is_due batches start.plan u.inputs

pub next_is_due : {laws : Laws} {B T : Type 0} (gives : Giving B) (is_due : Due B) (wants : B → List Wanted) (has_told : TellingSets T) (start : Start B) (last : BatchEnd) (source : SourceTold) (sink later written : SinkTold) (batches batches_now : B) (telling telling_now telling_then : T) (net now : NetView) (onward : Onward) → onward ≡ Next
    → ((job : LoggedJob laws) → StandsFor job net → StandsFor job now)
    → ((job : LoggedJob laws) (first : SinkTold) → StandsFor job net → IsTold has_told job.job first sink (taken_out net) telling → IsTold has_told job.job first later (taken_out now) telling_now)
    → ((job : LoggedJob laws) → StandsFor job net → HasRested job now × IsAllTaken job now)
    → Onwards laws gives is_due wants last source batches batches_now now onward
    → ((plan : Plan) (first : SinkTold) (sets : List (TimedSet Plain)) → has_told telling_now plan first later sets → has_told telling_then plan first written sets)
    → IsUnderWay laws gives has_told start last source sink batches telling net → IsDueNow laws gives is_due has_told start source written batches_now telling_then now × (last ≡ More) × AreRead (wants batches_now) now
next_is_due {laws} {B} {T} gives is_due wants has_told start last source sink later written batches batches_now telling telling_now telling_then net now onward is keeps tells rests on passes u =
    let given = as_given gives has_told start last source sink batches telling net now keeps rests u in
    let g = subst (λ (o : Onward). GoesOnward gives is_due wants start.batches start.plan start.source source last u.inputs now batches_now o) is (on start.batches start.plan start.source source u.inputs given) in
    let told = tells (job_with laws start u.inputs) start.sink u.stands u.is_told in (
      (
        record { inputs = u.inputs; given = g.given; stands = given.stands; is_told = record { told = λ streams solution. passes start.plan start.sink _ (told.told streams solution) } },
        g.due,
      ),
      g.more,
      g.read,
    )

pub run_more : {laws : Laws} {B T : Type 0} (gives : Giving B) (is_due : Due B) (has_told : TellingSets T) (start : Start B) (source : SourceTold) (sink : SinkTold) (batches : B) (telling : T) (net : NetView)
    → IsDueNow laws gives is_due has_told start source sink batches telling net → IsSomeMore laws gives is_due source batches net
run_more {laws} {B} {T} gives is_due has_told start source sink batches telling net u = record { start = start; inputs = u.0.inputs; given = u.0.given; due = u.1; stands = u.0.stands }

-- the next batch was read, and the run is under way still
pub went_on : {laws : Laws} {B T : Type 0} (gives : Giving B) (is_due : Due B) (has_told : TellingSets T) (start : Start B) (end : BatchEnd) (source later : SourceTold) (sink : SinkTold) (batches batches_now : B) (telling : T) (net now : NetView) → taken_out now ≡ taken_out net
    → ((inputs : Inputs) → gives start.batches batches start.plan start.source source More inputs → is_due batches start.plan inputs → StandsFor (job_with laws start inputs) net → WentOn laws gives start end later batches_now inputs now)
    → IsDueNow laws gives is_due has_told start source sink batches telling net → IsUnderWay laws gives has_told start end later sink batches_now telling now
went_on {laws} {B} {T} gives is_due has_told start end source later sink batches batches_now telling net now same goes d =
    let u = d.0 in
    let on = goes u.inputs u.given d.1 u.stands in
    record {
      inputs = on.all;
      given = on.given;
      stands = on.stands;
      is_told = told_of_later has_told (job_with laws start u.inputs) (job_with laws start on.all) start.sink sink net now telling u.stands on.grows same u.is_told;
    }

-- Memory ran out --

-- memory ran out after some sets were told
pub short_told : {laws : Laws} {B T : Type 0} (gives : Giving B) (reads_on : ReadingOn B) (has_told : TellingSets T) (form : OutputForm) (start : Start B) (end : BatchEnd) (source : SourceTold) (sink sink_now : SinkTold) (batches : B) (telling : T) (net now : NetView)
    → ((job : LoggedJob laws) → StandsFor job net → StandsFor job now)
    → ((job : LoggedJob laws) (first : SinkTold) → StandsFor job net → IsTold has_told job.job first sink (taken_out net) telling → IsToldSome has_told job.job first sink_now)
    → IsUnderWay laws gives has_told start end source sink batches telling net → IsShort laws gives reads_on has_told form start source sink_now now
short_told {laws} {B} {T} gives reads_on has_told form start end source sink sink_now batches telling net now keeps tells u =
    let job = job_with laws start u.inputs in
    record {
      batches = batches;
      end = end;
      at = source;
      inputs = u.inputs;
      given = u.given;
      last = inl refl;
      stood = stands_still job now (keeps job u.stands);
      front = inl (tells job start.sink u.stands u.is_told);
      unended = λ _. tells job start.sink u.stands u.is_told;
    }

-- memory ran out, and no set was told since
pub short_here : {laws : Laws} {B T : Type 0} (gives : Giving B) (reads_on : ReadingOn B) (has_told : TellingSets T) (form : OutputForm) (start : Start B) (end : BatchEnd) (source : SourceTold) (sink : SinkTold) (batches : B) (telling : T) (net now : NetView)
    → ((job : LoggedJob laws) → StandsFor job net → StandsFor job now) → IsUnderWay laws gives has_told start end source sink batches telling net → IsShort laws gives reads_on has_told form start source sink now
short_here {laws} {B} {T} gives reads_on has_told form start end source sink batches telling net now keeps u =
    short_told gives reads_on has_told form start end source sink sink batches telling net now keeps (λ job first h t. told_some has_told job first sink (taken_out net) telling t) u

-- memory ran out while more was read
pub short_more : {laws : Laws} {B T : Type 0} (gives : Giving B) (reads_on : ReadingOn B) (has_told : TellingSets T) (form : OutputForm) (start : Start B) (source later : SourceTold) (sink : SinkTold) (batches : B) (telling : T) (net now : NetView)
    → ((job : LoggedJob laws) → StandsFor job net → StandsFor job now) → reads_on batches start.plan start.source source later → IsUnderWay laws gives has_told start More source sink batches telling net
    → IsShort laws gives reads_on has_told form start later sink now
short_more {laws} {B} {T} gives reads_on has_told form start source later sink batches telling net now keeps read u =
    let job = job_with laws start u.inputs in
    record {
      batches = batches;
      end = More;
      at = source;
      inputs = u.inputs;
      given = u.given;
      last = inr (tt, read);
      stood = stands_still job now (keeps job u.stands);
      front = inl (told_some has_told job start.sink sink (taken_out net) telling u.is_told);
      unended = λ _. told_some has_told job start.sink sink (taken_out net) telling u.is_told;
    }

-- After a step --

pub stepped_on : {laws : Laws} {B T : Type 0} (gives : Giving B) (has_told : TellingSets T) (start : Start B) (step : Step) (end : BatchEnd) (source : SourceTold) (sink : SinkTold) (batches : B) (telling : T) (net : NetView) → step ≡ GoesOn end
    → HasStepped laws gives has_told start step source sink batches telling net → IsUnderWay laws gives has_told start end source sink batches telling net
stepped_on {laws} {B} {T} gives has_told start step end source sink batches telling net is h = subst (λ (s : Step). HasStepped laws gives has_told start s source sink batches telling net) is h

pub stepped_over : {laws : Laws} {B T : Type 0} (gives : Giving B) (has_told : TellingSets T) (start : Start B) (step : Step) (end : FeedEnd) (source : SourceTold) (sink : SinkTold) (batches : B) (telling : T) (net : NetView) → step ≡ IsOver end
    → HasStepped laws gives has_told start step source sink batches telling net → RunIsOver laws gives has_told start end source sink batches telling net
stepped_over {laws} {B} {T} gives has_told start step end source sink batches telling net is h = subst (λ (s : Step). HasStepped laws gives has_told start s source sink batches telling net) is h

pub fewer_on : (step : Step) (end last : BatchEnd) (before now : ℕ) → step ≡ GoesOn end → LeavesFewer step last before now → steps_left end now < steps_left last before
fewer_on step end last before now is h = subst (λ (s : Step). LeavesFewer s last before now) is h
