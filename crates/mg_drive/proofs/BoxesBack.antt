-- What a run leaves of the user-supplied calculators.
use Rattle.std.proofs.Common.{◌≡◌, ◌<◌, inl, inr, ℕ, Bool, List, ◌++◌, length, All, Option, Some, None, IfSome, IsSomeAnd, Result, Ok, Err, IfOk, OnErr, slice_get, option_map, option_and_then, refl, sym, ap, ◌∙◌, subst, arith, if◌then◌else◌}
use Rattle.std.proofs.lemmas.Option.{slice_get_cases}
use Rattle.mg_value.specs.Payload.{Plain}
use Rattle.mg_settled.specs.Prefix.{StreamPrefix}
use Rattle.mg_edge.specs.Edge.{SourceTold}
use Rattle.mg_calc.specs.Rules.{Laws}
use Rattle.mg_calc.specs.declared.call.Call.{Call}
use Rattle.mg_calc.specs.declared.inputs.Inputs.{Inputs}
use Rattle.mg_calc.specs.declared.plan.Plan.{Plan}
use Rattle.mg_calc.specs.declared.plan_node.PlanNode.{PlanNode}
use Rattle.mg_calc.specs.Shape.{IsOuter}
use Rattle.mg_calc.specs.Told.{BoxTold}
use Rattle.mg_calc.specs.Outcome.{Outcome}
use Rattle.mg_calc.specs.Equations.{Job, outcome_of, rules_at}
use Rattle.mg_calc.specs.Meaning.{log_of, count_of}
use Rattle.mg_answer.specs.Devices.{Device, device, run_devices}
use Rattle.mg_node.specs.Job.{LoggedJob, first_log}
use Rattle.mg_node.specs.Lawful.{kept_after}
use Rattle.mg_node.specs.Had.{state_by, had_close}
use Rattle.mg_node.proofs.Stages.{outer_stage}
use Rattle.mg_sched.specs.Views.{NetView}
use Rattle.mg_sched.specs.Made.{job_of as made_job, FitsNew, BoxesFit, IsMade}
use Rattle.mg_sched.specs.GivesBack.{given_back}
use Rattle.mg_sched.proofs.PlanEdges.{all_at}
use Rattle.mg_sched.proofs.HadBack.{count_back as as_many_back, unused_is_back, unused_lies}
use Rattle.mg_answer.specs.Answer.{OutputForm}
use Rattle.mg_answer.specs.declared.status.Status.{Status}
use Rattle.mg_answer.specs.declared.run.Reporting.{Reporting}
use Rattle.mg_edge.specs.Edge.{SinkTold}
use Rattle.mg_drive.specs.Leaves.{kept_by, HadCallsOf}
use Rattle.mg_drive.specs.Nets.{Keeps}
use Rattle.mg_drive.specs.Batches.{logged}
use Rattle.mg_drive.specs.Code.Running.{Giving, ReadingOn, TellingSets, Start, start_of, job_with, IsShort}
use Rattle.mg_drive.specs.Code.Ending.{HadAllOf, CalculatorsCameBack, StoodWith, WasMade, Writing, HasEnded, HasRunBatches, WasShort}
use Rattle.mg_drive.proofs.Jobs.{plan_stood}
use Rattle.mg_drive.proofs.Looping.{keeps_itself, keeps_on}

-- A calculator that no node uses --

-- a calculator that no node uses comes back as it lay
lay_there : {laws : Laws} (plan : Plan) (inputs : Inputs) (boxes : List BoxTold) (made now : NetView) (place : ℕ) → IsMade laws plan inputs boxes made → Keeps made now → StoodWith laws boxes now
    → place < length boxes → All (λ node. ¬ (node.box_number ≡ Some place)) plan.nodes → slice_get (given_back now) place ≡ slice_get boxes place
lay_there {laws} plan inputs boxes made now place is keeps stood less none =
    let job = made_job laws plan inputs boxes in
    let there = unused_lies job made place is.stands less
    (subst (λ (p : Plan). All (λ node. ¬ (node.box_number ≡ Some place)) p.nodes) (sym (plan_stood job made is.stands)) none) in
    let lies : slice_get now.spare place ≡ Some (Some there.0) = ap (λ (l : List (Option BoxTold)). slice_get l place) keeps.spare ∙ there.1 in
    unused_is_back stood.job now place there.0 stood.stood lies ∙ sym (is.unused place there.0 there.1)

count_back : {laws : Laws} (boxes : List BoxTold) (now : NetView) → StoodWith laws boxes now → length (given_back now) ≡ length boxes
count_back {laws} boxes now stood = as_many_back stood.job now stood.stood ∙ ap length stood.boxes_are

-- All --

-- the calculators came back from a net that was made, ran and gave back what it had
pub came_back : {laws : Laws} (plan : Plan) (inputs : Inputs) (boxes : List BoxTold) (made now : NetView) → IsMade laws plan inputs boxes made → Keeps made now → StoodWith laws boxes now
    → CalculatorsCameBack plan boxes (given_back now)
came_back {laws} plan inputs boxes made now is keeps stood = record {
  count = count_back boxes now stood;
  unused = λ place none. elim (slice_get_cases boxes place).1 [
    | inl within ↦ lay_there plan inputs boxes made now place is keeps stood within.1 none
    | inr past ↦ elim (slice_get_cases (given_back now) place).1 [
      | inl there ↦ absurd (let count = count_back boxes now stood in let less = there.1 in let far = past.0 in omega (arith, count, less, far))
      | inr none_there ↦ none_there.1 ∙ sym past.1
    ]
  ];
}

-- A calculator that a node uses --

abbrev FitsAt : List BoxTold → PlanNode → Type 0
FitsAt boxes node = IfSome node.box_number (λ number. IsSomeAnd (slice_get boxes number) (FitsNew node))

found_in : (node : PlanNode) (o : Option BoxTold) → IsSomeAnd o (FitsNew node) → (told : BoxTold) × (o ≡ Some told) × FitsNew node told
found_in node None is = absurd is
found_in node (Some told) is = (told, refl, is)

-- the user-supplied calculator that a node uses
pub box_at : (plan : Plan) (boxes : List BoxTold) (number place : ℕ) (node : PlanNode) → BoxesFit plan boxes → slice_get plan.nodes number ≡ Some node → node.box_number ≡ Some place
    → (told : BoxTold) × (slice_get boxes place ≡ Some told) × FitsNew node told
box_at plan boxes number place node fit there has =
    found_in node (slice_get boxes place)
    (subst (λ (o : Option ℕ). IfSome o (λ n. IsSomeAnd (slice_get boxes n) (FitsNew node))) has (all_at (FitsAt boxes) plan.nodes number node there fit))

-- the log that a job begins with is the calculator's log
pub log_was : {laws : Laws} (job : LoggedJob laws) (boxes : List BoxTold) (place : ℕ) (node : PlanNode) (told : BoxTold) → job.boxes ≡ boxes → node.box_number ≡ Some place → slice_get boxes place ≡ Some told
    → first_log job node ≡ told.log
log_was {laws} job boxes place node told same has there =
    ap (λ (o : Option ℕ). option_and_then (λ number. option_and_then (λ box. box.log) (slice_get job.boxes number)) o) has
    ∙ ap (λ (bs : List BoxTold). option_and_then (λ box. box.log) (slice_get bs place)) same
    ∙ ap (λ (o : Option BoxTold). option_and_then (λ box. box.log) o) there

-- what a node's calculator keeps, by its node's outcome after some sets
pub state_kept : (job : Job) (streams : List (StreamPrefix Plain)) (node : PlanNode) (shown : ℕ) (close : Bool) → IsOuter node.law → state_by job streams node shown close ≡ kept_by job streams node shown close
state_kept job streams node shown close outer = ap (λ (o : Outcome). if close then kept_after ((rules_at job node).finish o.state) o.state else o.state) (outer_stage node.law job streams node shown outer)

-- each calculator that a node uses had the calls of its node
all_had : {laws : Laws} (job : LoggedJob laws) (boxes : List BoxTold) (net : NetView) → BoxesFit job.job.plan boxes → job.boxes ≡ boxes → HadAllOf job net → HadCallsOf job.job (device boxes (given_back net))
all_had {laws} job boxes net fit same had = record {
  is_job = had.is_job;
  streams = had.streams;
  solution = had.solution;
  each = λ number place node there has.
      let box = box_at job.job.plan boxes number place node fit there has in
      let outer : IsOuter node.law = subst IsOuter box.2.fits.same_law box.2.outer in
      let back = had.each number place node there has outer in
      record {
        before = box.0;
        now = back.told;
        was = box.1;
        is = back.there;
        holds = record {
          log = back.had.log ∙ ap (option_map (λ (calls : List Call). calls ++ log_of job.job had.streams node)) (log_was job boxes place node box.0 same has box.1);
          state = back.had.state ∙ state_kept job.job had.streams node (count_of job.job had.streams node) (had_close (outcome_of job.job had.streams node).fault) outer;
          law = back.had.fits.same_law ∙ sym box.2.fits.same_law;
          shape = back.had.fits.same_shape ∙ sym box.2.fits.same_shape;
        };
      };
}

-- the same, by the calculators that came back
pub all_had_now : {laws : Laws} (job : LoggedJob laws) (boxes now : List BoxTold) (net : NetView) → BoxesFit job.job.plan boxes → job.boxes ≡ boxes → now ≡ given_back net → HadAllOf job net → HadCallsOf job.job (device boxes now)
all_had_now {laws} job boxes now net fit same is had = subst (λ (bs : List BoxTold). HadCallsOf job.job (device boxes bs)) (sym is) (all_had job boxes net fit same had)

pub came_back_then : {laws : Laws} (plan : Plan) (inputs : Inputs) (boxes handed now : List BoxTold) (made net : NetView) → handed ≡ boxes → IsMade laws plan inputs handed made → Keeps made net → StoodWith laws boxes net
    → now ≡ given_back net → CalculatorsCameBack plan boxes now
came_back_then {laws} plan inputs boxes handed now made net same is keeps stood back =
    subst (λ (bs : List BoxTold). CalculatorsCameBack plan boxes bs) (sym back)
    (came_back plan inputs boxes made net (subst (λ (bs : List BoxTold). IsMade laws plan inputs bs made) same is) keeps stood)

-- the plan of a net that was made
pub made_plan : {laws : Laws} (plan : Plan) (boxes : List BoxTold) (net : NetView) → WasMade laws plan boxes net → net.plan ≡ plan
made_plan {laws} plan boxes net w = w.keeps.plan ∙ plan_stood (made_job laws plan w.inputs boxes) w.made w.is_made.stands

pub just_made : {laws : Laws} (plan : Plan) (inputs : Inputs) (boxes : List BoxTold) (net : NetView) → IsMade laws plan inputs boxes net → WasMade laws plan boxes net
just_made {laws} plan inputs boxes net is = record { inputs = inputs; made = net; is_made = is; keeps = keeps_itself net }

pub made_still : {laws : Laws} (plan : Plan) (boxes : List BoxTold) (net now : NetView) → Keeps net now → WasMade laws plan boxes net → WasMade laws plan boxes now
made_still {laws} plan boxes net now keeps w = record { inputs = w.inputs; made = w.made; is_made = w.is_made; keeps = keeps_on w.made net now w.keeps keeps }

-- what was made comes back
pub made_back : {laws : Laws} (plan : Plan) (boxes now : List BoxTold) (net later : NetView) → WasMade laws plan boxes net → Keeps net later → StoodWith laws boxes later → now ≡ given_back later → CalculatorsCameBack plan boxes now
made_back {laws} plan boxes now net later w keeps stood back = came_back_then plan w.inputs boxes boxes now w.made later refl w.is_made (keeps_on w.made net later w.keeps keeps) stood back

-- what isn't called comes back as it was
pub same_back : (plan : Plan) (boxes now : List BoxTold) → now ≡ boxes → CalculatorsCameBack plan boxes now
same_back plan boxes now same = record { count = ap length same; unused = λ place none. ap (λ (l : List BoxTold). slice_get l place) same }

-- Runs --

-- what holds however a run ended
pub either : {X E P : Type 0} (r : Result X E) → IfOk r (λ x. P) → OnErr r P → P
either (Ok x) one other = one
either (Err e) one other = other

pub if_ok_at : {X E : Type 0} (r : Result X E) (x : X) (P : X → Type 0) → r ≡ Ok x → IfOk r P → P x
if_ok_at {X} {E} r x P is h = subst (λ (s : Result X E). IfOk s P) is h

pub on_err_at : {X E : Type 0} (r : Result X E) (e : E) (P : Type 0) → r ≡ Err e → OnErr r P → P
on_err_at {X} {E} r e P is h = subst (λ (s : Result X E). OnErr s P) is h

pub stood_ended : {laws : Laws} {B : Type 0} (gives : Giving B) (writes : Writing B) (form : OutputForm) (report : Reporting) (start : Start B) (status : Status) (source : SourceTold) (sink : SinkTold) (notes : Device SinkTold) (net : NetView) → HasEnded laws gives writes form report start status source sink notes net
    → StoodWith laws start.boxes net
stood_ended {laws} {B} gives writes form report start status source sink notes net h = record { job = job_with laws start h.inputs; stood = h.stood; boxes_are = refl }

pub stood_short : {laws : Laws} {B T : Type 0} (gives : Giving B) (reads_on : ReadingOn B) (has_told : TellingSets T) (form : OutputForm) (start : Start B) (source : SourceTold) (sink : SinkTold) (net : NetView) → IsShort laws gives reads_on has_told form start source sink net → StoodWith laws start.boxes net
stood_short {laws} {B} {T} gives reads_on has_told form start source sink net h = record { job = job_with laws start h.inputs; stood = h.stood; boxes_are = refl }

-- a net that has ended was run
pub run_ended : {laws : Laws} {B : Type 0} (gives : Giving B) (writes : Writing B) (form : OutputForm) (report : Reporting) (plan : Plan) (boxes now : List BoxTold) (began : B) (source later : SourceTold) (first sink : SinkTold) (notes : Device SinkTold) (status : Status) (net : NetView) → BoxesFit plan boxes
    → now ≡ given_back net → HasEnded laws gives writes form report (start_of plan boxes source first began) status later sink notes net
    → HasRunBatches laws gives writes form report began plan status (run_devices (device source later) (device first sink) notes) (device boxes now)
run_ended {laws} {B} gives writes form report plan boxes now began source later first sink notes status net fit back h = record {
  batches = h.batches;
  end = h.end;
  inputs = h.inputs;
  given = h.given;
  wrote = h.wrote;
  had = all_had_now (logged laws plan h.inputs boxes) boxes now net fit refl back h.had;
}

-- a net that was short of memory was run until memory ran out
pub run_short : {laws : Laws} {B T : Type 0} (gives : Giving B) (reads_on : ReadingOn B) (has_told : TellingSets T) (form : OutputForm) (plan : Plan) (boxes now : List BoxTold) (began : B) (source later : SourceTold) (first sink : SinkTold) (notes : Device SinkTold) (net : NetView)
    → now ≡ given_back net → IsShort laws gives reads_on has_told form (start_of plan boxes source first began) later sink net
    → WasShort laws gives reads_on has_told form began plan (run_devices (device source later) (device first sink) notes) (device boxes now)
run_short {laws} {B} {T} gives reads_on has_told form plan boxes now began source later first sink notes net back h = record {
  batches = h.batches;
  end = h.end;
  at = h.at;
  inputs = h.inputs;
  given = h.given;
  last = h.last;
  net = net;
  stood = h.stood;
  back = back;
  front = h.front;
  unended = h.unended;
}
