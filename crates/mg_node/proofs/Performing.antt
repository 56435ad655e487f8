-- A lawful work may be run, and is lawful once it is done.
use Rattle.std.proofs.Common.{◌≡◌, ℕ, zero, suc, ◌<◌, List, [], ◌∷◌, ◌++◌, length, append-nil, append_assoc, All, Option, Some, None, option_map, slice_get, Result, Ok, Err, ap, sym, refl, subst, ◌∙◌}
use Rattle.std.specs.List.{AllByRecursion}
use Rattle.std.proofs.lemmas.List.Elements.{recursion_from_All}
use Rattle.mg_value.specs.Payload.{Plain}
use Rattle.mg_value.specs.Packet.{Stamped}
use Rattle.mg_calc.specs.Rules.{Laws, Rules}
use Rattle.mg_calc.specs.declared.call.Call.{Call}
use Rattle.mg_calc.specs.declared.cause.Cause.{Cause}
use Rattle.mg_calc.specs.declared.cause.CalcFault.{CalcFault}
use Rattle.mg_calc.specs.declared.cause.CalcFault.TheVariants.{Fault, OutOfMemory}
use Rattle.mg_calc.specs.declared.emission.Laid.{Laid}
use Rattle.mg_calc.specs.declared.law.Law.{Law}
use Rattle.mg_calc.specs.declared.node_fault.Phase.{Phase}
use Rattle.mg_calc.specs.declared.node_fault.Phase.TheVariants.{Open, Call as SourceCall, Process, Close}
use Rattle.mg_calc.specs.declared.shape.Shape.{Shape}
use Rattle.mg_calc.specs.Plan.{HasNumbers}
use Rattle.mg_calc.specs.Shape.{IsOuter, IsSource, calls_of}
use Rattle.mg_calc.specs.Equations.{rules_at}
use Rattle.mg_node.specs.Views.{ContextView, WorkView, OutcomeView}
use Rattle.mg_node.specs.Job.{LoggedJob, IsTask, stage, calls_before, calls_in, log_after, first_log}
use Rattle.mg_node.specs.Lawful.{IsWorkOf, LawfulWork, LawfulPerformed, HasAnswered, answer_in}
use Rattle.mg_node.specs.Running.{MayRun, LogsPhase, HasRun, SomeJobHas, IsPerformed}
use Rattle.mg_node.proofs.HeldRules.{of_node, rules_fit}
use Rattle.mg_route.specs.HolderView.{held_rules}

may_run_by : {laws : Laws} (job : LoggedJob laws) (o : OutcomeView) (w : IsWorkOf job o) (phase : Phase) → IsTask job.job w.streams w.node o.work.number phase o.work.context.set → MayRun phase o.work.context
may_run_by {laws} job o w Open task = absurd task
may_run_by {laws} job o w (SourceCall number) task =
    let law : w.node.law ≡ o.work.context.told.law = sym w.fits.same_law in
    (subst IsSource law task.0, subst (λ (n : ℕ). n < calls_of o.work.context.told.law) (sym task.1) (subst (λ (l : Law). o.work.number < calls_of l) law task.2))
may_run_by {laws} job o w (Process at) task =
    let has : HasNumbers w.node = of_node HasNumbers job.job.plan.nodes o.work.node w.node w.solves.is_job.plan.ports w.there in
    (subst IsOuter (sym w.fits.same_law) task.0, w.places ∙ has.inputs ∙ ap (λ (s : Shape). length s.inputs) (sym w.fits.same_shape))
may_run_by {laws} job o w Close task = tt

may_run_of : {laws : Laws} (job : LoggedJob laws) (work : WorkView) → LawfulWork job work → MayRun work.phase work.context
unfolding LawfulWork
may_run_of {laws} job work w = may_run_by job (record { work = work; answer = None }) w work.phase w.task

pub may_run : {laws : Laws} (work : WorkView) → SomeJobHas laws work → MayRun work.phase work.context
may_run {laws} work h = may_run_of h.job work h.lawful

-- the log after a run that found memory
no_call : (log : Option (List Call)) → log ≡ option_map (λ calls. calls ++ []) log
no_call None = refl
no_call (Some calls) = ap Some (sym (append-nil calls))

pub logged_well : (e : List Laid) (context : ContextView) (now : Option (List Call)) (phase : Phase) → MayRun phase context → LogsPhase (let r : Result (List Laid) CalcFault = Ok e in r) context.told.log now phase context.set
    → now ≡ option_map (λ calls. calls ++ calls_in phase context.set) context.told.log
logged_well e context now Open may h = absurd may
logged_well e context now (SourceCall number) may h = h ∙ no_call context.told.log
logged_well e context now (Process at) may h = h
logged_well e context now Close may h = h

pub logged_fault : (cause : Cause) (context : ContextView) (now : Option (List Call)) (phase : Phase) → MayRun phase context → LogsPhase (let r : Result (List Laid) CalcFault = Err (Fault cause) in r) context.told.log now phase context.set
    → now ≡ option_map (λ calls. calls ++ calls_in phase context.set) context.told.log
logged_fault cause context now Open may h = absurd may
logged_fault cause context now (SourceCall number) may h = h ∙ no_call context.told.log
logged_fault cause context now (Process at) may h = h
logged_fault cause context now Close may h = h

logged_none : (context : ContextView) (now : Option (List Call)) (phase : Phase) → MayRun phase context → LogsPhase (let r : Result (List Laid) CalcFault = Err OutOfMemory in r) context.told.log now phase context.set → now ≡ context.told.log
logged_none context now Open may h = absurd may
logged_none context now (SourceCall number) may h = h
logged_none context now (Process at) may h = h
logged_none context now Close may h = h

-- a work is done, with an emission or a cause
pub performed_well : {laws : Laws} (work now : WorkView) (e : List Laid) → MayRun work.phase work.context → HasRun laws (Ok e) work.phase work.context now.context → now ≡ record work { context = now.context } → IsPerformed laws work (record { work = now; answer = Ok e })
performed_well {laws} work now e may h same = record {
  same = same;
  answer = h.answer;
  log = logged_well e work.context now.context.told.log work.phase may h.log;
  law = h.law;
  shape = h.shape;
  same_handed = h.same_handed;
  set = h.set;
}

pub performed_fault : {laws : Laws} (work now : WorkView) (cause : Cause) → MayRun work.phase work.context → HasRun laws (Err (Fault cause)) work.phase work.context now.context → now ≡ record work { context = now.context } → IsPerformed laws work (record { work = now; answer = Err cause })
performed_fault {laws} work now cause may h same = record {
  same = same;
  answer = (h.answer, h.kept);
  log = logged_fault cause work.context now.context.told.log work.phase may h.log;
  law = h.law;
  shape = h.shape;
  same_handed = h.same_handed;
  set = h.set;
}

-- and when out of memory, the work is as it was
same_context : (a b : ContextView) → a.told.law ≡ b.told.law → a.told.shape ≡ b.told.shape → a.told.state ≡ b.told.state → a.told.log ≡ b.told.log → a.told.handed ≡ b.told.handed → a.set ≡ b.set → a ≡ b
same_context a b law shape state log handed set = λ i. record { told = record { law = law i; shape = shape i; state = state i; log = log i; handed = handed i }; set = set i }

pub unchanged : {laws : Laws} (work now : WorkView) → MayRun work.phase work.context → HasRun laws (Err OutOfMemory) work.phase work.context now.context → now ≡ record work { context = now.context } → now ≡ work
unchanged {laws} work now may h same =
    let context : now.context ≡ work.context = same_context now.context work.context h.law h.shape h.kept (logged_none work.context now.context.told.log work.phase may h.log) h.same_handed h.set in
    same ∙ ap (λ (b : ContextView). (let w : WorkView = record work { context = b } in w)) context

-- Lawful.

log_further : (first : Option (List Call)) (calls more : List Call) → option_map (λ c. c ++ more) (option_map (λ c. c ++ calls) first) ≡ option_map (λ c. c ++ (calls ++ more)) first
log_further None calls more = refl
log_further (Some c) calls more = ap Some (append_assoc c calls more)

answered_from : (answer : Result (List Laid) Cause) (a b now : List Plain) (r s : Rules) (l m : Law) (phase : Phase) (set : List (Option (Stamped Plain))) → a ≡ b → r ≡ s → l ≡ m → HasAnswered answer a now (answer_in r l a phase set)
    → HasAnswered answer b now (answer_in s m b phase set)
answered_from answer a b now r s l m phase set same rules law h =
    subst (λ (kept : List Plain). HasAnswered answer kept now (answer_in s m kept phase set)) same
    (subst (λ (k : Law). HasAnswered answer a now (answer_in s k a phase set)) law (subst (λ (x : Rules). HasAnswered answer a now (answer_in x l a phase set)) rules h))

performed_at : {laws : Laws} (job : LoggedJob laws) (work : WorkView) (context : ContextView) (answer : Result (List Laid) Cause) → LawfulWork job work → IsPerformed laws work (record { work = record work { context = context }; answer = answer })
    → LawfulPerformed job (record { work = record work { context = context }; answer = answer })
unfolding LawfulWork LawfulPerformed
performed_at {laws} job work context answer w p = record {
  streams = w.streams;
  solves = w.solves;
  node = w.node;
  there = w.there;
  fits = record { same_law = p.law ∙ w.fits.same_law; same_shape = p.shape ∙ w.fits.same_shape; same_handed = p.same_handed ∙ w.fits.same_handed };
  places = ap length p.set ∙ w.places;
  task = subst (λ (set : List (Option (Stamped Plain))). IsTask job.job w.streams w.node work.number work.phase set) (sym p.set) w.task;
  at_work = (
    subst (λ (set : List (Option (Stamped Plain))). HasAnswered answer (stage job.job w.streams w.node work.number).state context.told.state (answer_in (rules_at job.job w.node) w.node.law (stage job.job w.streams w.node work.number).state work.phase set)) (sym p.set)
        (answered_from answer work.context.told.state (stage job.job w.streams w.node work.number).state context.told.state (held_rules laws work.context.told) (rules_at job.job w.node) work.context.told.law w.node.law work.phase work.context.set w.at_work.0 (rules_fit job work.node w.node work.context.told w.solves.is_job.plan w.there w.fits) w.fits.same_law p.answer),
    p.log ∙ ap (option_map (λ calls. calls ++ calls_in work.phase work.context.set)) w.at_work.1 ∙ log_further (first_log job w.node) (calls_before w.streams w.node work.number) (calls_in work.phase work.context.set)
        ∙ ap (λ (set : List (Option (Stamped Plain))). log_after job w.node (calls_before w.streams w.node work.number ++ calls_in work.phase set)) (sym p.set),
  );
}

pub performed_lawful : {laws : Laws} (job : LoggedJob laws) (work now : WorkView) (answer : Result (List Laid) Cause) → LawfulWork job work → IsPerformed laws work (record { work = now; answer = answer }) → LawfulPerformed job (record { work = now; answer = answer })
performed_lawful {laws} job work now answer w p =
    let At : WorkView → Type 0 = λ v. IsPerformed laws work (record { work = v; answer = answer }) in
    subst (λ (v : WorkView). LawfulPerformed job (record { work = v; answer = answer })) (sym p.same)
    (performed_at job work now.context answer w (subst At p.same p))
