-- A run of a core over batches of its plan, once it is over, is one of the plan.
use Rattle.std.proofs.Common.{◌≡◌, ◌⊎◌, inl, inr, None, ℕ, slice_get, List, [], ◌∷◌, ◌++◌, reverse, Option, Some, refl, sym, ap, ◌∙◌, subst, drop, slice_index_or}
use Rattle.std.specs.List.{AllZip}
use Rattle.std.proofs.lemmas.List.{reverse-append}
use Rattle.mg_edge.specs.Edge.{SourceTold}
use Rattle.mg_value.specs.Payload.{Plain}
use Rattle.mg_settled.specs.Prefix.{StreamPrefix}
use Rattle.mg_calc.specs.Rules.{Laws}
use Rattle.mg_calc.specs.declared.inputs.Inputs.{Inputs}
use Rattle.mg_calc.specs.declared.plan.Plan.{Plan}
use Rattle.mg_calc.specs.declared.plan_node.PlanNode.{PlanNode}
use Rattle.mg_calc.specs.Equations.{Job, IsJob, IsSolution}
use Rattle.mg_calc.specs.Told.{BoxTold}
use Rattle.mg_calc.proofs.Solutions.{one_solution}
use Rattle.mg_feed.specs.declared.feed_end.FeedEnd.{FeedEnd}
use Rattle.mg_feed.specs.declared.feed_end.BatchEnd.{BatchEnd}
use Rattle.mg_feed.specs.declared.feed_end.BatchEnd.TheVariants.{End}
use Rattle.mg_free.specs.declared.node.FreeNode.{FreeNode}
use Rattle.mg_free.specs.Core.{split_of}
use Rattle.mg_free.specs.Logs.{output_of}
use Rattle.mg_free.specs.Rounds.{Taken, none_taken, free_inputs, output_so_far, core_inputs, core_job, AllRounds}
use Rattle.mg_free.specs.Turns.{AreLawful, last_batch}
use Rattle.mg_live.proofs.Following.{all_rounds, all_come}
use Rattle.mg_answer.specs.Answer.{OutputForm, output_in}
use Rattle.mg_answer.specs.Devices.{Device, device, RunDevices}
use Rattle.mg_answer.specs.Outcomes.{told_answer, told_failed}
use Rattle.mg_answer.specs.Wrote.{WroteBy}
use Rattle.mg_answer.specs.declared.status.Status.{Status}
use Rattle.mg_answer.specs.declared.run.Reporting.{Reporting}
use Rattle.mg_sched.specs.Views.{NetView}
use Rattle.mg_sched.specs.Made.{BoxesFit}
use Rattle.mg_sched.specs.GivesBack.{given_back, StoodFor}
use Rattle.mg_drive.specs.Leaves.{HadItsCalls, KeepsAFront, IsRelatedAt, HadCallsOf, HadFronts}
use Rattle.mg_drive.specs.OneRun.{CalculatorsCameBack, AllHad}
use Rattle.mg_drive.specs.Batches.{Giving, Coming, Due, IsMore, logged}
use Rattle.mg_drive.specs.Live.{LiveTells}
use Rattle.mg_drive.specs.Code.Live.{LiveView, LiveGives, LiveWrote, end_by}
use Rattle.mg_drive.specs.Code.Running.{ReadingOn, TellingSets, IsToldSome, FrontIn}
use Rattle.mg_drive.specs.Code.Ending.{HasGiven}
use Rattle.mg_drive.specs.Code.LiveRunning.{HasRunLive, CoreShort}
use Rattle.mg_drive.proofs.FrontsBack.{kept_now}
use Rattle.mg_drive.proofs.LinesRan.{stood_is_job}

-- the last of some batches is the one that stands last
ends_with : (xs : List Inputs) (base first : Inputs) → last_batch first (xs ++ base ∷ []) ≡ base
ends_with [] base first = refl
ends_with (x ∷ xs) base first = ends_with xs base x

last_one : (base first : Inputs) (later : List Inputs) → base ≡ first → [] ≡ later → last_batch first later ≡ base
last_one base first later one none = sym (ap (λ (l : List Inputs). last_batch first l) none) ∙ sym one

last_behind : (front : List Inputs) (base first : Inputs) (later : List Inputs) → front ++ base ∷ [] ≡ first ∷ later → last_batch first later ≡ base
last_behind [] base first later same = last_one base first later (ap (λ (l : List Inputs). slice_index_or l 0 base) same) (ap (λ (l : List Inputs). drop 1 l) same)
last_behind (x ∷ front) base first later same = subst (λ (l : List Inputs). last_batch first l ≡ base) (ap (λ (l : List Inputs). drop 1 l) same) (ends_with front base first)

-- a list with an element at its end isn't empty
begins_with : {X : Type 0} (xs : List X) (x : X) → (first : X) × (later : List X) × (xs ++ x ∷ [] ≡ first ∷ later)
begins_with [] x = (x, [], refl)
begins_with (y ∷ xs) x = (y, xs ++ x ∷ [], refl)

turned : (base : Inputs) (earlier : List Inputs) → (first : Inputs) × (later : List Inputs) × (reverse (base ∷ earlier) ≡ first ∷ later) × (last_batch first later ≡ base)
turned base earlier =
    let split = reverse-append (base ∷ []) earlier in
    let some = begins_with (reverse earlier) base in
    (some.0, some.1, split ∙ some.2, last_behind (reverse earlier) base some.0 some.1 some.2)

abbrev job_in : Laws → Plan → Inputs → Job
job_in laws core inputs = record { plan = core; inputs = inputs; laws = laws }

core_job_is : (laws : Laws) (whole core : Plan) (inputs base last : Inputs) (takens : List Taken) → core ≡ (split_of whole).core → inputs ≡ core_inputs (split_of whole) base takens → last ≡ base → job_in laws core inputs ≡ core_job laws (split_of whole) last takens
core_job_is laws whole core inputs base last takens one two three =
    ap (λ (p : Plan). job_in laws p inputs) one ∙ ap (job_in laws (split_of whole).core) two ∙ ap (λ (b : Inputs). core_job laws (split_of whole) b takens) (sym three)

abbrev HadIn : Device (List BoxTold) → List (StreamPrefix Plain) → Job → Type 0
HadIn boxes streams job = AllHad job.plan (HadItsCalls job streams) boxes

had_in : (job : Job) (streams : List (StreamPrefix Plain)) (boxes : Device (List BoxTold)) → IsSolution job streams → CalculatorsCameBack job.plan boxes.before boxes.now → HadCallsOf job boxes → HadIn boxes streams job
had_in job streams boxes solution back had = record {
  back = back;
  used = subst (λ (ss : List (StreamPrefix Plain)). (number place : ℕ) (node : PlanNode) → slice_get job.plan.nodes number ≡ Some node → node.box_number ≡ Some place → IsRelatedAt place (HadItsCalls job ss node) boxes)
      (one_solution job had.streams streams had.solution solution) had.each;
}

abbrev OutputsAre : List FreeNode → List Taken → List (StreamPrefix Plain) → Type 0
OutputsAre frees takens streams = AllZip (λ free taken. output_so_far free taken ≡ output_of free.law (free_inputs streams free) taken.log) frees takens

pub live_ran : {laws : Laws} {B : Type 0} (gives : Giving B) (came : Coming B) (is_due : Due B) (form : OutputForm) (report : Reporting) (began : B) (live : LiveView B) (core : Plan) (status : Status) (devices : RunDevices) (boxes : Device (List BoxTold)) (end : FeedEnd) (inputs : Inputs)
    → (l : LiveGives laws gives came is_due began live core devices.input.before devices.input.now (End end) inputs) → LiveWrote live.whole live.frees live.takers form report (job_in laws core inputs) end status devices.output devices.notes
    → HadCallsOf (job_in laws core inputs) boxes → CalculatorsCameBack core boxes.before boxes.now → HasRunLive laws gives came form report began live.whole status devices boxes
live_ran {laws} {B} gives came is_due form report began live core status devices boxes end inputs l w had back =
    let split = split_of live.whole in
    let order = turned l.base l.earlier in
    let first = order.0 in
    let later = order.1 in
    let round = l.rests l.ends.1 in
    let same = core_job_is laws live.whole core inputs l.base (last_batch first later) l.takens l.of.core_is l.inputs_are order.3 in
    let solution : IsSolution (core_job laws split (last_batch first later) l.takens) w.streams = subst (λ (j : Job). IsSolution j w.streams) same w.solution in
    let come = all_come laws live.whole l.base l.earlier l.takens l.of.valid l.come l.so_far round in
    let job = core_job laws split (last_batch first later) l.takens in
    let streams_are = one_solution job come.streams w.streams (subst (λ (b : Inputs). IsSolution (core_job laws split b l.takens) come.streams) (sym order.3) come.solution) solution in
    record {
      batches = live.batches;
      end = end;
      base = l.base;
      earlier = l.earlier;
      given = subst (λ (o : Option FeedEnd). gives began live.batches live.whole devices.input.before devices.input.now (end_by o) l.base) l.ends.0 l.given;
      in_turn = subst (λ (o : Option FeedEnd). came began live.batches live.whole devices.input.before devices.input.now (end_by o) (l.base ∷ l.earlier)) l.ends.0 l.in_turn;
      first = first;
      later = later;
      in_order = order.2;
      run = record {
        comes = record {
          takens = l.takens;
          rounds = subst (λ (bs : List Inputs). AllRounds laws split bs (none_taken split) l.takens) order.2 (all_rounds laws split l.base l.earlier l.takens l.so_far round);
          streams = w.streams;
          solution = solution;
          logs = subst (λ (ss : List (StreamPrefix Plain)). AreLawful ss split.free l.takens) streams_are come.logs;
          outputs = subst (OutputsAre split.free l.takens) streams_are come.outputs;
          live = w.live;
          tells = subst (λ (fs : List FreeNode). LiveTells report live.whole (core_job laws split (last_batch first later) l.takens) w.streams fs l.takens w.live) l.of.frees_are
              (subst (λ (j : Job). LiveTells report live.whole j w.streams live.frees l.takens w.live) same (w.tells l.takens l.taken));
        };
        is_job = subst IsJob same had.is_job;
        wrote = subst (λ (p : Plan). WroteBy status (told_answer report live.whole end w.live (output_in form p w.streams)) (told_failed report live.whole end w.live) devices.output devices.notes) l.of.core_is w.by;
        had = subst (HadIn boxes w.streams) same (had_in (job_in laws core inputs) w.streams boxes w.solution back had);
      };
    }

-- Memory ran out --

kept_in : (job : Job) (boxes : Device (List BoxTold)) → CalculatorsCameBack job.plan boxes.before boxes.now → (had : HadFronts job boxes) → AllHad job.plan (KeepsAFront job had.streams) boxes
kept_in job boxes back had = record { back = back; used = had.each }

more_none : (ended : Option FeedEnd) → ended ≡ None → IsMore (end_by ended)
more_none ended is = subst (λ (o : Option FeedEnd). IsMore (end_by o)) (sym is) tt

read_last : {B : Type 0} (reads_on : ReadingOn B) (batches : B) (whole : Plan) (ended : Option FeedEnd) (end : BatchEnd) (first at now : SourceTold) → (at ≡ now) ⊎ (IsMore end × ((ended ≡ None) × reads_on batches whole first at now))
    → (at ≡ now) ⊎ (IsMore (end_by ended) × reads_on batches whole first at now)
read_last {B} reads_on batches whole ended end first at now (inl same) = inl same
read_last {B} reads_on batches whole ended end first at now (inr more) = inr (more_none ended more.1.0, more.1.1)

pub live_short : {laws : Laws} {B T : Type 0} (gives : Giving B) (came : Coming B) (is_due : Due B) (reads_on : ReadingOn B) (has_told : TellingSets T) (form : OutputForm) (began : B) (live : LiveView B) (core : Plan) (devices : RunDevices) (boxes now : List BoxTold) (net : NetView) (at : SourceTold) (end : BatchEnd) (inputs : Inputs)
    → BoxesFit core boxes → LiveGives laws gives came is_due began live core devices.input.before at end inputs
    → (at ≡ devices.input.now) ⊎ (IsMore end × ((live.ended ≡ None) × reads_on live.batches live.whole devices.input.before at devices.input.now))
    → StoodFor (logged laws core inputs boxes) net → now ≡ given_back net → CalculatorsCameBack core boxes now
    → IsToldSome has_told (job_in laws core inputs) devices.output.before devices.output.now ⊎ FrontIn form devices.output.before devices.output.now (job_in laws core inputs) → CoreShort laws came reads_on has_told form began live.whole devices (device boxes now)
live_short {laws} {B} {T} gives came is_due reads_on has_told form began live core devices boxes now net at end inputs fit l last stood back came_back front =
    let job = logged laws core inputs boxes in
    let is = stood_is_job job net stood in
    let kept = kept_now boxes now job net fit refl stood is back in
    let same = core_job_is laws live.whole core inputs l.base l.base l.takens l.of.core_is l.inputs_are refl in
    record {
      batches = live.batches;
      ended = live.ended;
      at = at;
      base = l.base;
      earlier = l.earlier;
      in_turn = l.in_turn;
      last = read_last reads_on live.batches live.whole live.ended end devices.input.before at devices.input.now last;
      takens = l.takens;
      so_far = l.so_far;
      is_job = subst IsJob same is;
      streams = kept.streams;
      solution = subst (λ (j : Job). IsSolution j kept.streams) same kept.solution;
      front = subst (λ (j : Job). IsToldSome has_told j devices.output.before devices.output.now ⊎ FrontIn form devices.output.before devices.output.now j) same front;
      had = subst (λ (j : Job). AllHad j.plan (KeepsAFront j kept.streams) (device boxes now)) same (kept_in (job_in laws core inputs) (device boxes now) came_back kept);
    }

-- a first batch of the plan was given
pub live_given : {laws : Laws} {B : Type 0} (gives : Giving B) (came : Coming B) (is_due : Due B) (began : B) (live : LiveView B) (core : Plan) (input : Device SourceTold) (end : BatchEnd) (inputs : Inputs)
    → LiveGives laws gives came is_due began live core input.before input.now end inputs → HasGiven gives began live.plan input
live_given {laws} {B} gives came is_due began live core input end inputs l = record {
  batches = live.batches;
  end = end_by live.ended;
  inputs = l.base;
  given = subst (λ (p : Plan). gives began live.batches p input.before input.now (end_by live.ended) l.base) l.of.whole_is l.given;
}
