-- A run or a run over packets that are made, as one thing.
use Rattle.std.proofs.Common.{◌≡◌, ◌≢◌, ◌⊎◌, inl, inr, ℕ, ℤ, Bool, true, false, List, [], ◌∷◌, All, Option, None, Some, IfSome, Result, Ok, Err, refl, sym, ap, ◌∙◌, subst, arith}
use Rattle.std.proofs.lemmas.Bool.{false≢true}
use Rattle.mg_edge.specs.Edge.{SourceTold, SinkTold, StoreTold}
use Rattle.mg_config.specs.Config.{GraphView}
use Rattle.mg_calc.specs.Rules.{Laws}
use Rattle.mg_calc.specs.declared.inputs.Inputs.{Inputs}
use Rattle.mg_calc.specs.declared.plan.Plan.{Plan}
use Rattle.mg_calc.specs.declared.shape.OuterShape.{OuterShape}
use Rattle.mg_calc.specs.Plan.{IsValid, IsValidWithFree}
use Rattle.mg_calc.specs.Equations as equations
use Rattle.mg_calc.specs.Told.{BoxTold}
use Rattle.mg_calc.proofs.Solutions.{one_solution}
use Rattle.mg_check.specs.Check.{check_of, IsOuterShape}
use Rattle.mg_check.specs.declared.fault.CheckFault.{CheckFault}
use Rattle.mg_subgraph.specs.Expansion.{expansion_of}
use Rattle.mg_subgraph.specs.declared.fault.ExpandFault.{ExpandFault}
use Rattle.mg_free.specs.Core.{first_free}
use Rattle.mg_feed.specs.Graph.{inputs_of}
use Rattle.mg_feed.specs.declared.feed_end.FeedEnd.TheVariants.{Ended}
use Rattle.mg_answer.specs.Answer as answers
use Rattle.mg_answer.specs.Answer.{OutputForm, Read, by_lines, by_summary, ended_input, generated_job}
use Rattle.mg_answer.specs.Ran.{CameTo}
use Rattle.mg_answer.proofs.Answering.{whole-read}
use Rattle.mg_answer.specs.declared.status.Status.{Status}
use Rattle.mg_answer.specs.declared.status.Status.TheVariants.{StoreFault, GraphRefused, OutOfMemory}
use Rattle.mg_drive.specs.OneRun.{OneRun, RanOverLines, RanOverPackets}
use Rattle.mg_drive.specs.OneLive.{OneLive, AreBatchesOf, RanLive, RanLiveMade}
use Rattle.mg_run.specs.Invocation.{Invocation, invocation}
use Rattle.mg_words.specs.Words.{Request, asks_usage, asks_text, asks_command, command_by}
use Rattle.mg_files.specs.Notes.{expand_note}
use Rattle.mg_files.specs.CheckNotes.{check_note}
use Rattle.mg_files.specs.Files.{Files, graphs, no_graphs, AreGraphs, AreFiles}
use Rattle.mg_files.specs.Loads.{LoadedAll, loads_of}
use Rattle.mg_run.specs.Devices.{Device, CallDevices, run_devices_of, Untouched, Unrisen}
use Rattle.mg_run.specs.Answer.{reporting, Action, refuse, show, run_plan, run_live, generate, generate_live, with_limit, with_workers, as_asked, way_action, live_action, used_action, plan_action, verb_action, expanded_action, action_of}
use Rattle.mg_run.specs.Call.{UsedGraph, IsActionOf, IsDue, Called, file_unloaded, graph_refused, text_shown, text_failed, graph_used, memory_out, CallEnded, IsOneOf}
use Rattle.mg_run.specs.Headline.{RunsGraph, ran_statuses, IsGraph, Origin, from_input, from_number, IsOrigin, job_from, end_from, telling_from, bare, Headline, LiveHeadline, RanGraph}
use Rattle.mg_words.specs.declared.words.Instruction.{Instruction}
use Rattle.mg_words.specs.declared.words.Verb.{Verb}
use Rattle.mg_words.specs.declared.words.Verb.TheVariants.{Use}
use Rattle.mg_words.specs.declared.words.Way.{Way}
use Rattle.mg_words.specs.declared.words.Way.TheVariants.{Run, Generate}
use Rattle.mg_files.proofs.Loading.{of-loads}
use Rattle.mg_files.proofs.Together.{one-reading}
use Rattle.mg_run.proofs.Valid.{valid_checked, valid_unfree}
use Rattle.mg_run.proofs.Unlimited.{limited_plan, unlimited_run}
use Rattle.mg_run.proofs.LiveUnlimited.{batches_same, unlimited_live}

-- What there is to do is a refusal, or the graph of the files is used so --

-- a graph is found, and this is to be done with its plan
record Finds (invocation : Invocation) (contents : List (List ℕ)) (way : Way) (job : Action) : Type 0 where
  plan : Plan
  graph : IsGraph invocation contents plan
  valid : IsValid plan
  unfree : first_free plan ≡ None
  is : job ≡ way_action way invocation.instruction plan

-- a graph with a free node is found, and this is to be done with its plan
record FindsLive (invocation : Invocation) (contents : List (List ℕ)) (way : Way) (job : Action) : Type 0 where
  plan : Plan
  graph : IsGraph invocation contents plan
  valid : IsValidWithFree plan
  first : ℕ
  free : first_free plan ≡ Some first
  is : job ≡ live_action way invocation.instruction first plan

abbrev Due : Invocation → List (List ℕ) → Way → Action → Type 0
Due invocation contents way job = ((note : List ℕ) × (job ≡ refuse note)) ⊎ (Finds invocation contents way job ⊎ FindsLive invocation contents way job)

-- by whether a node is free
by_free : (invocation : Invocation) (contents : List (List ℕ)) (way : Way) (plan : Plan) (o : Option ℕ) → first_free plan ≡ o → IsGraph invocation contents plan → IsValidWithFree plan → Due invocation contents way (used_action o way invocation.instruction plan)
by_free invocation contents way plan None is graph valid = inr (inl (record { plan = plan; graph = graph; valid = valid_unfree plan valid is; unfree = is; is = refl }))
by_free invocation contents way plan (Some node) is graph valid = inr (inr (record { plan = plan; graph = graph; valid = valid; first = node; free = is; is = refl }))

-- by what the check answers
by_check : (invocation : Invocation) (contents : List (List ℕ)) (way : Way) (g : GraphView) (checked : Result Plan CheckFault) → check_of invocation.outers g ≡ checked
    → ((plan : Plan) → check_of invocation.outers g ≡ Ok plan → IsGraph invocation contents plan × IsValidWithFree plan) → Due invocation contents way (plan_action way invocation.instruction checked)
by_check invocation contents way g (Ok plan) is found = by_free invocation contents way plan (first_free plan) refl (found plan is).0 (found plan is).1
by_check invocation contents way g (Err fault) is found = inl (check_note fault, refl)

-- by what the expansion answers
by_expansion : (invocation : Invocation) → All IsOuterShape invocation.outers → (contents : List (List ℕ)) (way : Way) (main : GraphView) (library : List GraphView) (expanded : Result GraphView ExpandFault) → invocation.instruction.verb ≡ Use way → AreGraphs contents (main ∷ library) → expansion_of main library ≡ expanded
    → Due invocation contents way (expanded_action invocation.instruction invocation.outers expanded)
by_expansion invocation shaped contents way main library (Ok g) verb are is =
    subst (λ (v : Verb). Due invocation contents way (verb_action v invocation.instruction invocation.outers g)) (sym verb)
    (by_check invocation contents way g (check_of invocation.outers g) refl
    (λ plan checked. (
      record {
        main = main;
        library = library;
        files = are;
        graph = g;
        expanded = is;
        checked = checked;
      },
      valid_checked invocation.outers main library g plan shaped is checked,
    )))
by_expansion invocation shaped contents way main library (Err fault) verb are is = inl (expand_note fault, refl)

-- by what the files are
by_files : (invocation : Invocation) → All IsOuterShape invocation.outers → (contents : List (List ℕ)) (way : Way) (files : Files) → invocation.instruction.verb ≡ Use way → AreFiles invocation.files contents files → Due invocation contents way (action_of invocation files)
by_files invocation shaped contents way (graphs []) verb are = inl ([], refl)
by_files invocation shaped contents way (graphs (main ∷ library)) verb are = by_expansion invocation shaped contents way main library (expansion_of main library) verb are refl
by_files invocation shaped contents way (no_graphs note) verb are = inl (note, refl)

due_by : (invocation : Invocation) → All IsOuterShape invocation.outers → (contents : List (List ℕ)) (way : Way) (job : Action) → invocation.instruction.verb ≡ Use way → IsActionOf invocation contents job → Due invocation contents way job
due_by invocation shaped contents way job verb (files, are, same) = subst (Due invocation contents way) (sym same) (by_files invocation shaped contents way files verb are)

-- The plan's limit and workers have no part in it --

request_is : (instruction : Instruction) (limit : Option ℤ) (workers : Option ℕ) (plan : Plan)
    → with_workers workers (with_limit limit plan) ≡ limited_plan (bare plan) (with_workers workers (with_limit limit plan)).limit (with_workers workers (with_limit limit plan)).workers
request_is instruction None None plan = refl
request_is instruction None (Some workers) plan = refl
request_is instruction (Some limit) None plan = refl
request_is instruction (Some limit) (Some workers) plan = refl

bare_run : (laws : Laws) (instruction : Instruction) (plan : Plan) (from : Origin) (status : Status) (output notes : Device SinkTold) (boxes : Device (List BoxTold))
    → OneRun (telling_from (reporting instruction) from) (job_from laws (as_asked instruction plan) from) (end_from from) status output notes boxes
    → OneRun (telling_from (reporting instruction) from) (job_from laws (bare plan) from) (end_from from) status output notes boxes
bare_run laws instruction plan from status output notes boxes run =
    by from (subst (λ (p : Plan). OneRun (telling_from (reporting instruction) from) (job_from laws p from) (end_from from) status output notes boxes) (request_is instruction instruction.limit instruction.workers plan) run)
  where
    by : (from : Origin) → OneRun (telling_from (reporting instruction) from) (job_from laws (limited_plan (bare plan) (as_asked instruction plan).limit (as_asked instruction plan).workers) from) (end_from from) status output notes boxes
        → OneRun (telling_from (reporting instruction) from) (job_from laws (bare plan) from) (end_from from) status output notes boxes
    by (from_input read) run = unlimited_run (by_lines (reporting instruction)) (answers.job_of laws (bare plan) read) (as_asked instruction plan).limit (as_asked instruction plan).workers read.end status output notes boxes (λ e. cc) (omega arith) run
    by (from_number number) run = unlimited_run (by_summary (reporting instruction)) (generated_job laws (bare plan) number) (as_asked instruction plan).limit (as_asked instruction plan).workers Ended status output notes boxes (λ e. cc) (omega arith) run

-- the form in which a run is told
abbrev form_from : Instruction → Origin → OutputForm
form_from instruction from = (telling_from (reporting instruction) from).form

bare_live : (laws : Laws) (instruction : Instruction) (plan : Plan) (from : Origin) (first : Inputs) (later : List Inputs) (status : Status) (output notes : Device SinkTold) (boxes : Device (List BoxTold))
    → OneLive laws (form_from instruction from) (reporting instruction) (as_asked instruction plan) first later (end_from from) status output notes boxes → OneLive laws (form_from instruction from) (reporting instruction) (bare plan) first later (end_from from) status output notes boxes
bare_live laws instruction plan from first later status output notes boxes run =
    unlimited_live laws (form_from instruction from) (reporting instruction) (bare plan) (as_asked instruction plan).limit (as_asked instruction plan).workers first later (end_from from) status output notes boxes (λ e. cc) (omega arith)
    (subst (λ (p : Plan). OneLive laws (form_from instruction from) (reporting instruction) p first later (end_from from) status output notes boxes) (request_is instruction instruction.limit instruction.workers plan) run)

bare_batches : (instruction : Instruction) (plan : Plan) (read : Read) (batches : List Inputs) → AreBatchesOf instruction.unbuffered (as_asked instruction plan) read batches → AreBatchesOf instruction.unbuffered (bare plan) read batches
bare_batches instruction plan read batches are =
    batches_same instruction.unbuffered (bare plan) (as_asked instruction plan).limit (as_asked instruction plan).workers read batches (subst (λ (p : Plan). AreBatchesOf instruction.unbuffered p read batches) (request_is instruction instruction.limit instruction.workers plan) are)

-- what is made for a plan doesn't depend on its limit and workers
made_asked : (laws : Laws) (limit : Option ℤ) (workers : Option ℕ) (plan : Plan) (number : ℕ) → (generated_job laws (with_workers workers (with_limit limit plan)) number).inputs ≡ (generated_job laws (bare plan) number).inputs
made_asked laws None None plan number = refl
made_asked laws None (Some workers) plan number = refl
made_asked laws (Some limit) None plan number = refl
made_asked laws (Some limit) (Some workers) plan number = refl

-- The headline --

-- a graph without free nodes was found, and its run came from this
headline : (laws : Laws) (invocation : Invocation) (action : Action) (status : Status) (all : CallDevices) (from : Origin) (due : IsDue invocation all.store action) (way : Way) (found : Finds invocation due.contents way action) → IsOrigin invocation.instruction found.plan all.input from
    → OneRun (telling_from (reporting invocation.instruction) from) (job_from laws (as_asked invocation.instruction found.plan) from) (end_from from) status all.output all.notes all.boxes → Headline laws invocation status all
headline laws invocation action status all from due way found origin run = record {
  contents = due.contents;
  loaded = due.loaded;
  plan = found.plan;
  graph = found.graph;
  valid = found.valid;
  unfree = found.unfree;
  from = from;
  origin = origin;
  run = bare_run laws invocation.instruction found.plan from status all.output all.notes all.boxes run;
}

-- the inputs of a plan's graph don't depend on its limit and workers
came_asked : (limit : Option ℤ) (workers : Option ℕ) (plan : Plan) (input : Device SourceTold) (read : Read) → CameTo (inputs_of (with_workers workers (with_limit limit plan))) input read → CameTo (inputs_of plan) input read
came_asked None None plan input read came = came
came_asked None (Some workers) plan input read came = came
came_asked (Some limit) None plan input read came = came
came_asked (Some limit) (Some workers) plan input read came = came

lines_headline : (laws : Laws) (invocation : Invocation) (action : Action) (status : Status) (all : CallDevices) (due : IsDue invocation all.store action) (way : Way) (found : Finds invocation due.contents way action) → invocation.instruction.verb ≡ Use Run → status ≢ OutOfMemory
    → RanOverLines laws (reporting invocation.instruction) (as_asked invocation.instruction found.plan) status (run_devices_of all) all.boxes → Headline laws invocation status all
lines_headline laws invocation action status all due way found verb some (inl one) =
    headline laws invocation action status all (from_input one.read) due way found (verb, came_asked invocation.instruction.limit invocation.instruction.workers found.plan all.input one.read one.came) one.holds
lines_headline laws invocation action status all due way found verb some (inr out) = absurd (some out.is)

packets_headline : (laws : Laws) (invocation : Invocation) (action : Action) (status : Status) (all : CallDevices) (due : IsDue invocation all.store action) (way : Way) (found : Finds invocation due.contents way action) → invocation.instruction.verb ≡ Use Generate → status ≢ OutOfMemory
    → Untouched all.input → RanOverPackets laws (reporting invocation.instruction) (as_asked invocation.instruction found.plan) invocation.instruction.number status all.output all.notes all.boxes → Headline laws invocation status all
packets_headline laws invocation action status all due way found verb some unread (inl one) = headline laws invocation action status all (from_number invocation.instruction.number) due way found (verb, refl, unread) one
packets_headline laws invocation action status all due way found verb some unread (inr out) = absurd (some out.is)

live_lines_headline : (laws : Laws) (invocation : Invocation) (action : Action) (status : Status) (all : CallDevices) (due : IsDue invocation all.store action) (way : Way) (found : FindsLive invocation due.contents way action) → invocation.instruction.verb ≡ Use Run → status ≢ OutOfMemory
    → RanLive laws (reporting invocation.instruction) invocation.instruction.unbuffered (as_asked invocation.instruction found.plan) status (run_devices_of all) all.boxes → LiveHeadline laws invocation status all
live_lines_headline laws invocation action status all due way found verb some (inl one) = record {
  contents = due.contents;
  loaded = due.loaded;
  plan = found.plan;
  graph = found.graph;
  valid = found.valid;
  free = (found.first, found.free);
  from = from_input one.read;
  origin = (verb, came_asked invocation.instruction.limit invocation.instruction.workers found.plan all.input one.read one.came);
  first = one.holds.first;
  later = one.holds.later;
  batches = bare_batches invocation.instruction found.plan one.read (one.holds.first ∷ one.holds.later) one.holds.batches;
  run = bare_live laws invocation.instruction found.plan (from_input one.read) one.holds.first one.holds.later status all.output all.notes all.boxes one.holds.run;
}
live_lines_headline laws invocation action status all due way found verb some (inr out) = absurd (some out.is)

live_packets_headline : (laws : Laws) (invocation : Invocation) (action : Action) (status : Status) (all : CallDevices) (due : IsDue invocation all.store action) (way : Way) (found : FindsLive invocation due.contents way action) → invocation.instruction.verb ≡ Use Generate → status ≢ OutOfMemory
    → Untouched all.input → RanLiveMade laws (reporting invocation.instruction) (as_asked invocation.instruction found.plan) invocation.instruction.number status all.output all.notes all.boxes → LiveHeadline laws invocation status all
live_packets_headline laws invocation action status all due way found verb some unread (inl one) = record {
  contents = due.contents;
  loaded = due.loaded;
  plan = found.plan;
  graph = found.graph;
  valid = found.valid;
  free = (found.first, found.free);
  from = from_number invocation.instruction.number;
  origin = (verb, refl, unread);
  first = (generated_job laws (as_asked invocation.instruction found.plan) invocation.instruction.number).inputs;
  later = [];
  batches = ap (λ (i : Inputs). i ∷ []) (made_asked laws invocation.instruction.limit invocation.instruction.workers found.plan invocation.instruction.number);
  run = bare_live laws invocation.instruction found.plan (from_number invocation.instruction.number) (generated_job laws (as_asked invocation.instruction found.plan) invocation.instruction.number).inputs [] status all.output all.notes all.boxes one;
}
live_packets_headline laws invocation action status all due way found verb some unread (inr out) = absurd (some out.is)

-- the graph of an action was used
used_headline : (laws : Laws) (invocation : Invocation) (action : Action) (status : Status) (all : CallDevices) (due : IsDue invocation all.store action) → UsedGraph laws action status all → (way : Way) → (way ≡ Run) ⊎ (way ≡ Generate) → invocation.instruction.verb ≡ Use way → status ≢ OutOfMemory
    → Due invocation due.contents way action → RanGraph laws invocation status all
used_headline laws invocation action status all due did way used verb some (inl refused) = absurd (subst (λ (j : Action). UsedGraph laws j status all) refused.1 did)
used_headline laws invocation action status all due did way (inl is) verb some (inr (inl found)) =
    let same : action ≡ run_plan (reporting invocation.instruction) (as_asked invocation.instruction found.plan) = found.is ∙ ap (λ (w : Way). way_action w invocation.instruction found.plan) is in
    inl (lines_headline laws invocation action status all due way found (verb ∙ ap Use is) some (subst (λ (j : Action). UsedGraph laws j status all) same did))
used_headline laws invocation action status all due did way (inr is) verb some (inr (inl found)) =
    let same : action ≡ generate (reporting invocation.instruction) invocation.instruction.number (as_asked invocation.instruction found.plan) = found.is ∙ ap (λ (w : Way). way_action w invocation.instruction found.plan) is in
    let d : UsedGraph laws (generate (reporting invocation.instruction) invocation.instruction.number (as_asked invocation.instruction found.plan)) status all = subst (λ (j : Action). UsedGraph laws j status all) same did in
    inl (packets_headline laws invocation action status all due way found (verb ∙ ap Use is) some d.1 d.0)
used_headline laws invocation action status all due did way (inl is) verb some (inr (inr found)) =
    let same : action ≡ run_live (reporting invocation.instruction) invocation.instruction.unbuffered (as_asked invocation.instruction found.plan) = found.is ∙ ap (λ (w : Way). live_action w invocation.instruction found.first found.plan) is in
    inr (live_lines_headline laws invocation action status all due way found (verb ∙ ap Use is) some (subst (λ (j : Action). UsedGraph laws j status all) same did))
used_headline laws invocation action status all due did way (inr is) verb some (inr (inr found)) =
    let same : action ≡ generate_live (reporting invocation.instruction) invocation.instruction.number (as_asked invocation.instruction found.plan) = found.is ∙ ap (λ (w : Way). live_action w invocation.instruction found.first found.plan) is in
    let d : UsedGraph laws (generate_live (reporting invocation.instruction) invocation.instruction.number (as_asked invocation.instruction found.plan)) status all = subst (λ (j : Action). UsedGraph laws j status all) same did in
    inr (live_packets_headline laws invocation action status all due way found (verb ∙ ap Use is) some d.1 d.0)

graph_headline : (laws : Laws) (status : Status) (invocation : Invocation) (all : CallDevices) (action : Action) → IsDue invocation all.store action → UsedGraph laws action status all → RunsGraph invocation.instruction.verb → status ≢ OutOfMemory → RanGraph laws invocation status all
graph_headline laws status invocation all action due did (inl verb) some =
    used_headline laws invocation action status all due did Run (inl refl) verb some (due_by invocation due.shaped due.contents Run action verb due.due)
graph_headline laws status invocation all action due did (inr verb) some =
    used_headline laws invocation action status all due did Generate (inr refl) verb some (due_by invocation due.shaped due.contents Generate action verb due.due)

-- a command that runs a graph writes no text of a plan
abbrev is_shown : Action → Bool
is_shown (show text) = true
is_shown _ = false

shows_none : (invocation : Invocation) (contents : List (List ℕ)) (text : List ℕ) (way : Way) → (way ≡ Run) ⊎ (way ≡ Generate) → Due invocation contents way (show text) → ⊥
shows_none invocation contents text way either (inl refused) = false≢true (sym (ap is_shown refused.1))
shows_none invocation contents text way (inl is) (inr (inl found)) = false≢true (sym (ap is_shown (found.is ∙ ap (λ (w : Way). way_action w invocation.instruction found.plan) is)))
shows_none invocation contents text way (inr is) (inr (inl found)) = false≢true (sym (ap is_shown (found.is ∙ ap (λ (w : Way). way_action w invocation.instruction found.plan) is)))
shows_none invocation contents text way (inl is) (inr (inr found)) = false≢true (sym (ap is_shown (found.is ∙ ap (λ (w : Way). live_action w invocation.instruction found.first found.plan) is)))
shows_none invocation contents text way (inr is) (inr (inr found)) = false≢true (sym (ap is_shown (found.is ∙ ap (λ (w : Way). live_action w invocation.instruction found.first found.plan) is)))

no_text : (invocation : Invocation) (store : Device StoreTold) (text : List ℕ) → IsDue invocation store (show text) → RunsGraph invocation.instruction.verb → ⊥
no_text invocation store text due (inl verb) = shows_none invocation due.contents text Run (inl refl) (due_by invocation due.shaped due.contents Run (show text) verb due.due)
no_text invocation store text due (inr verb) = shows_none invocation due.contents text Generate (inr refl) (due_by invocation due.shaped due.contents Generate (show text) verb due.due)

-- no call that ran its graph ends with a fault of the store
store_ran : IsOneOf StoreFault ran_statuses → ⊥
store_ran (inl e) = cc
store_ran (inr (inl e)) = cc
store_ran (inr (inr (inl e))) = cc
store_ran (inr (inr (inr (inl e)))) = cc
store_ran (inr (inr (inr (inr (inl e))))) = cc
store_ran (inr (inr (inr (inr (inr (inl e)))))) = cc
store_ran (inr (inr (inr (inr (inr (inr none)))))) = none

refused_ran : IsOneOf GraphRefused ran_statuses → ⊥
refused_ran (inl e) = cc
refused_ran (inr (inl e)) = cc
refused_ran (inr (inr (inl e))) = cc
refused_ran (inr (inr (inr (inl e)))) = cc
refused_ran (inr (inr (inr (inr (inl e))))) = cc
refused_ran (inr (inr (inr (inr (inr (inl e)))))) = cc
refused_ran (inr (inr (inr (inr (inr (inr none)))))) = none

memory_ran : IsOneOf OutOfMemory ran_statuses → ⊥
memory_ran (inl e) = cc
memory_ran (inr (inl e)) = cc
memory_ran (inr (inr (inl e))) = cc
memory_ran (inr (inr (inr (inl e)))) = cc
memory_ran (inr (inr (inr (inr (inl e))))) = cc
memory_ran (inr (inr (inr (inr (inr (inl e)))))) = cc
memory_ran (inr (inr (inr (inr (inr (inr none)))))) = none

called_headline : (laws : Laws) (status : Status) (invocation : Invocation) (all : CallDevices) → Called laws invocation all status → RunsGraph invocation.instruction.verb → IsOneOf status ran_statuses → RanGraph laws invocation status all
called_headline laws status invocation all (file_unloaded file failed noted nothing) runs one = absurd (store_ran one)
called_headline laws status invocation all (graph_refused note due noted nothing) runs one = absurd (refused_ran one)
called_headline laws status invocation all (text_shown text due took unnoted unread uncalled) runs one = absurd (no_text invocation all.store text due runs)
called_headline laws status invocation all (text_failed text due took noted unread uncalled) runs one = absurd (no_text invocation all.store text due runs)
called_headline laws status invocation all (graph_used action due graph) runs one = graph_headline laws status invocation all action due graph runs (λ is. memory_ran (subst (λ (s : Status). IsOneOf s ran_statuses) is one))
called_headline laws status invocation all (memory_out loaded noted nothing) runs one = absurd (memory_ran one)

pub came-headline : (laws : Laws) (outers : List OuterShape) (request : Request) (status : Status) (all : CallDevices) → CallEnded laws outers request status all
    → IfSome (command_by request) (λ command. RunsGraph command.instruction.verb → IsOneOf status ran_statuses → RanGraph laws (invocation command outers) status all)
came-headline laws outers asks_usage status all came = tt
came-headline laws outers (asks_text text) status all came = tt
came-headline laws outers (asks_command command) status all came = called_headline laws status (invocation command outers) all came

-- There is one headline --

-- the contents are those that the store tells
same_contents : (told contents : List (List ℕ)) (o : Option (List (List ℕ))) → o ≡ Some told → IfSome o (λ known. known ≡ contents) → contents ≡ told
same_contents told contents None is same = absurd cc
same_contents told contents (Some known) is same = sym same ∙ (let e : known ≡ told = cc in e)

pub told_contents : (names contents told : List (List ℕ)) (store : Device StoreTold) → LoadedAll names contents store → loads_of store.before.content names ≡ Some told → contents ≡ told
told_contents names contents told store loaded is = same_contents told contents (loads_of store.before.content names) is (of-loads store.before.content names contents (λ known. known ≡ contents) loaded.given refl)

-- what was read of the input is the whole of what it tells
pub told_reading : (plan : Plan) (input : Device SourceTold) (read : Read) (bytes : List ℕ) → CameTo (inputs_of plan) input read → input.before.left ≡ Some bytes → Unrisen input.before.faults input.now.faults → read ≡ ended_input (inputs_of plan) bytes
told_reading plan input read bytes came is un = whole-read (inputs_of plan) input read bytes came is un

pub same_graphs : (main other : GraphView) (library others : List GraphView) → graphs (main ∷ library) ≡ graphs (other ∷ others) → (main ≡ other) × (library ≡ others)
same_graphs main other library others e = ((let a : main ≡ other = cc in a), (let b : library ≡ others = cc in b))

abbrev expands_to : GraphView → Result GraphView ExpandFault
expands_to g = Ok g

pub same_expansion : (g h : GraphView) → expands_to g ≡ expands_to h → g ≡ h
same_expansion g h e = cc

abbrev checks_as : Plan → Result Plan CheckFault
checks_as plan = Ok plan

pub same_check : (p q : Plan) → checks_as p ≡ checks_as q → p ≡ q
same_check p q e = cc

-- of the same contents there is one graph, and one plan
pub one_plan : (invocation : Invocation) (contents : List (List ℕ)) (plan other : Plan) → IsGraph invocation contents plan → IsGraph invocation contents other → plan ≡ other
one_plan invocation contents plan other a b =
    let files = same_graphs a.main b.main a.library b.library (one-reading invocation.files contents (graphs (a.main ∷ a.library)) (graphs (b.main ∷ b.library)) a.files b.files) in
    let expansion : expansion_of a.main a.library ≡ expansion_of b.main b.library = ap (λ (m : GraphView). expansion_of m a.library) files.0 ∙ ap (expansion_of b.main) files.1 in
    let graph = same_expansion a.graph b.graph (sym a.expanded ∙ expansion ∙ b.expanded) in
    same_check plan other (sym a.checked ∙ ap (check_of invocation.outers) graph ∙ b.checked)

not_both : (instruction : Instruction) → instruction.verb ≡ Use Run → instruction.verb ≡ Use Generate → ⊥
not_both instruction run made = (let e : Use Run ≡ Use Generate = sym run ∙ made in cc)

-- if an input tells its bytes and no read of it failed, there is one origin
pub one_origin : (instruction : Instruction) (plan : Plan) (input other : Device SourceTold) (bytes : List ℕ) (a b : Origin) → input.before.left ≡ Some bytes → other.before.left ≡ Some bytes → Unrisen input.before.faults input.now.faults
    → Unrisen other.before.faults other.now.faults → IsOrigin instruction plan input a → IsOrigin instruction plan other b → a ≡ b
one_origin instruction plan input other bytes (from_input read) (from_input again) left left_too un un_too one two =
    ap from_input (told_reading plan input read bytes one.1 left un ∙ sym (told_reading plan other again bytes two.1 left_too un_too))
one_origin instruction plan input other bytes (from_input read) (from_number number) left left_too un un_too one two = absurd (not_both instruction one.0 two.0)
one_origin instruction plan input other bytes (from_number number) (from_input read) left left_too un un_too one two = absurd (not_both instruction two.0 one.0)
one_origin instruction plan input other bytes (from_number number) (from_number again) left left_too un un_too one two = ap from_number (one.1 ∙ sym two.1)

pub one_headline : (laws : Laws) (invocation : Invocation) (status other_status : Status) (all other : CallDevices) (contents : List (List ℕ)) (bytes : List ℕ) (a : Headline laws invocation status all) (b : Headline laws invocation other_status other)
    → loads_of all.store.before.content invocation.files ≡ Some contents → loads_of other.store.before.content invocation.files ≡ Some contents → all.input.before.left ≡ Some bytes → other.input.before.left ≡ Some bytes
    → Unrisen all.input.before.faults all.input.now.faults → Unrisen other.input.before.faults other.input.now.faults → (a.plan ≡ b.plan) × (a.from ≡ b.from) × (a.run.streams ≡ b.run.streams)
one_headline laws invocation status other_status all other contents bytes a b loads loads_too left left_too un un_too =
    let in_a : IsGraph invocation contents a.plan = subst (λ (cs : List (List ℕ)). IsGraph invocation cs a.plan) (told_contents invocation.files a.contents contents all.store a.loaded loads) a.graph in
    let in_b : IsGraph invocation contents b.plan = subst (λ (cs : List (List ℕ)). IsGraph invocation cs b.plan) (told_contents invocation.files b.contents contents other.store b.loaded loads_too) b.graph in
    let plans = one_plan invocation contents a.plan b.plan in_a in_b in
    let origin : IsOrigin invocation.instruction b.plan all.input a.from = subst (λ (p : Plan). IsOrigin invocation.instruction p all.input a.from) plans a.origin in
    let origins = one_origin invocation.instruction b.plan all.input other.input bytes a.from b.from left left_too un un_too origin b.origin in
    let jobs : job_from laws (bare a.plan) a.from ≡ job_from laws (bare b.plan) b.from = ap (λ (p : Plan). job_from laws (bare p) a.from) plans ∙ ap (job_from laws (bare b.plan)) origins in (
      plans,
      origins,
      one_solution (job_from laws (bare b.plan) b.from) a.run.streams b.run.streams (subst (λ (j : equations.Job). equations.IsSolution j a.run.streams) jobs a.run.solution) b.run.solution,
    )
