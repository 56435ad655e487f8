-- What a run did, by its status, and what follows from that.
use Rattle.std.proofs.Common.{◌≡◌, ◌≢◌, ◌⊎◌, inl, inr, ℕ, List, [], ◌∷◌, ◌++◌, Bool, true, false, not, if◌then◌else◌, Option, None, Some, IfSome, refl, sym, ap, ◌∙◌, subst, arith, append-nil}
use Rattle.mg_edge.specs.Edge.{SourceTold, SinkTold, one_more}
use Rattle.mg_edge.specs.Runs.{Gave}
use Rattle.mg_edge.proofs.Counts.{rises-after}
use Rattle.mg_value.specs.Payload.{Plain}
use Rattle.mg_settled.specs.Prefix.{StreamPrefix}
use Rattle.mg_calc.specs.declared.inputs.Inputs.{Inputs}
use Rattle.mg_calc.specs.declared.plan.Plan.{Plan}
use Rattle.mg_calc.specs.declared.node_fault.NodeFault.{NodeFault as Fault}
use Rattle.mg_calc.specs.Equations.{Job, IsSolution}
use Rattle.mg_calc.specs.Meaning.{faults, stalled}
use Rattle.mg_calc.specs.Rules.{Laws}
use Rattle.mg_feed.specs.Graph.{GraphInputs, inputs_of}
use Rattle.mg_feed.specs.Ran.{EndCame, MetEnd, FailedBy}
use Rattle.mg_feed.specs.Sent.{Sent}
use Rattle.mg_answer.specs.Notes.{bounds_of, notes_by}
use Rattle.mg_answer.specs.Report.{report_by, report_of, asked_report, open_numbers, end_bounds}
use Rattle.mg_answer.specs.Outcomes.{TellsOf, told_notes, told_answer, told_failed}
use Rattle.mg_feed.specs.declared.feed_end.FeedEnd.{FeedEnd}
use Rattle.mg_feed.specs.declared.feed_end.FeedEnd.TheVariants.{Ended, Failed, Refused, OutOfMemory as no_lines}
use Rattle.mg_answer.specs.Text.{output_text_of}
use Rattle.mg_answer.specs.Told.{status_of}
use Rattle.mg_answer.specs.Answer.{Read, OutputForm, Telling, by_lines, output_in, RunAnswer, ended_input, inputs_by, job_of, notes_at, failed_notes, answer_of, IsAnswer, AnswersEnded}
use Rattle.mg_answer.specs.Devices.{Device, device, RunDevices, run_devices, Untouched, TookFront, TookNotes, HasRisen, Unrisen, NoneFailed}
use Rattle.mg_answer.specs.Status.{IsOneOf}
use Rattle.mg_answer.specs.Ran.{CameAs, CameTo, ReadSome, RanAll, RanShort, TookSome, Ran, IsAnswered}
use Rattle.mg_answer.specs.Put.{TextView, HasPut}
use Rattle.mg_answer.specs.Frozen.{frozen_notes, frozen_answer, WroteFrozen}
use Rattle.mg_answer.specs.Wrote.{Meets, MetShort, WroteBy, Wrote}
use Rattle.mg_answer.specs.Code.Answered.{WroteSome}
use Rattle.mg_answer.specs.declared.outcomes.Outcomes.{Outcomes}
use Rattle.mg_answer.specs.Gathered.{GatheredInputs}
use Rattle.mg_answer.specs.declared.status.Status.{Status}
use Rattle.mg_answer.specs.declared.status.Status.TheVariants.{Good, StoreFault, Usage, GraphRefused, LineRefused, NodeFault, Stalled, ReadFault, WriteFault, OutOfMemory}
use Rattle.mg_answer.proofs.Writing.{front-sent, put-sent}
use Rattle.mg_answer.proofs.Gathering.{read-came}
use Rattle.mg_answer.proofs.Telling.{open-stalled, bounds-told}
use Rattle.mg_answer.specs.declared.run.Reporting.{Reporting}

-- The answer --

abbrev plain_job : Laws → Plan → Inputs → Job
plain_job laws plan inputs = record { plan = plan; inputs = inputs; laws = laws }

abbrev told : Laws → Reporting → Plan → Inputs → FeedEnd → List (StreamPrefix Plain) → RunAnswer
told laws report plan inputs end streams = answer_of (by_lines report) (plain_job laws plan inputs) end streams

abbrev failed : Laws → Reporting → Plan → Inputs → FeedEnd → List (StreamPrefix Plain) → List ℕ
failed laws report plan inputs end streams = failed_notes (by_lines report) (plain_job laws plan inputs) end streams

-- an answer of the job is that of the plan over what was read
abbrev is-answer : (laws : Laws) (report : Reporting) (plan : Plan) (inputs : Inputs) (end : FeedEnd) (read : Read) (streams : List (StreamPrefix Plain)) → inputs ≡ inputs_by (inputs_of plan) read → end ≡ read.end
    → IsSolution (plain_job laws plan inputs) streams → IsAnswer laws report plan read (told laws report plan inputs end streams)
is-answer laws report plan inputs end read streams is ended solution = record {
  streams = streams;
  solution = subst (λ (i : Inputs). IsSolution (plain_job laws plan i) streams) is solution;
  is = ap (λ (i : Inputs). answer_of (by_lines report) (plain_job laws plan i) end streams) is ∙ ap (λ (e : FeedEnd). answer_of (by_lines report) (job_of laws plan read) e streams) ended;
}

ran-all : (laws : Laws) (report : Reporting) (plan : Plan) (input : Device SourceTold) (end : FeedEnd) (inputs : Inputs) (status : Status) (output notes : Device SinkTold) (streams : List (StreamPrefix Plain))
    → GatheredInputs (inputs_of plan) input end inputs → IsSolution (plain_job laws plan inputs) streams
    → Meets (told laws report plan inputs end streams) status output notes → RanAll laws report plan status (run_devices input output notes)
ran-all laws report plan input end inputs status output notes streams gathered solution wrote = record {
  read = gathered.read;
  input = gathered.came;
  answer = told laws report plan inputs end streams;
  is = is-answer laws report plan inputs end gathered.read streams gathered.given gathered.ended solution;
  met = record { text = wrote.text; noted = wrote.noted; told = wrote.told };
}

ran-short : (laws : Laws) (report : Reporting) (plan : Plan) (input : Device SourceTold) (end : FeedEnd) (inputs : Inputs) (output notes : Device SinkTold) (streams : List (StreamPrefix Plain))
    → GatheredInputs (inputs_of plan) input end inputs → IsSolution (plain_job laws plan inputs) streams
    → MetShort (told laws report plan inputs end streams) (failed laws report plan inputs end streams) output notes → RanShort laws report plan (run_devices input output notes)
ran-short laws report plan input end inputs output notes streams gathered solution wrote = record {
  read = gathered.read;
  input = gathered.came;
  answer = told laws report plan inputs end streams;
  is = is-answer laws report plan inputs end gathered.read streams gathered.given gathered.ended solution;
  short = subst (λ (l : List ℕ). MetShort (told laws report plan inputs end streams) l output notes)
      (ap (λ (i : Inputs). failed laws report plan i end streams) gathered.given ∙ ap (λ (e : FeedEnd). failed_notes (by_lines report) (job_of laws plan gathered.read) e streams) gathered.ended) wrote;
}

took-some : (laws : Laws) (plan : Plan) (input : Device SourceTold) (end : FeedEnd) (inputs : Inputs) (output : Device SinkTold) (streams : List (StreamPrefix Plain))
    → GatheredInputs (inputs_of plan) input end inputs → IsSolution (plain_job laws plan inputs) streams → TookFront output (output_text_of plan streams) → TookSome laws plan input output
took-some laws plan input end inputs output streams gathered solution front = record {
  read = gathered.read;
  came = gathered.came;
  streams = streams;
  solution = subst (λ (i : Inputs). IsSolution (plain_job laws plan i) streams) gathered.given solution;
  front = front;
}

-- memory sufficed to read an input that gave lines and an end, and no status of such an input is that memory ran out
pub no-want : (plan : Plan) (input : Device SourceTold) (end : FeedEnd) (fs : List Fault) (ns : List ℕ) (came : List ℕ) (read : Read) → CameAs end (inputs_of plan) input came read
    → OutOfMemory ≡ status_of end fs ns → ⊥
no-want plan input Ended [] [] came read by is = cc
no-want plan input Ended [] (n ∷ ns) came read by is = cc
no-want plan input Ended (f ∷ fs) ns came read by is = cc
no-want plan input (Failed lines) fs ns came read by is = cc
no-want plan input (Refused line cause) fs ns came read by is = cc
no-want plan input no_lines fs ns came read by is = absurd by

ran-by : (laws : Laws) (report : Reporting) (plan : Plan) (input : Device SourceTold) (end : FeedEnd) (inputs : Inputs) (status : Status) (output notes : Device SinkTold) (streams : List (StreamPrefix Plain))
    → GatheredInputs (inputs_of plan) input end inputs → IsSolution (plain_job laws plan inputs) streams
    → WroteBy status (told laws report plan inputs end streams) (failed laws report plan inputs end streams) output notes → Ran laws report plan status (run_devices input output notes)
ran-by laws report plan input end inputs Good output notes streams gathered solution by = ran-all laws report plan input end inputs Good output notes streams gathered solution by
ran-by laws report plan input end inputs LineRefused output notes streams gathered solution by = ran-all laws report plan input end inputs LineRefused output notes streams gathered solution by
ran-by laws report plan input end inputs StoreFault output notes streams gathered solution by = ran-all laws report plan input end inputs StoreFault output notes streams gathered solution by
ran-by laws report plan input end inputs Usage output notes streams gathered solution by = ran-all laws report plan input end inputs Usage output notes streams gathered solution by
ran-by laws report plan input end inputs GraphRefused output notes streams gathered solution by = ran-all laws report plan input end inputs GraphRefused output notes streams gathered solution by
ran-by laws report plan input end inputs NodeFault output notes streams gathered solution by = ran-all laws report plan input end inputs NodeFault output notes streams gathered solution by
ran-by laws report plan input end inputs Stalled output notes streams gathered solution by = ran-all laws report plan input end inputs Stalled output notes streams gathered solution by
ran-by laws report plan input end inputs ReadFault output notes streams gathered solution by = ran-all laws report plan input end inputs ReadFault output notes streams gathered solution by
ran-by laws report plan input end inputs WriteFault output notes streams gathered solution by = ran-short laws report plan input end inputs output notes streams gathered solution by
ran-by laws report plan input end inputs OutOfMemory output notes streams gathered solution by =
    let fs = faults (plain_job laws plan inputs) streams in
    absurd (no-want plan input gathered.read.end fs (stalled streams) gathered.came.came gathered.read gathered.came.by
    (by.told ∙ ap (λ (e : FeedEnd). status_of e fs (stalled streams)) gathered.ended))

pub ran-wrote : (laws : Laws) (report : Reporting) (plan : Plan) (input : Device SourceTold) (end : FeedEnd) (inputs : Inputs) (status : Status) (output notes : Device SinkTold)
    → GatheredInputs (inputs_of plan) input end inputs → Wrote (by_lines report) (plain_job laws plan inputs) end status output notes → Ran laws report plan status (run_devices input output notes)
ran-wrote laws report plan input end inputs status output notes gathered wrote = ran-by laws report plan input end inputs status output notes wrote.streams gathered wrote.solution wrote.by

pub ran-out : (laws : Laws) (report : Reporting) (plan : Plan) (input : Device SourceTold) (end : FeedEnd) (inputs : Inputs) (output : Device SinkTold)
    → GatheredInputs (inputs_of plan) input end inputs → WroteSome (plain_job laws plan inputs) output → Untouched output ⊎ TookSome laws plan input output
ran-out laws report plan input end inputs output gathered (inl untouched) = inl untouched
ran-out laws report plan input end inputs output gathered (inr wrote) = inr (took-some laws plan input end inputs output wrote.streams gathered wrote.solution wrote.front)

-- the note that memory ran out was taken by notes that nothing else was written to
pub noted-then : (before middle now : SinkTold) (text : List ℕ) → middle ≡ before → TookNotes (device middle now) text → TookNotes (device before now) text
noted-then before middle now text same noted = subst (λ (s : SinkTold). TookNotes (device s now) text) same noted

-- What was written --

wrote-all : (end : FeedEnd) (fs : List Fault) (ns : List ℕ) (answer : RunAnswer) (failed : List ℕ) (output notes : Device SinkTold) → Meets answer (status_of end fs ns) output notes
    → WroteBy (status_of end fs ns) answer failed output notes
wrote-all Ended [] [] answer failed output notes wrote = wrote
wrote-all Ended [] (n ∷ ns) answer failed output notes wrote = wrote
wrote-all Ended (f ∷ fs) ns answer failed output notes wrote = wrote
wrote-all (Failed lines) fs ns answer failed output notes wrote = wrote
wrote-all (Refused line cause) fs ns answer failed output notes wrote = wrote
wrote-all no_lines fs ns answer failed output notes wrote = wrote

pub noted-from : (all : Bool) (notes : Device SinkTold) (text : List ℕ) → Sent all notes.before notes.now text → TookNotes notes text
noted-from true notes text sent = inl sent
noted-from false notes text sent = inr sent

-- the notes at a write fault of the output
wrote-failed : (answer : RunAnswer) (failed : List ℕ) (status : Status) (noted : Bool) (said : Status → List ℕ) (output notes : Device SinkTold)
    → status ≡ WriteFault → failed ≡ said WriteFault → Sent false output.before output.now answer.output → Sent noted notes.before notes.now (said status)
    → MetShort answer failed output notes
wrote-failed answer failed status noted said output notes is failed_is text sent = record {
  rose = inl text.rose;
  front = front-sent false output.before output.now answer.output text;
  whole = inl text.rose;
  noted = inl (text.rose, noted-from noted notes failed (subst (λ (l : List ℕ). Sent noted notes.before notes.now l) (ap said is ∙ sym failed_is) sent));
}

-- the notes are those of the status; the status is that of a write fault if a write of the output failed
wrote-by : (end : FeedEnd) (fs : List Fault) (ns : List ℕ) (answer : RunAnswer) (failed : List ℕ) (status : Status) (written noted : Bool) (said : Status → List ℕ) (output notes : Device SinkTold)
    → status ≡ (if written then status_of end fs ns else WriteFault) → answer.status ≡ status_of end fs ns → answer.notes ≡ said (status_of end fs ns) → failed ≡ said WriteFault
    → Sent written output.before output.now answer.output → Sent noted notes.before notes.now (said status)
    → WroteBy (if noted then status else WriteFault) answer failed output notes
wrote-by end fs ns answer failed status true true said output notes is told notes_are failed_is text sent =
    subst (λ (s : Status). WroteBy s answer failed output notes) (sym is) (wrote-all end fs ns answer failed output notes
    (record { text = text; noted = subst (λ (l : List ℕ). Sent true notes.before notes.now l) (ap said is ∙ sym notes_are) sent; told = sym told }))
wrote-by end fs ns answer failed status true false said output notes is told notes_are failed_is text sent =
    let part = subst (λ (l : List ℕ). Sent false notes.before notes.now l) (ap said is ∙ sym notes_are) sent in
    record { rose = inr part.rose; front = front-sent true output.before output.now answer.output text; whole = inr text; noted = inr (text, part) }
wrote-by end fs ns answer failed status false true said output notes is told notes_are failed_is text sent =
    subst (λ (s : Status). WroteBy s answer failed output notes) (sym is) (wrote-failed answer failed status true said output notes is failed_is text sent)
wrote-by end fs ns answer failed status false false said output notes is told notes_are failed_is text sent =
    wrote-failed answer failed status false said output notes is failed_is text sent

wrote : (telling : Telling) (job : Job) (end : FeedEnd) (streams : List (StreamPrefix Plain)) (status result : Status) (written noted : Bool) (output notes : Device SinkTold)
    → IsSolution job streams → status ≡ (if written then status_of end (faults job streams) (stalled streams) else WriteFault)
    → Sent written output.before output.now (answer_of telling job end streams).output
    → Sent noted notes.before notes.now (notes_at status telling job end streams) → result ≡ (if noted then status else WriteFault)
    → Wrote telling job end result output notes
wrote telling job end streams status result written noted output notes solution is text notes_text result_is = record {
  streams = streams;
  solution = solution;
  by = subst (λ (s : Status). WroteBy s (answer_of telling job end streams) (failed_notes telling job end streams) output notes) (sym result_is)
      (wrote-by end (faults job streams) (stalled streams) (answer_of telling job end streams) (failed_notes telling job end streams) status written noted
      (λ (s : Status). notes_at s telling job end streams) output notes is refl refl refl text notes_text);
}

-- and so it is for a frozen job
wrote-frozen : (telling : Telling) (job : Job) (streams : List (StreamPrefix Plain)) (status result : Status) (written noted : Bool) (output notes : Device SinkTold)
    → IsSolution job streams → status ≡ (if written then status_of Ended (faults job streams) [] else WriteFault)
    → Sent written output.before output.now (output_in telling.form job.plan streams)
    → Sent noted notes.before notes.now (frozen_notes status telling job streams) → result ≡ (if noted then status else WriteFault)
    → WroteFrozen telling job result output notes
wrote-frozen telling job streams status result written noted output notes solution is text notes_text result_is = record {
  streams = streams;
  solution = solution;
  by = subst (λ (s : Status). WroteBy s (frozen_answer telling job streams) (failed_notes telling job Ended streams) output notes) (sym result_is)
      (wrote-by Ended (faults job streams) [] (frozen_answer telling job streams) (failed_notes telling job Ended streams) status written noted
      (λ (s : Status). frozen_notes s telling job streams) output notes is refl refl refl text notes_text);
}

-- what is said of outcomes that tell a job's streams, if these streams stalled
said-by : (status : Status) (plan : Plan) (end : FeedEnd) (outcomes : Outcomes) (ns : List ℕ) (report : Reporting) (job : Job) (streams : List (StreamPrefix Plain)) → job.plan ≡ plan
    → TellsOf job streams outcomes → told_notes status report plan end outcomes ns ≡ notes_by status job.plan end (faults job streams) (bounds_of streams) ns ++ asked_report report (report_of job streams)
said-by status plan end outcomes ns report job streams plan_is tells =
    let bounds : end_bounds outcomes.ends.items ≡ bounds_of streams = ap end_bounds tells.ends ∙ bounds-told streams in
    let told : told_notes status report plan end outcomes ns ≡ notes_by status job.plan end (faults job streams) (bounds_of streams) ns ++ [] ++ asked_report report (report_of job streams) =
    λ i. notes_by status (sym plan_is i) end (tells.faults i) (bounds i) ns ++ tells.arrivals i ++ asked_report report (report_by (sym plan_is i) (tells.sets i) (tells.ends i)) in
    told ∙ ap (λ (l : List ℕ). l ++ asked_report report (report_of job streams)) (append-nil (notes_by status job.plan end (faults job streams) (bounds_of streams) ns))

-- the text was put
sent-of : (plan : Plan) (view view' : TextView) (written : Bool) (before now : SinkTold) → ((first : SinkTold) (text : List ℕ) → HasPut first before view text → HasPut first now view' text)
    → (view'.failed ≡ false → view'.kept ≡ []) → written ≡ not view'.failed → (form : OutputForm) (job : Job) (streams : List (StreamPrefix Plain)) (first : SinkTold) → job.plan ≡ plan
    → HasPut first before view (output_in form plan streams) → Sent written first now (output_in form job.plan streams)
sent-of plan view view' written before now flush none written_is form job streams first plan_is put =
    subst (λ (b : Bool). Sent b first now (output_in form job.plan streams)) (sym written_is)
    (subst (λ (p : Plan). Sent (not view'.failed) first now (output_in form p streams)) (sym plan_is)
    (put-sent view'.failed first now view'.kept (output_in form plan streams) none (flush first (output_in form plan streams) put)))

-- the same, if the text was put, and the outcomes tell the rest
pub wrote-told : (plan : Plan) (end : FeedEnd) (outcomes : Outcomes) (ns : List ℕ) (report : Reporting) (view view' : TextView) (status result : Status) (written noted : Bool) (bytes said : List ℕ)
    (before now notes_before notes_now : SinkTold) → ((first : SinkTold) (text : List ℕ) → HasPut first before view text → HasPut first now view' text)
    → (view'.failed ≡ false → view'.kept ≡ []) → written ≡ not view'.failed → ns ≡ open_numbers outcomes.ends.items
    → status ≡ (if written then status_of end outcomes.faults ns else WriteFault)
    → said ≡ told_notes status report plan end outcomes ns → bytes ≡ said → Sent noted notes_before notes_now bytes → result ≡ (if noted then status else WriteFault)
    → (form : OutputForm) (job : Job) (streams : List (StreamPrefix Plain)) (first : SinkTold) → job.plan ≡ plan → IsSolution job streams → TellsOf job streams outcomes
    → HasPut first before view (output_in form plan streams) → Wrote (record { form = form; report = report }) job end result (device first now) (device notes_before notes_now)
wrote-told plan end outcomes ns report view view' status result written noted bytes said before now notes_before notes_now flush none written_is ns_is is said_is bytes_is sent result_is
    form job streams first plan_is solution tells put =
    let telling : Telling = record { form = form; report = report } in
    let numbers : ns ≡ stalled streams = ns_is ∙ ap open_numbers tells.ends ∙ open-stalled streams in
    let told_is : status ≡ (if written then status_of end (faults job streams) (stalled streams) else WriteFault) =
    is ∙ ap (λ (s : Status). if written then s else WriteFault) (ap (λ l. status_of end l ns) tells.faults ∙ ap (status_of end (faults job streams)) numbers) in
    let noted_is : bytes ≡ notes_at status telling job end streams =
    bytes_is ∙ said_is ∙ said-by status plan end outcomes ns report job streams plan_is tells
    ∙ ap (λ (l : List ℕ). notes_by status job.plan end (faults job streams) (bounds_of streams) l ++ asked_report report (report_of job streams)) numbers in
    wrote telling job end streams status result written noted (device first now) (device notes_before notes_now) solution told_is
    (sent-of plan view view' written before now flush none written_is form job streams first plan_is put)
    (subst (λ (l : List ℕ). Sent noted notes_before notes_now l) noted_is sent) result_is

pub wrote-told-frozen : (plan : Plan) (outcomes : Outcomes) (report : Reporting) (view view' : TextView) (status result : Status) (written noted : Bool) (bytes said : List ℕ)
    (before now notes_before notes_now : SinkTold) → ((first : SinkTold) (text : List ℕ) → HasPut first before view text → HasPut first now view' text)
    → (view'.failed ≡ false → view'.kept ≡ []) → written ≡ not view'.failed
    → status ≡ (if written then status_of Ended outcomes.faults [] else WriteFault)
    → said ≡ told_notes status report plan Ended outcomes [] → bytes ≡ said → Sent noted notes_before notes_now bytes → result ≡ (if noted then status else WriteFault)
    → (form : OutputForm) (job : Job) (streams : List (StreamPrefix Plain)) (first : SinkTold) → job.plan ≡ plan → IsSolution job streams → TellsOf job streams outcomes
    → HasPut first before view (output_in form plan streams) → WroteFrozen (record { form = form; report = report }) job result (device first now) (device notes_before notes_now)
wrote-told-frozen plan outcomes report view view' status result written noted bytes said before now notes_before notes_now flush none written_is is said_is bytes_is sent result_is
    form job streams first plan_is solution tells put =
    let telling : Telling = record { form = form; report = report } in
    wrote-frozen telling job streams status result written noted (device first now) (device notes_before notes_now) solution
    (is ∙ ap (λ (s : Status). if written then s else WriteFault) (ap (λ l. status_of Ended l []) tells.faults))
    (sent-of plan view view' written before now flush none written_is form job streams first plan_is put)
    (subst (λ (l : List ℕ). Sent noted notes_before notes_now l) (bytes_is ∙ said_is ∙ said-by status plan Ended outcomes [] report job streams plan_is tells) sent) result_is

-- and of whatever text was put
pub wrote-so : (plan : Plan) (end : FeedEnd) (outcomes : Outcomes) (ns : List ℕ) (report : Reporting) (view view' : TextView) (status result : Status) (written noted : Bool) (bytes said : List ℕ)
    (before now notes_before notes_now : SinkTold) → ((first : SinkTold) (text : List ℕ) → HasPut first before view text → HasPut first now view' text)
    → (view'.failed ≡ false → view'.kept ≡ []) → written ≡ not view'.failed → ns ≡ open_numbers outcomes.ends.items
    → status ≡ (if written then status_of end outcomes.faults ns else WriteFault)
    → said ≡ told_notes status report plan end outcomes ns → bytes ≡ said → Sent noted notes_before notes_now bytes → result ≡ (if noted then status else WriteFault)
    → (first : SinkTold) (whole : List ℕ) → HasPut first before view whole
    → WroteBy result (told_answer report plan end outcomes whole) (told_failed report plan end outcomes) (device first now) (device notes_before notes_now)
wrote-so plan end outcomes ns report view view' status result written noted bytes said before now notes_before notes_now flush none written_is ns_is is said_is bytes_is sent result_is first whole put =
    let opens = open_numbers outcomes.ends.items in
    let put_now : Sent written first now whole =
    subst (λ (b : Bool). Sent b first now whole) (sym written_is) (put-sent view'.failed first now view'.kept whole none (flush first whole put)) in
    let told_is : status ≡ (if written then status_of end outcomes.faults opens else WriteFault) = is ∙ ap (λ (l : List ℕ). if written then status_of end outcomes.faults l else WriteFault) ns_is in
    let said_now : bytes ≡ told_notes status report plan end outcomes opens = bytes_is ∙ said_is ∙ ap (λ (l : List ℕ). told_notes status report plan end outcomes l) ns_is in
    subst (λ (s : Status). WroteBy s (told_answer report plan end outcomes whole) (told_failed report plan end outcomes) (device first now) (device notes_before notes_now)) (sym result_is)
    (wrote-by end outcomes.faults opens (told_answer report plan end outcomes whole) (told_failed report plan end outcomes) status written noted (λ (s : Status). told_notes s report plan end outcomes opens)
    (device first now) (device notes_before notes_now) told_is refl refl refl put_now (subst (λ (l : List ℕ). Sent noted notes_before notes_now l) said_now sent))

-- What follows --

-- the status of an answer is told by how the input ended
told-by : (laws : Laws) (report : Reporting) (plan : Plan) (status : Status) (all : RunDevices) (ran : RanAll laws report plan status all)
    → (fs : List Fault) × (ns : List ℕ) × (status ≡ status_of ran.read.end fs ns)
told-by laws report plan status all ran =
    (faults (job_of laws plan ran.read) ran.is.streams, stalled ran.is.streams, ran.met.told ∙ ap (λ (a : RunAnswer). a.status) ran.is.is)

-- the input was read, unless memory ran out
pub ran-read : (laws : Laws) (report : Reporting) (plan : Plan) (status : Status) (all : RunDevices) → Ran laws report plan status all → status ≢ OutOfMemory → (read : Read) × CameTo (inputs_of plan) all.input read
ran-read laws report plan Good all ran some = (ran.read, ran.input)
ran-read laws report plan LineRefused all ran some = (ran.read, ran.input)
ran-read laws report plan StoreFault all ran some = (ran.read, ran.input)
ran-read laws report plan Usage all ran some = (ran.read, ran.input)
ran-read laws report plan GraphRefused all ran some = (ran.read, ran.input)
ran-read laws report plan NodeFault all ran some = (ran.read, ran.input)
ran-read laws report plan Stalled all ran some = (ran.read, ran.input)
ran-read laws report plan ReadFault all ran some = (ran.read, ran.input)
ran-read laws report plan WriteFault all ran some = (ran.read, ran.input)
ran-read laws report plan OutOfMemory all ran some = absurd (some refl)

-- the input was read once, also if memory ran out
pub ran-once : (laws : Laws) (report : Reporting) (plan : Plan) (status : Status) (all : RunDevices) → Ran laws report plan status all → ReadSome (inputs_of plan) all.input
ran-once laws report plan Good all ran = read-came (inputs_of plan) all.input ran.read ran.input
ran-once laws report plan LineRefused all ran = read-came (inputs_of plan) all.input ran.read ran.input
ran-once laws report plan StoreFault all ran = read-came (inputs_of plan) all.input ran.read ran.input
ran-once laws report plan Usage all ran = read-came (inputs_of plan) all.input ran.read ran.input
ran-once laws report plan GraphRefused all ran = read-came (inputs_of plan) all.input ran.read ran.input
ran-once laws report plan NodeFault all ran = read-came (inputs_of plan) all.input ran.read ran.input
ran-once laws report plan Stalled all ran = read-came (inputs_of plan) all.input ran.read ran.input
ran-once laws report plan ReadFault all ran = read-came (inputs_of plan) all.input ran.read ran.input
ran-once laws report plan WriteFault all ran = read-came (inputs_of plan) all.input ran.read ran.input
ran-once laws report plan OutOfMemory all ran = ran.2

abbrev pub ended_statuses : List Status
ended_statuses = Good ∷ NodeFault ∷ Stalled ∷ []

-- a status of a run whose input ended comes of no other end
pub end-by : (end : FeedEnd) (status : Status) (fs : List Fault) (ns : List ℕ) (graph : GraphInputs) (input : Device SourceTold) (came : List ℕ) (read : Read)
    → status ≡ status_of end fs ns → IsOneOf status ended_statuses → CameAs end graph input came read → EndCame input.before input.now
end-by Ended status fs ns graph input came read is one by = by.0
end-by (Failed lines) status fs ns graph input came read is (inl e) by = cc
end-by (Failed lines) status fs ns graph input came read is (inr (inl e)) by = cc
end-by (Failed lines) status fs ns graph input came read is (inr (inr (inl e))) by = cc
end-by (Failed lines) status fs ns graph input came read is (inr (inr (inr e))) by = absurd e
end-by (Refused line cause) status fs ns graph input came read is (inl e) by = cc
end-by (Refused line cause) status fs ns graph input came read is (inr (inl e)) by = cc
end-by (Refused line cause) status fs ns graph input came read is (inr (inr (inl e))) by = cc
end-by (Refused line cause) status fs ns graph input came read is (inr (inr (inr e))) by = absurd e
end-by no_lines status fs ns graph input came read is one by = absurd by

all-ended : (laws : Laws) (report : Reporting) (plan : Plan) (status : Status) (all : RunDevices) → RanAll laws report plan status all → IsOneOf status ended_statuses → EndCame all.input.before all.input.now
all-ended laws report plan status all ran one =
    let told = told-by laws report plan status all ran in
    end-by ran.read.end status told.0 told.1 (inputs_of plan) all.input ran.input.came ran.read told.2 one ran.input.by

pub no-one : (status : Status) → (status ≡ WriteFault) ⊎ (status ≡ OutOfMemory) → IsOneOf status ended_statuses → ⊥
no-one status (inl e) (inl f) = cc
no-one status (inl e) (inr (inl f)) = cc
no-one status (inl e) (inr (inr (inl f))) = cc
no-one status (inl e) (inr (inr (inr f))) = f
no-one status (inr e) (inl f) = cc
no-one status (inr e) (inr (inl f)) = cc
no-one status (inr e) (inr (inr (inl f))) = cc
no-one status (inr e) (inr (inr (inr f))) = f

pub ran-ended : (laws : Laws) (report : Reporting) (plan : Plan) (status : Status) (all : RunDevices) → Ran laws report plan status all → IsOneOf status ended_statuses → EndCame all.input.before all.input.now
ran-ended laws report plan Good all ran one = all-ended laws report plan Good all ran one
ran-ended laws report plan LineRefused all ran one = all-ended laws report plan LineRefused all ran one
ran-ended laws report plan StoreFault all ran one = all-ended laws report plan StoreFault all ran one
ran-ended laws report plan Usage all ran one = all-ended laws report plan Usage all ran one
ran-ended laws report plan GraphRefused all ran one = all-ended laws report plan GraphRefused all ran one
ran-ended laws report plan NodeFault all ran one = all-ended laws report plan NodeFault all ran one
ran-ended laws report plan Stalled all ran one = all-ended laws report plan Stalled all ran one
ran-ended laws report plan ReadFault all ran one = all-ended laws report plan ReadFault all ran one
ran-ended laws report plan WriteFault all ran one = absurd (no-one WriteFault (inl refl) one)
ran-ended laws report plan OutOfMemory all ran one = absurd (no-one OutOfMemory (inr refl) one)

-- Faults --

pub steady-risen : (a b : ℕ) → b ≡ a → HasRisen a b → ⊥
steady-risen a b steady risen = risen steady

pub one-unrisen : (a b : ℕ) → b ≡ one_more a → Unrisen a b → ⊥
one-unrisen a b more un = rises-after a a b refl more un

pub rose-unrisen : (a b : ℕ) → HasRisen a b → Unrisen a b → ⊥
rose-unrisen a b rose un = rose un

abbrev pub read_statuses : List Status
read_statuses = ReadFault ∷ WriteFault ∷ OutOfMemory ∷ []

pub failed-by : (end : FeedEnd) (status : Status) (fs : List Fault) (ns : List ℕ) (before now : SourceTold) (graph : GraphInputs) (input : Device SourceTold) (came : List ℕ) (read : Read)
    → status ≡ status_of end fs ns → FailedBy end before now → CameAs end graph input came read → HasRisen before.faults now.faults → IsOneOf status read_statuses
failed-by Ended status fs ns before now graph input came read is un by risen = absurd (steady-risen before.faults now.faults un.steady risen)
failed-by (Failed lines) status fs ns before now graph input came read is un by risen = inl is
failed-by (Refused line cause) status fs ns before now graph input came read is un by risen = absurd (steady-risen before.faults now.faults un.steady risen)
failed-by no_lines status fs ns before now graph input came read is un by risen = absurd by

all-risen : (laws : Laws) (report : Reporting) (plan : Plan) (status : Status) (all : RunDevices) → RanAll laws report plan status all → HasRisen all.input.before.faults all.input.now.faults → IsOneOf status read_statuses
all-risen laws report plan status all ran risen =
    let told = told-by laws report plan status all ran in
    failed-by ran.read.end status told.0 told.1 all.input.before all.input.now (inputs_of plan) all.input ran.input.came ran.read told.2 ran.input.faults ran.input.by risen

pub read-risen : (laws : Laws) (report : Reporting) (plan : Plan) (status : Status) (all : RunDevices) → Ran laws report plan status all → HasRisen all.input.before.faults all.input.now.faults → IsOneOf status read_statuses
read-risen laws report plan Good all ran risen = all-risen laws report plan Good all ran risen
read-risen laws report plan LineRefused all ran risen = all-risen laws report plan LineRefused all ran risen
read-risen laws report plan StoreFault all ran risen = all-risen laws report plan StoreFault all ran risen
read-risen laws report plan Usage all ran risen = all-risen laws report plan Usage all ran risen
read-risen laws report plan GraphRefused all ran risen = all-risen laws report plan GraphRefused all ran risen
read-risen laws report plan NodeFault all ran risen = all-risen laws report plan NodeFault all ran risen
read-risen laws report plan Stalled all ran risen = all-risen laws report plan Stalled all ran risen
read-risen laws report plan ReadFault all ran risen = all-risen laws report plan ReadFault all ran risen
read-risen laws report plan WriteFault all ran risen = inr (inl refl)
read-risen laws report plan OutOfMemory all ran risen = inr (inr (inl refl))

abbrev pub WriteRisen : RunDevices → Type 0
WriteRisen all = HasRisen all.output.before.faults all.output.now.faults ⊎ HasRisen all.notes.before.faults all.notes.now.faults

write-steady : (laws : Laws) (report : Reporting) (plan : Plan) (status : Status) (all : RunDevices) → RanAll laws report plan status all → WriteRisen all → ⊥
write-steady laws report plan status all ran (inl risen) = steady-risen _ _ ran.met.text.steady risen
write-steady laws report plan status all ran (inr risen) = steady-risen _ _ ran.met.noted.steady risen

pub write-risen : (laws : Laws) (report : Reporting) (plan : Plan) (status : Status) (all : RunDevices) → Ran laws report plan status all → WriteRisen all → IsOneOf status (WriteFault ∷ OutOfMemory ∷ [])
write-risen laws report plan Good all ran risen = absurd (write-steady laws report plan Good all ran risen)
write-risen laws report plan LineRefused all ran risen = absurd (write-steady laws report plan LineRefused all ran risen)
write-risen laws report plan StoreFault all ran risen = absurd (write-steady laws report plan StoreFault all ran risen)
write-risen laws report plan Usage all ran risen = absurd (write-steady laws report plan Usage all ran risen)
write-risen laws report plan GraphRefused all ran risen = absurd (write-steady laws report plan GraphRefused all ran risen)
write-risen laws report plan NodeFault all ran risen = absurd (write-steady laws report plan NodeFault all ran risen)
write-risen laws report plan Stalled all ran risen = absurd (write-steady laws report plan Stalled all ran risen)
write-risen laws report plan ReadFault all ran risen = absurd (write-steady laws report plan ReadFault all ran risen)
write-risen laws report plan WriteFault all ran risen = inl refl
write-risen laws report plan OutOfMemory all ran risen = inr (inl refl)

-- The whole input --

-- if the input tells its bytes, and no read failed, its lines and its end are those of an input that ends after these bytes
pub none-left : (ended : Bool) (before now : SourceTold) (bytes left : List ℕ) → before.left ≡ Some bytes → now.left ≡ Some left → MetEnd false ended before now → ended ≡ true → left ≡ []
none-left true before now bytes left is is_left met e = let none : now.left ≡ Some [] = subst (λ (o : Option (List ℕ)). IfSome o (λ _. now.left ≡ Some [])) is met.none in cc
none-left false before now bytes left is is_left met e = cc

whole-by : (end : FeedEnd) (graph : GraphInputs) (input : Device SourceTold) (came bytes left : List ℕ) (read : Read) → input.before.left ≡ Some bytes → input.now.left ≡ Some left → bytes ≡ came ++ left
    → CameAs end graph input came read → FailedBy end input.before input.now → Unrisen input.before.faults input.now.faults → read ≡ ended_input graph bytes
whole-by Ended graph input came bytes left read is is_left cut by failed un =
    let none : input.now.left ≡ Some [] = subst (λ (o : Option (List ℕ)). IfSome o (λ _. input.now.left ≡ Some [])) is by.0.none in
    let nothing : left ≡ [] = cc in
    by.1 ∙ ap (ended_input graph) (sym (cut ∙ ap (λ l. came ++ l) nothing ∙ append-nil came))
whole-by (Failed lines) graph input came bytes left read is is_left cut by failed un = absurd (one-unrisen input.before.faults input.now.faults failed.once un)
whole-by (Refused line cause) graph input came bytes left read is is_left cut by failed un =
    by.2 left (none-left by.0 input.before input.now bytes left is is_left by.1) ∙ ap (ended_input graph) (sym cut)
whole-by no_lines graph input came bytes left read is is_left cut by failed un = absurd by

pub whole-read : (graph : GraphInputs) (input : Device SourceTold) (read : Read) (bytes : List ℕ) → CameTo graph input read → input.before.left ≡ Some bytes
    → Unrisen input.before.faults input.now.faults → read ≡ ended_input graph bytes
whole-read graph input read bytes came is un =
    let gave : Gave (Some bytes) input.now.left came.came = subst (λ (o : Option (List ℕ)). Gave o input.now.left came.came) is came.gave in
    whole-by read.end graph input came.came bytes gave.0 read is gave.1 gave.2 came.by came.faults un

all-answered : (laws : Laws) (report : Reporting) (plan : Plan) (status : Status) (all : RunDevices) → RanAll laws report plan status all → NoneFailed all → IsAnswered laws report plan status all
all-answered laws report plan status all ran none = by all.input.before.left refl
  where
    by : (o : Option (List ℕ)) → all.input.before.left ≡ o → IfSome o (λ bytes. (answer : RunAnswer) × AnswersEnded laws report plan bytes answer × Meets answer status all.output all.notes)
    by None is = tt
    by (Some bytes) is = (
      ran.answer,
      subst (λ (r : Read). IsAnswer laws report plan r ran.answer) (whole-read (inputs_of plan) all.input ran.read bytes ran.input is none.input) ran.is,
      ran.met,
    )

short-failed : (laws : Laws) (report : Reporting) (plan : Plan) (all : RunDevices) → RanShort laws report plan all → NoneFailed all → ⊥
short-failed laws report plan all ran none = by ran.short.rose
  where
    by : HasRisen all.output.before.faults all.output.now.faults ⊎ HasRisen all.notes.before.faults all.notes.now.faults → ⊥
    by (inl rose) = rose none.output
    by (inr rose) = rose none.notes

pub ran-answered : (laws : Laws) (report : Reporting) (plan : Plan) (status : Status) (all : RunDevices) → Ran laws report plan status all → NoneFailed all → status ≢ OutOfMemory → IsAnswered laws report plan status all
ran-answered laws report plan Good all ran none some = all-answered laws report plan Good all ran none
ran-answered laws report plan LineRefused all ran none some = all-answered laws report plan LineRefused all ran none
ran-answered laws report plan StoreFault all ran none some = all-answered laws report plan StoreFault all ran none
ran-answered laws report plan Usage all ran none some = all-answered laws report plan Usage all ran none
ran-answered laws report plan GraphRefused all ran none some = all-answered laws report plan GraphRefused all ran none
ran-answered laws report plan NodeFault all ran none some = all-answered laws report plan NodeFault all ran none
ran-answered laws report plan Stalled all ran none some = all-answered laws report plan Stalled all ran none
ran-answered laws report plan ReadFault all ran none some = all-answered laws report plan ReadFault all ran none
ran-answered laws report plan WriteFault all ran none some = absurd (short-failed laws report plan all ran none)
ran-answered laws report plan OutOfMemory all ran none some = absurd (some refl)
