-- What a recorded run that was made again did, by its status, and what follows from that.
use Rattle.std.proofs.Common.{◌≡◌, ◌≢◌, ◌⊎◌, inl, inr, ℕ, Bool, true, false, List, [], ◌∷◌, ◌++◌, Option, None, Some, IfSome, refl, sym, ap, ◌∙◌, subst, append-nil}
use Rattle.mg_edge.specs.Edge.{SourceTold, SinkTold, HasRisen}
use Rattle.mg_edge.specs.Runs.{Gave}
use Rattle.mg_edge.proofs.Runs.{TookAll-start}
use Rattle.mg_calc.specs.Rules.{Laws}
use Rattle.mg_calc.specs.declared.inputs.Inputs.{Inputs}
use Rattle.mg_calc.specs.declared.plan.Plan.{Plan}
use Rattle.mg_calc.specs.declared.node_fault.NodeFault.{NodeFault as Fault}
use Rattle.mg_calc.specs.Equations.{Job}
use Rattle.mg_calc.specs.Meaning.{faults, stalled}
use Rattle.mg_calc.specs.Told.{BoxTold}
use Rattle.mg_feed.specs.Lines.{all_lines}
use Rattle.mg_feed.specs.Ran.{EndCame}
use Rattle.mg_feed.specs.declared.feed_end.FeedEnd.TheVariants.{Ended}
use Rattle.mg_answer.specs.Answer.{RunAnswer, by_lines, answer_of, failed_notes}
use Rattle.mg_answer.specs.Frozen.{frozen_answer}
use Rattle.mg_answer.specs.Notes.{memory_note}
use Rattle.mg_answer.specs.Devices.{Device, RunDevices, Untouched, TookText, TookNotes, HasRisen, Unrisen, NoneFailed}
use Rattle.mg_answer.specs.Told.{ended_status}
use Rattle.mg_answer.specs.Wrote.{Meets, WroteBy}
use Rattle.mg_answer.specs.Status.{IsOneOf}
use Rattle.mg_answer.specs.declared.status.Status.{Status}
use Rattle.mg_answer.specs.declared.status.Status.TheVariants.{Good, StoreFault, Usage, GraphRefused, LineRefused, NodeFault, Stalled, ReadFault, WriteFault, OutOfMemory}
use Rattle.mg_answer.proofs.Answering.{WriteRisen, ended_statuses, read_statuses, no-one, steady-risen, one-unrisen, rose-unrisen, none-left}
use Rattle.mg_answer.specs.declared.run.Reporting.{Reporting}
use Rattle.mg_drive.proofs.TracesRan.{met_steady}
use Rattle.mg_replay.specs.Replay.{CameAs, FailsAs, LinesComeTo, WasRead}
use Rattle.mg_replay.specs.Note.{trace_note, trace_status, WroteNote}
use Rattle.mg_replay.specs.Replayed.{job_over, AnswersJob, AnswersEnd, AnswersTrace, WroteJob, WroteEnd, Replayed, ReplayedBy}
use Rattle.mg_replay.specs.declared.trace_end.TraceEnd.{TraceEnd}
use Rattle.mg_replay.specs.declared.trace_end.TraceEnd.TheVariants.{Accepted, Refused, Failed}

-- What was written --

-- the answer was met, or a write failed
abbrev MetOr : RunAnswer → Status → Device SinkTold → Device SinkTold → Type 0
MetOr answer status output notes =
    ((status ≡ WriteFault) × (HasRisen output.before.faults output.now.faults ⊎ HasRisen notes.before.faults notes.now.faults)) ⊎ Meets answer status output notes

met_by : (status : Status) (answer : RunAnswer) (failed : List ℕ) (output notes : Device SinkTold) → WroteBy status answer failed output notes → MetOr answer status output notes
met_by Good answer failed output notes wrote = inr wrote
met_by StoreFault answer failed output notes wrote = inr wrote
met_by Usage answer failed output notes wrote = inr wrote
met_by GraphRefused answer failed output notes wrote = inr wrote
met_by LineRefused answer failed output notes wrote = inr wrote
met_by NodeFault answer failed output notes wrote = inr wrote
met_by Stalled answer failed output notes wrote = inr wrote
met_by ReadFault answer failed output notes wrote = inr wrote
met_by WriteFault answer failed output notes wrote = inl (refl, wrote.rose)
met_by OutOfMemory answer failed output notes wrote = inr wrote

-- the status of the answer, by how the reading ended
abbrev end_status : TraceEnd → List Fault → List ℕ → Status
end_status Accepted fs ns = ended_status fs ns
end_status (Refused line cause) fs ns = LineRefused
end_status (Failed lines) fs ns = ReadFault

-- the texts that were written are those of an answer
record EndMet (laws : Laws) (end : TraceEnd) (report : Reporting) (plan : Plan) (job : Option Inputs) (status : Status) (output notes : Device SinkTold) : Type 0 where
  answer : RunAnswer
  is : AnswersEnd laws end report plan job answer
  fs : List Fault
  ns : List ℕ
  says : answer.status ≡ end_status end fs ns
  met : MetOr answer status output notes

job_met : {laws : Laws} (ended : Bool) (report : Reporting) (plan : Plan) (inputs : Inputs) (status : Status) (output notes : Device SinkTold) → inputs.ended ≡ ended → WroteJob ended report (job_over laws plan inputs) status output notes
    → EndMet laws Accepted report plan (Some inputs) status output notes
job_met {laws} true report plan inputs status output notes is wrote =
    let job : Job = job_over laws plan inputs in
    let answer : RunAnswer = answer_of (by_lines report) job Ended wrote.streams in
    record {
      answer = answer;
      is = subst (λ (b : Bool). AnswersJob b report job answer) (sym is) (record { streams = wrote.streams; solution = wrote.solution; is = refl });
      fs = faults job wrote.streams;
      ns = stalled wrote.streams;
      says = refl;
      met = met_by status answer (failed_notes (by_lines report) job Ended wrote.streams) output notes wrote.by;
    }
job_met {laws} false report plan inputs status output notes is wrote =
    let job : Job = job_over laws plan inputs in
    let answer : RunAnswer = frozen_answer (by_lines report) job wrote.streams in
    record {
      answer = answer;
      is = subst (λ (b : Bool). AnswersJob b report job answer) (sym is) (record { streams = wrote.streams; solution = wrote.solution; is = refl });
      fs = faults job wrote.streams;
      ns = [];
      says = refl;
      met = met_by status answer (failed_notes (by_lines report) job Ended wrote.streams) output notes wrote.by;
    }

-- a sink that wasn't used took nothing
took_nothing : (sink : Device SinkTold) → Untouched sink → TookText sink []
took_nothing sink untouched = record { whole = rw untouched (TookAll-start sink.before.taken); steady = ap (λ s. s.faults) untouched }

abbrev note_answer : TraceEnd → RunAnswer
note_answer end = record { output = []; notes = trace_note end; status = trace_status end }

note_met : (end : TraceEnd) (status : Status) (output notes : Device SinkTold) → Untouched output → WroteNote end status notes → MetOr (note_answer end) status output notes
note_met end status output notes untouched (inl whole) = inr (record { text = took_nothing output untouched; noted = whole.1; told = whole.0 })
note_met end status output notes untouched (inr part) = inl (part.0, inr part.1.rose)

end_met : {laws : Laws} (end : TraceEnd) (report : Reporting) (plan : Plan) (job : Option Inputs) (status : Status) (output notes : Device SinkTold) → WroteEnd laws end report plan job status output notes
    → EndMet laws end report plan job status output notes
end_met {laws} Accepted report plan None status output notes wrote = absurd wrote
end_met {laws} Accepted report plan (Some inputs) status output notes wrote = job_met inputs.ended report plan inputs status output notes refl wrote
end_met {laws} (Refused line cause) report plan job status output notes wrote =
    record { answer = note_answer (Refused line cause); is = refl; fs = []; ns = []; says = refl; met = note_met (Refused line cause) status output notes wrote.0 wrote.1 }
end_met {laws} (Failed lines) report plan job status output notes wrote =
    record { answer = note_answer (Failed lines); is = refl; fs = []; ns = []; says = refl; met = note_met (Failed lines) status output notes wrote.0 wrote.1 }

-- The call --

-- memory ran out, or all lines were read
out_or : {laws : Laws} (status : Status) (report : Reporting) (plan : Plan) (all : RunDevices) (boxes : Device (List BoxTold)) → ReplayedBy laws status report plan all boxes → (status ≡ OutOfMemory) ⊎ Replayed laws report plan status all boxes
out_or {laws} status report plan all boxes (inl whole) = inr whole
out_or {laws} status report plan all boxes (inr out) = inl out.is

-- No status of a whole replay tells that memory ran out --

no_want : (fs : List Fault) (ns : List ℕ) → OutOfMemory ≡ ended_status fs ns → ⊥
no_want [] [] is = cc
no_want [] (n ∷ ns) is = cc
no_want (f ∷ fs) ns is = cc

job_wants_none : (ended : Bool) (report : Reporting) (job : Job) (output notes : Device SinkTold) → WroteJob ended report job OutOfMemory output notes → ⊥
job_wants_none true report job output notes wrote = no_want (faults job wrote.streams) (stalled wrote.streams) wrote.by.told
job_wants_none false report job output notes wrote = no_want (faults job wrote.streams) [] wrote.by.told

note_wants_none : (end : TraceEnd) (notes : Device SinkTold) → WroteNote end OutOfMemory notes → ⊥
note_wants_none Accepted notes (inl whole) = absurd (let e = whole.0 in cc)
note_wants_none (Refused line cause) notes (inl whole) = absurd (let e = whole.0 in cc)
note_wants_none (Failed lines) notes (inl whole) = absurd (let e = whole.0 in cc)
note_wants_none end notes (inr part) = absurd (let e = part.0 in cc)

wants_none : (laws : Laws) (end : TraceEnd) (report : Reporting) (plan : Plan) (job : Option Inputs) (output notes : Device SinkTold) → WroteEnd laws end report plan job OutOfMemory output notes → ⊥
wants_none laws Accepted report plan None output notes wrote = wrote
wants_none laws Accepted report plan (Some inputs) output notes wrote = job_wants_none inputs.ended report (job_over laws plan inputs) output notes wrote
wants_none laws (Refused line cause) report plan job output notes wrote = note_wants_none (Refused line cause) notes wrote.1
wants_none laws (Failed lines) report plan job output notes wrote = note_wants_none (Failed lines) notes wrote.1

-- if memory ran out, the notes say so
pub replayed_noted : (laws : Laws) (report : Reporting) (plan : Plan) (all : RunDevices) (boxes : Device (List BoxTold)) → ReplayedBy laws OutOfMemory report plan all boxes → TookNotes all.notes memory_note
replayed_noted laws report plan all boxes (inl whole) = absurd (wants_none laws whole.end report plan whole.job all.output all.notes whole.wrote)
replayed_noted laws report plan all boxes (inr out) = out.noted

-- The status --

-- no status of a replay is that of a file that can't be loaded, or of words that are no command
other_status : (end : TraceEnd) (status : Status) (fs : List Fault) (ns : List ℕ) → (status ≡ StoreFault) ⊎ (status ≡ Usage) → status ≡ end_status end fs ns → ⊥
other_status Accepted status [] [] (inl store) is = cc
other_status Accepted status [] (n ∷ ns) (inl store) is = cc
other_status Accepted status (f ∷ fs) ns (inl store) is = cc
other_status (Refused line cause) status fs ns (inl store) is = cc
other_status (Failed lines) status fs ns (inl store) is = cc
other_status Accepted status [] [] (inr usage) is = cc
other_status Accepted status [] (n ∷ ns) (inr usage) is = cc
other_status Accepted status (f ∷ fs) ns (inr usage) is = cc
other_status (Refused line cause) status fs ns (inr usage) is = cc
other_status (Failed lines) status fs ns (inr usage) is = cc

other_write : (status : Status) → (status ≡ StoreFault) ⊎ (status ≡ Usage) → status ≡ WriteFault → ⊥
other_write status (inl store) is = cc
other_write status (inr usage) is = cc

other_out : (status : Status) → (status ≡ StoreFault) ⊎ (status ≡ Usage) → status ≡ OutOfMemory → ⊥
other_out status (inl store) is = cc
other_out status (inr usage) is = cc

pub replayed_otherwise : (laws : Laws) (status : Status) (report : Reporting) (plan : Plan) (all : RunDevices) (boxes : Device (List BoxTold)) → (status ≡ StoreFault) ⊎ (status ≡ Usage) → ReplayedBy laws status report plan all boxes → ⊥
replayed_otherwise laws status report plan all boxes other ran = by (out_or status report plan all boxes ran)
  where
    by : (status ≡ OutOfMemory) ⊎ Replayed laws report plan status all boxes → ⊥
    by (inl out) = other_out status other out
    by (inr whole) =
        let e = end_met whole.end report plan whole.job status all.output all.notes whole.wrote in
        elim e.met [
          | inl failed ↦ other_write status other failed.0
          | inr met ↦ other_status whole.end status e.fs e.ns other (met.told ∙ e.says)
        ]

-- The input's end --

ended_by : (laws : Laws) (end : TraceEnd) (status : Status) (fs : List Fault) (ns : List ℕ) (plan : Plan) (boxes : List BoxTold) (input : Device SourceTold) (came : List ℕ) (job : Option Inputs)
    → status ≡ end_status end fs ns → IsOneOf status ended_statuses → CameAs laws end plan boxes input came job → EndCame input.before input.now
ended_by laws Accepted status fs ns plan boxes input came job is one by = by.0
ended_by laws (Refused line cause) status fs ns plan boxes input came job is (inl e) by = cc
ended_by laws (Refused line cause) status fs ns plan boxes input came job is (inr (inl e)) by = cc
ended_by laws (Refused line cause) status fs ns plan boxes input came job is (inr (inr (inl e))) by = cc
ended_by laws (Refused line cause) status fs ns plan boxes input came job is (inr (inr (inr e))) by = absurd e
ended_by laws (Failed lines) status fs ns plan boxes input came job is (inl e) by = cc
ended_by laws (Failed lines) status fs ns plan boxes input came job is (inr (inl e)) by = cc
ended_by laws (Failed lines) status fs ns plan boxes input came job is (inr (inr (inl e))) by = cc
ended_by laws (Failed lines) status fs ns plan boxes input came job is (inr (inr (inr e))) by = absurd e

pub replayed_ended : (laws : Laws) (report : Reporting) (plan : Plan) (status : Status) (all : RunDevices) (boxes : Device (List BoxTold)) → ReplayedBy laws status report plan all boxes → IsOneOf status ended_statuses
    → EndCame all.input.before all.input.now
replayed_ended laws report plan status all boxes ran one = by (out_or status report plan all boxes ran)
  where
    by : (status ≡ OutOfMemory) ⊎ Replayed laws report plan status all boxes → EndCame all.input.before all.input.now
    by (inl out) = absurd (no-one status (inr out) one)
    by (inr whole) =
        let e = end_met whole.end report plan whole.job status all.output all.notes whole.wrote in
        elim e.met [
          | inl failed ↦ absurd (no-one status (inl failed.0) one)
          | inr met ↦ ended_by laws whole.end status e.fs e.ns plan boxes.before all.input whole.read.came whole.job (met.told ∙ e.says) one whole.read.by
        ]

-- Faults --

failed_read : (end : TraceEnd) (status : Status) (fs : List Fault) (ns : List ℕ) (before now : SourceTold) → status ≡ end_status end fs ns → FailsAs end before now → HasRisen before.faults now.faults → IsOneOf status read_statuses
failed_read Accepted status fs ns before now is un risen = absurd (steady-risen before.faults now.faults un.steady risen)
failed_read (Refused line cause) status fs ns before now is un risen = absurd (steady-risen before.faults now.faults un.steady risen)
failed_read (Failed lines) status fs ns before now is un risen = inl is

pub replayed_read_risen : (laws : Laws) (report : Reporting) (plan : Plan) (status : Status) (all : RunDevices) (boxes : Device (List BoxTold)) → ReplayedBy laws status report plan all boxes → HasRisen all.input.before.faults all.input.now.faults
    → IsOneOf status read_statuses
replayed_read_risen laws report plan status all boxes ran risen = by (out_or status report plan all boxes ran)
  where
    by : (status ≡ OutOfMemory) ⊎ Replayed laws report plan status all boxes → IsOneOf status read_statuses
    by (inl out) = inr (inr (inl out))
    by (inr whole) =
        let e = end_met whole.end report plan whole.job status all.output all.notes whole.wrote in
        elim e.met [
          | inl failed ↦ inr (inl failed.0)
          | inr met ↦ failed_read whole.end status e.fs e.ns all.input.before all.input.now (met.told ∙ e.says) whole.read.faults risen
        ]

pub replayed_write_risen : (laws : Laws) (report : Reporting) (plan : Plan) (status : Status) (all : RunDevices) (boxes : Device (List BoxTold)) → ReplayedBy laws status report plan all boxes → WriteRisen all
    → IsOneOf status (WriteFault ∷ OutOfMemory ∷ [])
replayed_write_risen laws report plan status all boxes ran risen = by (out_or status report plan all boxes ran)
  where
    by : (status ≡ OutOfMemory) ⊎ Replayed laws report plan status all boxes → IsOneOf status (WriteFault ∷ OutOfMemory ∷ [])
    by (inl out) = inr (inl out)
    by (inr whole) =
        let e = end_met whole.end report plan whole.job status all.output all.notes whole.wrote in
        elim e.met [
          | inl failed ↦ inl failed.0
          | inr met ↦ absurd (met_steady e.answer status all met risen)
        ]

-- The whole input --

comes_by : (laws : Laws) (end : TraceEnd) (plan : Plan) (boxes : List BoxTold) (input : Device SourceTold) (came bytes left : List ℕ) (job : Option Inputs) → input.before.left ≡ Some bytes → input.now.left ≡ Some left → bytes ≡ came ++ left
    → CameAs laws end plan boxes input came job → FailsAs end input.before input.now → Unrisen input.before.faults input.now.faults → LinesComeTo laws plan boxes (all_lines bytes) job end
comes_by laws Accepted plan boxes input came bytes left job is is_left cut by failed un =
    let none : input.now.left ≡ Some [] = subst (λ (o : Option (List ℕ)). IfSome o (λ _. input.now.left ≡ Some [])) is by.0.none in
    let nothing : left ≡ [] = cc in
    subst (λ (bs : List ℕ). LinesComeTo laws plan boxes (all_lines bs) job Accepted) (sym (cut ∙ ap (λ l. came ++ l) nothing ∙ append-nil came)) by.1
comes_by laws (Refused line cause) plan boxes input came bytes left job is is_left cut by failed un =
    subst (λ (bs : List ℕ). LinesComeTo laws plan boxes (all_lines bs) job (Refused line cause)) (sym cut) (by.2 left (none-left by.0 input.before input.now bytes left is is_left by.1))
comes_by laws (Failed lines) plan boxes input came bytes left job is is_left cut by failed un = absurd (one-unrisen input.before.faults input.now.faults failed.once un)

comes_to : {laws : Laws} (end : TraceEnd) (plan : Plan) (boxes : List BoxTold) (input : Device SourceTold) (bytes : List ℕ) (job : Option Inputs) → WasRead laws plan boxes input job end → input.before.left ≡ Some bytes
    → Unrisen input.before.faults input.now.faults → LinesComeTo laws plan boxes (all_lines bytes) job end
comes_to {laws} end plan boxes input bytes job read is un =
    let gave : Gave (Some bytes) input.now.left read.came = subst (λ (o : Option (List ℕ)). Gave o input.now.left read.came) is read.gave in
    comes_by laws end plan boxes input read.came bytes gave.0 job is gave.1 gave.2 read.by read.faults un

abbrev AnswersBytes : Laws → Option (List ℕ) → Reporting → Plan → List BoxTold → Status → Device SinkTold → Device SinkTold → Type 0
AnswersBytes laws left report plan boxes status output notes = IfSome left (λ bytes. (answer : RunAnswer) × AnswersTrace laws report plan boxes (all_lines bytes) answer × Meets answer status output notes)

none_rose : (all : RunDevices) → NoneFailed all → HasRisen all.output.before.faults all.output.now.faults ⊎ HasRisen all.notes.before.faults all.notes.now.faults → ⊥
none_rose all none (inl rose) = rose-unrisen _ _ rose none.output
none_rose all none (inr rose) = rose-unrisen _ _ rose none.notes

pub replayed_answered : (laws : Laws) (report : Reporting) (plan : Plan) (status : Status) (all : RunDevices) (boxes : Device (List BoxTold)) → ReplayedBy laws status report plan all boxes → NoneFailed all → status ≢ OutOfMemory
    → IfSome all.input.before.left (λ bytes. (answer : RunAnswer) × AnswersTrace laws report plan boxes.before (all_lines bytes) answer × Meets answer status all.output all.notes)
replayed_answered laws report plan status all boxes ran none some = by (out_or status report plan all boxes ran)
  where
    at : (whole : Replayed laws report plan status all boxes) (left : Option (List ℕ)) → all.input.before.left ≡ left → AnswersBytes laws left report plan boxes.before status all.output all.notes
    at whole None is = tt
    at whole (Some bytes) is =
        let e = end_met whole.end report plan whole.job status all.output all.notes whole.wrote in
        elim e.met [
          | inl failed ↦ absurd (none_rose all none failed.1)
          | inr met ↦ (e.answer, record { job = whole.job; end = whole.end; comes = comes_to whole.end plan boxes.before all.input bytes whole.job whole.read is none.input; answers = e.is }, met)
        ]

    by : (status ≡ OutOfMemory) ⊎ Replayed laws report plan status all boxes → AnswersBytes laws all.input.before.left report plan boxes.before status all.output all.notes
    by (inl out) = absurd (some out)
    by (inr whole) = at whole all.input.before.left refl
