-- What a recorded run came to, by its status, and what follows of it.
use Rattle.std.proofs.Common.{◌≡◌, ◌≢◌, ◌⊎◌, inl, inr, ℕ, List, [], ◌∷◌, Option, None, Some, IfSome, refl, ap, ◌∙◌, subst}
use Rattle.mg_edge.specs.Edge.{SinkTold}
use Rattle.mg_calc.specs.Rules.{Laws}
use Rattle.mg_calc.specs.declared.plan.Plan.{Plan}
use Rattle.mg_calc.specs.declared.node_fault.NodeFault.{NodeFault as Fault}
use Rattle.mg_calc.specs.Meaning.{faults, stalled}
use Rattle.mg_calc.specs.Told.{BoxTold}
use Rattle.mg_feed.specs.Graph.{inputs_of}
use Rattle.mg_feed.specs.Ran.{EndCame}
use Rattle.mg_answer.specs.Answer.{Read, RunAnswer, by_lines, failed_notes, job_of}
use Rattle.mg_answer.specs.Devices.{Device, RunDevices, HasRisen, NoneFailed, TookNotes}
use Rattle.mg_answer.specs.Notes.{memory_note}
use Rattle.mg_answer.specs.Told.{status_of}
use Rattle.mg_answer.specs.Wrote.{Meets, MetShort, WroteBy}
use Rattle.mg_answer.specs.Status.{IsOneOf}
use Rattle.mg_answer.specs.declared.status.Status.{Status}
use Rattle.mg_answer.specs.declared.status.Status.TheVariants.{Good, StoreFault, Usage, GraphRefused, LineRefused, NodeFault, Stalled, ReadFault, WriteFault, OutOfMemory}
use Rattle.mg_answer.proofs.Answering.{WriteRisen, ended_statuses, read_statuses, no-want, end-by, no-one, failed-by, steady-risen, rose-unrisen, whole-read}
use Rattle.mg_answer.specs.declared.run.Reporting.{Reporting}
use Rattle.mg_drive.specs.Traced.{IsTraced, TracesEnded, WroteTrace, TracedAll, Traced}

-- What was written --

-- the answer was written, or a write failed
pub either_wrote : (status : Status) (answer : RunAnswer) (failed : List ℕ) (output notes : Device SinkTold) → WroteBy status answer failed output notes → Meets answer status output notes ⊎ ((status ≡ WriteFault) × MetShort answer failed output notes)
either_wrote Good answer failed output notes wrote = inl wrote
either_wrote StoreFault answer failed output notes wrote = inl wrote
either_wrote Usage answer failed output notes wrote = inl wrote
either_wrote GraphRefused answer failed output notes wrote = inl wrote
either_wrote LineRefused answer failed output notes wrote = inl wrote
either_wrote NodeFault answer failed output notes wrote = inl wrote
either_wrote Stalled answer failed output notes wrote = inl wrote
either_wrote ReadFault answer failed output notes wrote = inl wrote
either_wrote WriteFault answer failed output notes wrote = inr (refl, wrote)
either_wrote OutOfMemory answer failed output notes wrote = inl wrote

abbrev notes_if_failed : {laws : Laws} (report : Reporting) (plan : Plan) (boxes : List BoxTold) (read : Read) (status : Status) (output notes : Device SinkTold) → WroteTrace laws report plan boxes read status output notes → List ℕ
notes_if_failed {laws} report plan boxes read status output notes w = failed_notes (by_lines report) (job_of laws plan read) read.end w.is.is_answer.streams

wrote_trace : {laws : Laws} (report : Reporting) (plan : Plan) (boxes : List BoxTold) (read : Read) (status : Status) (output notes : Device SinkTold) (w : WroteTrace laws report plan boxes read status output notes)
    → Meets w.answer status output notes ⊎ ((status ≡ WriteFault) × MetShort w.answer (notes_if_failed report plan boxes read status output notes w) output notes)
wrote_trace {laws} report plan boxes read status output notes w = either_wrote status w.answer (notes_if_failed report plan boxes read status output notes w) output notes w.by

-- the status is told by how the input ended
abbrev ToldBy : Read → Status → Type 0
ToldBy read status = (fs : List Fault) × (ns : List ℕ) × (status ≡ status_of read.end fs ns)

told_by_end : {laws : Laws} (report : Reporting) (plan : Plan) (boxes : List BoxTold) (read : Read) (status : Status) (output notes : Device SinkTold) (w : WroteTrace laws report plan boxes read status output notes)
    → Meets w.answer status output notes → ToldBy read status
told_by_end {laws} report plan boxes read status output notes w met =
    let streams = w.is.is_answer.streams in (
      faults (job_of laws plan read) streams,
      stalled streams,
      met.told ∙ ap (λ (a : RunAnswer). a.status) w.is.is ∙ ap (λ (a : RunAnswer). a.status) w.is.is_answer.is,
    )

pub traced_told : {laws : Laws} (report : Reporting) (plan : Plan) (boxes : List BoxTold) (status : Status) (all : RunDevices) (ran : TracedAll laws report plan boxes status all)
    → (status ≡ WriteFault) ⊎ ToldBy ran.read status
traced_told {laws} report plan boxes status all ran = elim (wrote_trace report plan boxes ran.read status all.output all.notes ran.holds) [
  | inl met ↦ inr (told_by_end report plan boxes ran.read status all.output all.notes ran.holds met)
  | inr failed ↦ inl failed.0
]

-- If memory ran out, the notes say so.
pub traced_noted : (laws : Laws) (report : Reporting) (plan : Plan) (boxes : List BoxTold) (all : RunDevices) → Traced laws report plan boxes OutOfMemory all → TookNotes all.notes memory_note
traced_noted laws report plan boxes all (inr out) = out.noted
traced_noted laws report plan boxes all (inl ran) =
    let told = told_by_end report plan boxes ran.read OutOfMemory all.output all.notes ran.holds ran.holds.by in
    absurd (no-want plan all.input ran.read.end told.0 told.1 ran.came.came ran.read ran.came.by told.2)

-- What follows --

pub traced_ended : (laws : Laws) (report : Reporting) (plan : Plan) (boxes : List BoxTold) (status : Status) (all : RunDevices) → Traced laws report plan boxes status all → IsOneOf status ended_statuses
    → EndCame all.input.before all.input.now
traced_ended laws report plan boxes status all (inr out) one = absurd (no-one status (inr out.is) one)
traced_ended laws report plan boxes status all (inl whole) one = elim (traced_told report plan boxes status all whole) [
  | inl failed ↦ absurd (no-one status (inl failed) one)
  | inr told ↦ end-by whole.read.end status told.0 told.1 (inputs_of plan) all.input whole.came.came whole.read told.2 one whole.came.by
]

pub traced_read_risen : (laws : Laws) (report : Reporting) (plan : Plan) (boxes : List BoxTold) (status : Status) (all : RunDevices) → Traced laws report plan boxes status all
    → HasRisen all.input.before.faults all.input.now.faults → IsOneOf status read_statuses
traced_read_risen laws report plan boxes status all (inr out) risen = inr (inr (inl out.is))
traced_read_risen laws report plan boxes status all (inl whole) risen = elim (traced_told report plan boxes status all whole) [
  | inl failed ↦ inr (inl failed)
  | inr told ↦ failed-by whole.read.end status told.0 told.1 all.input.before all.input.now (inputs_of plan) all.input whole.came.came whole.read told.2 whole.came.faults whole.came.by risen
]

pub met_steady : (answer : RunAnswer) (status : Status) (all : RunDevices) → Meets answer status all.output all.notes → WriteRisen all → ⊥
met_steady answer status all met (inl risen) = steady-risen _ _ met.text.steady risen
met_steady answer status all met (inr risen) = steady-risen _ _ met.noted.steady risen

pub traced_write_risen : (laws : Laws) (report : Reporting) (plan : Plan) (boxes : List BoxTold) (status : Status) (all : RunDevices) → Traced laws report plan boxes status all → WriteRisen all
    → IsOneOf status (WriteFault ∷ OutOfMemory ∷ [])
traced_write_risen laws report plan boxes status all (inr out) risen = inr (inl out.is)
traced_write_risen laws report plan boxes status all (inl whole) risen = elim (wrote_trace report plan boxes whole.read status all.output all.notes whole.holds) [
  | inl met ↦ absurd (met_steady whole.holds.answer status all met risen)
  | inr failed ↦ inl failed.0
]

short_failed : (answer : RunAnswer) (failed : List ℕ) (all : RunDevices) → MetShort answer failed all.output all.notes → NoneFailed all → ⊥
short_failed answer failed all short none = by short.rose
  where
    by : HasRisen all.output.before.faults all.output.now.faults ⊎ HasRisen all.notes.before.faults all.notes.now.faults → ⊥
    by (inl rose) = rose-unrisen _ _ rose none.output
    by (inr rose) = rose-unrisen _ _ rose none.notes

abbrev AnswersBytes : Laws → Option (List ℕ) → Reporting → Plan → List BoxTold → Status → RunDevices → Type 0
AnswersBytes laws left report plan boxes status all = IfSome left (λ bytes. (answer : RunAnswer) × TracesEnded laws report plan boxes bytes answer × Meets answer status all.output all.notes)

whole_answered : {laws : Laws} (report : Reporting) (plan : Plan) (boxes : List BoxTold) (status : Status) (all : RunDevices) (ran : TracedAll laws report plan boxes status all) → Meets ran.holds.answer status all.output all.notes → NoneFailed all
    → AnswersBytes laws all.input.before.left report plan boxes status all
whole_answered {laws} report plan boxes status all ran met none = by all.input.before.left refl
  where
    by : (o : Option (List ℕ)) → all.input.before.left ≡ o → AnswersBytes laws o report plan boxes status all
    by None is = tt
    by (Some bytes) is = (
      ran.holds.answer,
      subst (λ (r : Read). IsTraced laws report plan boxes r ran.holds.answer) (whole-read (inputs_of plan) all.input ran.read bytes ran.came is none.input) ran.holds.is,
      met,
    )

pub traced_answered : (laws : Laws) (report : Reporting) (plan : Plan) (boxes : List BoxTold) (status : Status) (all : RunDevices) → Traced laws report plan boxes status all → NoneFailed all → status ≢ OutOfMemory
    → IfSome all.input.before.left (λ bytes. (answer : RunAnswer) × TracesEnded laws report plan boxes bytes answer × Meets answer status all.output all.notes)
traced_answered laws report plan boxes status all (inr out) none some = absurd (some out.is)
traced_answered laws report plan boxes status all (inl whole) none some = elim (wrote_trace report plan boxes whole.read status all.output all.notes whole.holds) [
  | inl met ↦ whole_answered report plan boxes status all whole met none
  | inr failed ↦ absurd (short_failed whole.holds.answer (notes_if_failed report plan boxes whole.read status all.output all.notes whole.holds) all failed.1 none)
]
