-- What a run that writes as it goes did, by its status, and what follows from that.
use Rattle.std.proofs.Common.{◌≡◌, ◌≢◌, ◌⊎◌, inl, inr, [], ◌∷◌, refl, sym, ◌∙◌}
use Rattle.mg_calc.specs.declared.plan.Plan.{Plan}
use Rattle.mg_calc.specs.Meaning.{faults, stalled}
use Rattle.mg_calc.specs.Rules.{Laws}
use Rattle.mg_feed.specs.Graph.{inputs_of}
use Rattle.mg_feed.specs.Ran.{EndCame}
use Rattle.mg_answer.specs.Answer.{Read, by_lines, job_of, failed_notes, answer_of}
use Rattle.mg_answer.specs.Devices.{RunDevices, HasRisen, NoneFailed}
use Rattle.mg_answer.specs.Wrote.{Meets, MetShort, Wrote}
use Rattle.mg_answer.specs.Status.{IsOneOf}
use Rattle.mg_answer.specs.Ran.{CameTo, RanAll, RanShort, RanOn, Ran, IsAnswered}
use Rattle.mg_answer.specs.declared.status.Status.{Status}
use Rattle.mg_answer.specs.declared.status.Status.TheVariants.{Good, StoreFault, Usage, GraphRefused, LineRefused, NodeFault, Stalled, ReadFault, WriteFault, OutOfMemory}
use Rattle.mg_answer.proofs.Answering.{no-want, WriteRisen, read_statuses, ran-read, ran-ended, ran-answered, read-risen, write-risen}
use Rattle.mg_answer.specs.declared.run.Reporting.{Reporting}

-- What was written --

wrote-answer : (laws : Laws) (report : Reporting) (plan : Plan) (read : Read) (status : Status) (all : RunDevices) → CameTo (inputs_of plan) all.input read
    → (wrote : Wrote (by_lines report) (job_of laws plan read) read.end status all.output all.notes)
    → Meets (answer_of (by_lines report) (job_of laws plan read) read.end wrote.streams) status all.output all.notes → RanAll laws report plan status all
wrote-answer laws report plan read status all came wrote by = record {
  read = read;
  input = came;
  answer = answer_of (by_lines report) (job_of laws plan read) read.end wrote.streams;
  is = record { streams = wrote.streams; solution = wrote.solution; is = refl };
  met = record { text = by.text; noted = by.noted; told = by.told };
}

wrote-short : (laws : Laws) (report : Reporting) (plan : Plan) (read : Read) (status : Status) (all : RunDevices) → CameTo (inputs_of plan) all.input read
    → (wrote : Wrote (by_lines report) (job_of laws plan read) read.end status all.output all.notes)
    → MetShort (answer_of (by_lines report) (job_of laws plan read) read.end wrote.streams) (failed_notes (by_lines report) (job_of laws plan read) read.end wrote.streams) all.output all.notes → RanShort laws report plan all
wrote-short laws report plan read status all came wrote by = record {
  read = read;
  input = came;
  answer = answer_of (by_lines report) (job_of laws plan read) read.end wrote.streams;
  is = record { streams = wrote.streams; solution = wrote.solution; is = refl };
  short = by;
}

pub written-ran : (laws : Laws) (report : Reporting) (plan : Plan) (read : Read) (all : RunDevices) (status : Status) → CameTo (inputs_of plan) all.input read
    → Wrote (by_lines report) (job_of laws plan read) read.end status all.output all.notes → RanOn laws report plan status all
written-ran laws report plan read all Good came wrote = wrote-answer laws report plan read Good all came wrote wrote.by
written-ran laws report plan read all LineRefused came wrote = wrote-answer laws report plan read LineRefused all came wrote wrote.by
written-ran laws report plan read all StoreFault came wrote = wrote-answer laws report plan read StoreFault all came wrote wrote.by
written-ran laws report plan read all Usage came wrote = wrote-answer laws report plan read Usage all came wrote wrote.by
written-ran laws report plan read all GraphRefused came wrote = wrote-answer laws report plan read GraphRefused all came wrote wrote.by
written-ran laws report plan read all NodeFault came wrote = wrote-answer laws report plan read NodeFault all came wrote wrote.by
written-ran laws report plan read all Stalled came wrote = wrote-answer laws report plan read Stalled all came wrote wrote.by
written-ran laws report plan read all ReadFault came wrote = wrote-answer laws report plan read ReadFault all came wrote wrote.by
written-ran laws report plan read all WriteFault came wrote = wrote-short laws report plan read WriteFault all came wrote wrote.by
written-ran laws report plan read all OutOfMemory came wrote =
    absurd (no-want plan all.input read.end (faults (job_of laws plan read) wrote.streams) (stalled wrote.streams) came.came read came.by wrote.by.told)

-- What follows --

-- unless memory ran out, such a run has the whole answer at its end
ran-whole : (laws : Laws) (report : Reporting) (plan : Plan) (status : Status) (all : RunDevices) → RanOn laws report plan status all → status ≢ OutOfMemory → Ran laws report plan status all
ran-whole laws report plan Good all ran some = ran
ran-whole laws report plan LineRefused all ran some = ran
ran-whole laws report plan StoreFault all ran some = ran
ran-whole laws report plan Usage all ran some = ran
ran-whole laws report plan GraphRefused all ran some = ran
ran-whole laws report plan NodeFault all ran some = ran
ran-whole laws report plan Stalled all ran some = ran
ran-whole laws report plan ReadFault all ran some = ran
ran-whole laws report plan WriteFault all ran some = ran
ran-whole laws report plan OutOfMemory all ran some = absurd (some refl)

is-want : (status : Status) → (status ≡ OutOfMemory) ⊎ (status ≢ OutOfMemory)
is-want Good = inr (λ is. cc)
is-want LineRefused = inr (λ is. cc)
is-want StoreFault = inr (λ is. cc)
is-want Usage = inr (λ is. cc)
is-want GraphRefused = inr (λ is. cc)
is-want NodeFault = inr (λ is. cc)
is-want Stalled = inr (λ is. cc)
is-want ReadFault = inr (λ is. cc)
is-want WriteFault = inr (λ is. cc)
is-want OutOfMemory = inl refl

pub on-read : (laws : Laws) (report : Reporting) (plan : Plan) (status : Status) (all : RunDevices) → RanOn laws report plan status all → status ≢ OutOfMemory → (read : Read) × CameTo (inputs_of plan) all.input read
on-read laws report plan status all ran some = ran-read laws report plan status all (ran-whole laws report plan status all ran some) some

pub on-ended : (laws : Laws) (report : Reporting) (plan : Plan) (status : Status) (all : RunDevices) → RanOn laws report plan status all → IsOneOf status (Good ∷ NodeFault ∷ Stalled ∷ []) → EndCame all.input.before all.input.now
on-ended laws report plan status all ran (inl is) = ran-ended laws report plan status all (ran-whole laws report plan status all ran (λ want. let apart : Good ≡ OutOfMemory = sym is ∙ want in cc)) (inl is)
on-ended laws report plan status all ran (inr (inl is)) =
    ran-ended laws report plan status all (ran-whole laws report plan status all ran (λ want. let apart : NodeFault ≡ OutOfMemory = sym is ∙ want in cc)) (inr (inl is))
on-ended laws report plan status all ran (inr (inr (inl is))) =
    ran-ended laws report plan status all (ran-whole laws report plan status all ran (λ want. let apart : Stalled ≡ OutOfMemory = sym is ∙ want in cc)) (inr (inr (inl is)))
on-ended laws report plan status all ran (inr (inr (inr none))) = absurd none

pub on-answered : (laws : Laws) (report : Reporting) (plan : Plan) (status : Status) (all : RunDevices) → RanOn laws report plan status all → NoneFailed all → status ≢ OutOfMemory → IsAnswered laws report plan status all
on-answered laws report plan status all ran none some = ran-answered laws report plan status all (ran-whole laws report plan status all ran some) none some

pub on-read-risen : (laws : Laws) (report : Reporting) (plan : Plan) (status : Status) (all : RunDevices) → RanOn laws report plan status all → HasRisen all.input.before.faults all.input.now.faults → IsOneOf status read_statuses
on-read-risen laws report plan status all ran risen = elim (is-want status) [
  | inl want ↦ inr (inr (inl want))
  | inr some ↦ read-risen laws report plan status all (ran-whole laws report plan status all ran some) risen
]

pub on-write-risen : (laws : Laws) (report : Reporting) (plan : Plan) (status : Status) (all : RunDevices) → RanOn laws report plan status all → WriteRisen all → IsOneOf status (WriteFault ∷ OutOfMemory ∷ [])
on-write-risen laws report plan status all ran risen = elim (is-want status) [
  | inl want ↦ inr (inl want)
  | inr some ↦ write-risen laws report plan status all (ran-whole laws report plan status all ran some) risen
]
