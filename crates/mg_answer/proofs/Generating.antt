-- What a run over packets that are made did, by its status, and what follows from that.
use Rattle.std.proofs.Common.{◌≡◌, ◌≢◌, ◌<◌, ◌^◌, length, ◌⊎◌, inl, inr, ℕ, List, [], ◌∷◌, refl}
use Rattle.mg_edge.specs.Edge.{HasRisen}
use Rattle.mg_value.specs.Payload.{Plain}
use Rattle.mg_value.specs.declared.policy.Policy.TheVariants.{Default}
use Rattle.mg_settled.specs.Prefix.{StreamPrefix}
use Rattle.mg_settled.specs.Settled.{settled_sets, inputs_of as ports_of}
use Rattle.mg_settled.proofs.Lemmas.{all_inputs}
use Rattle.mg_calc.specs.declared.plan.Plan.{Plan}
use Rattle.mg_calc.specs.declared.node_fault.NodeFault.{NodeFault as Fault}
use Rattle.mg_calc.specs.Equations.{Job, IsJob, IsSolution}
use Rattle.mg_calc.specs.Meaning.{faults, stalled}
use Rattle.mg_calc.specs.Rules.{Laws}
use Rattle.mg_equations.proofs.NodeSteps.{few_sets}
use Rattle.mg_feed.specs.declared.feed_end.FeedEnd.TheVariants.{Ended}
use Rattle.mg_answer.specs.Told.{status_of}
use Rattle.mg_answer.specs.Answer.{RunAnswer, by_summary, generated_job, failed_notes, answer_of, AnswersGenerated}
use Rattle.mg_answer.specs.Devices.{RunDevices, Unrisen}
use Rattle.mg_answer.specs.Wrote.{Meets, MetShort, Wrote}
use Rattle.mg_answer.specs.Status.{IsOneOf}
use Rattle.mg_answer.specs.Ran.{GeneratedAll, GeneratedShort, RanGenerated}
use Rattle.mg_answer.specs.declared.status.Status.{Status}
use Rattle.mg_answer.specs.declared.status.Status.TheVariants.{Good, StoreFault, Usage, GraphRefused, LineRefused, NodeFault, Stalled, ReadFault, WriteFault, OutOfMemory}
use Rattle.mg_answer.proofs.Answering.{WriteRisen, steady-risen}
use Rattle.mg_answer.proofs.OneAnswer.{answer-of}
use Rattle.mg_answer.proofs.Telling.{solved-prefixes}
use Rattle.mg_answer.specs.declared.run.Reporting.{Reporting}

-- there is an answer
pub answer-generated : (laws : Laws) (report : Reporting) (plan : Plan) (number : ℕ) → IsJob (generated_job laws plan number) → (answer : RunAnswer) × AnswersGenerated laws report plan number answer
answer-generated laws report plan number is = answer-of (by_summary report) (generated_job laws plan number) Ended is

-- What was written --

abbrev Written : Laws → Reporting → Plan → ℕ → Status → RunDevices → Type 0
Written laws report plan number status all = Wrote (by_summary report) (generated_job laws plan number) Ended status all.output all.notes

wrote-answer : (laws : Laws) (report : Reporting) (plan : Plan) (number : ℕ) (status : Status) (all : RunDevices) → (wrote : Written laws report plan number status all)
    → Meets (answer_of (by_summary report) (generated_job laws plan number) Ended wrote.streams) status all.output all.notes → GeneratedAll laws report plan number status all
wrote-answer laws report plan number status all wrote by = record {
  answer = answer_of (by_summary report) (generated_job laws plan number) Ended wrote.streams;
  is = record { streams = wrote.streams; solution = wrote.solution; is = refl };
  met = record { text = by.text; noted = by.noted; told = by.told };
}

wrote-short : (laws : Laws) (report : Reporting) (plan : Plan) (number : ℕ) (status : Status) (all : RunDevices) → (wrote : Written laws report plan number status all)
    → MetShort (answer_of (by_summary report) (generated_job laws plan number) Ended wrote.streams) (failed_notes (by_summary report) (generated_job laws plan number) Ended wrote.streams) all.output all.notes → GeneratedShort laws report plan number all
wrote-short laws report plan number status all wrote by = record {
  answer = answer_of (by_summary report) (generated_job laws plan number) Ended wrote.streams;
  is = record { streams = wrote.streams; solution = wrote.solution; is = refl };
  short = by;
}

-- no status of packets that are made is that memory ran out
no-want : (fs : List Fault) (ns : List ℕ) → OutOfMemory ≡ status_of Ended fs ns → ⊥
no-want [] [] is = cc
no-want [] (n ∷ ns) is = cc
no-want (f ∷ fs) ns is = cc

pub generated-ran : (laws : Laws) (report : Reporting) (plan : Plan) (number : ℕ) (status : Status) (all : RunDevices) → Written laws report plan number status all → RanGenerated laws report plan number status all
generated-ran laws report plan number Good all wrote = wrote-answer laws report plan number Good all wrote wrote.by
generated-ran laws report plan number LineRefused all wrote = wrote-answer laws report plan number LineRefused all wrote wrote.by
generated-ran laws report plan number StoreFault all wrote = wrote-answer laws report plan number StoreFault all wrote wrote.by
generated-ran laws report plan number Usage all wrote = wrote-answer laws report plan number Usage all wrote wrote.by
generated-ran laws report plan number GraphRefused all wrote = wrote-answer laws report plan number GraphRefused all wrote wrote.by
generated-ran laws report plan number NodeFault all wrote = wrote-answer laws report plan number NodeFault all wrote wrote.by
generated-ran laws report plan number Stalled all wrote = wrote-answer laws report plan number Stalled all wrote wrote.by
generated-ran laws report plan number ReadFault all wrote = wrote-answer laws report plan number ReadFault all wrote wrote.by
generated-ran laws report plan number WriteFault all wrote = wrote-short laws report plan number WriteFault all wrote wrote.by
generated-ran laws report plan number OutOfMemory all wrote = absurd (no-want (faults (generated_job laws plan number) wrote.streams) (stalled wrote.streams) wrote.by.told)

-- What follows --

abbrev pub MetGenerated : Laws → Reporting → Plan → ℕ → Status → RunDevices → Type 0
MetGenerated laws report plan number status all = (answer : RunAnswer) × AnswersGenerated laws report plan number answer × Meets answer status all.output all.notes

all-met : (laws : Laws) (report : Reporting) (plan : Plan) (number : ℕ) (status : Status) (all : RunDevices) → GeneratedAll laws report plan number status all → MetGenerated laws report plan number status all
all-met laws report plan number status all ran = (ran.answer, ran.is, ran.met)

short-failed : (laws : Laws) (report : Reporting) (plan : Plan) (number : ℕ) (all : RunDevices) → GeneratedShort laws report plan number all
    → Unrisen all.output.before.faults all.output.now.faults → Unrisen all.notes.before.faults all.notes.now.faults → ⊥
short-failed laws report plan number all ran output notes = by ran.short.rose
  where
    by : HasRisen all.output.before.faults all.output.now.faults ⊎ HasRisen all.notes.before.faults all.notes.now.faults → ⊥
    by (inl rose) = rose output
    by (inr rose) = rose notes

pub generated-answered : (laws : Laws) (report : Reporting) (plan : Plan) (number : ℕ) (status : Status) (all : RunDevices) → RanGenerated laws report plan number status all
    → Unrisen all.output.before.faults all.output.now.faults → Unrisen all.notes.before.faults all.notes.now.faults → status ≢ OutOfMemory → MetGenerated laws report plan number status all
generated-answered laws report plan number Good all ran output notes some = all-met laws report plan number Good all ran
generated-answered laws report plan number LineRefused all ran output notes some = all-met laws report plan number LineRefused all ran
generated-answered laws report plan number StoreFault all ran output notes some = all-met laws report plan number StoreFault all ran
generated-answered laws report plan number Usage all ran output notes some = all-met laws report plan number Usage all ran
generated-answered laws report plan number GraphRefused all ran output notes some = all-met laws report plan number GraphRefused all ran
generated-answered laws report plan number NodeFault all ran output notes some = all-met laws report plan number NodeFault all ran
generated-answered laws report plan number Stalled all ran output notes some = all-met laws report plan number Stalled all ran
generated-answered laws report plan number ReadFault all ran output notes some = all-met laws report plan number ReadFault all ran
generated-answered laws report plan number WriteFault all ran output notes some = absurd (short-failed laws report plan number all ran output notes)
generated-answered laws report plan number OutOfMemory all ran output notes some = absurd (some refl)

write-steady : (laws : Laws) (report : Reporting) (plan : Plan) (number : ℕ) (status : Status) (all : RunDevices) → GeneratedAll laws report plan number status all → WriteRisen all → ⊥
write-steady laws report plan number status all ran (inl risen) = steady-risen _ _ ran.met.text.steady risen
write-steady laws report plan number status all ran (inr risen) = steady-risen _ _ ran.met.noted.steady risen

pub generated-risen : (laws : Laws) (report : Reporting) (plan : Plan) (number : ℕ) (status : Status) (all : RunDevices) → RanGenerated laws report plan number status all → WriteRisen all
    → IsOneOf status (WriteFault ∷ OutOfMemory ∷ [])
generated-risen laws report plan number Good all ran risen = absurd (write-steady laws report plan number Good all ran risen)
generated-risen laws report plan number LineRefused all ran risen = absurd (write-steady laws report plan number LineRefused all ran risen)
generated-risen laws report plan number StoreFault all ran risen = absurd (write-steady laws report plan number StoreFault all ran risen)
generated-risen laws report plan number Usage all ran risen = absurd (write-steady laws report plan number Usage all ran risen)
generated-risen laws report plan number GraphRefused all ran risen = absurd (write-steady laws report plan number GraphRefused all ran risen)
generated-risen laws report plan number NodeFault all ran risen = absurd (write-steady laws report plan number NodeFault all ran risen)
generated-risen laws report plan number Stalled all ran risen = absurd (write-steady laws report plan number Stalled all ran risen)
generated-risen laws report plan number ReadFault all ran risen = absurd (write-steady laws report plan number ReadFault all ran risen)
generated-risen laws report plan number WriteFault all ran risen = inl refl
generated-risen laws report plan number OutOfMemory all ran risen = inr (inl refl)

-- Sets --

pub sets-few : (job : Job) (streams : List (StreamPrefix Plain)) → IsJob job → IsSolution job streams → length (settled_sets Default (ports_of streams job.plan.outputs)) < 2 ^ 64
sets-few job streams is solution =
    few_sets Default (ports_of streams job.plan.outputs)
    (all_inputs streams job.plan.outputs (solved-prefixes job.laws job.plan job.inputs streams is.plan is.inputs solution))
