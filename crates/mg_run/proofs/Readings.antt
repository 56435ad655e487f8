-- What follows of a run as one thing, by its status.
use Rattle.std.proofs.Common.{◌≡◌, ◌≢◌, ◌⊎◌, inl, inr, ℕ, List, [], ◌∷◌, length, refl, ap}
use Rattle.mg_edge.specs.Edge.{SourceTold, SinkTold}
use Rattle.mg_calc.specs.Rules.{Laws}
use Rattle.mg_calc.specs.declared.node_fault.NodeFault.{NodeFault as Fault}
use Rattle.mg_calc.specs.declared.plan.Plan.{Plan}
use Rattle.mg_calc.specs.Meaning.{faults, stalled}
use Rattle.mg_calc.specs.Told.{BoxTold}
use Rattle.mg_feed.specs.Ran.{EndCame}
use Rattle.mg_feed.specs.declared.feed_end.FeedEnd.{FeedEnd}
use Rattle.mg_feed.specs.declared.feed_end.FeedEnd.TheVariants.{Ended, Failed, Refused, OutOfMemory as no_lines}
use Rattle.mg_answer.specs.Answer.{job_of, generated_job, RunAnswer, AnswersGenerated}
use Rattle.mg_answer.specs.Notes.{memory_note}
use Rattle.mg_answer.specs.Told.{status_of}
use Rattle.mg_answer.specs.Devices as answers
use Rattle.mg_answer.specs.Ran as runs
use Rattle.mg_answer.specs.Wrote.{Meets}
use Rattle.mg_answer.proofs.Answering.{no-want}
use Rattle.mg_answer.proofs.RunningOn.{written-ran, on-answered, on-ended, on-read-risen, on-write-risen}
use Rattle.mg_answer.proofs.Generating.{generated-ran, generated-answered, generated-risen}
use Rattle.mg_answer.specs.declared.status.Status.{Status}
use Rattle.mg_answer.specs.declared.status.Status.TheVariants.{Good, StoreFault, Usage, NodeFault, Stalled, ReadFault, WriteFault, OutOfMemory}
use Rattle.mg_answer.specs.declared.run.Reporting.{Reporting}
use Rattle.mg_drive.specs.OneRun.{OneReading, ReadingOut, RanOverLines, OneMade, MadeOut, RanOverPackets}
use Rattle.mg_run.specs.Devices.{Device, RunDevices, HasRisen, TookNotes}
use Rattle.mg_run.specs.Call.{IsOneOf}

-- If memory suffices, a run is what mg_answer says of a run.
one_ran : (laws : Laws) (report : Reporting) (plan : Plan) (status : Status) (all : RunDevices) (boxes : Device (List BoxTold)) → OneReading laws report plan status all boxes → runs.RanOn laws report plan status all
one_ran laws report plan status all boxes one =
    written-ran laws report plan one.read all status one.came (record { streams = one.holds.streams; solution = one.holds.solution; by = one.holds.wrote })

made_ran : (laws : Laws) (report : Reporting) (plan : Plan) (number : ℕ) (status : Status) (all : RunDevices) (boxes : Device (List BoxTold)) → OneMade laws report plan number status all.output all.notes boxes → runs.RanGenerated laws report plan number status all
made_ran laws report plan number status all boxes one = generated-ran laws report plan number status all (record { streams = one.streams; solution = one.solution; by = one.wrote })

-- Its status --

-- No run ends with the status of a store fault or of words that are no command. Its status is one that is told of an input, or a write
-- failed, or memory ran out.
pub no-status : (status : Status) (end : FeedEnd) (fs : List Fault) (ns : List ℕ) → (status ≡ StoreFault) ⊎ (status ≡ Usage) → status ≡ status_of end fs ns → ⊥
no-status status Ended [] [] (inl store) is = cc
no-status status Ended [] (n ∷ ns) (inl store) is = cc
no-status status Ended (f ∷ fs) ns (inl store) is = cc
no-status status (Failed lines) fs ns (inl store) is = cc
no-status status (Refused line cause) fs ns (inl store) is = cc
no-status status no_lines fs ns (inl store) is = cc
no-status status Ended [] [] (inr usage) is = cc
no-status status Ended [] (n ∷ ns) (inr usage) is = cc
no-status status Ended (f ∷ fs) ns (inr usage) is = cc
no-status status (Failed lines) fs ns (inr usage) is = cc
no-status status (Refused line cause) fs ns (inr usage) is = cc
no-status status no_lines fs ns (inr usage) is = cc

pub no_memory : (fs : List Fault) (ns : List ℕ) → OutOfMemory ≡ status_of Ended fs ns → ⊥
no_memory [] [] is = cc
no_memory [] (n ∷ ns) is = cc
no_memory (f ∷ fs) ns is = cc

pub lines-no-store : (laws : Laws) (report : Reporting) (plan : Plan) (all : RunDevices) (boxes : Device (List BoxTold)) → RanOverLines laws report plan StoreFault all boxes → ⊥
lines-no-store laws report plan all boxes (inl one) = no-status StoreFault one.read.end (faults (job_of laws plan one.read) one.holds.streams) (stalled one.holds.streams) (inl refl) one.holds.wrote.told
lines-no-store laws report plan all boxes (inr short) = let e = short.is in cc

pub lines-no-usage : (laws : Laws) (report : Reporting) (plan : Plan) (all : RunDevices) (boxes : Device (List BoxTold)) → RanOverLines laws report plan Usage all boxes → ⊥
lines-no-usage laws report plan all boxes (inl one) = no-status Usage one.read.end (faults (job_of laws plan one.read) one.holds.streams) (stalled one.holds.streams) (inr refl) one.holds.wrote.told
lines-no-usage laws report plan all boxes (inr short) = let e = short.is in cc

pub packets-no-store : (laws : Laws) (report : Reporting) (plan : Plan) (number : ℕ) (output notes : Device SinkTold) (boxes : Device (List BoxTold)) → RanOverPackets laws report plan number StoreFault output notes boxes → ⊥
packets-no-store laws report plan number output notes boxes (inl one) = no-status StoreFault Ended (faults (generated_job laws plan number) one.streams) (stalled one.streams) (inl refl) one.wrote.told
packets-no-store laws report plan number output notes boxes (inr short) = let e = short.is in cc

pub packets-no-usage : (laws : Laws) (report : Reporting) (plan : Plan) (number : ℕ) (output notes : Device SinkTold) (boxes : Device (List BoxTold)) → RanOverPackets laws report plan number Usage output notes boxes → ⊥
packets-no-usage laws report plan number output notes boxes (inl one) = no-status Usage Ended (faults (generated_job laws plan number) one.streams) (stalled one.streams) (inr refl) one.wrote.told
packets-no-usage laws report plan number output notes boxes (inr short) = let e = short.is in cc

-- If memory ran out, the notes say so.
pub lines-noted : (laws : Laws) (report : Reporting) (plan : Plan) (all : RunDevices) (boxes : Device (List BoxTold)) → RanOverLines laws report plan OutOfMemory all boxes → TookNotes all.notes memory_note
lines-noted laws report plan all boxes (inl one) =
    absurd (no-want plan all.input one.read.end (faults (job_of laws plan one.read) one.holds.streams) (stalled one.holds.streams) one.came.came one.read one.came.by one.holds.wrote.told)
lines-noted laws report plan all boxes (inr short) = short.noted

pub packets-noted : (laws : Laws) (report : Reporting) (plan : Plan) (number : ℕ) (output notes : Device SinkTold) (boxes : Device (List BoxTold)) → RanOverPackets laws report plan number OutOfMemory output notes boxes → TookNotes notes memory_note
packets-noted laws report plan number output notes boxes (inl one) = absurd (no_memory (faults (generated_job laws plan number) one.streams) (stalled one.streams) one.wrote.told)
packets-noted laws report plan number output notes boxes (inr short) = short.noted

-- The calculators --

short_count : (laws : Laws) (plan : Plan) (input : Device SourceTold) (output : Device SinkTold) (boxes : Device (List BoxTold)) → ReadingOut laws plan input output boxes → length boxes.now ≡ length boxes.before
short_count laws plan input output boxes (inl short) = ap length short.1.uncalled
short_count laws plan input output boxes (inr (inl short)) = short.holds.had.back.count
short_count laws plan input output boxes (inr (inr short)) = (short.holds [] (λ ended. refl)).had.back.count

pub lines-boxes : (laws : Laws) (report : Reporting) (plan : Plan) (status : Status) (all : RunDevices) (boxes : Device (List BoxTold)) → RanOverLines laws report plan status all boxes → length boxes.now ≡ length boxes.before
lines-boxes laws report plan status all boxes (inl one) = one.holds.had.back.count
lines-boxes laws report plan status all boxes (inr short) = short_count laws plan all.input all.output boxes short.by

made_count : (laws : Laws) (plan : Plan) (number : ℕ) (output : Device SinkTold) (boxes : Device (List BoxTold)) → MadeOut laws plan number output boxes → length boxes.now ≡ length boxes.before
made_count laws plan number output boxes (inl nothing) = ap length nothing.uncalled
made_count laws plan number output boxes (inr short) = short.had.back.count

pub packets-boxes : (laws : Laws) (report : Reporting) (plan : Plan) (number : ℕ) (status : Status) (output notes : Device SinkTold) (boxes : Device (List BoxTold)) → RanOverPackets laws report plan number status output notes boxes → length boxes.now ≡ length boxes.before
packets-boxes laws report plan number status output notes boxes (inl one) = one.had.back.count
packets-boxes laws report plan number status output notes boxes (inr short) = made_count laws plan number output boxes short.by

-- The answer, the input's end and faults --

pub lines-answered : (laws : Laws) (report : Reporting) (plan : Plan) (status : Status) (all : RunDevices) (boxes : Device (List BoxTold)) → RanOverLines laws report plan status all boxes → answers.NoneFailed all → status ≢ OutOfMemory → runs.IsAnswered laws report plan status all
lines-answered laws report plan status all boxes (inl one) none some = on-answered laws report plan status all (one_ran laws report plan status all boxes one) none some
lines-answered laws report plan status all boxes (inr short) none some = absurd (some short.is)

pub packets-answered : (laws : Laws) (report : Reporting) (plan : Plan) (number : ℕ) (status : Status) (all : RunDevices) (boxes : Device (List BoxTold)) → RanOverPackets laws report plan number status all.output all.notes boxes → answers.NoneFailed all → status ≢ OutOfMemory
    → (answer : RunAnswer) × AnswersGenerated laws report plan number answer × Meets answer status all.output all.notes
packets-answered laws report plan number status all boxes (inl one) none some = generated-answered laws report plan number status all (made_ran laws report plan number status all boxes one) none.output none.notes some
packets-answered laws report plan number status all boxes (inr short) none some = absurd (some short.is)

pub lines-ended : (laws : Laws) (report : Reporting) (plan : Plan) (status : Status) (all : RunDevices) (boxes : Device (List BoxTold)) → RanOverLines laws report plan status all boxes → (status ≡ OutOfMemory → IsOneOf status (Good ∷ NodeFault ∷ Stalled ∷ []) → ⊥)
    → IsOneOf status (Good ∷ NodeFault ∷ Stalled ∷ []) → EndCame all.input.before all.input.now
lines-ended laws report plan status all boxes (inl one) short one_of = on-ended laws report plan status all (one_ran laws report plan status all boxes one) one_of
lines-ended laws report plan status all boxes (inr out) short one_of = absurd (short out.is one_of)

pub lines-read-risen : (laws : Laws) (report : Reporting) (plan : Plan) (status : Status) (all : RunDevices) (boxes : Device (List BoxTold)) → RanOverLines laws report plan status all boxes → HasRisen all.input.before.faults all.input.now.faults
    → IsOneOf status (ReadFault ∷ WriteFault ∷ OutOfMemory ∷ [])
lines-read-risen laws report plan status all boxes (inl one) risen = on-read-risen laws report plan status all (one_ran laws report plan status all boxes one) risen
lines-read-risen laws report plan status all boxes (inr short) risen = inr (inr (inl short.is))

abbrev EitherRisen : RunDevices → Type 0
EitherRisen all = HasRisen all.output.before.faults all.output.now.faults ⊎ HasRisen all.notes.before.faults all.notes.now.faults

pub lines-write-risen : (laws : Laws) (report : Reporting) (plan : Plan) (status : Status) (all : RunDevices) (boxes : Device (List BoxTold)) → RanOverLines laws report plan status all boxes → EitherRisen all → IsOneOf status (WriteFault ∷ OutOfMemory ∷ [])
lines-write-risen laws report plan status all boxes (inl one) risen = on-write-risen laws report plan status all (one_ran laws report plan status all boxes one) risen
lines-write-risen laws report plan status all boxes (inr short) risen = inr (inl short.is)

pub packets-write-risen : (laws : Laws) (report : Reporting) (plan : Plan) (number : ℕ) (status : Status) (all : RunDevices) (boxes : Device (List BoxTold)) → RanOverPackets laws report plan number status all.output all.notes boxes → EitherRisen all
    → IsOneOf status (WriteFault ∷ OutOfMemory ∷ [])
packets-write-risen laws report plan number status all boxes (inl one) risen = generated-risen laws report plan number status all (made_ran laws report plan number status all boxes one) risen
packets-write-risen laws report plan number status all boxes (inr short) risen = inr (inl short.is)
