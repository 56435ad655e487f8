-- What follows of a run of a graph with free nodes as one thing, by its status.
use Rattle.std.proofs.Common.{◌≡◌, ◌≢◌, ◌⊎◌, inl, inr, ℕ, Bool, List, [], ◌∷◌, length, Option, None, Some, IfSome, refl, ap, subst}
use Rattle.mg_edge.specs.Edge.{SourceTold, SinkTold}
use Rattle.mg_calc.specs.Rules.{Laws}
use Rattle.mg_calc.specs.declared.inputs.Inputs.{Inputs}
use Rattle.mg_calc.specs.declared.plan.Plan.{Plan}
use Rattle.mg_calc.specs.Told.{BoxTold}
use Rattle.mg_free.specs.Core.{split_of}
use Rattle.mg_feed.specs.Graph.{inputs_of}
use Rattle.mg_feed.specs.Ran.{EndCame}
use Rattle.mg_feed.specs.declared.feed_end.FeedEnd.{FeedEnd}
use Rattle.mg_feed.specs.declared.feed_end.FeedEnd.TheVariants.{Ended}
use Rattle.mg_answer.specs.Answer.{OutputForm, packet_lines, totals, Read, RunAnswer, output_in, generated_job}
use Rattle.mg_answer.specs.Devices as answers
use Rattle.mg_answer.specs.Outcomes.{told_answer, told_failed}
use Rattle.mg_answer.specs.Notes.{memory_note}
use Rattle.mg_answer.specs.Report.{open_numbers}
use Rattle.mg_answer.specs.Wrote.{Meets, MetShort}
use Rattle.mg_answer.specs.declared.outcomes.Outcomes.{Outcomes}
use Rattle.mg_answer.specs.declared.status.Status.{Status}
use Rattle.mg_answer.specs.declared.status.Status.TheVariants.{Good, StoreFault, Usage, NodeFault, Stalled, ReadFault, WriteFault, OutOfMemory}
use Rattle.mg_answer.proofs.Answering.{no-want, end-by, no-one, failed-by, steady-risen, rose-unrisen, whole-read}
use Rattle.mg_answer.specs.declared.run.Reporting.{Reporting}
use Rattle.mg_drive.specs.OneLive.{OneLive, OneLiveReading, OneLiveMade, AreBatchesOf, IsLiveAnswer, LiveReadingOut, LiveMadeOut, RanLive, RanLiveMade, AnswersLive, AnswersLiveMade}
use Rattle.mg_run.specs.Devices.{Device, RunDevices, HasRisen, TookNotes}
use Rattle.mg_run.specs.Call.{IsOneOf}
use Rattle.mg_drive.proofs.TracesRan.{either_wrote}
use Rattle.mg_run.proofs.Readings.{no-status, no_memory}

-- What was written --

-- of a run of a graph with free nodes
abbrev Ended_so : Reporting → Plan → FeedEnd → Outcomes → List ℕ → Status → Device SinkTold → Device SinkTold → Type 0
Ended_so report whole end live text status output notes =
    Meets (told_answer report whole end live text) status output notes ⊎ ((status ≡ WriteFault) × MetShort (told_answer report whole end live text) (told_failed report whole end live) output notes)

ended_so : (laws : Laws) (form : OutputForm) (report : Reporting) (whole : Plan) (first : Inputs) (later : List Inputs) (end : FeedEnd) (status : Status) (output notes : Device SinkTold) (boxes : Device (List BoxTold))
    → (run : OneLive laws form report whole first later end status output notes boxes) → Ended_so report whole end run.comes.live (output_in form (split_of whole).core run.comes.streams) status output notes
ended_so laws form report whole first later end status output notes boxes run =
    either_wrote status (told_answer report whole end run.comes.live (output_in form (split_of whole).core run.comes.streams)) (told_failed report whole end run.comes.live) output notes run.wrote

-- over an input, and over packets that are made
read_so : (laws : Laws) (report : Reporting) (early : Bool) (whole : Plan) (status : Status) (all : RunDevices) (boxes : Device (List BoxTold)) → (one : OneLiveReading laws report early whole status all boxes)
    → Ended_so report whole one.read.end one.holds.run.comes.live (output_in packet_lines (split_of whole).core one.holds.run.comes.streams) status all.output all.notes
read_so laws report early whole status all boxes one = ended_so laws packet_lines report whole one.holds.first one.holds.later one.read.end status all.output all.notes boxes one.holds.run

made_so : (laws : Laws) (report : Reporting) (whole : Plan) (number : ℕ) (status : Status) (output notes : Device SinkTold) (boxes : Device (List BoxTold)) → (one : OneLiveMade laws report whole number status output notes boxes)
    → Ended_so report whole Ended one.comes.live (output_in totals (split_of whole).core one.comes.streams) status output notes
made_so laws report whole number status output notes boxes one = ended_so laws totals report whole (generated_job laws whole number).inputs [] Ended status output notes boxes one

-- Its status --

pub not_failed : (status : Status) → (status ≡ StoreFault) ⊎ (status ≡ Usage) → status ≡ WriteFault → ⊥
not_failed status (inl store) is = cc
not_failed status (inr usage) is = cc

no_other : (report : Reporting) (whole : Plan) (end : FeedEnd) (live : Outcomes) (text : List ℕ) (status : Status) (output notes : Device SinkTold) → (status ≡ StoreFault) ⊎ (status ≡ Usage) → Ended_so report whole end live text status output notes → ⊥
no_other report whole end live text status output notes other (inl met) = no-status status end live.faults (open_numbers live.ends.items) other met.told
no_other report whole end live text status output notes other (inr short) = not_failed status other short.0

pub not_short : (status : Status) → (status ≡ StoreFault) ⊎ (status ≡ Usage) → status ≡ OutOfMemory → ⊥
not_short status (inl store) is = cc
not_short status (inr usage) is = cc

pub live-no-other : (laws : Laws) (report : Reporting) (early : Bool) (whole : Plan) (status : Status) (all : RunDevices) (boxes : Device (List BoxTold)) → (status ≡ StoreFault) ⊎ (status ≡ Usage) → RanLive laws report early whole status all boxes → ⊥
live-no-other laws report early whole status all boxes other (inl one) =
    no_other report whole one.read.end one.holds.run.comes.live (output_in packet_lines (split_of whole).core one.holds.run.comes.streams) status all.output all.notes other (read_so laws report early whole status all boxes one)
live-no-other laws report early whole status all boxes other (inr short) = not_short status other short.is

pub live-made-no-other : (laws : Laws) (report : Reporting) (whole : Plan) (number : ℕ) (status : Status) (output notes : Device SinkTold) (boxes : Device (List BoxTold)) → (status ≡ StoreFault) ⊎ (status ≡ Usage) → RanLiveMade laws report whole number status output notes boxes → ⊥
live-made-no-other laws report whole number status output notes boxes other (inl one) =
    no_other report whole Ended one.comes.live (output_in totals (split_of whole).core one.comes.streams) status output notes other (made_so laws report whole number status output notes boxes one)
live-made-no-other laws report whole number status output notes boxes other (inr short) = not_short status other short.is

-- If memory ran out, the notes say so.
pub live-noted : (laws : Laws) (report : Reporting) (early : Bool) (whole : Plan) (all : RunDevices) (boxes : Device (List BoxTold)) → RanLive laws report early whole OutOfMemory all boxes → TookNotes all.notes memory_note
live-noted laws report early whole all boxes (inr short) = short.noted
live-noted laws report early whole all boxes (inl one) = absurd (by (read_so laws report early whole OutOfMemory all boxes one))
  where
    by : Ended_so report whole one.read.end one.holds.run.comes.live (output_in packet_lines (split_of whole).core one.holds.run.comes.streams) OutOfMemory all.output all.notes → ⊥
    by (inl met) = no-want whole all.input one.read.end one.holds.run.comes.live.faults (open_numbers one.holds.run.comes.live.ends.items) one.came.came one.read one.came.by met.told
    by (inr short) = let e = short.0 in cc

pub live-made-noted : (laws : Laws) (report : Reporting) (whole : Plan) (number : ℕ) (output notes : Device SinkTold) (boxes : Device (List BoxTold)) → RanLiveMade laws report whole number OutOfMemory output notes boxes → TookNotes notes memory_note
live-made-noted laws report whole number output notes boxes (inr short) = short.noted
live-made-noted laws report whole number output notes boxes (inl one) = absurd (by (made_so laws report whole number OutOfMemory output notes boxes one))
  where
    by : Ended_so report whole Ended one.comes.live (output_in totals (split_of whole).core one.comes.streams) OutOfMemory output notes → ⊥
    by (inl met) = no_memory one.comes.live.faults (open_numbers one.comes.live.ends.items) met.told
    by (inr short) = let e = short.0 in cc

-- The calculators --

short_count : (laws : Laws) (early : Bool) (whole : Plan) (input : Device SourceTold) (output : Device SinkTold) (boxes : Device (List BoxTold)) → LiveReadingOut laws early whole input output boxes → length boxes.now ≡ length boxes.before
short_count laws early whole input output boxes (inl short) = ap length short.1.uncalled
short_count laws early whole input output boxes (inr (inl short)) = short.holds.2.had.back.count
short_count laws early whole input output boxes (inr (inr short)) = (short.holds [] (λ ended. refl)).2.had.back.count

pub live-boxes : (laws : Laws) (report : Reporting) (early : Bool) (whole : Plan) (status : Status) (all : RunDevices) (boxes : Device (List BoxTold)) → RanLive laws report early whole status all boxes → length boxes.now ≡ length boxes.before
live-boxes laws report early whole status all boxes (inl one) = one.holds.run.had.back.count
live-boxes laws report early whole status all boxes (inr short) = short_count laws early whole all.input all.output boxes short.by

made_count : (laws : Laws) (whole : Plan) (number : ℕ) (output : Device SinkTold) (boxes : Device (List BoxTold)) → LiveMadeOut laws whole number output boxes → length boxes.now ≡ length boxes.before
made_count laws whole number output boxes (inl nothing) = ap length nothing.uncalled
made_count laws whole number output boxes (inr short) = short.had.back.count

pub live-made-boxes : (laws : Laws) (report : Reporting) (whole : Plan) (number : ℕ) (status : Status) (output notes : Device SinkTold) (boxes : Device (List BoxTold)) → RanLiveMade laws report whole number status output notes boxes → length boxes.now ≡ length boxes.before
live-made-boxes laws report whole number status output notes boxes (inl one) = one.had.back.count
live-made-boxes laws report whole number status output notes boxes (inr short) = made_count laws whole number output boxes short.by

-- The answer, the input's end and faults --

no_short : (answer : RunAnswer) (failed : List ℕ) (output notes : Device SinkTold) → MetShort answer failed output notes → answers.Unrisen output.before.faults output.now.faults → answers.Unrisen notes.before.faults notes.now.faults → ⊥
no_short answer failed output notes short one two = elim short.rose [ inl rose ↦ rose-unrisen _ _ rose one | inr rose ↦ rose-unrisen _ _ rose two ]

met_then : (report : Reporting) (whole : Plan) (end : FeedEnd) (live : Outcomes) (text : List ℕ) (status : Status) (output notes : Device SinkTold) → answers.Unrisen output.before.faults output.now.faults → answers.Unrisen notes.before.faults notes.now.faults
    → Ended_so report whole end live text status output notes → Meets (told_answer report whole end live text) status output notes
met_then report whole end live text status output notes one two (inl met) = met
met_then report whole end live text status output notes one two (inr short) = absurd (no_short (told_answer report whole end live text) (told_failed report whole end live) output notes short.1 one two)

abbrev MetLive : Laws → Reporting → Bool → Plan → Status → RunDevices → List ℕ → Type 0
MetLive laws report early whole status all bytes = (answer : RunAnswer) × AnswersLive laws report early whole bytes answer × Meets answer status all.output all.notes

pub live-answered : (laws : Laws) (report : Reporting) (early : Bool) (whole : Plan) (status : Status) (all : RunDevices) (boxes : Device (List BoxTold)) → RanLive laws report early whole status all boxes → answers.NoneFailed all → status ≢ OutOfMemory
    → IfSome all.input.before.left (MetLive laws report early whole status all)
live-answered laws report early whole status all boxes (inr short) none some = absurd (some short.is)
live-answered laws report early whole status all boxes (inl one) none some = by all.input.before.left refl
  where
    by : (o : Option (List ℕ)) → all.input.before.left ≡ o → IfSome o (MetLive laws report early whole status all)
    by None is = tt
    by (Some bytes) is =
        let same = whole-read (inputs_of whole) all.input one.read bytes one.came is none.input in
        let text = output_in packet_lines (split_of whole).core one.holds.run.comes.streams in
        let answer = told_answer report whole one.read.end one.holds.run.comes.live text in (
          answer,
          record {
            first = one.holds.first;
            later = one.holds.later;
            batches = subst (λ (r : Read). AreBatchesOf early whole r (one.holds.first ∷ one.holds.later)) same one.holds.batches;
            answers = subst (λ (r : Read). IsLiveAnswer laws packet_lines report whole one.holds.first one.holds.later r.end answer) same (record { comes = one.holds.run.comes; is = refl });
          },
          met_then report whole one.read.end one.holds.run.comes.live text status all.output all.notes none.output none.notes (read_so laws report early whole status all boxes one),
        )

pub live-made-answered : (laws : Laws) (report : Reporting) (whole : Plan) (number : ℕ) (status : Status) (all : RunDevices) (boxes : Device (List BoxTold)) → RanLiveMade laws report whole number status all.output all.notes boxes → answers.NoneFailed all → status ≢ OutOfMemory
    → (answer : RunAnswer) × AnswersLiveMade laws report whole number answer × Meets answer status all.output all.notes
live-made-answered laws report whole number status all boxes (inr short) none some = absurd (some short.is)
live-made-answered laws report whole number status all boxes (inl one) none some =
    let text = output_in totals (split_of whole).core one.comes.streams in (
      told_answer report whole Ended one.comes.live text,
      record { comes = one.comes; is = refl },
      met_then report whole Ended one.comes.live text status all.output all.notes none.output none.notes (made_so laws report whole number status all.output all.notes boxes one),
    )

pub live-ended : (laws : Laws) (report : Reporting) (early : Bool) (whole : Plan) (status : Status) (all : RunDevices) (boxes : Device (List BoxTold)) → RanLive laws report early whole status all boxes → (status ≡ OutOfMemory → IsOneOf status (Good ∷ NodeFault ∷ Stalled ∷ []) → ⊥)
    → IsOneOf status (Good ∷ NodeFault ∷ Stalled ∷ []) → EndCame all.input.before all.input.now
live-ended laws report early whole status all boxes (inr out) short one_of = absurd (short out.is one_of)
live-ended laws report early whole status all boxes (inl one) short one_of = by (read_so laws report early whole status all boxes one)
  where
    by : Ended_so report whole one.read.end one.holds.run.comes.live (output_in packet_lines (split_of whole).core one.holds.run.comes.streams) status all.output all.notes → EndCame all.input.before all.input.now
    by (inl met) = end-by one.read.end status one.holds.run.comes.live.faults (open_numbers one.holds.run.comes.live.ends.items) (inputs_of whole) all.input one.came.came one.read met.told one_of one.came.by
    by (inr failed) = absurd (no-one status (inl failed.0) one_of)

pub live-read-risen : (laws : Laws) (report : Reporting) (early : Bool) (whole : Plan) (status : Status) (all : RunDevices) (boxes : Device (List BoxTold)) → RanLive laws report early whole status all boxes → HasRisen all.input.before.faults all.input.now.faults
    → IsOneOf status (ReadFault ∷ WriteFault ∷ OutOfMemory ∷ [])
live-read-risen laws report early whole status all boxes (inr short) risen = inr (inr (inl short.is))
live-read-risen laws report early whole status all boxes (inl one) risen = by (read_so laws report early whole status all boxes one)
  where
    by : Ended_so report whole one.read.end one.holds.run.comes.live (output_in packet_lines (split_of whole).core one.holds.run.comes.streams) status all.output all.notes → IsOneOf status (ReadFault ∷ WriteFault ∷ OutOfMemory ∷ [])
    by (inl met) = failed-by one.read.end status one.holds.run.comes.live.faults (open_numbers one.holds.run.comes.live.ends.items) all.input.before all.input.now (inputs_of whole) all.input one.came.came one.read met.told one.came.faults one.came.by risen
    by (inr failed) = inr (inl failed.0)

abbrev EitherRisen : RunDevices → Type 0
EitherRisen all = HasRisen all.output.before.faults all.output.now.faults ⊎ HasRisen all.notes.before.faults all.notes.now.faults

write_so : (report : Reporting) (whole : Plan) (end : FeedEnd) (live : Outcomes) (text : List ℕ) (status : Status) (all : RunDevices) → EitherRisen all → Ended_so report whole end live text status all.output all.notes → IsOneOf status (WriteFault ∷ OutOfMemory ∷ [])
write_so report whole end live text status all (inl risen) (inl met) = absurd (steady-risen _ _ met.text.steady risen)
write_so report whole end live text status all (inr risen) (inl met) = absurd (steady-risen _ _ met.noted.steady risen)
write_so report whole end live text status all risen (inr failed) = inl failed.0

pub live-write-risen : (laws : Laws) (report : Reporting) (early : Bool) (whole : Plan) (status : Status) (all : RunDevices) (boxes : Device (List BoxTold)) → RanLive laws report early whole status all boxes → EitherRisen all → IsOneOf status (WriteFault ∷ OutOfMemory ∷ [])
live-write-risen laws report early whole status all boxes (inl one) risen =
    write_so report whole one.read.end one.holds.run.comes.live (output_in packet_lines (split_of whole).core one.holds.run.comes.streams) status all risen (read_so laws report early whole status all boxes one)
live-write-risen laws report early whole status all boxes (inr short) risen = inr (inl short.is)

pub live-made-write-risen : (laws : Laws) (report : Reporting) (whole : Plan) (number : ℕ) (status : Status) (all : RunDevices) (boxes : Device (List BoxTold)) → RanLiveMade laws report whole number status all.output all.notes boxes → EitherRisen all
    → IsOneOf status (WriteFault ∷ OutOfMemory ∷ [])
live-made-write-risen laws report whole number status all boxes (inl one) risen =
    write_so report whole Ended one.comes.live (output_in totals (split_of whole).core one.comes.streams) status all risen (made_so laws report whole number status all.output all.notes boxes one)
live-made-write-risen laws report whole number status all boxes (inr short) risen = inr (inl short.is)
