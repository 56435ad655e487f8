-- A run of a graph with free nodes as one thing. There is one reading of its input, and there are the batches of its lines. The free nodes'
-- rounds over these batches give logs. For these logs there is one solution of the core. All that is seen of the run belongs to these
-- things.
use Rattle.std.specs.Prelude.{◌≡◌, ◌⊎◌, ℕ, List, [], ◌∷◌, ◌++◌, reverse, Bool}
use Rattle.std.specs.List.{AllZip}
use Rattle.mg_edge.specs.Edge.{SourceTold, SinkTold}
use Rattle.mg_value.specs.Payload.{Plain}
use Rattle.mg_settled.specs.Prefix.{StreamPrefix}
use Rattle.mg_calc.specs.Rules.{Laws}
use Rattle.mg_calc.specs.declared.inputs.Inputs.{Inputs}
use Rattle.mg_calc.specs.declared.plan.Plan.{Plan}
use Rattle.mg_calc.specs.Equations.{IsJob, IsSolution}
use Rattle.mg_calc.specs.Told.{BoxTold}
use Rattle.mg_free.specs.Core.{split_of}
use Rattle.mg_free.specs.Logs.{output_of}
use Rattle.mg_free.specs.Rounds.{Taken, none_taken, free_inputs, output_so_far, core_job, AllRounds}
use Rattle.mg_free.specs.Turns.{AreLawful, last_batch}
use Rattle.mg_live.specs.SoFar.{SoFar}
use Rattle.mg_feed.specs.Graph.{inputs_of}
use Rattle.mg_feed.specs.declared.feed_end.FeedEnd.{FeedEnd}
use Rattle.mg_feed.specs.declared.feed_end.FeedEnd.TheVariants.{Ended}
use Rattle.mg_answer.specs.Answer.{OutputForm, packet_lines, totals, output_in, Read, RunAnswer, ended_input, generated_job}
use Rattle.mg_answer.specs.Devices.{Device, RunDevices, TookFront}
use Rattle.mg_answer.specs.Outcomes.{told_answer, told_failed}
use Rattle.mg_answer.specs.Wrote.{WroteBy}
use Rattle.mg_answer.specs.declared.outcomes.Outcomes.{Outcomes}
use Rattle.mg_answer.specs.declared.status.Status.{Status}
use Rattle.mg_answer.specs.declared.run.Reporting.{Reporting}
use Rattle.mg_drive.specs.Leaves.{HadItsCalls, KeepsAFront}
use Rattle.mg_drive.specs.Over.{OverInput, WasNothing, OutIn, MemoryRanOut}
use Rattle.mg_drive.specs.OneRun.{AllHad}
use Rattle.mg_drive.specs.Live.{LiveTells}
use Rattle.mg_drive.specs.InBatches.{InBatches, come_after}

-- A run --

-- The rounds over some batches give logs. In the solution of the core for these, the log of each free node is lawful. The node's output is
-- the one that its law gives for its log. `live` is what the solution and the logs tell of the plan.
pub record ComesTo (laws : Laws) (report : Reporting) (whole : Plan) (first : Inputs) (later : List Inputs) : Type 0 where
  pub takens : List Taken
  pub rounds : AllRounds laws (split_of whole) (first ∷ later) (none_taken (split_of whole)) takens
  pub streams : List (StreamPrefix Plain)
  pub solution : IsSolution (core_job laws (split_of whole) (last_batch first later) takens) streams
  pub logs : AreLawful streams (split_of whole).free takens
  pub outputs : AllZip (λ free taken. output_so_far free taken ≡ output_of free.law (free_inputs streams free) taken.log) (split_of whole).free takens
  pub live : Outcomes
  pub tells : LiveTells report whole (core_job laws (split_of whole) (last_batch first later) takens) streams (split_of whole).free takens live

-- the answer of a run over batches, by how its input ended
pub record IsLiveAnswer (laws : Laws) (form : OutputForm) (report : Reporting) (whole : Plan) (first : Inputs) (later : List Inputs) (end : FeedEnd) (answer : RunAnswer) : Type 0 where
  pub comes : ComesTo laws report whole first later
  pub is : answer ≡ told_answer report whole end comes.live (output_in form (split_of whole).core comes.streams)

-- A run over batches, by how its input ended. The core is a job for what the free nodes took: its plan is valid, and its inputs fit it. The
-- output, the status and the notes are those of the core's solution, by the plan's numbers. If the arrivals are asked for, the notes have a
-- line for each. Each user-supplied calculator had exactly the calls that its node has in that solution.
pub record OneLive (laws : Laws) (form : OutputForm) (report : Reporting) (whole : Plan) (first : Inputs) (later : List Inputs) (end : FeedEnd) (status : Status) (output notes : Device SinkTold) (boxes : Device (List BoxTold)) : Type 0 where
  pub comes : ComesTo laws report whole first later
  pub is_job : IsJob (core_job laws (split_of whole) (last_batch first later) comes.takens)
  pub wrote : WroteBy status (told_answer report whole end comes.live (output_in form (split_of whole).core comes.streams)) (told_failed report whole end comes.live) output notes
  pub had : AllHad (split_of whole).core (HadItsCalls (core_job laws (split_of whole) (last_batch first later) comes.takens) comes.streams) boxes

-- A run over batches in which memory ran out. By then a prefix of the batches had come: the last of these is `base`, and those before it
-- are `earlier`, the newest first. Rounds over these had given logs. For what the free nodes had taken the core is a job, and this has a
-- solution. By this solution the output took a prefix of the text, and each calculator had a prefix of its calls. Each calculator keeps what
-- these calls leave.
pub record LiveOut (laws : Laws) (form : OutputForm) (whole : Plan) (batches : List Inputs) (output : Device SinkTold) (boxes : Device (List BoxTold)) : Type 0 where
  pub base : Inputs
  pub earlier : List Inputs
  pub later : List Inputs
  pub first : batches ≡ reverse (base ∷ earlier) ++ later
  pub takens : List Taken
  pub so_far : SoFar laws (split_of whole) (base ∷ earlier) takens
  pub is_job : IsJob (core_job laws (split_of whole) base takens)
  pub streams : List (StreamPrefix Plain)
  pub solution : IsSolution (core_job laws (split_of whole) base takens) streams
  pub front : TookFront output (output_in form (split_of whole).core streams)
  pub had : AllHad (split_of whole).core (KeepsAFront (core_job laws (split_of whole) base takens) streams) boxes

-- Over packet lines --

-- Batches of the lines that were read of an input: what all batches up to each one have given together. `early` says whether a batch may
-- end early. If not, there is one way to split the lines.
pub record AreBatchesOf (early : Bool) (whole : Plan) (read : Read) (batches : List Inputs) : Type 0 where
  pub lines : List (List (List ℕ))
  pub in_batches : InBatches early read.lines lines
  pub are : come_after (inputs_of whole) read.end [] lines ≡ batches

-- batches of all lines that were read, the first one and the later ones, were run
pub record LiveReading (laws : Laws) (report : Reporting) (early : Bool) (whole : Plan) (read : Read) (status : Status) (output notes : Device SinkTold) (boxes : Device (List BoxTold)) : Type 0 where
  pub first : Inputs
  pub later : List Inputs
  pub batches : AreBatchesOf early whole read (first ∷ later)
  pub run : OneLive laws packet_lines report whole first later read.end status output notes boxes

-- The batches of the lines that were read were run.
abbrev pub OneLiveReading : Laws → Reporting → Bool → Plan → Status → RunDevices → Device (List BoxTold) → Type 0
OneLiveReading laws report early whole status devices boxes =
    OverInput (inputs_of whole) devices.input (λ read. LiveReading laws report early whole read status devices.output devices.notes boxes)

-- Memory ran out. There are batches of the whole input, and what was written and called by then is a prefix of what belongs to these.
abbrev pub LiveReadingOut : Laws → Bool → Plan → Device SourceTold → Device SinkTold → Device (List BoxTold) → Type 0
LiveReadingOut laws early whole input output boxes =
    OutIn (inputs_of whole) input output boxes (λ read. (batches : List Inputs) × AreBatchesOf early whole read batches × LiveOut laws packet_lines whole batches output boxes)

-- A run over packet lines, whose batches may end early or not, ended with this status: over the whole input, or because memory ran out.
abbrev pub RanLive : Laws → Reporting → Bool → Plan → Status → RunDevices → Device (List BoxTold) → Type 0
RanLive laws report early whole status devices boxes =
    OneLiveReading laws report early whole status devices boxes ⊎ MemoryRanOut status devices.notes (LiveReadingOut laws early whole devices.input devices.output boxes)

-- An answer of a graph with free nodes over an input that ended after these bytes. If batches may not end early, there is one.
pub record AnswersLive (laws : Laws) (report : Reporting) (early : Bool) (whole : Plan) (bytes : List ℕ) (answer : RunAnswer) : Type 0 where
  pub first : Inputs
  pub later : List Inputs
  pub batches : AreBatchesOf early whole (ended_input (inputs_of whole) bytes) (first ∷ later)
  pub answers : IsLiveAnswer laws packet_lines report whole first later (ended_input (inputs_of whole) bytes).end answer

-- Over packets that are made, all in one batch --

-- A number of packets were made, and were run as one batch.
abbrev pub OneLiveMade : Laws → Reporting → Plan → ℕ → Status → Device SinkTold → Device SinkTold → Device (List BoxTold) → Type 0
OneLiveMade laws report whole number status output notes boxes = OneLive laws totals report whole (generated_job laws whole number).inputs [] Ended status output notes boxes

-- Memory ran out in a run over packets that are made, before anything was done or later.
abbrev pub LiveMadeOut : Laws → Plan → ℕ → Device SinkTold → Device (List BoxTold) → Type 0
LiveMadeOut laws whole number output boxes = WasNothing output boxes ⊎ LiveOut laws totals whole ((generated_job laws whole number).inputs ∷ []) output boxes

-- a run over packets that are made ended with this status: over all packets, or because memory ran out
abbrev pub RanLiveMade : Laws → Reporting → Plan → ℕ → Status → Device SinkTold → Device SinkTold → Device (List BoxTold) → Type 0
RanLiveMade laws report whole number status output notes boxes =
    OneLiveMade laws report whole number status output notes boxes ⊎ MemoryRanOut status notes (LiveMadeOut laws whole number output boxes)

-- the answer of a graph with free nodes over a number of packets that are made
abbrev pub AnswersLiveMade : Laws → Reporting → Plan → ℕ → RunAnswer → Type 0
AnswersLiveMade laws report whole number answer = IsLiveAnswer laws totals report whole (generated_job laws whole number).inputs [] Ended answer
