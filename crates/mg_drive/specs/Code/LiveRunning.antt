-- A run of a core over batches of its plan, once it is over.
use Rattle.std.specs.Prelude.{◌≡◌, ◌⊎◌, ℕ, List, ◌∷◌, ◌++◌, replicate, reverse, Option}
use Rattle.mg_edge.specs.Edge.{SourceTold}
use Rattle.mg_value.specs.Payload.{Plain}
use Rattle.mg_settled.specs.Prefix.{StreamPrefix, empty_prefix}
use Rattle.mg_calc.specs.Rules.{Laws}
use Rattle.mg_calc.specs.declared.inputs.Inputs.{Inputs}
use Rattle.mg_calc.specs.declared.plan.Plan.{Plan}
use Rattle.mg_calc.specs.Equations.{IsJob, IsSolution}
use Rattle.mg_calc.specs.Told.{BoxTold}
use Rattle.mg_free.specs.Core.{split_of}
use Rattle.mg_free.specs.Rounds.{Taken, core_job}
use Rattle.mg_live.specs.SoFar.{SoFar}
use Rattle.mg_feed.specs.declared.feed_end.FeedEnd.{FeedEnd}
use Rattle.mg_feed.specs.declared.feed_end.BatchEnd.TheVariants.{End}
use Rattle.mg_answer.specs.Answer.{OutputForm}
use Rattle.mg_answer.specs.Devices.{Device, RunDevices}
use Rattle.mg_answer.specs.declared.status.Status.{Status}
use Rattle.mg_answer.specs.declared.run.Reporting.{Reporting}
use Rattle.mg_drive.specs.Leaves.{KeepsAFront}
use Rattle.mg_drive.specs.OneLive.{OneLive}
use Rattle.mg_drive.specs.OneRun.{AllHad, WasNothing}
use Rattle.mg_drive.specs.Batches.{Giving, Coming, Due, MayRead, IsMore}
use Rattle.mg_drive.specs.Code.Running.{ReadingOn, TellingSets, IsToldSome, FrontIn}
use Rattle.mg_drive.specs.Code.Ending.{ReadFirst}
use Rattle.mg_drive.specs.Code.Live.{end_by}

-- All batches were given and run: `base` is what they gave together, and `earlier` has what they had given by the end of each earlier
-- batch.
pub record HasRunLive (laws : Laws) {B : Type 0} (gives : Giving B) (came : Coming B) (form : OutputForm) (report : Reporting) (began : B) (whole : Plan) (status : Status) (devices : RunDevices) (boxes : Device (List BoxTold)) : Type 0 where
  pub batches : B
  pub end : FeedEnd
  pub base : Inputs
  pub earlier : List Inputs
  pub given : gives began batches whole devices.input.before devices.input.now (End end) base
  pub in_turn : came began batches whole devices.input.before devices.input.now (End end) (base ∷ earlier)
  pub first : Inputs
  pub later : List Inputs
  pub in_order : reverse (base ∷ earlier) ≡ first ∷ later
  pub run : OneLive laws form report whole first later end status devices.output devices.notes boxes

-- what a further call of batches reads, if one may come
abbrev pub ReadsWhere : {B : Type 0} → (B → Plan → Type 0) → Due B → ReadingOn B → ReadingOn B
ReadsWhere is_fresh is_due reads_on batches plan first at now = MayRead is_fresh is_due batches plan → reads_on batches plan first at now

-- Memory ran out once there was a net of the core. It ran out after a batch of the plan had come, or while more was read after that batch.
-- The input may have ended with the batch.
pub record CoreShort (laws : Laws) {B T : Type 0} (came : Coming B) (reads_on : ReadingOn B) (has_told : TellingSets T) (form : OutputForm) (began : B) (whole : Plan) (devices : RunDevices) (boxes : Device (List BoxTold)) : Type 0 where
  pub batches : B
  pub ended : Option FeedEnd
  pub at : SourceTold
  pub base : Inputs
  pub earlier : List Inputs
  pub in_turn : came began batches whole devices.input.before at (end_by ended) (base ∷ earlier)
  pub last : (at ≡ devices.input.now) ⊎ (IsMore (end_by ended) × reads_on batches whole devices.input.before at devices.input.now)
  pub takens : List Taken
  pub so_far : SoFar laws (split_of whole) (base ∷ earlier) takens
  pub is_job : IsJob (core_job laws (split_of whole) base takens)
  pub streams : List (StreamPrefix Plain)
  pub solution : IsSolution (core_job laws (split_of whole) base takens) streams
  pub front : IsToldSome has_told (core_job laws (split_of whole) base takens) devices.output.before devices.output.now
      ⊎ FrontIn form devices.output.before devices.output.now (core_job laws (split_of whole) base takens)
  pub had : AllHad (split_of whole).core (KeepsAFront (core_job laws (split_of whole) base takens) streams) boxes

-- a run of a core over batches of its plan ended because memory ran out, before there was a net or later
abbrev pub HasRunLiveShort : (laws : Laws) {B T : Type 0} → Giving B → Coming B → ReadingOn B → TellingSets T → OutputForm → B → Plan → RunDevices → Device (List BoxTold) → Type 0
HasRunLiveShort laws gives came reads_on has_told form began whole devices boxes =
    (ReadFirst gives reads_on began whole devices.input × WasNothing devices.output boxes) ⊎ CoreShort laws came reads_on has_told form began whole devices boxes

-- The further inputs are these, with `count` more streams after their streams. Nothing is known of the new streams.
pub record IsWidened (inputs more : Inputs) (count : ℕ) : Type 0 where
  pub streams : more.streams ≡ inputs.streams ++ replicate count empty_prefix
  pub sides : more.sides ≡ inputs.sides
  pub ended : more.ended ≡ inputs.ended
