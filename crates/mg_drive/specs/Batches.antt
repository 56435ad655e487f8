-- Batches, what they hand to a graph, and how a run goes on after each.
use Rattle.std.specs.Prelude.{◌≡◌, ◌⊎◌, ◌<◌, ◌+◌, ◌^◌, ℕ, List, All, Some, length, slice_get, slice_index_or, ⊤, refl}
use Rattle.mg_edge.specs.Edge.{SourceTold, SinkTold}
use Rattle.mg_value.specs.Payload.{Plain}
use Rattle.mg_settled.specs.Prefix.{StreamPrefix, empty_prefix}
use Rattle.mg_settled.specs.Extension.{AreExtendedBy}
use Rattle.mg_calc.specs.Rules.{Laws}
use Rattle.mg_calc.specs.declared.inputs.Inputs.{Inputs}
use Rattle.mg_calc.specs.declared.plan.Plan.{Plan}
use Rattle.mg_calc.specs.Plan.{IsValid, InputsFit}
use Rattle.mg_calc.specs.Equations.{Job, IsSolution}
use Rattle.mg_calc.specs.Told.{BoxTold}
use Rattle.mg_feed.specs.declared.feed_end.FeedEnd.{FeedEnd}
use Rattle.mg_feed.specs.declared.feed_end.BatchEnd.{BatchEnd}
use Rattle.mg_feed.specs.declared.feed_end.BatchEnd.TheVariants.{More, End}
use Rattle.mg_node.specs.Job.{LoggedJob}
use Rattle.mg_node.specs.Extending.{joined}
use Rattle.mg_sched.specs.Views.{NetView}
use Rattle.mg_sched.specs.StandsFor.{StandsFor}
use Rattle.mg_sched.specs.Extends.{ComesAt}
use Rattle.mg_answer.specs.Answer.{OutputForm, output_in}
use Rattle.mg_answer.specs.Outcomes.{TellsOf}
use Rattle.mg_answer.specs.Put.{TextView, HasPut}
use Rattle.mg_answer.specs.declared.outcomes.Outcomes.{Outcomes}
use Rattle.mg_drive.specs.Nets.{HasRested, Wanted, AreRead, IsUnmoved}
use Rattle.mg_drive.specs.declared.moved.Moved.{Moved}
use Rattle.mg_drive.specs.declared.batches.Onward.{Onward}
use Rattle.mg_drive.specs.declared.batches.Onward.TheVariants.{Round, Next, End as Over}

-- a batch ended with `More`
abbrev pub IsMore : BatchEnd → Type 0
IsMore More = ⊤
IsMore (End end) = ⊥

-- the job of a plan over inputs, with the user-supplied calculators
abbrev pub logged : (laws : Laws) → Plan → Inputs → List BoxTold → LoggedJob laws
logged laws plan inputs boxes = record { job = record { plan = plan; inputs = inputs; laws = laws }; boxes = boxes; same = refl }

-- The inputs of the first batch were given, and they fit the plan.
pub record IsFirst (gives : BatchEnd → Inputs → Type 0) (plan : Plan) (end : BatchEnd) (inputs : Inputs) : Type 0 where
  pub given : gives end inputs
  pub fits : InputsFit plan inputs

-- Inputs so far and further inputs are together these. Each stream has its further piece after what it had, and all together fit the plan.
pub record InputsGoOn (plan : Plan) (so_far more all : Inputs) : Type 0 where
  pub fits : InputsFit plan all
  pub sides : so_far.sides ≡ all.sides
  pub extended : AreExtendedBy so_far.streams all.streams
  pub pieces : length more.streams ≡ length so_far.streams
  pub streams : (input : ℕ) → input < length more.streams → slice_index_or all.streams input empty_prefix
      ≡ joined (slice_index_or so_far.streams input empty_prefix) (slice_index_or more.streams input empty_prefix)

-- Further inputs were given. Together with the inputs so far they are all that was given.
pub record BatchesGoOn (gives : Inputs → Type 0) (plan : Plan) (so_far more : Inputs) : Type 0 where
  pub all : Inputs
  pub given : gives all
  pub goes_on : InputsGoOn plan so_far more all

-- How a run goes on --

-- the type of `Batches::gives`: what batches gave, all of them together
abbrev pub Giving : Type 0 → Type 1
Giving B = B → B → Plan → SourceTold → SourceTold → BatchEnd → Inputs → Type 0

-- the type of `Batches::came`: what batches had given together after each of them, the newest first
abbrev pub Coming : Type 0 → Type 1
Coming B = B → B → Plan → SourceTold → SourceTold → BatchEnd → List Inputs → Type 0

-- the type of `Batches::is_due`: after which inputs the next batch is due
abbrev pub Due : Type 0 → Type 1
Due B = B → Plan → Inputs → Type 0

-- A batch may be read: none was given yet, or the next one is due.
abbrev pub MayRead : {B : Type 0} → (B → Plan → Type 0) → Due B → B → Plan → Type 0
MayRead is_fresh is_due batches plan = is_fresh batches plan ⊎ ((inputs : Inputs) × is_due batches plan inputs)

-- A net has come to rest over what batches gave. The last batch ended in this way.
pub record IsAsGiven (laws : Laws) {B : Type 0} (gives : Giving B) (began : B) (plan : Plan) (first source : SourceTold) (last : BatchEnd) (so_far : Inputs) (net : NetView) (batches : B) : Type 0 where
  pub valid : IsValid plan
  pub given : gives began batches plan first source last so_far
  pub boxes : List BoxTold
  pub stands : StandsFor (logged laws plan so_far boxes) net
  pub has_rested : HasRested (logged laws plan so_far boxes) net

-- in some run of some plan a net has come to rest over what batches gave
pub record SomeGiven (laws : Laws) {B : Type 0} (gives : Giving B) (last : BatchEnd) (net : NetView) (batches : B) : Type 0 where
  pub began : B
  pub plan : Plan
  pub first : SourceTold
  pub source : SourceTold
  pub so_far : Inputs
  pub as_given : IsAsGiven laws gives began plan first source last so_far net batches

-- The next batch is due: the input has no end yet, and nothing comes before the batch. The batches have read all that the net has laid for
-- them.
pub record NextIsDue {B : Type 0} (gives : Giving B) (is_due : Due B) (wants : B → List Wanted) (began : B) (plan : Plan) (first source : SourceTold) (last : BatchEnd) (so_far : Inputs) (net : NetView) (now : B) : Type 0 where
  pub more : last ≡ More
  pub given : gives began now plan first source More so_far
  pub due : is_due now plan so_far
  pub read : AreRead (wants now) net

-- Some graph inputs get pieces. Together with what came so far, these pieces were given.
pub record SomeComes (gives : Inputs → Type 0) (plan : Plan) (so_far : Inputs) (inputs : List ℕ) (pieces : List (StreamPrefix Plain)) : Type 0 where
  pub more : Inputs
  pub goes : BatchesGoOn gives plan so_far more
  pub comes : ComesAt inputs pieces so_far.streams more

-- How a run goes on. Some graph inputs get pieces before the next batch; or the next batch is due; or the input ended, and all of it was
-- given.
abbrev pub GoesOnward : {B : Type 0} → Giving B → Due B → (B → List Wanted) → B → Plan → SourceTold → SourceTold → BatchEnd → Inputs → NetView → B → Onward → Type 0
GoesOnward gives is_due wants began plan first source last so_far net now (Round inputs pieces) =
    (last ≡ More) × SomeComes (gives began now plan first source More) plan so_far inputs pieces
GoesOnward gives is_due wants began plan first source last so_far net now Next = NextIsDue gives is_due wants began plan first source last so_far net now
GoesOnward gives is_due wants began plan first source last so_far net now (Over end) = gives began now plan first source (End end) so_far

-- the engines of the graph inputs that get pieces are noted
abbrev pub InputsAreNoted : Onward → Moved → NetView → Type 0
InputsAreNoted (Round inputs pieces) moved net = (i input : ℕ) → slice_get inputs i ≡ Some input → ¬ IsUnmoved moved (length net.plan.nodes + input)
InputsAreNoted Next moved net = ⊤
InputsAreNoted (Over end) moved net = ⊤

-- the bound on the batches and rounds that may still come falls with each round, and stays otherwise
abbrev pub RoundLeaves : Onward → ℕ → ℕ → Type 0
RoundLeaves (Round inputs pieces) before now = now < before
RoundLeaves Next before now = now ≡ before
RoundLeaves (Over end) before now = now ≡ before

-- how a run goes on if nothing comes between batches
abbrev pub PlainOnward : BatchEnd → Onward → Type 0
PlainOnward More onward = onward ≡ Next
PlainOnward (End end) onward = onward ≡ Over end

-- How a run ends --

-- outcomes have an entry for each node and stream of a plan
pub record OutcomesFit (plan : Plan) (outcomes : Outcomes) : Type 0 where
  pub few : length outcomes.ends.items < 2 ^ 32
  pub many : length outcomes.ends.items ≡ length plan.streams
  pub sets : length outcomes.sets ≡ length plan.nodes
  pub nodes : All (λ fault. fault.node < length plan.nodes) outcomes.faults

-- Outcomes are of streams of the job over all that batches gave. The last batch ended the input in this way.
pub record AreOfGiven (laws : Laws) {B : Type 0} (gives : Giving B) (plan : Plan) (end : FeedEnd) (batches : B) (outcomes : Outcomes) : Type 0 where
  pub began : B
  pub first : SourceTold
  pub source : SourceTold
  pub inputs : Inputs
  pub given : gives began batches plan first source (End end) inputs
  pub streams : List (StreamPrefix Plain)
  pub tells : TellsOf (record { plan = plan; inputs = inputs; laws = laws }) streams outcomes

-- A job of the plan has a solution, and the outcomes are those of this solution. A text that tells the solution in a form was put.
pub record TellsSolution (form : OutputForm) (job : Job) (first sink : SinkTold) (plan : Plan) (text : TextView) (outcomes : Outcomes) : Type 0 where
  pub plan_is : job.plan ≡ plan
  pub streams : List (StreamPrefix Plain)
  pub solution : IsSolution job streams
  pub tells : TellsOf job streams outcomes
  pub put : HasPut first sink text (output_in form plan streams)
