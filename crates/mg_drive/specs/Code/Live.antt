-- Runs of graphs with free nodes. These definitions say what the core of a plan gets, batch by batch and round by round, and what is
-- written at the end.
use Rattle.std.specs.Prelude.{◌≡◌, ◌+◌, ◌-◌, ◌^◌, ℕ, Bool, true, false, List, ◌∷◌, map, length, replicate, Option, Some, None, sum_by, ⊤}
use Rattle.std.specs.List.{flat_map, zip}
use Rattle.mg_edge.specs.Edge.{SourceTold, SinkTold}
use Rattle.mg_value.specs.Payload.{Plain}
use Rattle.mg_settled.specs.Prefix.{StreamPrefix}
use Rattle.mg_calc.specs.Rules.{Laws}
use Rattle.mg_calc.specs.declared.inputs.Inputs.{Inputs}
use Rattle.mg_calc.specs.declared.plan.Plan.{Plan}
use Rattle.mg_calc.specs.Plan.{IsValidWithFree}
use Rattle.mg_calc.specs.Equations.{Job, IsSolution}
use Rattle.mg_free.specs.declared.node.FreeNode.{FreeNode}
use Rattle.mg_free.specs.Core.{split_of}
use Rattle.mg_free.specs.Rounds.{Taken, none_taken, core_inputs, IsRound}
use Rattle.mg_live.specs.declared.taker.Taker.{Taker}
use Rattle.mg_live.specs.Takes.{HaveTaken, handed_of, outputs_so_far}
use Rattle.mg_live.specs.SoFar.{SoFar, HaveCome}
use Rattle.mg_feed.specs.declared.feed_end.FeedEnd.{FeedEnd}
use Rattle.mg_feed.specs.declared.feed_end.BatchEnd.{BatchEnd}
use Rattle.mg_feed.specs.declared.feed_end.BatchEnd.TheVariants.{More, End}
use Rattle.mg_answer.specs.Answer.{OutputForm, output_in}
use Rattle.mg_answer.specs.Devices.{Device}
use Rattle.mg_answer.specs.Outcomes.{told_answer, told_failed}
use Rattle.mg_answer.specs.Wrote.{WroteBy}
use Rattle.mg_answer.specs.declared.outcomes.Outcomes.{Outcomes}
use Rattle.mg_answer.specs.declared.status.Status.{Status}
use Rattle.mg_answer.specs.declared.run.Reporting.{Reporting}
use Rattle.mg_node.specs.Job.{LoggedJob, Solves}
use Rattle.mg_sched.specs.Views.{NetView}
use Rattle.mg_sched.specs.StandsFor.{StandsFor}
use Rattle.mg_drive.specs.Nets.{HasRested, Wanted}
use Rattle.mg_drive.specs.Batches.{Giving, Coming, Due}
use Rattle.mg_drive.specs.Live.{LiveTells}

-- The streams --

-- the streams of a net that has come to rest solve the job for which it stands
pub record AreRested (laws : Laws) (net : NetView) (streams : List (StreamPrefix Plain)) : Type 0 where
  pub job : LoggedJob laws
  pub stands : StandsFor job net
  pub has_rested : HasRested job net
  pub solves : Solves job streams

-- for each port of a free node the stream, and how many of its packets have arrived there
abbrev pub wanted_at : FreeNode × Taker → List Wanted
wanted_at e = map (λ p. record { stream = p.0; from = p.1 }) (zip e.0.inputs e.1.counts.items)

-- for each port of all free nodes the stream, and how many of its packets have arrived there
abbrev pub wanted_by : List FreeNode → List Taker → List Wanted
wanted_by frees takers = flat_map wanted_at (zip frees takers)

-- The batches --

-- how the input ended with a batch, if it did
abbrev pub ended_of : BatchEnd → Option FeedEnd
ended_of More = None
ended_of (End end) = Some end

-- the end of a batch, by how the input ended with it, if it did
abbrev pub end_by : Option FeedEnd → BatchEnd
end_by None = More
end_by (Some end) = End end

-- `nodes` has the plan's number of each node of its core, and `streams` the core's number of each stream of the plan
pub record AreNumbersOf (whole : Plan) (nodes streams : List ℕ) : Type 0 where
  pub nodes_are : nodes ≡ (split_of whole).numbers
  pub streams_are : streams ≡ (split_of whole).streams

-- What is kept of a run of a graph with free nodes, as contracts see it. `batches` are the batches of its plan, and `plan` is the plan that
-- it began with. `whole` is the plan, with the numbers of its core (`nodes` and `streams`). `ended` says how the input ended, once it has.
-- `rested` says whether a round has done nothing since the last batch came. `frees` and `takers` are what is kept of the free nodes.
pub record LiveView (B : Type 0) : Type 0 where
  pub batches : B
  pub plan : Plan
  pub whole : Plan
  pub nodes : List ℕ
  pub streams : List ℕ
  pub ended : Option FeedEnd
  pub rested : Bool
  pub frees : List FreeNode
  pub takers : List Taker

-- the state of a run with free nodes is of a plan with this core, and whatever its batches gave, the next one is due
pub record IsLiveOf {B : Type 0} (is_due : Due B) (core : Plan) (live : LiveView B) : Type 0 where
  pub whole_is : live.whole ≡ live.plan
  pub valid : IsValidWithFree live.whole
  pub core_is : core ≡ (split_of live.whole).core
  pub numbers_are : AreNumbersOf live.whole live.nodes live.streams
  pub frees_are : live.frees ≡ (split_of live.whole).free
  pub due : (batches : B) (plan : Plan) (inputs : Inputs) → is_due batches plan inputs

-- a core has got nothing yet: the batches of its plan are new, and the free nodes have taken nothing
pub record IsFreshLive {B : Type 0} (is_fresh : B → Plan → Type 0) (is_due : Due B) (core : Plan) (live : LiveView B) : Type 0 where
  pub of : IsLiveOf is_due core live
  pub fresh : is_fresh live.batches live.whole
  pub taken : HaveTaken live.frees (none_taken (split_of live.whole)) live.takers
  pub none_handed : handed_of live.takers ≡ replicate (length live.frees) 0
  pub unended : live.ended ≡ None

-- what is known if no batch is left: the input ended with the last batch, and a round over that batch did nothing
abbrev pub EndsLive : {B : Type 0} → BatchEnd → LiveView B → Type 0
EndsLive More live = ⊤
EndsLive (End end) live = (live.ended ≡ Some end) × (live.rested ≡ true)

-- What came to a core. The batches of the plan gave `base` together, and `earlier` has what they had given by the end of each earlier
-- batch. In rounds over these the free nodes have taken what they have. `inputs` is `base` with what these rounds laid.
pub record LiveGives (laws : Laws) {B : Type 0} (gives : Giving B) (came : Coming B) (is_due : Due B) (began : B) (live : LiveView B) (core : Plan) (first source : SourceTold) (end : BatchEnd) (inputs : Inputs) : Type 0 where
  pub of : IsLiveOf is_due core live
  pub base : Inputs
  pub earlier : List Inputs
  pub given : gives began live.batches live.whole first source (end_by live.ended) base
  pub in_turn : came began live.batches live.whole first source (end_by live.ended) (base ∷ earlier)
  pub come : HaveCome live.whole (base ∷ earlier)
  pub takens : List Taken
  pub taken : HaveTaken live.frees takens live.takers
  pub handed : handed_of live.takers ≡ map (λ s. length s.packets) (outputs_so_far live.frees takens)
  pub so_far : SoFar laws (split_of live.whole) (base ∷ earlier) takens
  pub inputs_are : inputs ≡ core_inputs (split_of live.whole) base takens
  pub rests : live.rested ≡ true → IsRound laws (split_of live.whole) base takens takens
  pub ends : EndsLive end live

-- What came to a core, as a history: the newest entry is all that came to it, and nothing is said of the earlier entries.
pub record LiveCame (laws : Laws) {B : Type 0} (gives : Giving B) (came : Coming B) (is_due : Due B) (began : B) (live : LiveView B) (core : Plan) (first source : SourceTold) (end : BatchEnd) (history : List Inputs) : Type 0 where
  pub inputs : Inputs
  pub earlier : List Inputs
  pub history_is : history ≡ inputs ∷ earlier
  pub given : LiveGives laws gives came is_due began live core first source end inputs

-- The next batch is due: the input has no end yet, and a round has done nothing since the last batch came.
abbrev pub IsLiveDue : {B : Type 0} → LiveView B → Type 0
IsLiveDue live = (live.ended ≡ None) × (live.rested ≡ true)

-- A bound on the rounds that do something: a log has fewer than 2^64 arrivals, and an output closes once.
abbrev pub rounds_left : List Taker → ℕ
rounds_left takers = sum_by (λ taker. (2 ^ 64 - length taker.log.items) + (elim taker.closed [ true ↦ 0 | false ↦ 1 ])) takers

-- A bound on the batches that may still come. It is one more than the bound `left` of the plan's batches, and 0 once the input has ended.
abbrev pub batches_left : Option FeedEnd → ℕ → ℕ
batches_left None left = left + 1
batches_left (Some end) left = 0

-- What is written --

-- The answer of a solution of the core was written, with notes by the plan's numbers and with the lines of the logs. The logs are those of
-- whatever the free nodes may have taken, by what is kept of them.
pub record LiveWrote (whole : Plan) (frees : List FreeNode) (takers : List Taker) (form : OutputForm) (report : Reporting) (job : Job) (end : FeedEnd) (status : Status) (output notes : Device SinkTold) : Type 0 where
  pub streams : List (StreamPrefix Plain)
  pub solution : IsSolution job streams
  pub live : Outcomes
  pub tells : (takens : List Taken) → HaveTaken frees takens takers → LiveTells report whole job streams frees takens live
  pub by : WroteBy status (told_answer report whole end live (output_in form job.plan streams)) (told_failed report whole end live) output notes
