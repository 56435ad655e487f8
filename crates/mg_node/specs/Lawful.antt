-- Lawful parts: what a part of a cell stands for in the solution of its job. Each predicate speaks of one part alone, by what
-- contracts see of it. What two parts have to agree on stands apart, at the end.
use Rattle.std.specs.Prelude.{◌≡◌, ℕ, ◌+◌, ◌<◌, ◌≤◌, Bool, true, false, List, [], ◌∷◌, ◌++◌, length, All, Option, Some, None, IfSome, IsSome, option_map, slice_get, slice_index_or, Result, Ok, Err, count_by as number_of, if◌then◌else◌}
use Rattle.std.specs.List.{AllZip, range_with_len}
use Rattle.mg_value.specs.Payload.{Plain}
use Rattle.mg_value.specs.Packet.{Stamped}
use Rattle.mg_settled.specs.Prefix.{StreamPrefix, empty_prefix}
use Rattle.mg_settled.specs.Extension.{AreExtendedBy}
use Rattle.mg_stream.specs.Queue.{StandsFor}
use Rattle.mg_stream.specs.Pool.{Backlog, queue_of, queues_of}
use Rattle.mg_policy.specs.Inbox.{Gathered, StandAfter}
use Rattle.mg_loopback.specs.Loopback.{Held}
use Rattle.mg_loopback.specs.Standing.{StandsAfter}
use Rattle.mg_calc.specs.Rules.{Laws, Rules}
use Rattle.mg_calc.specs.declared.call.Call.{Call}
use Rattle.mg_calc.specs.declared.call.Call.TheVariants.{Finished}
use Rattle.mg_calc.specs.declared.cause.Cause.{Cause}
use Rattle.mg_calc.specs.declared.emission.Laid.{Laid}
use Rattle.mg_calc.specs.declared.law.Law.{Law}
use Rattle.mg_calc.specs.declared.law.Law.TheVariants.{Loopback}
use Rattle.mg_calc.specs.declared.node_fault.Phase.{Phase}
use Rattle.mg_calc.specs.declared.node_fault.Phase.TheVariants.{Open, Call as SourceCall, Process, Close}
use Rattle.mg_calc.specs.declared.plan_node.PlanNode.{PlanNode}
use Rattle.mg_calc.specs.Answer.{Answer}
use Rattle.mg_calc.specs.Law.{call}
use Rattle.mg_calc.specs.Outcome.{Outcome}
use Rattle.mg_calc.specs.Equations.{outcome_of, rules_at}
use Rattle.mg_calc.specs.Meaning.{count_of}
use Rattle.mg_route.specs.HolderView.{FitsHolder}
use Rattle.mg_node.specs.declared.role.Role.{Role}
use Rattle.mg_node.specs.declared.role.Role.TheVariants.{Input, Source}
use Rattle.mg_node.specs.declared.pending.Pending.{Pending}
use Rattle.mg_node.specs.declared.pending.Pending.TheVariants.{Sets as WaitingSets, Loop as WaitingLoop}
use Rattle.mg_node.specs.Views.{IntakeView, ContextView, WorkView, PerformedView, OutcomeView, EntryView, EngineView}
use Rattle.mg_node.specs.Windows.{has_ended, starts_ready}
use Rattle.mg_node.specs.Job.{LoggedJob, Solves, ports_of, policy_of, law_of, streams_at, role_of, stage, IsLastWork, IsTask, log_after, calls_before, calls_in}

-- Intakes.

-- what waits for sets is lawful: what came at each port is a prefix that the solution's stream at that port extends. The first `claimed`
-- sets of what came are claimed, and what waits is the rest.
pub record HoldsSets {laws : Laws} (job : LoggedJob laws) (streams : List (StreamPrefix Plain)) (consumer claimed : ℕ) (inbox : Gathered) : Type 0 where
  pub policy : inbox.policy ≡ policy_of job.job.plan consumer
  pub came : List (StreamPrefix Plain)
  pub extended : AreExtendedBy came (streams_at streams (ports_of job.job.plan consumer))
  pub stands : StandAfter inbox.policy claimed (queues_of inbox.pool) came

-- what waits at a loopback is lawful: what came at MAIN and LOOP are prefixes that the solution's streams extend. The first `claimed`
-- answers to these prefixes are given.
pub record HoldsLoop {laws : Laws} (job : LoggedJob laws) (streams : List (StreamPrefix Plain)) (consumer claimed : ℕ) (held : Held Plain) : Type 0 where
  pub main : StreamPrefix Plain
  pub loop : StreamPrefix Plain
  pub extended : AreExtendedBy (loop ∷ main ∷ []) (streams_at streams (ports_of job.job.plan consumer))
  pub stands : StandsAfter claimed held main loop

-- what waits at a consumer is lawful: a loopback's if that is the consumer's law, and otherwise what waits for sets
abbrev pub HoldsWaits : {laws : Laws} → LoggedJob laws → List (StreamPrefix Plain) → ℕ → ℕ → Pending → Type 0
HoldsWaits {laws} job streams consumer claimed (WaitingSets inbox) = ¬ (law_of job.job.plan consumer ≡ Some Loopback) × HoldsSets job streams consumer claimed inbox
HoldsWaits {laws} job streams consumer claimed (WaitingLoop held) = (law_of job.job.plan consumer ≡ Some Loopback) × HoldsLoop job streams consumer claimed held

-- an intake is that of a consumer of a job: what waits there is lawful in the job's solution
pub record IsIntakeOf {laws : Laws} (job : LoggedJob laws) (consumer : ℕ) (view : IntakeView) : Type 0 where
  pub streams : List (StreamPrefix Plain)
  pub solves : Solves job streams
  pub is_there : consumer ≤ length job.job.plan.nodes
  pub holds : HoldsWaits job streams consumer view.claimed view.waits

-- an intake is lawful for a job, as the intake of this consumer
unfoldable pub LawfulIntake : {laws : Laws} → LoggedJob laws → ℕ → IntakeView → Type 0
LawfulIntake {laws} job consumer view = IsIntakeOf job consumer view

-- Works.

-- what a calculator gives in a phase, by its rules, or as a source by its law, from a state, at a set
abbrev pub answer_in : Rules → Law → List Plain → Phase → List (Option (Stamped Plain)) → Answer
answer_in rules law state Open set = Ok (state, [])
answer_in rules law state (SourceCall number) set = call law state number
answer_in rules law state (Process at) set = rules.step state at set
answer_in rules law state Close set = rules.finish state

-- a calculator has answered: it keeps the new state of its answer, or still the old state if the answer is a cause
abbrev pub HasAnswered : Result (List Laid) Cause → List Plain → List Plain → Answer → Type 0
HasAnswered (Ok emission) before now answer = answer ≡ Ok (now, emission)
HasAnswered (Err cause) before now answer = (answer ≡ Err cause) × (now ≡ before)

-- what a calculator keeps once it has answered: the new state, or still the old state if the answer is a cause
abbrev pub kept_after : Answer → List Plain → List Plain
kept_after (Ok given) before = given.0
kept_after (Err cause) before = before

-- what a calculator keeps, and what its log has, before a work (with no answer) and after it (with its answer)
abbrev pub IsAtWork : {laws : Laws} → LoggedJob laws → List (StreamPrefix Plain) → PlanNode → WorkView → Option (Result (List Laid) Cause) → Type 0
IsAtWork {laws} job streams node work None =
    (work.context.told.state ≡ (stage job.job streams node work.number).state)
    × (work.context.told.log ≡ log_after job node (calls_before streams node work.number))
IsAtWork {laws} job streams node work (Some answer) =
    HasAnswered answer (stage job.job streams node work.number).state work.context.told.state
    (answer_in (rules_at job.job node) node.law (stage job.job streams node work.number).state work.phase work.context.set)
    × (work.context.told.log ≡ log_after job node (calls_before streams node work.number ++ calls_in work.phase work.context.set))

-- a work of a job, perhaps with its answer. The work is one of its node's works, and its calculator fits the node. Its set is the set of
-- its number.
pub record IsWorkOf {laws : Laws} (job : LoggedJob laws) (view : OutcomeView) : Type 0 where
  pub streams : List (StreamPrefix Plain)
  pub solves : Solves job streams
  pub node : PlanNode
  pub there : slice_get job.job.plan.nodes view.work.node ≡ Some node
  pub fits : FitsHolder node view.work.context.told
  pub places : length view.work.context.set ≡ length node.inputs
  pub task : IsTask job.job streams node view.work.number view.work.phase view.work.context.set
  pub at_work : IsAtWork job streams node view.work view.answer

-- an outcome is lawful for a job
unfoldable pub LawfulOutcome : {laws : Laws} → LoggedJob laws → OutcomeView → Type 0
LawfulOutcome {laws} job view = IsWorkOf job view

-- a work that isn't run is lawful for a job
unfoldable pub LawfulWork : {laws : Laws} → LoggedJob laws → WorkView → Type 0
LawfulWork {laws} job view = IsWorkOf job (record { work = view; answer = None })

-- a work that was performed is lawful for a job
unfoldable pub LawfulPerformed : {laws : Laws} → LoggedJob laws → PerformedView → Type 0
LawfulPerformed {laws} job view = IsWorkOf job (record { work = view.work; answer = Some view.answer })

-- Engines.

-- who has an engine: a node, or a graph input, each by its number
pub data Owner : Type 0 where
  of_node : ℕ → Owner
  of_input : ℕ → Owner

-- an engine is set up by a node: it has the node's role, number, outputs, offset, limit of works and number of inputs
pub record IsSetUp (node : PlanNode) (number : ℕ) (view : EngineView) : Type 0 where
  pub role : view.role ≡ role_of node.law
  pub number_is : view.node ≡ number
  pub first : node.outputs ≡ range_with_len view.first (length node.outputs)
  pub offset : view.offset ≡ node.shape.offset
  pub in_flight : view.in_flight ≡ node.in_flight
  pub inputs : view.inputs ≡ length node.inputs

-- outputs stand for what was laid at them in whole: each output keeps the last packets of its prefix, and gave the others up
abbrev pub StandForAll : List (Backlog Plain) → List (StreamPrefix Plain) → Type 0
StandForAll outputs whole = AllZip (λ output s. StandsFor (queue_of 0 output) s) outputs whole

-- a prefix is another one, perhaps with a higher bound
pub record IsRaised (s raised : StreamPrefix Plain) : Type 0 where
  pub packets : raised.packets ≡ s.packets
  pub bound : s.bound ≤ raised.bound

-- the outcome of a node once `laid` of its sets, calls or answers are laid, and Close too if it is `closed`
abbrev pub come_to : {laws : Laws} → LoggedJob laws → List (StreamPrefix Plain) → PlanNode → ℕ → Bool → Outcome
come_to {laws} job streams node laid closed = if closed then outcome_of job.job streams node else stage job.job streams node laid

-- the calls that a node's calculator has had once `laid` of its sets are laid, and Close too if it is `closed`
abbrev pub calls_by : List (StreamPrefix Plain) → PlanNode → ℕ → Bool → List Call
calls_by streams node laid closed = calls_before streams node laid ++ (if closed then Finished ∷ [] else [])

-- a context that no work has: its calculator fits the node and has the state that what is laid gives, and its log ends there
pub record IsIdle {laws : Laws} (job : LoggedJob laws) (streams : List (StreamPrefix Plain)) (node : PlanNode) (laid : ℕ) (closed : Bool) (context : ContextView) : Type 0 where
  pub fits : FitsHolder node context.told
  pub places : length context.set ≡ length node.inputs
  pub state : context.told.state ≡ (come_to job streams node laid closed).state
  pub log : context.told.log ≡ log_after job node (calls_by streams node laid closed)

-- whether a phase is Close
abbrev pub is_close : Phase → Bool
is_close Close = true
is_close phase = false

-- an outcome in a window is the lawful outcome of the work of this node, number and phase
pub record StandsAt {laws : Laws} (job : LoggedJob laws) (node number : ℕ) (phase : Phase) (outcome : OutcomeView) : Type 0 where
  pub node_is : outcome.work.node ≡ node
  pub number_is : outcome.work.number ≡ number
  pub phase_is : outcome.work.phase ≡ phase
  pub lawful : LawfulOutcome job outcome

-- an entry of a window, by its number: its work is out, or came back unrun or performed. Only a performed work is committed, and Close is
-- claimed once all else is laid.
pub record IsEntry {laws : Laws} (job : LoggedJob laws) (streams : List (StreamPrefix Plain)) (node : PlanNode) (laid number : ℕ) (owner : ℕ) (entry : EntryView) : Type 0 where
  pub set : List (Option (Stamped Plain))
  pub task : IsTask job.job streams node number entry.phase set
  pub outcome : IfSome entry.outcome (λ o. StandsAt job owner number entry.phase o)
  pub committed : entry.committed ≡ true → IsSome entry.outcome × IfSome entry.outcome (λ o. IsSome o.answer)
  pub close : entry.phase ≡ Close → number ≡ laid

-- an engine is that of a node of a job: the node's first sets, calls or answers are laid, and some more are claimed
pub record IsEngineOf {laws : Laws} (job : LoggedJob laws) (number : ℕ) (view : EngineView) : Type 0 where
  pub streams : List (StreamPrefix Plain)
  pub solves : Solves job streams
  pub node : PlanNode
  pub there : slice_get job.job.plan.nodes number ≡ Some node
  pub set_up : IsSetUp node number view
  pub begun : view.begun ≡ true
  -- no more is laid than is claimed, and no more than the node has; Close is laid only after all of it
  pub claimed : view.laid ≤ view.claimed
  pub taken : view.laid ≤ count_of job.job streams node
  pub closed : view.closed ≡ true → IsLastWork job.job streams node view.laid
  -- the engine's outputs are those of what is laid, perhaps raised, and the solution's streams extend them; its fault is that of what is
  -- laid
  pub whole : List (StreamPrefix Plain)
  pub kept : StandForAll view.outputs whole
  pub raised : AllZip IsRaised (come_to job streams node view.laid view.closed).outputs whole
  pub extended : AreExtendedBy whole (streams_at streams node.outputs)
  pub fault : view.fault ≡ option_map (λ f. record { node = number; phase = f.phase; cause = f.cause }) (come_to job streams node view.laid view.closed).fault
  -- the window has what is claimed and isn't laid, in order; each context is with a work or idle
  pub order : view.laid + length view.window ≡ view.claimed + number_of (λ e. is_close e.phase) view.window
  pub entries : (i : ℕ) (entry : EntryView) → slice_get view.window i ≡ Some entry → IsEntry job streams node view.laid (view.laid + i) number entry
  pub idle : All (IsIdle job streams node view.laid view.closed) view.idle
  pub contexts : length view.idle + length view.window ≡ view.in_flight
  -- while the node goes on, all that is ready at the front of the window is laid
  pub waits : has_ended view ≡ false → starts_ready view.window ≡ false
  -- a node that has ended keeps a context that no work has: the one whose answer was laid last
  pub ended : has_ended view ≡ true → 0 < length view.idle

-- an engine is that of a graph input of a job: its one output is the solution's stream of that input
pub record IsInputOf {laws : Laws} (job : LoggedJob laws) (number : ℕ) (view : EngineView) : Type 0 where
  pub streams : List (StreamPrefix Plain)
  pub solves : Solves job streams
  pub there : number < length job.job.plan.inputs
  pub role : view.role ≡ Input
  pub number_is : view.node ≡ number
  pub first : view.first ≡ number
  pub kept : StandForAll view.outputs (slice_index_or streams number empty_prefix ∷ [])
  pub laid : view.laid ≡ 0
  pub claimed : view.claimed ≡ 0
  pub window : view.window ≡ []
  pub idle : view.idle ≡ []
  pub fault : view.fault ≡ None

-- an engine is lawful for a job, as the engine of this owner
unfoldable pub LawfulEngine : {laws : Laws} → LoggedJob laws → Owner → EngineView → Type 0
LawfulEngine {laws} job (of_node number) view = IsEngineOf job number view
LawfulEngine {laws} job (of_input number) view = IsInputOf job number view

-- Cells.

-- an engine and an intake agree, by the engine's role: both count as many sets or answers as claimed. A source's calls aren't claimed of
-- its intake.
abbrev pub AgreeBy : Role → ℕ → ℕ → Type 0
AgreeBy (Source calls) claimed of_intake = of_intake ≡ 0
AgreeBy role claimed of_intake = claimed ≡ of_intake

-- an engine and an intake agree: both count as many sets or answers as claimed
abbrev pub Agree : EngineView → IntakeView → Type 0
Agree engine intake = AgreeBy engine.role engine.claimed intake.claimed

-- an engine and an intake are one cell: for some job both are lawful parts of one node, and they agree
pub record AreCell (laws : Laws) (engine : EngineView) (intake : IntakeView) : Type 0 where
  pub job : LoggedJob laws
  pub number : ℕ
  pub lawful_engine : LawfulEngine job (of_node number) engine
  pub lawful_intake : LawfulIntake job number intake
  pub agree : Agree engine intake
