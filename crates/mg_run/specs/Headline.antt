-- A `run` or a `generate` that reached its graph is one thing. It reached its graph if no fault of a file and no lack of memory kept it
-- from that. There is one content of each file, one graph and its plan, one reading of the input and one solution. All that is seen of the
-- call belongs to these.
use Rattle.std.specs.Prelude.{◌≡◌, ◌⊎◌, ℕ, negsuc, List, [], ◌∷◌, None, Some, Ok}
use Rattle.mg_edge.specs.Edge.{SourceTold}
use Rattle.mg_config.specs.Config.{GraphView}
use Rattle.mg_calc.specs.Rules.{Laws}
use Rattle.mg_calc.specs.declared.inputs.Inputs.{Inputs}
use Rattle.mg_calc.specs.declared.plan.Plan.{Plan}
use Rattle.mg_calc.specs.Plan.{IsValid, IsValidWithFree}
use Rattle.mg_calc.specs.Equations as equations
use Rattle.mg_check.specs.Check.{check_of}
use Rattle.mg_subgraph.specs.Expansion.{expansion_of}
use Rattle.mg_free.specs.Core.{first_free}
use Rattle.mg_feed.specs.Graph.{inputs_of}
use Rattle.mg_feed.specs.declared.feed_end.FeedEnd.{FeedEnd}
use Rattle.mg_feed.specs.declared.feed_end.FeedEnd.TheVariants.{Ended}
use Rattle.mg_answer.specs.Answer.{Read, Telling, by_lines, by_summary, job_of, generated_job}
use Rattle.mg_answer.specs.Ran.{CameTo}
use Rattle.mg_answer.specs.declared.status.Status.{Status}
use Rattle.mg_answer.specs.declared.status.Status.TheVariants.{Good, LineRefused, NodeFault, Stalled, ReadFault, WriteFault}
use Rattle.mg_answer.specs.declared.run.Reporting.{Reporting}
use Rattle.mg_drive.specs.OneRun.{OneRun}
use Rattle.mg_drive.specs.OneLive.{AreBatchesOf, OneLive}
use Rattle.mg_run.specs.Answer.{reporting}
use Rattle.mg_run.specs.Invocation.{Invocation}
use Rattle.mg_files.specs.Files.{AreGraphs}
use Rattle.mg_files.specs.Loads.{LoadedAll}
use Rattle.mg_run.specs.Devices.{Device, CallDevices, Untouched}
use Rattle.mg_words.specs.declared.words.Instruction.{Instruction}
use Rattle.mg_words.specs.declared.words.Verb.{Verb}
use Rattle.mg_words.specs.declared.words.Verb.TheVariants.{Use}
use Rattle.mg_words.specs.declared.words.Way.TheVariants.{Run, Generate}

-- the commands that run a graph and write its outputs or a summary of them
abbrev pub RunsGraph : Verb → Type 0
RunsGraph verb = (verb ≡ Use Run) ⊎ (verb ≡ Use Generate)

-- The statuses of a call that ran its graph. All went well, or a line was refused, a node failed, a stream never closed, or a read or a
-- write failed.
abbrev pub ran_statuses : List Status
ran_statuses = Good ∷ LineRefused ∷ NodeFault ∷ Stalled ∷ ReadFault ∷ WriteFault ∷ []

-- The contents are graphs. The first expands to a graph, with the others as its library. Checked with the shapes and laws of the
-- user-supplied calculators, the graph has this plan.
pub record IsGraph (invocation : Invocation) (contents : List (List ℕ)) (plan : Plan) : Type 0 where
  pub main : GraphView
  pub library : List GraphView
  pub files : AreGraphs contents (main ∷ library)
  pub graph : GraphView
  pub expanded : expansion_of main library ≡ Ok graph
  pub checked : check_of invocation.outers graph ≡ Ok plan

-- What a graph was run over: what was read of the input, or a number of packets that are made.
pub data Origin : Type 0 where
  from_input : Read → Origin
  from_number : ℕ → Origin

-- The graph was run over the input, or over packets that are made. In the first case the input was read once, to its end, its first line
-- that isn't good or its first failed read. In the second case the input was left as it was.
abbrev pub IsOrigin : Instruction → Plan → Device SourceTold → Origin → Type 0
IsOrigin instruction plan input (from_input read) = (instruction.verb ≡ Use Run) × CameTo (inputs_of plan) input read
IsOrigin instruction plan input (from_number number) = (instruction.verb ≡ Use Generate) × (number ≡ instruction.number) × Untouched input

-- the job of a plan over what was read of the input, or over packets that are made
abbrev pub job_from : Laws → Plan → Origin → equations.Job
job_from laws plan (from_input read) = job_of laws plan read
job_from laws plan (from_number number) = generated_job laws plan number

-- how the input of a run ended: packets that are made end well
abbrev pub end_from : Origin → FeedEnd
end_from (from_input read) = read.end
end_from (from_number number) = Ended

-- how a run is told: by lines if it was over an input, and by a summary if packets were made
abbrev pub telling_from : Reporting → Origin → Telling
telling_from report (from_input read) = by_lines report
telling_from report (from_number number) = by_summary report

-- a plan without its limit of queues and its number of workers, which have no part in the answer
abbrev pub bare : Plan → Plan
bare plan = record plan { limit = negsuc 0; workers = 0 }

-- A call ran its graph, and no node of the graph is free. There is one content of each file, one valid plan, one thing that the graph was
-- run over, and one solution.
pub record Headline (laws : Laws) (invocation : Invocation) (status : Status) (devices : CallDevices) : Type 0 where
  pub contents : List (List ℕ)
  pub loaded : LoadedAll invocation.files contents devices.store
  pub plan : Plan
  pub graph : IsGraph invocation contents plan
  pub valid : IsValid plan
  pub unfree : first_free plan ≡ None
  pub from : Origin
  pub origin : IsOrigin invocation.instruction plan devices.input from
  pub run : OneRun (telling_from (reporting invocation.instruction) from) (job_from laws (bare plan) from) (end_from from) status devices.output devices.notes devices.boxes

-- Graphs with free nodes --

-- The batches over which a graph was run, each with what had come by its end. They are batches of the lines that were read, or all packets
-- that are made as one batch. Batches of lines may end early if the instruction says so.
abbrev pub AreBatchesFrom : Laws → Instruction → Plan → Origin → List Inputs → Type 0
AreBatchesFrom laws instruction plan (from_input read) batches = AreBatchesOf instruction.unbuffered plan read batches
AreBatchesFrom laws instruction plan (from_number number) batches = batches ≡ (generated_job laws plan number).inputs ∷ []

-- A call ran its graph, and some node of it is free. There is one content of each file, one valid plan, and one thing that the graph was run
-- over. There are batches of it, the logs that the free nodes' rounds over the batches give, and one solution of the core for these. Unless batches of
-- lines may end early, there is one way to split lines into batches.
pub record LiveHeadline (laws : Laws) (invocation : Invocation) (status : Status) (devices : CallDevices) : Type 0 where
  pub contents : List (List ℕ)
  pub loaded : LoadedAll invocation.files contents devices.store
  pub plan : Plan
  pub graph : IsGraph invocation contents plan
  pub valid : IsValidWithFree plan
  pub free : (number : ℕ) × (first_free plan ≡ Some number)
  pub from : Origin
  pub origin : IsOrigin invocation.instruction plan devices.input from
  pub first : Inputs
  pub later : List Inputs
  pub batches : AreBatchesFrom laws invocation.instruction (bare plan) from (first ∷ later)
  pub run : OneLive laws (telling_from (reporting invocation.instruction) from).form (reporting invocation.instruction) (bare plan) first later (end_from from) status devices.output devices.notes devices.boxes

-- a call ran its graph, without free nodes or with
abbrev pub RanGraph : Laws → Invocation → Status → CallDevices → Type 0
RanGraph laws invocation status devices = Headline laws invocation status devices ⊎ LiveHeadline laws invocation status devices
