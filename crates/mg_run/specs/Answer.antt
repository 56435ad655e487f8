-- What the program answers, its output text, notes and status, by the command, by what the command's files are, and by the input's bytes.
-- There is one answer (`src/laws.rt`).
use Rattle.std.specs.Prelude.{◌≡◌, ℕ, ℤ, pos, negsuc, Bool, true, false, ◌==◌, List, [], ◌∷◌, codes, Option, None, Some, min, position, Result, Ok, Err, if◌then◌else◌}
use Rattle.mg_config.specs.Config.{GraphView}
use Rattle.mg_calc.specs.Rules.{Laws}
use Rattle.mg_calc.specs.declared.law.Law.{Law}
use Rattle.mg_calc.specs.declared.law.Law.TheVariants.{Stated}
use Rattle.mg_calc.specs.declared.plan.Plan.{Plan}
use Rattle.mg_calc.specs.declared.shape.OuterShape.{OuterShape}
use Rattle.mg_calc.specs.Told.{BoxTold}
use Rattle.mg_check.specs.Check.{check_of}
use Rattle.mg_check.specs.declared.fault.CheckFault.{CheckFault}
use Rattle.mg_run.specs.Invocation.{Invocation}
use Rattle.mg_subgraph.specs.Expansion.{expansion_of}
use Rattle.mg_subgraph.specs.declared.fault.ExpandFault.{ExpandFault}
use Rattle.mg_files.specs.File.{graph_text}
use Rattle.mg_files.specs.Files.{Files, graphs, no_graphs}
use Rattle.mg_files.specs.CheckNotes.{check_note, check_text}
use Rattle.mg_answer.specs.Answer.{AnswersEnded, AnswersGenerated}
pub use Rattle.mg_answer.specs.Answer.{RunAnswer}
use Rattle.mg_drive.specs.OneLive.{AnswersLive, AnswersLiveMade}
use Rattle.mg_drive.specs.Traced.{TracesEnded}
use Rattle.mg_feed.specs.Lines.{all_lines}
use Rattle.mg_replay.specs.Replayed.{AnswersTrace}
use Rattle.mg_free.specs.Core.{first_free}
use Rattle.mg_files.specs.Notes.{expand_note, free_note, own_law_note}
use Rattle.mg_words.specs.declared.limits.TheConstants.{MOST_WORKERS}
use Rattle.mg_words.specs.declared.words.Instruction.{Instruction}
use Rattle.mg_words.specs.declared.words.Verb.{Verb}
use Rattle.mg_words.specs.declared.words.Verb.TheVariants.{Check, Expand, Use}
use Rattle.mg_words.specs.declared.words.Way.{Way}
use Rattle.mg_words.specs.declared.words.Way.TheVariants.{Run, Solve, Generate, Trace, Replay}
use Rattle.mg_answer.specs.declared.status.Status.TheVariants.{Good, GraphRefused}
use Rattle.mg_answer.specs.declared.run.Reporting.{Reporting}

-- What is to be done --

-- What a command has to do. It refuses a file, the expansion or the graph with a note, or it writes a text, or it uses the graph of a plan.
-- It may run the graph, without free nodes or with, or solve it. It may run the graph over a number of packets that are made, without free
-- nodes or with. It may run the graph and record the run, or make a recorded run of the graph again. If a graph is used, `Reporting` says
-- what the notes tell beside what went wrong. If a graph with free nodes is run over lines, a truth value says whether batches of these may
-- end early.
pub data Action : Type 0 where
  refuse : List ℕ → Action
  show : List ℕ → Action
  run_plan : Reporting → Plan → Action
  run_live : Reporting → Bool → Plan → Action
  solve : Reporting → Plan → Action
  generate : Reporting → ℕ → Plan → Action
  generate_live : Reporting → ℕ → Plan → Action
  trace : Reporting → Plan → Action
  replay : Reporting → Plan → Action

-- The action of `check`: to write a text if the graph has a plan, and otherwise to refuse the graph. A graph is checked before its plan is
-- used, too.
abbrev pub check_action : Result Plan CheckFault → Action
check_action (Ok plan) = show (check_text plan)
check_action (Err fault) = refuse (check_note fault)

-- the limit that the words ask for; 0 stands for the plan's own limit
abbrev pub limit_or : ℤ → ℤ → ℤ
limit_or (pos n) own = if n == 0 then own else pos n
limit_or (negsuc n) own = negsuc n

-- A plan with the limit of queues that the words ask for, if they ask for one.
abbrev pub with_limit : Option ℤ → Plan → Plan
with_limit None plan = plan
with_limit (Some limit) plan = record plan { limit = limit_or limit plan.limit }

-- A plan with the number of workers that the words ask for, if they ask for one, and 64 at most.
abbrev pub with_workers : Option ℕ → Plan → Plan
with_workers None plan = plan
with_workers (Some workers) plan = record plan { workers = min workers MOST_WORKERS }

-- a plan with the limit of queues and the number of workers that an instruction asks for
abbrev pub as_asked : Instruction → Plan → Plan
as_asked instruction plan = with_workers instruction.workers (with_limit instruction.limit plan)

-- what the notes tell beside what went wrong, by an instruction
abbrev pub reporting : Instruction → Reporting
reporting instruction = record { counts = instruction.report; arrivals = instruction.arrivals }

-- The word of a way to use a plan, which the note of a refusal names.
abbrev pub way_word : Way → List ℕ
way_word Run = codes "run"
way_word Solve = codes "solve"
way_word Generate = codes "generate"
way_word Trace = codes "trace"
way_word Replay = codes "replay"

-- a law is stated: what a node of it computes is what an author states of a calculator of the author's own
abbrev pub is_stated : Law → Bool
is_stated (Stated number parameters offset) = true
is_stated _ = false

-- the number of the first node whose law is stated, if there is one
abbrev pub first_stated : Plan → Option ℕ
first_stated plan = position (λ node. is_stated node.law) plan.nodes

-- The action of solving a plan without free nodes, by its first node whose law is stated, if it has one. Such a plan is refused, since a
-- solution takes code for each law, and there is none for these.
abbrev pub solve_action : Option ℕ → Reporting → Plan → Action
solve_action None report plan = solve report plan
solve_action (Some first) report plan = refuse (own_law_note first)

-- The action of using a plan without free nodes in a way. For a run that is recorded or made again, the number of workers doesn't count.
abbrev pub way_action : Way → Instruction → Plan → Action
way_action Run instruction plan = run_plan (reporting instruction) (as_asked instruction plan)
way_action Solve instruction plan = solve_action (first_stated plan) (reporting instruction) plan
way_action Generate instruction plan = generate (reporting instruction) instruction.number (as_asked instruction plan)
way_action Trace instruction plan = trace (reporting instruction) (with_limit instruction.limit plan)
way_action Replay instruction plan = replay (reporting instruction) (with_limit instruction.limit plan)

-- The action of using a graph with free nodes in a way. `first` is its first free node. The graph is run over the input or over packets
-- that are made, and refused in each other way.
abbrev pub live_action : Way → Instruction → ℕ → Plan → Action
live_action Run instruction first plan = run_live (reporting instruction) instruction.unbuffered (as_asked instruction plan)
live_action Solve instruction first plan = refuse (free_note (way_word Solve) first)
live_action Generate instruction first plan = generate_live (reporting instruction) instruction.number (as_asked instruction plan)
live_action Trace instruction first plan = refuse (free_note (way_word Trace) first)
live_action Replay instruction first plan = refuse (free_note (way_word Replay) first)

-- the action of using a plan in a way, by its first free node, if it has one
abbrev pub used_action : Option ℕ → Way → Instruction → Plan → Action
used_action None way instruction plan = way_action way instruction plan
used_action (Some first) way instruction plan = live_action way instruction first plan

-- the action of using a graph in a way, by what the check says of it
abbrev pub plan_action : Way → Instruction → Result Plan CheckFault → Action
plan_action way instruction (Ok plan) = used_action (first_free plan) way instruction plan
plan_action way instruction (Err fault) = refuse (check_note fault)

-- the action of a command with a graph whose subgraphs are expanded
abbrev pub verb_action : Verb → Instruction → List OuterShape → GraphView → Action
verb_action Check instruction outers g = check_action (check_of outers g)
verb_action Expand instruction outers g = show (graph_text g)
verb_action (Use way) instruction outers g = plan_action way instruction (check_of outers g)

abbrev pub graph_action : Instruction → List OuterShape → GraphView → Action
graph_action instruction outers g = verb_action instruction.verb instruction outers g

-- the action of a command, by the result of the expansion of its graph
abbrev pub expanded_action : Instruction → List OuterShape → Result GraphView ExpandFault → Action
expanded_action instruction outers (Ok g) = graph_action instruction outers g
expanded_action instruction outers (Err fault) = refuse (expand_note fault)

-- The action of a command over graphs: the first is the main one, and it is expanded with the others as its library. A command always has a
-- first.
abbrev pub graphs_action : Instruction → List OuterShape → List GraphView → Action
graphs_action instruction outers [] = refuse []
graphs_action instruction outers (main ∷ library) = expanded_action instruction outers (expansion_of main library)

-- the action of a command, by what its files are
abbrev pub files_action : Instruction → List OuterShape → Files → Action
files_action instruction outers (graphs gs) = graphs_action instruction outers gs
files_action instruction outers (no_graphs note) = refuse note

-- the action of an invocation, by what its files are
abbrev pub action_of : Invocation → Files → Action
action_of invocation files = files_action invocation.instruction invocation.outers files

-- The answers --

-- The answer of an action, if an input of these bytes ends well and the caller supplies these calculators. Running a graph without free
-- nodes and solving it have the same answer. Recording a run has that answer, too, but the output is a trace of any run of the graph over
-- that input. Making a recorded run again has the answer of its graph's run if the input's lines are such a run to rest. Otherwise it
-- refuses a line. If packets are made, the input doesn't matter. If a graph with free nodes is run and batches may end early, there may be
-- many answers.
abbrev pub AnswersAction : Laws → Action → List BoxTold → List ℕ → RunAnswer → Type 0
AnswersAction laws (refuse note) boxes input given = given ≡ record { output = []; notes = note; status = GraphRefused }
AnswersAction laws (show text) boxes input given = given ≡ record { output = text; notes = []; status = Good }
AnswersAction laws (run_plan report plan) boxes input given = AnswersEnded laws report plan input given
AnswersAction laws (run_live report early plan) boxes input given = AnswersLive laws report early plan input given
AnswersAction laws (solve report plan) boxes input given = AnswersEnded laws report plan input given
AnswersAction laws (generate report number plan) boxes input given = AnswersGenerated laws report plan number given
AnswersAction laws (generate_live report number plan) boxes input given = AnswersLiveMade laws report plan number given
AnswersAction laws (trace report plan) boxes input given = TracesEnded laws report plan boxes input given
AnswersAction laws (replay report plan) boxes input given = AnswersTrace laws report plan boxes (all_lines input) given

-- the output of an action is a trace, and there may be many
abbrev pub Records : Action → Type 0
Records (refuse note) = ⊥
Records (show text) = ⊥
Records (run_plan report plan) = ⊥
Records (run_live report early plan) = ⊥
Records (solve report plan) = ⊥
Records (generate report number plan) = ⊥
Records (generate_live report number plan) = ⊥
Records (trace report plan) = Unit {0}
Records (replay report plan) = ⊥

-- a graph with free nodes is run over lines whose batches may end early, and there may be many answers
abbrev pub EndsEarly : Action → Type 0
EndsEarly (refuse note) = ⊥
EndsEarly (show text) = ⊥
EndsEarly (run_plan report plan) = ⊥
EndsEarly (run_live report early plan) = early ≡ true
EndsEarly (solve report plan) = ⊥
EndsEarly (generate report number plan) = ⊥
EndsEarly (generate_live report number plan) = ⊥
EndsEarly (trace report plan) = ⊥
EndsEarly (replay report plan) = ⊥

-- an action makes a recorded run again, and the input's lines tell its events
abbrev pub Replays : Action → Type 0
Replays (refuse note) = ⊥
Replays (show text) = ⊥
Replays (run_plan report plan) = ⊥
Replays (run_live report early plan) = ⊥
Replays (solve report plan) = ⊥
Replays (generate report number plan) = ⊥
Replays (generate_live report number plan) = ⊥
Replays (trace report plan) = ⊥
Replays (replay report plan) = Unit {0}
