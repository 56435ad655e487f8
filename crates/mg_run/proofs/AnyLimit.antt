-- The limit of queues and the number of workers that the words ask for change no answer.
use Rattle.std.proofs.Common.{ℕ, ℤ, min, List, [], ◌∷◌, Option, None, Some, Result, Ok, Err, ap, ◌∙◌}
use Rattle.mg_config.specs.Config.{GraphView}
use Rattle.mg_calc.specs.Rules.{Laws}
use Rattle.mg_calc.specs.declared.plan.Plan.{Plan}
use Rattle.mg_calc.specs.declared.shape.OuterShape.{OuterShape}
use Rattle.mg_calc.specs.Told.{BoxTold}
use Rattle.mg_feed.specs.Graph.{inputs_of}
use Rattle.mg_feed.specs.declared.feed_end.FeedEnd.TheVariants.{Ended}
use Rattle.mg_answer.specs.Answer.{ended_input, by_lines, by_summary, job_of as input_job, generated_job, AnswersEnded, AnswersGenerated}
use Rattle.mg_answer.specs.declared.run.Reporting.{Reporting}
use Rattle.mg_run.proofs.Unlimited.{unlimited_answer}
use Rattle.mg_run.proofs.LiveUnlimited.{live_asked, live_made_asked}
use Rattle.mg_drive.specs.Traced.{TracesEnded}
use Rattle.mg_run.proofs.OneAnswer.{EndAlike, one-of-run}
use Rattle.mg_free.specs.Core.{first_free}
use Rattle.mg_check.specs.Check.{check_of}
use Rattle.mg_check.specs.declared.fault.CheckFault.{CheckFault}
use Rattle.mg_subgraph.specs.Expansion.{expansion_of}
use Rattle.mg_subgraph.specs.declared.fault.ExpandFault.{ExpandFault}
use Rattle.mg_files.specs.Files.{Files, graphs, no_graphs}
use Rattle.mg_run.specs.Invocation.{Invocation}
use Rattle.mg_run.specs.Answer.{reporting, RunAnswer, Action, with_limit, with_workers, limit_or, way_action, live_action, used_action, plan_action, verb_action, expanded_action, files_action, action_of, AnswersAction, Records, Replays}
use Rattle.mg_words.specs.declared.limits.TheConstants.{MOST_WORKERS}
use Rattle.mg_words.specs.declared.words.Instruction.{Instruction}
use Rattle.mg_words.specs.declared.words.Verb.{Verb}
use Rattle.mg_words.specs.declared.words.Verb.TheVariants.{Check, Expand, Use}
use Rattle.mg_words.specs.declared.words.Way.{Way}
use Rattle.mg_words.specs.declared.words.Way.TheVariants.{Run, Solve, Generate, Trace, Replay}

-- each answer of one action is an answer of the other, unless the first records a run or makes a recorded run again
abbrev Answers : Laws → Action → Action → Type 0
Answers laws one other = (boxes : List BoxTold) (input : List ℕ) (a : RunAnswer) → ¬ Records one → ¬ Replays one → AnswersAction laws one boxes input a → AnswersAction laws other boxes input a

same : (laws : Laws) (job : Action) → Answers laws job job
same laws job boxes input a unrecorded given answers = answers

pub ended_same : (laws : Laws) (report : Reporting) (limit : Option ℤ) (plan : Plan) (input : List ℕ) (a : RunAnswer) → AnswersEnded laws report (with_limit limit plan) input a → AnswersEnded laws report plan input a
ended_same laws report None plan input a answers = answers
ended_same laws report (Some limit) plan input a answers =
    unlimited_answer (by_lines report) (input_job laws plan (ended_input (inputs_of plan) input)) (limit_or limit plan.limit) plan.workers (ended_input (inputs_of plan) input).end a answers

-- the same holds if the words ask for workers, too
ended_asked : (laws : Laws) (report : Reporting) (limit : Option ℤ) (workers : Option ℕ) (plan : Plan) (input : List ℕ) (a : RunAnswer) → AnswersEnded laws report (with_workers workers (with_limit limit plan)) input a
    → AnswersEnded laws report plan input a
ended_asked laws report limit None plan input a answers = ended_same laws report limit plan input a answers
ended_asked laws report None (Some workers) plan input a answers =
    unlimited_answer (by_lines report) (input_job laws plan (ended_input (inputs_of plan) input)) plan.limit (min workers MOST_WORKERS) (ended_input (inputs_of plan) input).end a answers
ended_asked laws report (Some limit) (Some workers) plan input a answers =
    unlimited_answer (by_lines report) (input_job laws plan (ended_input (inputs_of plan) input)) (limit_or limit plan.limit) (min workers MOST_WORKERS) (ended_input (inputs_of plan) input).end a answers

made_asked : (laws : Laws) (report : Reporting) (number : ℕ) (limit : Option ℤ) (workers : Option ℕ) (plan : Plan) (a : RunAnswer) → AnswersGenerated laws report (with_workers workers (with_limit limit plan)) number a
    → AnswersGenerated laws report plan number a
made_asked laws report number None None plan a answers = answers
made_asked laws report number (Some limit) None plan a answers = unlimited_answer (by_summary report) (generated_job laws plan number) (limit_or limit plan.limit) plan.workers Ended a answers
made_asked laws report number None (Some workers) plan a answers = unlimited_answer (by_summary report) (generated_job laws plan number) plan.limit (min workers MOST_WORKERS) Ended a answers
made_asked laws report number (Some limit) (Some workers) plan a answers =
    unlimited_answer (by_summary report) (generated_job laws plan number) (limit_or limit plan.limit) (min workers MOST_WORKERS) Ended a answers

-- an instruction that asks for neither a limit nor workers
abbrev free : Instruction → Instruction
free instruction = record instruction { limit = None; workers = None }

way_same : (laws : Laws) (way : Way) (instruction : Instruction) (plan : Plan) → Answers laws (way_action way instruction plan) (way_action way (free instruction) plan)
way_same laws Run instruction plan boxes input a unrecorded given answers = ended_asked laws (reporting instruction) instruction.limit instruction.workers plan input a answers
way_same laws Solve instruction plan boxes input a unrecorded given answers = answers
way_same laws Generate instruction plan boxes input a unrecorded given answers = made_asked laws (reporting instruction) instruction.number instruction.limit instruction.workers plan a answers
way_same laws Trace instruction plan boxes input a unrecorded given answers = absurd (unrecorded tt)
way_same laws Replay instruction plan boxes input a unrecorded given answers = absurd (given tt)

way_same_live : (laws : Laws) (way : Way) (instruction : Instruction) (first : ℕ) (plan : Plan) → Answers laws (live_action way instruction first plan) (live_action way (free instruction) first plan)
way_same_live laws Run instruction first plan boxes input a unrecorded given answers = live_asked laws (reporting instruction) instruction.unbuffered instruction.limit instruction.workers plan input a answers
way_same_live laws Solve instruction first plan boxes input a unrecorded given answers = answers
way_same_live laws Generate instruction first plan boxes input a unrecorded given answers = live_made_asked laws (reporting instruction) instruction.number instruction.limit instruction.workers plan a answers
way_same_live laws Trace instruction first plan boxes input a unrecorded given answers = answers
way_same_live laws Replay instruction first plan boxes input a unrecorded given answers = answers

used_same : (laws : Laws) (first : Option ℕ) (way : Way) (instruction : Instruction) (plan : Plan) → Answers laws (used_action first way instruction plan) (used_action first way (free instruction) plan)
used_same laws None way instruction plan = way_same laws way instruction plan
used_same laws (Some first) way instruction plan = way_same_live laws way instruction first plan

plan_same : (laws : Laws) (way : Way) (instruction : Instruction) (checked : Result Plan CheckFault) → Answers laws (plan_action way instruction checked) (plan_action way (free instruction) checked)
plan_same laws way instruction (Ok plan) = used_same laws (first_free plan) way instruction plan
plan_same laws way instruction (Err fault) = same laws (plan_action way instruction (Err fault))

by_verb : (laws : Laws) (verb : Verb) (instruction : Instruction) (outers : List OuterShape) (g : GraphView) → Answers laws (verb_action verb instruction outers g) (verb_action verb (free instruction) outers g)
by_verb laws Check instruction outers g = same laws (verb_action Check instruction outers g)
by_verb laws Expand instruction outers g = same laws (verb_action Expand instruction outers g)
by_verb laws (Use way) instruction outers g = plan_same laws way instruction (check_of outers g)

expanded_same : (laws : Laws) (instruction : Instruction) (outers : List OuterShape) (expanded : Result GraphView ExpandFault) → Answers laws (expanded_action instruction outers expanded) (expanded_action (free instruction) outers expanded)
expanded_same laws instruction outers (Ok g) = by_verb laws instruction.verb instruction outers g
expanded_same laws instruction outers (Err fault) = same laws (expanded_action instruction outers (Err fault))

files_same : (laws : Laws) (instruction : Instruction) (outers : List OuterShape) (files : Files) → Answers laws (files_action instruction outers files) (files_action (free instruction) outers files)
files_same laws instruction outers (graphs []) = same laws (files_action instruction outers (graphs []))
files_same laws instruction outers (graphs (main ∷ library)) = expanded_same laws instruction outers (expansion_of main library)
files_same laws instruction outers (no_graphs note) = same laws (files_action instruction outers (no_graphs note))

pub words_same : (laws : Laws) (invocation : Invocation) (files : Files) (boxes : List BoxTold) (input : List ℕ) (a : RunAnswer) → ¬ Records (action_of invocation files) → ¬ Replays (action_of invocation files)
    → AnswersAction laws (action_of invocation files) boxes input a → AnswersAction laws (action_of (record invocation { instruction = free invocation.instruction }) files) boxes input a
words_same laws invocation files boxes input a unrecorded given answers = files_same laws invocation.instruction invocation.outers files boxes input a unrecorded given answers

-- the notes and the status of a recorded run are those of the run without the limit of the words
pub limit_ends : (laws : Laws) (report : Reporting) (limit : Option ℤ) (plan : Plan) (boxes : List BoxTold) (input : List ℕ) (a b : RunAnswer) → TracesEnded laws report (with_limit limit plan) boxes input a → AnswersEnded laws report plan input b → EndAlike a b
limit_ends laws report limit plan boxes input a b one two =
    let same = one-of-run laws report plan input one.of_run b (ended_same laws report limit plan input one.of_run one.is_answer) two in
    (ap (λ (x : RunAnswer). x.notes) one.is ∙ ap (λ (x : RunAnswer). x.notes) same, ap (λ (x : RunAnswer). x.status) one.is ∙ ap (λ (x : RunAnswer). x.status) same)
