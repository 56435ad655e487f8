-- What there is to do with a graph whose plan is used.
use Rattle.std.proofs.Common.{ℕ, List, Option, None, Some, Result, Ok, Err}
use Rattle.mg_calc.specs.declared.plan.Plan.{Plan}
use Rattle.mg_check.specs.declared.fault.CheckFault.{CheckFault}
use Rattle.mg_free.specs.Core.{first_free}
use Rattle.mg_run.specs.Answer.{Action, refuse, way_action, live_action, used_action, plan_action}
use Rattle.mg_files.specs.CheckNotes.{check_note}
use Rattle.mg_words.specs.declared.words.Instruction.{Instruction}
use Rattle.mg_words.specs.declared.words.Way.{Way}

used : (P : Action → Type 0) (first : Option ℕ) (way : Way) (instruction : Instruction) (plan : Plan) → P (way_action way instruction plan) → ((number : ℕ) → P (live_action way instruction number plan)) → P (used_action first way instruction plan)
used P None way instruction plan done live = done
used P (Some number) way instruction plan done live = live number

-- what holds of each refusal, and of what there is to do with each plan, without and with free nodes, holds of it
pub planned : (P : Action → Type 0) (way : Way) (instruction : Instruction) (checked : Result Plan CheckFault) → ((text : List ℕ) → P (refuse text)) → ((plan : Plan) → P (way_action way instruction plan))
    → ((number : ℕ) (plan : Plan) → P (live_action way instruction number plan)) → P (plan_action way instruction checked)
planned P way instruction (Ok plan) refused done live = used P (first_free plan) way instruction plan (done plan) (λ number. live number plan)
planned P way instruction (Err fault) refused done live = refused (check_note fault)
