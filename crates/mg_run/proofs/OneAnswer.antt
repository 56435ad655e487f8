-- There is one answer, and of a recorded run one end.
use Rattle.std.proofs.Common.{◌≡◌, ℕ, List, [], Bool, true, false, refl, sym, ap, ◌∙◌}
use Rattle.mg_calc.specs.Rules.{Laws}
use Rattle.mg_calc.specs.declared.plan.Plan.{Plan}
use Rattle.mg_calc.specs.Told.{BoxTold}
use Rattle.mg_feed.specs.Graph.{inputs_of}
use Rattle.mg_feed.specs.Lines.{all_lines}
use Rattle.mg_feed.specs.declared.feed_end.FeedEnd.TheVariants.{Ended}
use Rattle.mg_answer.specs.Answer.{totals, ended_input, by_summary, generated_job, AnswersEnded, AnswersGenerated}
use Rattle.mg_answer.proofs.OneAnswer.{one-answer, one-of}
use Rattle.mg_answer.specs.declared.run.Reporting.{Reporting}
use Rattle.mg_drive.specs.Traced.{TracesEnded}
use Rattle.mg_replay.proofs.OneReading.{trace_answer_one}
use Rattle.mg_run.proofs.OneLiveAnswer.{one-of-live, one-of-lines}
use Rattle.mg_run.specs.Answer.{RunAnswer, Action, refuse, show, run_plan, run_live, solve, generate, generate_live, trace, replay, AnswersAction, Records, EndsEarly}

pub one-of-run : (laws : Laws) (report : Reporting) (plan : Plan) (input : List ℕ) (a b : RunAnswer) → AnswersEnded laws report plan input a → AnswersEnded laws report plan input b → a ≡ b
one-of-run laws report plan input a b one two = one-answer laws report plan (ended_input (inputs_of plan) input) a b one two

one-of-made : (laws : Laws) (report : Reporting) (plan : Plan) (number : ℕ) (a b : RunAnswer) → AnswersGenerated laws report plan number a → AnswersGenerated laws report plan number b → a ≡ b
one-of-made laws report plan number a b one two = one-of (by_summary report) (generated_job laws plan number) Ended a b one two

not_early : (early : Bool) → ¬ (early ≡ true) → early ≡ false
not_early false none = refl
not_early true none = absurd (none refl)

pub one-of-job : (laws : Laws) (job : Action) (boxes : List BoxTold) (input : List ℕ) (a b : RunAnswer) → ¬ Records job → ¬ EndsEarly job → AnswersAction laws job boxes input a → AnswersAction laws job boxes input b → a ≡ b
one-of-job laws (refuse note) boxes input a b other full one two = one ∙ sym two
one-of-job laws (show text) boxes input a b other full one two = one ∙ sym two
one-of-job laws (run_plan report plan) boxes input a b other full one two = one-of-run laws report plan input a b one two
one-of-job laws (run_live report early plan) boxes input a b other full one two = one-of-lines laws report early plan input a b (not_early early full) one two
one-of-job laws (solve report plan) boxes input a b other full one two = one-of-run laws report plan input a b one two
one-of-job laws (generate report number plan) boxes input a b other full one two = one-of-made laws report plan number a b one two
one-of-job laws (generate_live report number plan) boxes input a b other full one two = one-of-live laws totals report plan (generated_job laws plan number).inputs [] Ended a b one two
one-of-job laws (trace report plan) boxes input a b other full one two = absurd (other tt)
one-of-job laws (replay report plan) boxes input a b other full one two = trace_answer_one laws report plan boxes (all_lines input) a b one two

-- what two answers end with is the same
abbrev pub EndAlike : RunAnswer → RunAnswer → Type 0
EndAlike a b = (a.notes ≡ b.notes) × (a.status ≡ b.status)

alike : (a b : RunAnswer) → a ≡ b → EndAlike a b
alike a b same = (ap (λ (x : RunAnswer). x.notes) same, ap (λ (x : RunAnswer). x.status) same)

pub ends-as-run : (laws : Laws) (report : Reporting) (plan : Plan) (boxes : List BoxTold) (input : List ℕ) (a b : RunAnswer) → TracesEnded laws report plan boxes input a → AnswersEnded laws report plan input b → EndAlike a b
ends-as-run laws report plan boxes input a b one two =
    let same = one-of-run laws report plan input one.of_run b one.is_answer two in
    (ap (λ (x : RunAnswer). x.notes) one.is ∙ ap (λ (x : RunAnswer). x.notes) same, ap (λ (x : RunAnswer). x.status) one.is ∙ ap (λ (x : RunAnswer). x.status) same)

two-traces : (laws : Laws) (report : Reporting) (plan : Plan) (boxes : List BoxTold) (input : List ℕ) (a b : RunAnswer) → TracesEnded laws report plan boxes input a → TracesEnded laws report plan boxes input b → EndAlike a b
two-traces laws report plan boxes input a b one two =
    let first = ends-as-run laws report plan boxes input a two.of_run one two.is_answer in
    (first.0 ∙ sym (ap (λ (x : RunAnswer). x.notes) two.is), first.1 ∙ sym (ap (λ (x : RunAnswer). x.status) two.is))

pub one-end : (laws : Laws) (job : Action) (boxes : List BoxTold) (input : List ℕ) (a b : RunAnswer) → ¬ EndsEarly job → AnswersAction laws job boxes input a → AnswersAction laws job boxes input b → EndAlike a b
one-end laws (refuse note) boxes input a b full one two = alike a b (one ∙ sym two)
one-end laws (show text) boxes input a b full one two = alike a b (one ∙ sym two)
one-end laws (run_plan report plan) boxes input a b full one two = alike a b (one-of-run laws report plan input a b one two)
one-end laws (run_live report early plan) boxes input a b full one two = alike a b (one-of-lines laws report early plan input a b (not_early early full) one two)
one-end laws (solve report plan) boxes input a b full one two = alike a b (one-of-run laws report plan input a b one two)
one-end laws (generate report number plan) boxes input a b full one two = alike a b (one-of-made laws report plan number a b one two)
one-end laws (generate_live report number plan) boxes input a b full one two = alike a b (one-of-live laws totals report plan (generated_job laws plan number).inputs [] Ended a b one two)
one-end laws (trace report plan) boxes input a b full one two = two-traces laws report plan boxes input a b one two
one-end laws (replay report plan) boxes input a b full one two = alike a b (trace_answer_one laws report plan boxes (all_lines input) a b one two)
