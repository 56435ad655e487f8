-- If lines of different streams change places, and all are good either way, the answer is the same.
use Rattle.std.proofs.Common.{◌≡◌, ℕ, List, [], ◌∷◌, ◌++◌, sym, ap, subst, ◌∙◌}
use Rattle.mg_calc.specs.declared.plan.Plan.{Plan}
use Rattle.mg_calc.specs.Equations.{Job}
use Rattle.mg_calc.specs.Rules.{Laws}
use Rattle.mg_feed.specs.Apart.{AreApart}
use Rattle.mg_feed.specs.Graph.{GraphInputs, inputs_of}
use Rattle.mg_feed.specs.Lines.{all_lines}
use Rattle.mg_feed.specs.Accepted.{State, given_by}
use Rattle.mg_feed.specs.Given.{ended_streams}
use Rattle.mg_feed.specs.Stands.{AllGood}
use Rattle.mg_feed.specs.declared.feed_end.FeedEnd.TheVariants.{Ended}
use Rattle.mg_feed.proofs.Accepting.{judged-good}
use Rattle.mg_feed.proofs.ChangingPlaces.{places_changed}
use Rattle.mg_answer.specs.Answer.{by_lines, Read, RunAnswer, end_by, ended_input, is_ended, IsAnswerOf, IsAnswer, AnswersEnded}
use Rattle.mg_answer.specs.declared.run.Reporting.{Reporting}

-- what an input gives whose lines are all good
abbrev all_read : List (List ℕ) → Read
all_read lines = record { lines = lines; end = Ended }

reads_all : (graph : GraphInputs) (input : List ℕ) → AllGood graph [] (all_lines input) → ended_input graph input ≡ all_read (all_lines input)
reads_all graph input good =
    let judged = judged-good graph [] (all_lines input) good in
    λ i. record { lines = judged.0 i; end = end_by (judged.1 i) }

-- the job of a state
abbrev state_job : Laws → Plan → State → Job
state_job laws plan given = record { plan = plan; inputs = record { streams = ended_streams (is_ended Ended) given.streams; sides = given.sides; ended = is_ended Ended }; laws = laws }

pub same_answer : (laws : Laws) (report : Reporting) (plan : Plan) (input other : List ℕ) (front back : List (List ℕ)) (first second : List ℕ) (answer : RunAnswer)
    → all_lines input ≡ front ++ first ∷ second ∷ back → all_lines other ≡ front ++ second ∷ first ∷ back → AreApart first second
    → AllGood (inputs_of plan) [] (all_lines input) → AllGood (inputs_of plan) [] (all_lines other) → AnswersEnded laws report plan input answer → AnswersEnded laws report plan other answer
same_answer laws report plan input other front back first second answer is also apart good good_too answers =
    let graph = inputs_of plan in
    let here : IsAnswer laws report plan (all_read (all_lines input)) answer = subst (λ (r : Read). IsAnswer laws report plan r answer) (reads_all graph input good) answers in
    let same : given_by graph (all_lines input) ≡ given_by graph (all_lines other) =
    ap (given_by graph) is ∙ (places_changed plan front back first second apart ∙ sym (ap (given_by graph) also)) in
    let there : IsAnswer laws report plan (all_read (all_lines other)) answer = subst (λ (s : State). IsAnswerOf (by_lines report) (state_job laws plan s) Ended answer) same here in
    subst (λ (r : Read). IsAnswer laws report plan r answer) (sym (reads_all graph other good_too)) there
