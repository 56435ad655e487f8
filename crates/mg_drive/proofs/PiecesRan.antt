-- What a run over packets that are made piece by piece came to.
use Rattle.std.proofs.Common.{◌≡◌, ◌⊎◌, ◌==◌, inr, ℕ, List, Bool, true, false, [], refl, sym, ap, ◌∙◌, subst, eqb-true, eq-eqb}
use Rattle.mg_edge.specs.Edge.{SinkTold}
use Rattle.mg_value.specs.Payload.{Plain}
use Rattle.mg_settled.specs.Prefix.{StreamPrefix}
use Rattle.mg_settled.specs.Extension.{AreExtendedBy}
use Rattle.mg_calc.specs.Rules.{Laws}
use Rattle.mg_calc.specs.declared.inputs.Inputs.{Inputs}
use Rattle.mg_calc.specs.declared.plan.Plan.{Plan}
use Rattle.mg_calc.specs.Plan.{IsValid}
use Rattle.mg_calc.specs.Told.{BoxTold}
use Rattle.mg_calc.specs.Equations.{IsJob}
use Rattle.mg_feed.specs.Graph.{inputs_of}
use Rattle.mg_feed.specs.Generated.{generated, generated_streams}
use Rattle.mg_feed.specs.Pieces.{Making}
use Rattle.mg_feed.specs.declared.feed_end.FeedEnd.{FeedEnd}
use Rattle.mg_feed.specs.declared.feed_end.FeedEnd.TheVariants.{Ended}
use Rattle.mg_feed.specs.declared.feed_end.BatchEnd.{BatchEnd}
use Rattle.mg_feed.specs.declared.feed_end.BatchEnd.TheVariants.{More, End}
use Rattle.mg_answer.specs.Answer.{totals, by_summary, generated_inputs, generated_job}
use Rattle.mg_answer.specs.Devices.{Device, device}
use Rattle.mg_answer.specs.Wrote.{Wrote}
use Rattle.mg_answer.specs.declared.status.Status.{Status}
use Rattle.mg_answer.proofs.GeneratedFits.{generated-fit, generated-grow}
use Rattle.mg_answer.specs.declared.run.Reporting.{Reporting}
use Rattle.mg_node.specs.Batches.{Grows}
use Rattle.mg_sched.specs.Views.{NetView}
use Rattle.mg_sched.specs.Made.{BoxesFit}
use Rattle.mg_sched.specs.GivesBack.{given_back, StoodFor}
use Rattle.mg_sched.proofs.Solved.{solved}
use Rattle.mg_drive.specs.Batches.{IsMore, logged}
use Rattle.mg_drive.specs.Told.{HasSums}
use Rattle.mg_drive.specs.Leaves.{HadCallsOf, HadFronts}
use Rattle.mg_drive.specs.OneRun.{CalculatorsCameBack, OneRun, OneOut, OneMade}
use Rattle.mg_drive.specs.Code.Running.{IsToldSome, FrontIn}
use Rattle.mg_drive.specs.Code.InPieces.{made_inputs, piece_end, WereMade}
use Rattle.mg_drive.proofs.LinesGoOn.{not_ended}
use Rattle.mg_drive.proofs.PiecesGoOn.{so_far_made}
use Rattle.mg_drive.proofs.PacketsRan.{front_unwritten, front_sums}
use Rattle.mg_drive.proofs.FrontsBack.{kept_fronts, kept_now}
use Rattle.mg_drive.proofs.OneRuns.{one_run, one_short}

-- All of them --

-- a piece with which the input has ended is the last
last_piece : (b : Bool) (end : FeedEnd) → End end ≡ piece_end b → (b ≡ true) × (end ≡ Ended)
last_piece true end is = (refl, cc)
last_piece false end is = absurd cc

-- all that was given with the last piece is all that is made
pub all_made : (plan : Plan) (number : ℕ) (m : Making) (end : FeedEnd) (inputs : Inputs) → WereMade plan number m (End end) inputs → (inputs ≡ generated_inputs (inputs_of plan) number) × (end ≡ Ended)
all_made plan number m end inputs was =
    let last = last_piece (m.made == number) end was.end_is in
    let all : m.made ≡ number = eqb-true m.made number last.0 in
    (was.inputs_are ∙ ap (made_inputs (inputs_of plan) m.made) last.0 ∙ ap (λ n. made_inputs (inputs_of plan) n true) all, last.1)

-- the same holds once all packets are made
pub whole_made : (plan : Plan) (number : ℕ) (m : Making) (end : BatchEnd) (inputs : Inputs) → WereMade plan number m end inputs → m.made ≡ number → inputs ≡ generated_inputs (inputs_of plan) number
whole_made plan number m end inputs was all =
    was.inputs_are ∙ ap (made_inputs (inputs_of plan) m.made) (eq-eqb m.made number all) ∙ ap (λ n. made_inputs (inputs_of plan) n true) all

-- all packets were run
pub pieces_ran : (laws : Laws) (report : Reporting) (plan : Plan) (number : ℕ) (m : Making) (output notes : Device SinkTold) (boxes : Device (List BoxTold)) (status : Status) (end : FeedEnd) (inputs : Inputs) → WereMade plan number m (End end) inputs
    → CalculatorsCameBack plan boxes.before boxes.now → Wrote (by_summary report) (record { plan = plan; inputs = inputs; laws = laws }) end status output notes → HadCallsOf (record { plan = plan; inputs = inputs; laws = laws }) boxes
    → OneMade laws report plan number status output notes boxes
pieces_ran laws report plan number m output notes boxes status end inputs was back wrote had =
    let all = all_made plan number m end inputs was in
    subst (λ (e : FeedEnd). OneRun (by_summary report) (generated_job laws plan number) e status output notes boxes) all.1
    (subst (λ (i : Inputs). OneRun (by_summary report) (record { plan = plan; inputs = i; laws = laws }) end status output notes boxes) all.0
    (one_run (by_summary report) (record { plan = plan; inputs = inputs; laws = laws }) end status output notes boxes back wrote had))

-- Memory ran out --

-- the job so far goes on to that of all packets
goes_on_to : {laws : Laws} (plan : Plan) (number : ℕ) (m : Making) (inputs : Inputs) (boxes : List BoxTold) → IsValid plan → WereMade plan number m More inputs
    → Grows (logged laws plan (made_inputs (inputs_of plan) m.made false) boxes) (logged laws plan (generated_inputs (inputs_of plan) number) boxes)
goes_on_to {laws} plan number m inputs boxes valid was =
    let kinds = (inputs_of plan).kinds in
    let before = generated_streams kinds m.made in
    record {
      plan = refl;
      sides = refl;
      boxes = refl;
      is_job = record { plan = valid; inputs = generated-fit plan number valid was.few };
      extended = subst (λ (ss : List (StreamPrefix Plain)). AreExtendedBy ss (generated kinds number)) (sym (not_ended before)) (generated-grow kinds m.made number true was.handed_on.few was.few);
    }

-- nothing was written while there was more
unwritten_yet : (laws : Laws) (plan : Plan) (number : ℕ) (inputs : Inputs) (first now : SinkTold) → IsJob (record { plan = plan; inputs = inputs; laws = laws }) → IsToldSome HasSums (record { plan = plan; inputs = inputs; laws = laws }) first now
    → FrontIn totals first now (generated_job laws plan number)
unwritten_yet laws plan number inputs first now is some =
    let found = solved (logged laws plan inputs []) is in
    let same = (some.is_told.told found.0 found.1.solution).unwritten in
    subst (λ (s : SinkTold). FrontIn totals first s (generated_job laws plan number)) (sym same) (front_unwritten first (generated_job laws plan number))

-- a prefix of the summary was taken, and each calculator had a prefix of its calls
pub pieces_short : {laws : Laws} (plan : Plan) (number : ℕ) (m : Making) (output : Device SinkTold) (boxes now : List BoxTold) (net : NetView) (end : BatchEnd) (inputs : Inputs) → BoxesFit plan boxes → WereMade plan number m end inputs
    → IsJob (record { plan = plan; inputs = inputs; laws = laws })
    → IsToldSome HasSums (record { plan = plan; inputs = inputs; laws = laws }) output.before output.now ⊎ FrontIn totals output.before output.now (record { plan = plan; inputs = inputs; laws = laws })
    → (IsMore end → IsToldSome HasSums (record { plan = plan; inputs = inputs; laws = laws }) output.before output.now)
    → StoodFor (logged laws plan inputs boxes) net → now ≡ given_back net → CalculatorsCameBack plan boxes now → OneOut totals (generated_job laws plan number) output (device boxes now)
pieces_short {laws} plan number m output boxes now net More inputs fit was is front unended stood back came =
    let so_far = made_inputs (inputs_of plan) m.made false in
    let grows = goes_on_to plan number m inputs boxes is.plan was in
    let then : StoodFor (logged laws plan so_far boxes) net = subst (λ (i : Inputs). StoodFor (logged laws plan i boxes) net) (so_far_made plan number m inputs was) stood in
    one_short totals (generated_job laws plan number) output (device boxes now) came
    (subst (λ (bs : List BoxTold). HadFronts (generated_job laws plan number) (device boxes bs)) (sym back)
    (kept_fronts boxes (logged laws plan so_far boxes) (logged laws plan (generated_inputs (inputs_of plan) number) boxes) net fit refl then refl (inr grows) grows.is_job))
    (unwritten_yet laws plan number inputs output.before output.now is (unended tt))
pieces_short {laws} plan number m output boxes now net (End end) inputs fit was is front unended stood back came =
    subst (λ (i : Inputs). OneOut totals (record { plan = plan; inputs = i; laws = laws }) output (device boxes now)) (all_made plan number m end inputs was).0
    (one_short totals (record { plan = plan; inputs = inputs; laws = laws }) output (device boxes now) came (kept_now boxes now (logged laws plan inputs boxes) net fit refl stood is back)
    (front_sums (logged laws plan inputs []) output.before output.now is front))
