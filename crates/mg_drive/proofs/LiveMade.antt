-- Runs of a plan with free nodes over packets that are made.
use Rattle.std.proofs.Common.{◌≡◌, ◌≤◌, ◌⊎◌, ℕ, false, map, List, [], ◌∷◌, drop, slice_index_or, reverse, Option, sym, ap, ◌∙◌, subst, append-nil}
use Rattle.mg_edge.specs.Edge.{SinkTold}
use Rattle.mg_value.specs.Payload.{Plain}
use Rattle.mg_settled.specs.Prefix.{StreamPrefix}
use Rattle.mg_calc.specs.Rules.{Laws}
use Rattle.mg_calc.specs.declared.inputs.Inputs.{Inputs}
use Rattle.mg_calc.specs.declared.plan.Plan.{Plan}
use Rattle.mg_calc.specs.Equations.{IsJob, IsSolution}
use Rattle.mg_calc.specs.Told.{BoxTold}
use Rattle.mg_feed.specs.Graph.{inputs_of}
use Rattle.mg_feed.specs.Pieces.{Making}
use Rattle.mg_feed.specs.declared.feed_end.FeedEnd.{FeedEnd}
use Rattle.mg_feed.specs.declared.feed_end.BatchEnd.{BatchEnd}
use Rattle.mg_feed.specs.declared.feed_end.BatchEnd.TheVariants.{End}
use Rattle.mg_free.specs.Core.{split_of}
use Rattle.mg_free.specs.Rounds.{Taken, core_inputs, core_job}
use Rattle.mg_live.specs.SoFar.{SoFar}
use Rattle.mg_answer.specs.Answer.{totals, generated_job}
use Rattle.mg_answer.specs.Devices.{Device}
use Rattle.mg_answer.specs.declared.status.Status.{Status}
use Rattle.mg_answer.specs.declared.run.Reporting.{Reporting}
use Rattle.mg_drive.specs.Batches.{logged}
use Rattle.mg_drive.specs.Leaves.{KeepsAFront}
use Rattle.mg_drive.specs.OneRun.{AllHad}
use Rattle.mg_drive.specs.OneLive.{OneLive, LiveOut, OneLiveMade}
use Rattle.mg_drive.specs.Code.Running.{IsToldSome, FrontIn}
use Rattle.mg_drive.specs.Code.Live.{end_by}
use Rattle.mg_drive.specs.Code.InPieces.{made_inputs, HaveComeInPieces}
use Rattle.mg_drive.specs.Told.{HasSums}
use Rattle.mg_drive.proofs.PacketsRan.{front_sums}
use Rattle.mg_drive.proofs.PiecesRan.{all_made, whole_made}

-- if a piece has room for all packets, these are one batch
one_piece : (whole : Plan) (number most now : ℕ) (m : Making) (end : BatchEnd) (history : List Inputs) → number ≤ most → (came : HaveComeInPieces whole number most now m end history) → history ≡ came.inputs ∷ []
one_piece whole number most now m end history le came =
    came.history_is ∙ ap (λ (earlier : List ℕ). came.inputs ∷ map (λ made. made_inputs (inputs_of whole) made false) earlier) (came.at_once le).0

pub live_made : {laws : Laws} (report : Reporting) (whole : Plan) (number most now : ℕ) (m : Making) (output notes : Device SinkTold) (boxes : Device (List BoxTold)) (status : Status) (end : FeedEnd) (base : Inputs) (earlier : List Inputs) (first : Inputs) (later : List Inputs)
    → number ≤ most → HaveComeInPieces whole number most now m (End end) (base ∷ earlier) → reverse (base ∷ earlier) ≡ first ∷ later → OneLive laws totals report whole first later end status output notes boxes
    → OneLiveMade laws report whole number status output notes boxes
live_made {laws} report whole number most now m output notes boxes status end base earlier first later le came order run =
    let made = all_made whole number m end came.inputs came.given in
    let all : first ∷ later ≡ came.inputs ∷ [] = sym order ∙ ap reverse (one_piece whole number most now m (End end) (base ∷ earlier) le came) in
    let first_is = ap (λ (l : List Inputs). slice_index_or l 0 first) all ∙ made.0 in
    subst (λ (e : FeedEnd). OneLive laws totals report whole (generated_job laws whole number).inputs [] e status output notes boxes) made.1
    (subst (λ (l : List Inputs). OneLive laws totals report whole (generated_job laws whole number).inputs l end status output notes boxes) (ap (λ (l : List Inputs). drop 1 l) all)
    (subst (λ (i : Inputs). OneLive laws totals report whole i later end status output notes boxes) first_is run))

-- Memory ran out --

pub short_made : {laws : Laws} (whole : Plan) (number most now : ℕ) (m : Making) (output : Device SinkTold) (boxes : Device (List BoxTold)) (ended : Option FeedEnd) (base : Inputs) (earlier : List Inputs) (takens : List Taken) (streams : List (StreamPrefix Plain))
    → number ≤ most → HaveComeInPieces whole number most now m (end_by ended) (base ∷ earlier) → SoFar laws (split_of whole) (base ∷ earlier) takens → IsJob (core_job laws (split_of whole) base takens)
    → IsSolution (core_job laws (split_of whole) base takens) streams
    → IsToldSome HasSums (core_job laws (split_of whole) base takens) output.before output.now ⊎ FrontIn totals output.before output.now (core_job laws (split_of whole) base takens)
    → AllHad (split_of whole).core (KeepsAFront (core_job laws (split_of whole) base takens) streams) boxes → LiveOut laws totals whole ((generated_job laws whole number).inputs ∷ []) output boxes
short_made {laws} whole number most now m output boxes ended base earlier takens streams le came so_far is_job solution front had = record {
  base = base;
  earlier = earlier;
  later = [];
  first = sym (append-nil (reverse (base ∷ earlier)) ∙ ap reverse (one_piece whole number most now m (end_by ended) (base ∷ earlier) le came)
      ∙ ap (λ (i : Inputs). i ∷ []) (whole_made whole number m (end_by ended) came.inputs came.given (came.at_once le).1));
  takens = takens;
  so_far = so_far;
  is_job = is_job;
  streams = streams;
  solution = solution;
  front = front_sums (logged laws (split_of whole).core (core_inputs (split_of whole) base takens) []) output.before output.now is_job front streams solution;
  had = had;
}
