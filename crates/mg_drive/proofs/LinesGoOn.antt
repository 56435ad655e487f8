-- What comes of a further batch of lines: it goes on from the lines before.
use Rattle.std.proofs.Common.{◌≡◌, ◌<◌, ℕ, List, [], ◌∷◌, ◌++◌, length, Bool, true, false, drop, slice_index_or, refl, sym, ap, ◌∙◌, subst, arith}
use Rattle.std.proofs.lemmas.List.{length-map}
use Rattle.std.proofs.lemmas.List.Elements.{All-from_recursion, recursion_from_All}
use Rattle.mg_edge.specs.Edge.{SourceTold}
use Rattle.mg_value.specs.Payload.{Plain}
use Rattle.mg_settled.specs.Prefix.{StreamPrefix, empty_prefix}
use Rattle.mg_settled.specs.Extension.{AreExtendedBy}
use Rattle.mg_calc.specs.declared.inputs.Inputs.{Inputs}
use Rattle.mg_calc.specs.declared.plan.Plan.{Plan}
use Rattle.mg_calc.specs.Plan.{IsValidWithFree, InputsFit}
use Rattle.mg_feed.specs.Batch.{CutsAt}
use Rattle.mg_feed.specs.Graph.{GraphInputs, inputs_of as graph_of}
use Rattle.mg_feed.specs.Accepted.{given_by}
use Rattle.mg_feed.specs.Given.{ended_stream, ended_streams}
use Rattle.mg_feed.specs.Stands.{AllGood, HasAccepted, packets_of}
use Rattle.mg_feed.specs.Fed.{Fed}
use Rattle.mg_feed.specs.declared.feed_end.FeedEnd.TheVariants.{Ended, Failed}
use Rattle.mg_feed.specs.declared.feed_end.BatchEnd.{BatchEnd}
use Rattle.mg_feed.specs.declared.feed_end.BatchEnd.TheVariants.{More}
use Rattle.mg_feed.proofs.Growing.{streams-grow, sides-stay}
use Rattle.mg_feed.proofs.Joining.{as-many, one-piece}
use Rattle.mg_answer.specs.Answer.{Read, inputs_by}
use Rattle.mg_answer.proofs.Fitting.{inputs-fit}
use Rattle.mg_node.specs.Extending.{joined}
use Rattle.mg_drive.specs.Batches.{IsMore, IsFirst, InputsGoOn, BatchesGoOn}
use Rattle.mg_drive.specs.Code.Lines.{has_ended, inputs_at, batch_size, HasBatch, LinesGave, lines_of, given_after, LinesCame, lines_left}
use Rattle.mg_drive.proofs.BatchesRead.{first_read, first_inputs}

-- What lines give --

-- if the input hasn't ended, streams are as the lines left them
pub not_ended : (ss : List (StreamPrefix Plain)) → ended_streams false ss ≡ ss
not_ended [] = refl
not_ended (s ∷ ss) = ap (λ l. s ∷ l) (not_ended ss)

-- some reading of an input that has ended, or not
abbrev read_at : List (List ℕ) → Bool → Read
read_at lines true = record { lines = lines; end = Ended }
read_at lines false = record { lines = lines; end = Failed 0 }

lines_at : (lines : List (List ℕ)) (ended : Bool) → (read_at lines ended).lines ≡ lines
lines_at lines true = refl
lines_at lines false = refl

inputs_same : (graph : GraphInputs) (lines : List (List ℕ)) (ended : Bool) → inputs_at graph lines ended ≡ inputs_by graph (read_at lines ended)
inputs_same graph lines true = refl
inputs_same graph lines false = refl

-- what good lines give fits
pub fits_lines : (plan : Plan) (lines : List (List ℕ)) (ended : Bool) → IsValidWithFree plan → AllGood (graph_of plan) [] lines → InputsFit plan (inputs_at (graph_of plan) lines ended)
fits_lines plan lines ended valid good =
    inputs-fit plan (read_at lines ended) (inputs_at (graph_of plan) lines ended) valid
    (subst (λ (ls : List (List ℕ)). AllGood (graph_of plan) [] ls) (sym (lines_at lines ended)) good) (inputs_same (graph_of plan) lines ended)

good_lines : (early : Bool) (plan : Plan) (first now : SourceTold) (end : BatchEnd) (inputs : Inputs) (fed : Fed) (past : List ℕ) (lines : List (List ℕ))
    (batch : HasBatch early plan first end inputs now fed past lines) → AllGood (graph_of plan) [] (lines ++ batch.more)
good_lines early plan first now end inputs fed past lines batch = subst (λ (g : GraphInputs). AllGood g [] (lines ++ batch.more)) batch.graph batch.stands.good

-- the inputs go on with the batch
pub goes_on : (early : Bool) (plan : Plan) (first now : SourceTold) (end : BatchEnd) (inputs : Inputs) (fed : Fed) (past : List ℕ) (lines : List (List ℕ)) → IsValidWithFree plan
    → (given_by (graph_of plan) lines).named ≡ true → (batch : HasBatch early plan first end inputs now fed past lines)
    → InputsGoOn plan (inputs_at (graph_of plan) lines false) inputs (inputs_at (graph_of plan) (lines ++ batch.more) (has_ended end))
goes_on early plan first now end inputs fed past lines valid named batch =
    let graph = graph_of plan in
    let good = good_lines early plan first now end inputs fed past lines batch in
    let stands : HasAccepted (lines ++ batch.more) (packets_of (given_by batch.view.graph lines).streams) batch.view =
    subst (λ (g : GraphInputs). HasAccepted (lines ++ batch.more) (packets_of (given_by g lines).streams) batch.view) (sym batch.graph) batch.stands in
    let count : length batch.view.given.streams ≡ length (given_by graph lines).streams =
    as-many lines batch.more batch.view stands ∙ ap (λ (g : GraphInputs). length (given_by g lines).streams) batch.graph in
    record {
      fits = fits_lines plan (lines ++ batch.more) (has_ended end) valid good;
      sides = sym (sides-stay graph lines batch.more good named);
      extended = subst (λ (ss : List (StreamPrefix Plain)). AreExtendedBy ss (ended_streams (has_ended end) (given_by graph (lines ++ batch.more)).streams))
          (sym (not_ended (given_by graph lines).streams)) (streams-grow graph lines batch.more (has_ended end) good);
      pieces = ap length batch.streams ∙ length-map batch.view.given.streams (ended_stream (has_ended end)) ∙ count ∙ ap length (sym (not_ended (given_by graph lines).streams));
      streams = λ input there.
          let there_then : input < length batch.view.given.streams = subst (λ (n : ℕ). input < n) (ap length batch.streams ∙ length-map batch.view.given.streams (ended_stream (has_ended end))) there in
          let piece = subst (λ (g : GraphInputs). slice_index_or (ended_streams (has_ended end) (given_by g (lines ++ batch.more)).streams) input empty_prefix
          ≡ joined (slice_index_or (given_by g lines).streams input empty_prefix) (slice_index_or (ended_streams (has_ended end) batch.view.given.streams) input empty_prefix))
          batch.graph (one-piece lines batch.more batch.view (has_ended end) input stands there_then) in
          subst (λ (ss : List (StreamPrefix Plain)). slice_index_or (ended_streams (has_ended end) (given_by graph (lines ++ batch.more)).streams) input empty_prefix
          ≡ joined (slice_index_or ss input empty_prefix) (slice_index_or inputs.streams input empty_prefix)) (sym (not_ended (given_by graph lines).streams))
          (subst (λ (ss : List (StreamPrefix Plain)). slice_index_or (ended_streams (has_ended end) (given_by graph (lines ++ batch.more)).streams) input empty_prefix
          ≡ joined (slice_index_or (given_by graph lines).streams input empty_prefix) (slice_index_or ss input empty_prefix)) (sym batch.streams) piece);
    }

-- What a feed gives --

-- the first batch
pub first_lines : (early : Bool) (plan : Plan) (before now : SourceTold) (end : BatchEnd) (inputs : Inputs) (fed : Fed) → IsValidWithFree plan → HasBatch early plan before end inputs now fed [] []
    → IsFirst (LinesGave fed plan before now) plan end inputs
first_lines early plan before now end inputs fed valid batch =
    let gave = first_read early plan before end inputs now fed batch in
    let good : AllGood (graph_of plan) [] gave.lines = subst (λ (g : GraphInputs). AllGood g [] gave.lines) gave.is_read.graph gave.is_read.came.stands.good in
    record {
      given = gave;
      fits = subst (InputsFit plan) (sym gave.inputs_are) (fits_lines plan gave.lines (has_ended end) valid good);
    }

-- a batch more
pub more_lines : (early : Bool) (plan : Plan) (first before now : SourceTold) (end : BatchEnd) (inputs so_far : Inputs) (old fed : Fed) → IsValidWithFree plan → (gave : LinesGave old plan first before More so_far)
    → HasBatch early plan first end inputs now fed gave.past gave.lines → BatchesGoOn (LinesGave fed plan first now end) plan so_far inputs
more_lines early plan first before now end inputs so_far old fed valid gave batch = record {
  all = inputs_at (graph_of plan) (gave.lines ++ batch.more) (has_ended end);
  given = record {
    past = gave.past ++ batch.came;
    lines = gave.lines ++ batch.more;
    is_read = batch.is_read;
    inputs_are = refl;
    named = batch.named;
  };
  goes_on = subst (λ (i : Inputs). InputsGoOn plan i inputs (inputs_at (graph_of plan) (gave.lines ++ batch.more) (has_ended end))) (sym gave.inputs_are)
      (goes_on early plan first now end inputs fed gave.past gave.lines valid (gave.named tt) batch);
}

-- Batches in turn --

pub first_lines_came : (early : Bool) (plan : Plan) (before now : SourceTold) (end : BatchEnd) (inputs : Inputs) (fed : Fed) → IsValidWithFree plan → HasBatch early plan before end inputs now fed [] []
    → IsFirst (λ end inputs. LinesGave fed plan before now end inputs × ((early ≡ early) × LinesCame early fed plan before now end (inputs ∷ []))) plan end inputs
first_lines_came early plan before now end inputs fed valid batch =
    let first = first_lines early plan before now end inputs fed valid batch in
    record {
      given = (
        first.given,
        (
          refl,
          record {
            past = batch.came;
            newest = batch.more;
            earlier = [];
            is_read = batch.is_read;
            history_is = ap (λ (i : Inputs). i ∷ []) (first_inputs early plan before end inputs now fed batch);
            filled = batch.filled;
            all_filled = All-from_recursion (CutsAt early More batch_size) [] tt;
            named = batch.named;
          },
        ),
      );
      fits = first.fits;
    }

same_head : (a b : Inputs) (xs ys : List Inputs) → a ∷ xs ≡ b ∷ ys → (a ≡ b) × (xs ≡ ys)
same_head a b xs ys same = (ap (λ (l : List Inputs). slice_index_or l 0 a) same, ap (λ (l : List Inputs). drop 1 l) same)

-- a batch more, where batches end as they did when the run began
pub more_lines_came : (kept early : Bool) (plan : Plan) (first before now : SourceTold) (end : BatchEnd) (inputs so_far : Inputs) (earlier : List Inputs) (old fed : Fed) → IsValidWithFree plan
    → (both : (kept ≡ early) × LinesCame early old plan first before More (so_far ∷ earlier)) → HasBatch kept plan first end inputs now fed both.1.past (lines_of (both.1.newest ∷ both.1.earlier))
    → BatchesGoOn (λ all. LinesGave fed plan first now end all × ((kept ≡ early) × LinesCame early fed plan first now end (all ∷ so_far ∷ earlier))) plan so_far inputs
more_lines_came kept early plan first before now end inputs so_far earlier old fed valid (same, came) kept_batch =
    let lines = lines_of (came.newest ∷ came.earlier) in
    let batch = subst (λ (b : Bool). HasBatch b plan first end inputs now fed came.past lines) same kept_batch in
    let heads = same_head so_far (inputs_at (graph_of plan) lines false) earlier (given_after (graph_of plan) came.earlier) came.history_is in
    record {
      all = inputs_at (graph_of plan) (lines ++ batch.more) (has_ended end);
      given = (
        record {
          past = came.past ++ batch.came;
          lines = lines ++ batch.more;
          is_read = batch.is_read;
          inputs_are = refl;
          named = batch.named;
        },
        (
          same,
          record {
            past = came.past ++ batch.came;
            newest = batch.more;
            earlier = came.newest ∷ came.earlier;
            is_read = batch.is_read;
            history_is = ap (λ (l : List Inputs). inputs_at (graph_of plan) (lines ++ batch.more) (has_ended end) ∷ l) came.history_is;
            filled = batch.filled;
            all_filled = All-from_recursion (CutsAt early More batch_size) (came.newest ∷ came.earlier) (came.filled, recursion_from_All (CutsAt early More batch_size) came.earlier came.all_filled);
            named = batch.named;
          },
        ),
      );
      goes_on = subst (λ (i : Inputs). InputsGoOn plan i inputs (inputs_at (graph_of plan) (lines ++ batch.more) (has_ended end))) (sym heads.0)
          (goes_on early plan first now end inputs fed came.past lines valid (came.named tt) batch);
    }

-- a batch more leaves fewer lines to come
pub fewer_lines : (early : Bool) (plan : Plan) (first before now : SourceTold) (end : BatchEnd) (inputs so_far : Inputs) (old fed : Fed) (gave : LinesGave old plan first before More so_far)
    → HasBatch early plan first end inputs now fed gave.past gave.lines → IsMore end → lines_left fed < lines_left old
fewer_lines early plan first before now end inputs so_far old fed gave batch more =
    let was = gave.is_read.came.stands.number in
    let is = batch.is_read.came.stands.number in
    let less = batch.longer more in
    let few = batch.few in
    omega (arith, was, is, less, few)
