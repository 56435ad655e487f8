-- The lines of an input in batches, as a feed took them one after the other.
use Rattle.std.proofs.Common.{◌≡◌, ◌⊎◌, inl, inr, ℕ, List, [], ◌∷◌, ◌++◌, reverse, All, Bool, true, false, Option, None, Some, refl, sym, ap, ◌∙◌, subst, append-nil}
use Rattle.std.specs.List.{AllByRecursion}
use Rattle.std.proofs.lemmas.List.{append_assoc, reverse-append}
use Rattle.std.proofs.lemmas.List.Elements.{recursion_from_All}
use Rattle.mg_edge.specs.Edge.{SourceTold, SinkTold}
use Rattle.mg_value.specs.Payload.{Plain}
use Rattle.mg_settled.specs.Prefix.{StreamPrefix}
use Rattle.mg_calc.specs.Rules.{Laws}
use Rattle.mg_calc.specs.declared.inputs.Inputs.{Inputs}
use Rattle.mg_calc.specs.declared.plan.Plan.{Plan}
use Rattle.mg_calc.specs.Equations.{IsJob, IsSolution}
use Rattle.mg_calc.specs.Told.{BoxTold}
use Rattle.mg_feed.specs.Graph.{GraphInputs, inputs_of}
use Rattle.mg_feed.specs.Batch.{CutsAt}
use Rattle.mg_feed.specs.Fed.{Fed}
use Rattle.mg_feed.specs.Ran.{EndCame}
use Rattle.mg_feed.specs.declared.feed_end.FeedEnd.{FeedEnd}
use Rattle.mg_feed.specs.declared.feed_end.BatchEnd.{BatchEnd}
use Rattle.mg_feed.specs.declared.feed_end.BatchEnd.TheVariants.{More, End}
use Rattle.mg_free.specs.Core.{split_of}
use Rattle.mg_free.specs.Rounds.{Taken, core_inputs, core_job}
use Rattle.mg_live.specs.SoFar.{SoFar}
use Rattle.mg_answer.specs.Answer.{packet_lines, is_ended, Read, ended_input}
use Rattle.mg_answer.specs.Devices.{Device, device, RunDevices}
use Rattle.mg_answer.specs.Ran.{CameTo}
use Rattle.mg_answer.specs.declared.status.Status.{Status}
use Rattle.mg_answer.specs.declared.run.Reporting.{Reporting}
use Rattle.mg_drive.specs.InBatches.{inputs_at, batch_size, InBatches, last, more, come_after}
use Rattle.mg_drive.specs.Batches.{IsMore, logged}
use Rattle.mg_drive.specs.Leaves.{KeepsAFront}
use Rattle.mg_drive.specs.OneRun.{AllHad}
use Rattle.mg_drive.specs.Over.{OverInput, OverFirst}
use Rattle.mg_drive.specs.OneLive.{AreBatchesOf, OneLive, OneLiveReading, LiveOut}
use Rattle.mg_drive.specs.Told.{HasLines}
use Rattle.mg_drive.specs.Code.Running.{IsToldSome, FrontIn}
use Rattle.mg_drive.specs.Code.Live.{end_by}
use Rattle.mg_drive.specs.Code.Lines.{has_ended, ReadsOn, LinesGave, LinesCame, lines_of, given_after}
use Rattle.mg_drive.proofs.Cuts.{some_cut}
use Rattle.mg_drive.proofs.LinesRan.{came_at, lines_in_front, read_on, end_came, front_lines}

in_batches_from : (early : Bool) (batches : List (List (List ℕ))) (lines : List (List ℕ)) (later : List (List (List ℕ))) → AllByRecursion (λ (b : List (List ℕ)). CutsAt early More batch_size b) batches → InBatches early lines later
    → InBatches early (lines_of batches ++ lines) (reverse batches ++ later)
in_batches_from early [] lines later all rest = rest
in_batches_from early (batch ∷ batches) lines later all rest =
    subst (λ (bs : List (List (List ℕ))). InBatches early ((lines_of batches ++ batch) ++ lines) bs) (sym (ap (λ (bs : List (List (List ℕ))). bs ++ later) (reverse-append (batch ∷ []) batches) ∙ append_assoc (reverse batches) (batch ∷ []) later))
    (subst (λ (ls : List (List ℕ)). InBatches early ls (reverse batches ++ batch ∷ later)) (sym (append_assoc (lines_of batches) batch lines)) (in_batches_from early batches (batch ++ lines) (batch ∷ later) all.1 (more all.0 rest)))

come_from : (graph : GraphInputs) (end : FeedEnd) (batches : List (List (List ℕ))) (next : List (List ℕ)) (later : List (List (List ℕ)))
    → come_after graph end [] (reverse batches ++ next ∷ later) ≡ reverse (given_after graph batches) ++ come_after graph end (lines_of batches) (next ∷ later)
come_from graph end [] next later = refl
come_from graph end (batch ∷ batches) next later =
    let here = inputs_at graph (lines_of batches ++ batch) false in
    let rest = come_after graph end (lines_of batches ++ batch) (next ∷ later) in
    ap (come_after graph end []) (ap (λ (bs : List (List (List ℕ))). bs ++ next ∷ later) (reverse-append (batch ∷ []) batches) ∙ append_assoc (reverse batches) (batch ∷ []) (next ∷ later))
    ∙ come_from graph end batches batch (next ∷ later)
    ∙ sym (ap (λ (is : List Inputs). is ++ rest) (reverse-append (here ∷ []) (given_after graph batches)) ∙ append_assoc (reverse (given_after graph batches)) (here ∷ []) rest)

-- the last batch
last_of : (early : Bool) (end : FeedEnd) (lines : List (List ℕ)) → CutsAt early (End end) batch_size lines → InBatches early lines (lines ∷ [])
last_of false end lines few = last few
last_of true end lines few = last few

-- what batches had given is what has come after each of them
came_after_all : (graph : GraphInputs) (end : FeedEnd) (newest : List (List ℕ)) (earlier : List (List (List ℕ))) (history : List Inputs) → history ≡ inputs_at graph (lines_of earlier ++ newest) (is_ended end) ∷ given_after graph earlier
    → come_after graph end [] (reverse earlier ++ newest ∷ []) ≡ reverse history
came_after_all graph end newest earlier history are =
    come_from graph end earlier newest [] ∙ sym (reverse-append (inputs_at graph (lines_of earlier ++ newest) (is_ended end) ∷ []) (given_after graph earlier)) ∙ ap reverse (sym are)

all_cut : (early : Bool) (earlier : List (List (List ℕ))) → All (λ (b : List (List ℕ)). CutsAt early More batch_size b) earlier → AllByRecursion (λ (b : List (List ℕ)). CutsAt early More batch_size b) earlier
all_cut early earlier all = recursion_from_All (λ (b : List (List ℕ)). CutsAt early More batch_size b) earlier all

-- the lines of the batches that came, up to the last batch
all_in_batches : (early : Bool) (whole : Plan) (first at : SourceTold) (fed : Fed) (end : FeedEnd) (history : List Inputs) → (came : LinesCame early fed whole first at (End end) history)
    → InBatches early (lines_of came.earlier ++ came.newest) (reverse came.earlier ++ came.newest ∷ [])
all_in_batches early whole first at fed end history came =
    in_batches_from early came.earlier came.newest (came.newest ∷ []) (all_cut early came.earlier came.all_filled) (last_of early end came.newest came.filled)

abbrev gave_as : (early : Bool) (whole : Plan) (first at : SourceTold) (fed : Fed) (end : BatchEnd) (base : Inputs) (earlier : List Inputs) → (came : LinesCame early fed whole first at end (base ∷ earlier))
    → LinesGave fed whole first at end (inputs_at (inputs_of whole) (lines_of came.earlier ++ came.newest) (has_ended end))
gave_as early whole first at fed end base earlier came = record { past = came.past; lines = lines_of came.earlier ++ came.newest; is_read = came.is_read; inputs_are = refl; named = came.named }

pub live_lines : {laws : Laws} (report : Reporting) (early : Bool) (whole : Plan) (status : Status) (devices : RunDevices) (boxes : Device (List BoxTold)) (fed : Fed) (end : FeedEnd) (base : Inputs) (earlier : List Inputs) (first : Inputs) (later : List Inputs)
    → LinesCame early fed whole devices.input.before devices.input.now (End end) (base ∷ earlier) → reverse (base ∷ earlier) ≡ first ∷ later → OneLive laws packet_lines report whole first later end status devices.output devices.notes boxes
    → OneLiveReading laws report early whole status devices boxes
live_lines {laws} report early whole status devices boxes fed end base earlier first later came order run =
    let graph = inputs_of whole in
    record {
      read = record { lines = lines_of came.earlier ++ came.newest; end = end };
      came = came_at whole devices.input.before devices.input.now fed end (inputs_at graph (lines_of came.earlier ++ came.newest) (is_ended end)) (gave_as early whole devices.input.before devices.input.now fed (End end) base earlier came);
      holds = record {
        first = first;
        later = later;
        batches = record {
          lines = reverse came.earlier ++ came.newest ∷ [];
          in_batches = all_in_batches early whole devices.input.before devices.input.now fed end (base ∷ earlier) came;
          are = came_after_all graph end came.newest came.earlier (base ∷ earlier) came.history_is ∙ order;
        };
        run = run;
      };
    }

-- More lines --

-- what had come by some batches is a prefix of what comes by all batches
come_of : (early : Bool) (graph : GraphInputs) (end : FeedEnd) (batches : List (List (List ℕ))) (rest : List (List ℕ)) (later cut : List (List (List ℕ))) → cut ≡ reverse batches ++ later → InBatches early rest later
    → (behind : List Inputs) × (come_after graph end [] cut ≡ reverse (given_after graph batches) ++ behind)
come_of early graph end batches rest later cut front (last {lines = some} few) = (come_after graph end (lines_of batches) (some ∷ []), ap (come_after graph end []) front ∙ come_from graph end batches some [])
come_of early graph end batches rest later cut front (more {batch = one} {batches = others} filled behind) =
    (come_after graph end (lines_of batches) (one ∷ others), ap (come_after graph end []) front ∙ come_from graph end batches one others)

-- Memory ran out --

short_of : {laws : Laws} (whole : Plan) (output : Device SinkTold) (boxes : Device (List BoxTold)) (base : Inputs) (earlier : List Inputs) (takens : List Taken) (streams : List (StreamPrefix Plain)) → SoFar laws (split_of whole) (base ∷ earlier) takens
    → IsJob (core_job laws (split_of whole) base takens) → IsSolution (core_job laws (split_of whole) base takens) streams
    → IsToldSome HasLines (core_job laws (split_of whole) base takens) output.before output.now ⊎ FrontIn packet_lines output.before output.now (core_job laws (split_of whole) base takens)
    → AllHad (split_of whole).core (KeepsAFront (core_job laws (split_of whole) base takens) streams) boxes → (later batches : List Inputs) → batches ≡ reverse (base ∷ earlier) ++ later → LiveOut laws packet_lines whole batches output boxes
short_of {laws} whole output boxes base earlier takens streams so_far is_job solution front had later batches first = record {
  base = base;
  earlier = earlier;
  later = later;
  first = first;
  takens = takens;
  so_far = so_far;
  is_job = is_job;
  streams = streams;
  solution = solution;
  front = front_lines (logged laws (split_of whole).core (core_inputs (split_of whole) base takens) []) output.before output.now is_job front streams solution;
  had = had;
}

-- batches of the whole input, and a prefix of what belongs to these
abbrev BatchesOut : Laws → Bool → Plan → Device SinkTold → Device (List BoxTold) → Read → Type 0
BatchesOut laws early whole output boxes read = (batches : List Inputs) × AreBatchesOf early whole read batches × LiveOut laws packet_lines whole batches output boxes

short_lines : {laws : Laws} (early : Bool) (whole : Plan) (input : Device SourceTold) (output : Device SinkTold) (boxes : Device (List BoxTold)) (fed : Fed) (ended : Option FeedEnd) (at : SourceTold) (base : Inputs) (earlier : List Inputs) → LinesCame early fed whole input.before at (end_by ended) (base ∷ earlier)
    → (at ≡ input.now) ⊎ (IsMore (end_by ended) × ReadsOn fed whole input.before at input.now) → ((later batches : List Inputs) → batches ≡ reverse (base ∷ earlier) ++ later → LiveOut laws packet_lines whole batches output boxes)
    → OverInput (inputs_of whole) input (BatchesOut laws early whole output boxes) ⊎ OverFirst (inputs_of whole) input (BatchesOut laws early whole output boxes)
short_lines {laws} early whole input output boxes fed None at base earlier came read_last short =
    let graph = inputs_of whole in
    let given = inputs_at graph (lines_of came.earlier ++ came.newest) false in
    let gave : LinesGave fed whole input.before at More given = gave_as early whole input.before at fed More base earlier came in
    let on = read_on whole input fed at given gave read_last in
    inr (record {
      read = on.read;
      first = came.past;
      later = on.later;
      split = on.split;
      ended = fed.read.ended;
      met = λ is. (
        subst (λ (s : SourceTold). EndCame input.before s) (sym (on.none is).0) (end_came fed.read.ended input.before at came.is_read.met is),
        (on.none is).1,
      );
      holds = λ rest fits.
          (let front = lines_in_front whole input.before at fed given gave rest fits in
          let end = (ended_input graph (came.past ++ rest)).end in
          let so_far = came.newest ∷ came.earlier in
          let cut = some_cut early front.0 in
          let some = come_of early graph end so_far front.0 cut.0 (reverse so_far ++ cut.0) refl cut.1 in (
            come_after graph end [] (reverse so_far ++ cut.0),
            record {
              lines = reverse so_far ++ cut.0;
              in_batches = subst (λ (ls : List (List ℕ)). InBatches early ls (reverse so_far ++ cut.0)) (sym front.1)
                  (in_batches_from early so_far front.0 cut.0 (came.filled, all_cut early came.earlier came.all_filled) cut.1);
              are = refl;
            },
            short some.0 (come_after graph end [] (reverse so_far ++ cut.0)) (some.1 ∙ ap (λ (l : List Inputs). reverse l ++ some.0) (sym came.history_is)),
          ));
    })
short_lines {laws} early whole input output boxes fed (Some end) at base earlier came (inr further) short = absurd further.0
short_lines {laws} early whole input output boxes fed (Some end) at base earlier came (inl same) short =
    let graph = inputs_of whole in
    let read : Read = record { lines = lines_of came.earlier ++ came.newest; end = end } in
    let cut = reverse came.earlier ++ came.newest ∷ [] in
    inl (record {
      read = read;
      came = subst (λ (s : SourceTold). CameTo graph (device input.before s) read) same
          (came_at whole input.before at fed end (inputs_at graph (lines_of came.earlier ++ came.newest) (is_ended end)) (gave_as early whole input.before at fed (End end) base earlier came));
      holds = (
        come_after graph end [] cut,
        record {
          lines = cut;
          in_batches = all_in_batches early whole input.before at fed end (base ∷ earlier) came;
          are = refl;
        },
        short [] (come_after graph end [] cut) (came_after_all graph end came.newest came.earlier (base ∷ earlier) came.history_is ∙ sym (append-nil (reverse (base ∷ earlier)))),
      );
    })

pub live_lines_short : {laws : Laws} (early : Bool) (whole : Plan) (input : Device SourceTold) (output : Device SinkTold) (boxes : Device (List BoxTold)) (fed : Fed) (ended : Option FeedEnd) (at : SourceTold) (base : Inputs) (earlier : List Inputs) (takens : List Taken) (streams : List (StreamPrefix Plain))
    → LinesCame early fed whole input.before at (end_by ended) (base ∷ earlier) → (at ≡ input.now) ⊎ (IsMore (end_by ended) × ReadsOn fed whole input.before at input.now) → SoFar laws (split_of whole) (base ∷ earlier) takens
    → IsJob (core_job laws (split_of whole) base takens) → IsSolution (core_job laws (split_of whole) base takens) streams
    → IsToldSome HasLines (core_job laws (split_of whole) base takens) output.before output.now ⊎ FrontIn packet_lines output.before output.now (core_job laws (split_of whole) base takens)
    → AllHad (split_of whole).core (KeepsAFront (core_job laws (split_of whole) base takens) streams) boxes
    → OverInput (inputs_of whole) input (BatchesOut laws early whole output boxes) ⊎ OverFirst (inputs_of whole) input (BatchesOut laws early whole output boxes)
live_lines_short {laws} early whole input output boxes fed ended at base earlier takens streams came read_last so_far is_job solution front had =
    short_lines early whole input output boxes fed ended at base earlier came read_last (short_of whole output boxes base earlier takens streams so_far is_job solution front had)

-- what a further call reads, if it may come
pub may_read : (whole : Plan) (input : Device SourceTold) (fed : Fed) (ended : Option FeedEnd) (at : SourceTold) (allowed : Type 0) → allowed → (at ≡ input.now) ⊎ (IsMore (end_by ended) × (allowed → ReadsOn fed whole input.before at input.now))
    → (at ≡ input.now) ⊎ (IsMore (end_by ended) × ReadsOn fed whole input.before at input.now)
may_read whole input fed ended at allowed may (inl same) = inl same
may_read whole input fed ended at allowed may (inr further) = inr (further.0, further.1 may)
