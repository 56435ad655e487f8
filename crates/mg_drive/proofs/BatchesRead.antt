-- What a feed has read, batch by batch.
use Rattle.std.proofs.Common.{◌≡◌, ◌⊎◌, inl, inr, ◌<◌, ◌≤◌, ℕ, zero, suc, List, [], ◌∷◌, ◌++◌, length, map, replicate, Bool, true, false, Option, Some, None, refl, sym, ap, ◌∙◌, subst, arith, length-append, append-nil}
use Rattle.std.proofs.lemmas.Bool.{cases_Bool, false≢true}
use Rattle.mg_edge.specs.Edge.{SourceTold}
use Rattle.mg_edge.specs.Runs.{Gave}
use Rattle.mg_value.specs.Payload.{Plain}
use Rattle.mg_value.specs.Packet.{Stamped}
use Rattle.mg_settled.specs.Prefix.{StreamPrefix, empty_prefix}
use Rattle.mg_calc.specs.declared.inputs.Inputs.{Inputs}
use Rattle.mg_calc.specs.declared.plan.Plan.{Plan}
use Rattle.mg_feed.specs.Graph.{GraphInputs, inputs_of}
use Rattle.mg_feed.specs.Accepted.{State, given_by, most_lines}
use Rattle.mg_feed.specs.Given.{ended_streams}
use Rattle.mg_feed.specs.Stands.{HasAccepted, nothing_taken, taken_with, packets_of}
use Rattle.mg_feed.specs.Fed.{Fed, Reading}
use Rattle.mg_feed.specs.Ran.{MetEnd, late, Spends, Unfailed, ReadFailed}
use Rattle.mg_feed.specs.Once.{StopsInTime}
use Rattle.mg_feed.specs.Batch.{EndsAs, CutsAt, naming, HasReadBatch, BatchEndsAs, BatchFailedBy, idle_by}
use Rattle.mg_feed.specs.declared.feed_end.FeedEnd.TheVariants.{Ended, Failed, Refused, OutOfMemory}
use Rattle.mg_feed.specs.declared.feed_end.BatchEnd.{BatchEnd}
use Rattle.mg_feed.specs.declared.feed_end.BatchEnd.TheVariants.{More, End}
use Rattle.mg_feed.proofs.Coming.{came-nothing, came-taken}
use Rattle.mg_feed.proofs.Timely.{stops-nothing}
use Rattle.mg_feed.proofs.Moving.{gave-then, met-then, spends-same, spends-then, spends-late, unfailed-same, unfailed-then, failed-by, naming-few}
use Rattle.mg_feed.proofs.Holding.{given-untaken}
use Rattle.mg_feed.proofs.Growing.{naming-names}
use Rattle.mg_feed.proofs.Joining.{taken-all}
use Rattle.mg_answer.specs.Devices.{device}
use Rattle.mg_answer.specs.Ran.{ReadSome}
use Rattle.mg_drive.specs.Batches.{IsMore}
use Rattle.mg_drive.specs.Code.Lines.{has_ended, inputs_at, HadMemory, ReadsAs, IsRead, HasBatch, HasReadOn, ReadsOn, LinesGave, batch_size}

-- The first moment --

none_of : (n : ℕ) → map (λ (s : StreamPrefix Plain). s.packets) (replicate n empty_prefix) ≡ replicate n []
none_of zero = refl
none_of (suc n) = ap (λ l. [] ∷ l) (none_of n)

-- no lines give no packets
none_given : (graph : GraphInputs) → packets_of (given_by graph []).streams ≡ nothing_taken graph
none_given graph = none_of (length graph.kinds)

gave_none : (left : Option (List ℕ)) → Gave left left []
gave_none None = tt
gave_none (Some bytes) = (bytes, refl, refl)

-- a feed that is new has read nothing
pub nothing_read : (plan : Plan) (first : SourceTold) (fed : Fed) → fed.view.graph ≡ inputs_of plan → HasAccepted [] (nothing_taken (inputs_of plan)) fed.view
    → fed.read ≡ record { kept = []; ended = false } → IsRead plan first More first fed [] []
nothing_read plan first fed graph stands unread = record {
  graph = graph;
  gave = gave_none first.left;
  came = came-nothing [] (packets_of (given_by (inputs_of plan) []).streams) fed unread
      (subst (λ (gone : List (List (Stamped Plain))). HasAccepted [] gone fed.view) (sym (none_given (inputs_of plan))) stands);
  met = subst (λ (r : Reading). MetEnd false r.ended first first) (sym unread) refl;
  stops = stops-nothing (inputs_of plan) [] first;
  spent = subst (λ (r : Reading). Spends 0 (late r.ended) first.left first.left first.reads first.reads) (sym unread) (spends-same 0 first.left first.reads);
  so = unfailed-same first;
}

-- A batch --

reads_on : (end : BatchEnd) (plan : Plan) (first before now : SourceTold) (mid fed : Fed) (graph : GraphInputs) (past came : List ℕ) (lines taken : List (List ℕ)) → HadMemory end
    → graph ≡ inputs_of plan → fed.read ≡ mid.read → Gave first.left before.left past → Unfailed first before → BatchFailedBy end before now
    → BatchEndsAs end graph [] (past ++ came) (lines ++ taken) mid.read.ended → ReadsAs end plan first now fed (past ++ came) (lines ++ taken)
reads_on More plan first before now mid fed graph past came lines taken some is same gave unfailed failed ends = unfailed-then first before now unfailed failed
reads_on (End end) plan first before now mid fed graph past came lines taken some is same gave unfailed failed ends = (
  some,
  subst (λ (r : Reading). EndsAs end (inputs_of plan) [] (past ++ came) (lines ++ taken) r.ended) (sym same)
      (subst (λ (g : GraphInputs). EndsAs end g [] (past ++ came) (lines ++ taken) mid.read.ended) is ends),
  failed-by end first before now past gave unfailed failed,
)

-- a batch reads no further than it may
stops_on : (early : Bool) (plan : Plan) (first before now : SourceTold) (most : ℕ) (end : BatchEnd) (old mid : Fed) (past : List ℕ) (lines : List (List ℕ)) → IsRead plan first More before old past lines
    → (read : HasReadBatch early most end before now old mid) → StopsInTime (inputs_of plan) [] first now (past ++ read.came)
stops_on early plan first before now most end old mid past lines was read =
    subst (λ (g : GraphInputs). StopsInTime g [] first now (past ++ read.came)) was.graph
    (read.stops first [] past lines (packets_of (given_by (inputs_of plan) lines).streams) was.came was.gave
    (subst (λ (g : GraphInputs). StopsInTime g [] first before past) (sym was.graph) was.stops))

-- a batch has lines if more may come after it
cut_some : (early : Bool) (end : BatchEnd) (most : ℕ) (taken : List (List ℕ)) → 0 < most → CutsAt early end most taken → IsMore end → 0 < naming taken
cut_some true More most taken some cut more = cut.1 some
cut_some false More most taken some cut more = subst (λ (n : ℕ). 0 < n) (sym cut.0) some
cut_some early (End end) most taken some cut more = absurd more

pub batch_read : (early : Bool) (plan : Plan) (first before now : SourceTold) (most : ℕ) (end : BatchEnd) (old mid new : Fed) (inputs : Inputs) (b : Bool) (past : List ℕ) (lines : List (List ℕ))
    → 0 < most → most ≡ batch_size → HadMemory end → IsRead plan first More before old past lines
    → HasReadBatch early most end before now old mid → MetEnd old.read.ended mid.read.ended before now → BatchFailedBy end before now
    → Spends (late old.read.ended) (idle_by end mid.read.ended) before.left now.left before.reads now.reads → mid.view.lines ≤ most_lines → mid.view.graph ≡ old.view.graph
    → b ≡ has_ended end → inputs.streams ≡ ended_streams b mid.view.given.streams → inputs.sides ≡ mid.view.given.sides → inputs.ended ≡ b
    → ((ls : List (List ℕ)) (gone : List (List (Stamped Plain))) → HasAccepted ls gone mid.view → HasAccepted ls (taken_with gone mid.view.given.streams) new.view)
    → new.view.graph ≡ mid.view.graph → new.read ≡ mid.read → HasBatch early plan first end inputs now new past lines
batch_read early plan first before now most end old mid new inputs b past lines some most_is had was read met failed spent few mid_graph is_b streams sides ended takes new_graph new_read =
    let both = read.accepted [] past lines (packets_of (given_by (inputs_of plan) lines).streams) was.came in
    let came = both.0 in
    let graph : mid.view.graph ≡ inputs_of plan = mid_graph ∙ was.graph in
    let all = lines ++ read.taken in
    let taken_is : taken_with (packets_of (given_by (inputs_of plan) lines).streams) mid.view.given.streams ≡ packets_of (given_by (inputs_of plan) all).streams =
    taken-all all (packets_of (given_by (inputs_of plan) lines).streams) mid.view came.stands ∙ ap (λ (g : GraphInputs). packets_of (given_by g all).streams) graph in
    let naming_some = cut_some early end most read.taken some read.filled in
    record {
      came = read.came;
      more = read.taken;
      is_read = record {
        graph = new_graph ∙ graph;
        gave = gave-then first.left before.left now.left past read.came was.gave read.gave;
        came = came-taken [] (past ++ read.came) all (packets_of (given_by (inputs_of plan) lines).streams) (packets_of (given_by (inputs_of plan) all).streams) mid new came new_read
            (subst (λ (gone : List (List (Stamped Plain))). HasAccepted all gone new.view) taken_is (takes all (packets_of (given_by (inputs_of plan) lines).streams) came.stands));
        met = subst (λ (r : Reading). MetEnd false r.ended first now) (sym new_read) (met-then false old.read.ended mid.read.ended first before now past was.gave was.met met);
        stops = stops_on early plan first before now most end old mid past lines was read;
        spent = subst (λ (r : Reading). Spends 0 (idle_by end r.ended) first.left now.left first.reads now.reads) (sym new_read)
            (spends-then 0 (late old.read.ended) (idle_by end mid.read.ended) first.left before.left now.left first.reads before.reads now.reads was.spent spent);
        so = reads_on end plan first before now mid new old.view.graph past read.came lines read.taken had was.graph new_read was.gave was.so failed both.1;
      };
      view = mid.view;
      graph = graph;
      stands = came.stands;
      streams = streams ∙ ap (λ c. ended_streams c mid.view.given.streams) is_b;
      sides = sides;
      ended = ended ∙ is_b;
      longer = λ more. let few_named = naming-few read.taken in let some_named = naming_some more in omega (arith, length-append lines read.taken, few_named, some_named);
      named = λ more. naming-names (inputs_of plan) lines read.taken (naming_some more);
      few = subst (λ (n : ℕ). n ≤ most_lines) came.stands.number few;
      filled = subst (λ (n : ℕ). CutsAt early end n read.taken) most_is read.filled;
    }

-- A call that reads on --

-- at the first moment nothing more was read
abbrev still_read : (plan : Plan) (first at : SourceTold) (fed : Fed) (past : List ℕ) (lines : List (List ℕ)) → IsRead plan first More at fed past lines → ReadSome (inputs_of plan) (device first at)
still_read plan first at fed past lines was = record {
  came = past;
  gave = was.gave;
  once = record {
    stops = was.stops;
    reads = spends-then 0 (late fed.read.ended) 1 first.left at.left at.left first.reads at.reads at.reads was.spent (spends-late fed.read.ended at.left at.reads);
  };
  faults = inl was.so;
}

pub none_further : (plan : Plan) (first at : SourceTold) (fed : Fed) (past : List ℕ) (lines : List (List ℕ)) → IsRead plan first More at fed past lines → HasReadOn plan first at at fed.read.ended past
none_further plan first at fed past lines was = record {
  read = still_read plan first at fed past lines was;
  later = [];
  split = sym (append-nil past);
  none = λ ended. (refl, refl);
}

-- how the reads went, by how the batch ended
faults_by : (end : BatchEnd) (before now : SourceTold) → BatchFailedBy end before now → Unfailed before now ⊎ ReadFailed before now
faults_by More before now failed = inl failed
faults_by (End Ended) before now failed = inl failed
faults_by (End (Failed lines)) before now failed = inr failed
faults_by (End (Refused line cause)) before now failed = inl failed
faults_by (End OutOfMemory) before now failed = inl failed

failed_then : (end : BatchEnd) (first before now : SourceTold) (past : List ℕ) → Gave first.left before.left past → Unfailed first before → BatchFailedBy end before now → BatchFailedBy end first now
failed_then More first before now past gave unfailed failed = unfailed-then first before now unfailed failed
failed_then (End end) first before now past gave unfailed failed = failed-by end first before now past gave unfailed failed

-- by the end of a batch at most one read gave no byte
one_idle : (end : BatchEnd) (ended : Bool) (left : Option (List ℕ)) (reads : Option ℕ) → Spends (idle_by end ended) 1 left left reads reads
one_idle More ended left reads = spends-late ended left reads
one_idle (End end) ended left reads = spends-same 1 left reads

-- if the source hadn't ended, a call read on
further : (early : Bool) (most : ℕ) (end : BatchEnd) (plan : Plan) (first before now : SourceTold) (old mid : Fed) (past : List ℕ) (lines : List (List ℕ)) → HasReadBatch early most end before now old mid → BatchFailedBy end before now
    → Spends (late old.read.ended) (idle_by end mid.read.ended) before.left now.left before.reads now.reads → mid.view.graph ≡ old.view.graph → old.read.ended ≡ false
    → IsRead plan first More before old past lines → HasReadOn plan first before now old.read.ended past
further early most end plan first before now old mid past lines read failed spent same not_ended was =
    let spent_all = spends-then 0 (late old.read.ended) (idle_by end mid.read.ended) first.left before.left now.left first.reads before.reads now.reads was.spent spent in
    record {
      read = record {
        came = past ++ read.came;
        gave = gave-then first.left before.left now.left past read.came was.gave read.gave;
        once = record {
          stops = stops_on early plan first before now most end old mid past lines was read;
          reads = spends-then 0 (idle_by end mid.read.ended) 1 first.left now.left now.left first.reads now.reads now.reads spent_all (one_idle end mid.read.ended now.left now.reads);
        };
        faults = faults_by end first now (failed_then end first before now past was.gave was.so failed);
      };
      later = read.came;
      split = refl;
      none = λ ended. absurd (false≢true (sym not_ended ∙ ended));
    }

-- if the source had ended, it isn't read again
not_again : (now_ended : Bool) (before now : SourceTold) → MetEnd true now_ended before now → now ≡ before
not_again true before now same = same
not_again false before now met = absurd met

read_or_not : (early : Bool) (most : ℕ) (end : BatchEnd) (plan : Plan) (first before now : SourceTold) (old mid : Fed) (past : List ℕ) (lines : List (List ℕ)) → HasReadBatch early most end before now old mid
    → MetEnd old.read.ended mid.read.ended before now → BatchFailedBy end before now
    → Spends (late old.read.ended) (idle_by end mid.read.ended) before.left now.left before.reads now.reads → mid.view.graph ≡ old.view.graph
    → IsRead plan first More before old past lines → (old.read.ended ≡ true) ⊎ (old.read.ended ≡ false) → HasReadOn plan first before now old.read.ended past
read_or_not early most end plan first before now old mid past lines read met failed spent same was (inl ended) =
    subst (λ (s : SourceTold). HasReadOn plan first before s old.read.ended past) (sym (not_again mid.read.ended before now (subst (λ (b : Bool). MetEnd b mid.read.ended before now) ended met)))
    (none_further plan first before old past lines was)
read_or_not early most end plan first before now old mid past lines read met failed spent same was (inr not_ended) =
    further early most end plan first before now old mid past lines read failed spent same not_ended was

pub reads_further : (early : Bool) (most : ℕ) (end : BatchEnd) (before now : SourceTold) (old mid : Fed) → HasReadBatch early most end before now old mid → MetEnd old.read.ended mid.read.ended before now → BatchFailedBy end before now
    → Spends (late old.read.ended) (idle_by end mid.read.ended) before.left now.left before.reads now.reads → mid.view.graph ≡ old.view.graph → (plan : Plan) (first : SourceTold) → ReadsOn old plan first before now
reads_further early most end before now old mid read met failed spent same plan first = λ past lines was.
    read_or_not early most end plan first before now old mid past lines read met failed spent same was (cases_Bool old.read.ended)

-- The first batch --

inputs_from : (inputs : Inputs) (ss : List (StreamPrefix Plain)) (sides : List (Option Plain)) (ended : Bool) → inputs.streams ≡ ss → inputs.sides ≡ sides → inputs.ended ≡ ended
    → inputs ≡ record { streams = ss; sides = sides; ended = ended }
inputs_from inputs ss sides ended a b c = λ i. record { streams = a i; sides = b i; ended = c i }

-- what the first batch hands on is all that its lines gave
pub first_read : (early : Bool) (plan : Plan) (first : SourceTold) (end : BatchEnd) (inputs : Inputs) (now : SourceTold) (fed : Fed) → HasBatch early plan first end inputs now fed [] [] → LinesGave fed plan first now end inputs
first_read early plan first end inputs now fed batch =
    let graph = inputs_of plan in
    let stands : HasAccepted batch.more (nothing_taken batch.view.graph) batch.view = subst (λ (g : GraphInputs). HasAccepted batch.more (nothing_taken g) batch.view) (sym batch.graph)
    (subst (λ (gone : List (List (Stamped Plain))). HasAccepted batch.more gone batch.view) (none_given graph) batch.stands) in
    let given : batch.view.given ≡ given_by graph batch.more = given-untaken batch.more batch.view stands ∙ ap (λ (g : GraphInputs). given_by g batch.more) batch.graph in
    record {
      past = batch.came;
      lines = batch.more;
      is_read = batch.is_read;
      inputs_are = inputs_from inputs _ _ _
          (batch.streams ∙ ap (λ (s : State). ended_streams (has_ended end) s.streams) given)
          (batch.sides ∙ ap (λ (s : State). s.sides) given)
          batch.ended;
      named = batch.named;
    }

pub first_inputs : (early : Bool) (plan : Plan) (first : SourceTold) (end : BatchEnd) (inputs : Inputs) (now : SourceTold) (fed : Fed) → (batch : HasBatch early plan first end inputs now fed [] []) → inputs ≡ inputs_at (inputs_of plan) batch.more (has_ended end)
unfolding first_read
first_inputs early plan first end inputs now fed batch = (first_read early plan first end inputs now fed batch).inputs_are
