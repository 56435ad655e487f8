-- Free nodes that aren't due have nothing to do.
use Rattle.std.proofs.Common.{◌≡◌, ℕ, ◌+◌, ◌<◌, ◌≤◌, Bool, true, false, List, [], length, Option, Some, slice_get, slice_index_or, inl, inr, refl, sym, ap, ◌∙◌, subst, arith}
use Rattle.std.proofs.lemmas.Bool.{cases_lt}
use Rattle.std.proofs.lemmas.List.{get_or_past}
use Rattle.std.proofs.lemmas.Option.{none-some, slice_get_within}
use Rattle.mg_value.specs.Payload.{Plain}
use Rattle.mg_settled.specs.Prefix.{StreamPrefix, empty_prefix}
use Rattle.mg_stream.specs.Pool.{Backlog}
use Rattle.mg_calc.specs.Rules.{Laws}
use Rattle.mg_calc.specs.declared.plan.Plan.{Plan}
use Rattle.mg_calc.specs.declared.plan_stream.Producer.{Producer}
use Rattle.mg_calc.specs.Equations.{stream_of}
use Rattle.mg_node.specs.Job.{LoggedJob}
use Rattle.mg_sched.specs.Views.{NetView}
use Rattle.mg_sched.specs.StandsFor.{StandsFor}
use Rattle.mg_sched.specs.Places.{place_of}
use Rattle.mg_sched.specs.Writers.{writer_at}
use Rattle.mg_sched.specs.Looks.{IsOutputOf, HasFrom}
use Rattle.mg_sched.proofs.Finding.{found}
use Rattle.mg_sched.proofs.RestingLooks.{packet_at_rest, bound_at_rest}
use Rattle.mg_free.specs.declared.node.FreeNode.{FreeNode}
use Rattle.mg_free.specs.Logs.{arrived_at}
use Rattle.mg_free.specs.Rounds.{Taken}
use Rattle.mg_live.specs.declared.taker.Taker.{Taker}
use Rattle.mg_live.specs.declared.due.Due.{Due}
use Rattle.mg_live.specs.Takes.{HasTaken, HaveTaken, IsNoneOf}
use Rattle.mg_live.specs.Due.{IsUndue, IsIdle, AreIdleBut}
use Rattle.mg_live.proofs.Sights.{turn_alike}
use Rattle.mg_drive.specs.declared.moved.Moved.{Moved}
use Rattle.mg_drive.specs.declared.readers.Readers.{Readers}
use Rattle.mg_drive.specs.Nets.{AreThere, IsUnmoved, EnginesStay, KnowsSince}
use Rattle.mg_drive.specs.Code.Live.{AreRested, wanted_by}
use Rattle.mg_drive.specs.Code.Readers.{HasReader, AreReaders, WasIdle, KnowsIdle}
use Rattle.mg_drive.proofs.Looking.{as_many_streams, has_output, at_rest, there_at_rest}
use Rattle.mg_drive.proofs.LiveWants.{there_at_ports}

-- One stream --

-- the output of a stream is the same as long as the engine that writes it is
output_was : (since net : NetView) (stream : ℕ) (output : Backlog Plain) (is : IsOutputOf net stream output) → net.plan ≡ since.plan → slice_get net.engines (place_of net.plan is.producer) ≡ slice_get since.engines (place_of net.plan is.producer) → IsOutputOf since stream output
output_was since net stream output is plan same = record {
  producer = is.producer;
  engine = is.engine;
  written = ap (λ (p : Plan). writer_at p stream) (sym plan) ∙ is.written;
  engine_is = ap (λ (p : Plan). slice_get since.engines (place_of p is.producer)) (sym plan) ∙ sym same ∙ is.engine_is;
  output_is = is.output_is;
}

-- the engines that write a stream have stayed as they were
abbrev pub WriterStays : NetView → NetView → ℕ → Type 0
WriterStays since net stream = (writer : Producer) → writer_at net.plan stream ≡ Some writer → place_of net.plan writer < length net.engines → slice_get net.engines (place_of net.plan writer) ≡ slice_get since.engines (place_of net.plan writer)

next_same : {laws : Laws} (since net : NetView) (before streams : List (StreamPrefix Plain)) (stream n : ℕ) → AreRested laws since before → AreRested laws net streams → net.plan ≡ since.plan → WriterStays since net stream → HasFrom since stream n → HasFrom net stream n
    → slice_get (stream_of streams stream).packets n ≡ slice_get (stream_of before stream).packets n
next_same {laws} since net before streams stream n was are plan stays had has = elim (cases_lt stream (length net.plan.streams)) [
  | inl less ↦
      (let output = has_output are.job net stream are.stands less in
      let then = output_was since net stream output.0 output.1 plan (stays output.1.producer output.1.written (slice_get_within net.engines (place_of net.plan output.1.producer) output.1.engine output.1.engine_is)) in
      sym (packet_at_rest are.job are.has_rested.rested streams stream n output.0 are.has_rested.stands are.has_rested.running are.has_rested.rests are.solves (at_rest net streams are stream output.0 output.1) (there_at_rest net streams are stream n has))
      ∙ packet_at_rest was.job was.has_rested.rested before stream n output.0 was.has_rested.stands was.has_rested.running was.has_rested.rests was.solves (at_rest since before was stream output.0 then) (there_at_rest since before was stream n had))
  | inr more ↦
      (let many = as_many_streams net streams are in
      let early = as_many_streams since before was in
      let same = ap (λ (p : Plan). length p.streams) plan in
      ap (λ (s : StreamPrefix Plain). slice_get s.packets n) (get_or_past streams stream empty_prefix (omega (arith, many, more)) ∙ sym (get_or_past before stream empty_prefix (omega (arith, early, same, more)))))
]

bound_same : {laws : Laws} (since net : NetView) (before streams : List (StreamPrefix Plain)) (stream : ℕ) → AreRested laws since before → AreRested laws net streams → net.plan ≡ since.plan → WriterStays since net stream → (stream_of streams stream).bound ≡ (stream_of before stream).bound
bound_same {laws} since net before streams stream was are plan stays = elim (cases_lt stream (length net.plan.streams)) [
  | inl less ↦
      (let output = has_output are.job net stream are.stands less in
      let then = output_was since net stream output.0 output.1 plan (stays output.1.producer output.1.written (slice_get_within net.engines (place_of net.plan output.1.producer) output.1.engine output.1.engine_is)) in
      sym (bound_at_rest are.job are.has_rested.rested streams stream output.0 are.has_rested.stands are.has_rested.running are.has_rested.rests are.solves (at_rest net streams are stream output.0 output.1))
      ∙ bound_at_rest was.job was.has_rested.rested before stream output.0 was.has_rested.stands was.has_rested.running was.has_rested.rests was.solves (at_rest since before was stream output.0 then))
  | inr more ↦
      (let many = as_many_streams net streams are in
      let early = as_many_streams since before was in
      let same = ap (λ (p : Plan). length p.streams) plan in
      ap (λ (s : StreamPrefix Plain). s.bound) (get_or_past streams stream empty_prefix (omega (arith, many, more)) ∙ sym (get_or_past before stream empty_prefix (omega (arith, early, same, more)))))
]

-- One node --

-- a node that was idle, and whose streams' writers have stayed as they were, is idle
idle_on : {laws : Laws} (since net : NetView) (streams : List (StreamPrefix Plain)) (free : FreeNode) (taker : Taker) → WasIdle laws free taker since → AreRested laws net streams → net.plan ≡ since.plan
    → ((port stream : ℕ) → slice_get free.inputs port ≡ Some stream → WriterStays since net stream) → ((port stream : ℕ) → slice_get free.inputs port ≡ Some stream → HasFrom net stream (slice_index_or taker.counts.items port 0)) → IsIdle streams free taker
idle_on {laws} since net streams free taker was are plan stays has taken h =
    let count : (port stream : ℕ) → slice_get free.inputs port ≡ Some stream → slice_index_or taker.counts.items port 0 ≡ length (arrived_at port taken.log) = λ port stream at. h.counts port (slice_get_within free.inputs port stream at) in
    turn_alike streams was.streams free taken (record {
      packets = λ port stream at.
          next_same since net was.streams streams stream (length (arrived_at port taken.log)) was.rested are plan (stays port stream at)
          (subst (HasFrom since stream) (count port stream at) (was.there port stream at)) (subst (HasFrom net stream) (count port stream at) (has port stream at));
      bounds = λ port stream at. bound_same since net was.streams streams stream was.rested are plan (stays port stream at);
    })
    ∙ was.idle taken h

-- All nodes --

engines_in : {laws : Laws} (job : LoggedJob laws) (net : NetView) → StandsFor job net → length net.engines ≡ length net.plan.nodes + length net.plan.inputs
unfolding StandsFor
engines_in {laws} job net h = h.engines

-- what a net's free nodes have still to read is there, by their takers
ports_there : (net : NetView) (frees : List FreeNode) (takens : List Taken) (takers : List Taker) → HaveTaken frees takens takers → AreThere (wanted_by frees takers) net → (place : ℕ) (free : FreeNode) (taker : Taker) → slice_get frees place ≡ Some free → slice_get takers place ≡ Some taker
    → (port stream : ℕ) → slice_get free.inputs port ≡ Some stream → HasFrom net stream (slice_index_or taker.counts.items port 0)
ports_there net frees takens takers h there place free taker at at_taker port stream input =
    let taken = found takens place (let long = h.takens_long in let within = slice_get_within frees place free at in omega (arith, long, within)) in
    let has = h.each place free taken.0 taker at taken.1 at_taker in
    subst (HasFrom net stream) (sym (has.counts port (slice_get_within free.inputs port stream input))) (there_at_ports net frees takens takers h there place port stream free taken.0 at taken.1 input)

-- Once the readers of all engines that may have changed are due, all other free nodes are idle.
pub all_idle : {laws : Laws} (readers : Readers) (frees : List FreeNode) (takens : List Taken) (takers : List Taker) (due woken : Due) (moved : Moved) (net : NetView) (streams : List (StreamPrefix Plain)) → HaveTaken frees takens takers → AreThere (wanted_by frees takers) net
    → KnowsSince (KnowsIdle laws readers frees due takers) moved net → AreRested laws net streams
    → ((place reader : ℕ) → HasReader readers.by_place.items place reader → place < length readers.by_place.items → IsUndue woken reader → IsUnmoved moved place) → ((other : ℕ) → IsUndue woken other → IsUndue due other) → AreIdleBut (IsUndue woken) streams frees takers
all_idle {laws} readers frees takens takers due woken moved net streams h there k are wakes others place free taker undue at at_taker =
    let was = k.knew.idle place free taker (others place undue) at at_taker in
    let readers_are = subst (λ (p : Plan). AreReaders p frees readers) (sym k.stay.plan) k.knew.are in
    idle_on k.since net streams free taker was are k.stay.plan
    (λ port stream input writer written less.
    k.stay.engines (place_of net.plan writer)
    (wakes (place_of net.plan writer) place (readers_are.each place free at port stream writer input written) (let long = readers_are.long in let engines = engines_in are.job net are.stands in omega (arith, less, long, engines)) undue))
    (ports_there net frees takens takers h there place free taker at at_taker)

-- What is known of a net at rest after a round there.
pub knows_still : {laws : Laws} (readers : Readers) (frees frees_now : List FreeNode) (takens : List Taken) (takers takers_now : List Taker) (due due_now : Due) (moved : Moved) (net : NetView) (streams : List (StreamPrefix Plain)) → frees_now ≡ frees → HaveTaken frees_now takens takers_now → AreThere (wanted_by frees_now takers_now) net
    → KnowsSince (KnowsIdle laws readers frees due takers) moved net → AreRested laws net streams → AreIdleBut (IsUndue due_now) streams frees takers_now → KnowsIdle laws readers frees_now due_now takers_now net
knows_still {laws} readers frees frees_now takens takers takers_now due due_now moved net streams same h there k are idle = record {
  are = subst (λ (p : Plan). AreReaders p frees_now readers) (sym k.stay.plan) (subst (λ (fs : List FreeNode). AreReaders k.since.plan fs readers) (sym same) k.knew.are);
  idle = λ place free taker undue at at_taker. record {
    streams = streams;
    rested = are;
    there = ports_there net frees_now takens takers_now h there place free taker at at_taker;
    idle = idle place free taker undue (ap (λ (fs : List FreeNode). slice_get fs place) (sym same) ∙ at) at_taker;
  };
}

-- what free nodes hand on leaves those idle that aren't due
pub idle_handed : (streams : List (StreamPrefix Plain)) (frees : List FreeNode) (takers takers_now : List Taker) (due : Due) (places shown : List ℕ) → shown ≡ places → ((place : ℕ) → IsUndue due place → IsNoneOf places place)
    → ((place : ℕ) → IsNoneOf shown place → slice_get takers_now place ≡ slice_get takers place) → AreIdleBut (IsUndue due) streams frees takers → AreIdleBut (IsUndue due) streams frees takers_now
idle_handed streams frees takers takers_now due places shown is undue others idle place free taker is_undue at at_taker =
    idle place free taker is_undue at (sym (others place (subst (λ (ns : List ℕ). IsNoneOf ns place) (sym is) (undue place is_undue))) ∙ at_taker)

-- the engines of the graph inputs that get pieces are noted
pub inputs_are_noted : {laws : Laws} (readers : Readers) (frees : List FreeNode) (due : Due) (takers : List Taker) (moved now : Moved) (net : NetView) (inputs shown : List ℕ) → shown ≡ inputs → KnowsSince (KnowsIdle laws readers frees due takers) moved net
    → ((i input : ℕ) → slice_get shown i ≡ Some input → ¬ IsUnmoved now (readers.first + input)) → (i input : ℕ) → slice_get inputs i ≡ Some input → ¬ IsUnmoved now (length net.plan.nodes + input)
inputs_are_noted {laws} readers frees due takers moved now net inputs shown is k noted i input at =
    let first : readers.first ≡ length net.plan.nodes = k.knew.are.first ∙ ap (λ (p : Plan). length p.nodes) (sym k.stay.plan) in
    subst (λ (n : ℕ). ¬ IsUnmoved now (n + input)) first (noted i input (ap (λ (ns : List ℕ). slice_get ns i) is ∙ at))
