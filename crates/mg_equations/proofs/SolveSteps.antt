-- A round that goes on. The streams have become those of the next round, by nodes that had gone on as far as the streams
-- before.
use Rattle.std.proofs.Common.{◌≡◌, ℕ, zero, suc, ◌+◌, ◌++◌, ◌<◌, ◌≤◌, Bool, true, false, List, [], ◌∷◌, map, replicate, All, length, Some, slice_get, get_or, nat_lt, Result, Ok, Err, IfOk, option_map, unwrap_or, ◌⊎◌, inl, inr, refl, sym, ap, subst, ◌∙◌, arith}
use Rattle.std.specs.Prelude.{Contains}
use Rattle.std.specs.List.{AllByRecursion, flat_map, range_with_len, filter_map, enumerate_from}
use Rattle.std.proofs.lemmas.Bool.{cases_Bool, ltb-true, ltb-false}
use Rattle.std.proofs.lemmas.List.{get_or_append_left, map-id}
use Rattle.std.proofs.lemmas.List.FromFn.{get_or-range_with_len, length-range_with_len, map-range_with_len_more}
use Rattle.std.proofs.lemmas.Option.{same_Some, slice_get-map, slice_get-get_or, get_or_from_slice_get, unwrap_or-slice_get}
use Rattle.mg_value.specs.Payload.{Plain}
use Rattle.mg_settled.specs.Prefix.{StreamPrefix, IsPrefix, empty_prefix}
use Rattle.mg_settled.specs.Settled.{inputs_of as inputs_at}
use Rattle.mg_calc.specs.declared.plan_node.PlanNode.{PlanNode}
use Rattle.mg_calc.specs.declared.plan_stream.PlanStream.{PlanStream}
use Rattle.mg_calc.specs.declared.plan_stream.Producer.{Producer}
use Rattle.mg_calc.specs.declared.plan_stream.Producer.TheVariants.{Input, Node}
use Rattle.mg_calc.specs.declared.law.Law.TheVariants.{Loopback}
use Rattle.mg_calc.specs.Equations.{Job, IsJob, stream_of, outcome_of, next_round, IsSolution}
use Rattle.mg_calc.specs.Meaning.{counts, faults}
use Rattle.mg_calc.specs.Rules.{Laws}
use Rattle.mg_calc.specs.Outcome.{Outcome}
use Rattle.mg_calc.specs.Plan.{producers}
use Rattle.mg_calc.proofs.Earlier.{at_place}
use Rattle.mg_calc.proofs.Jobs.{job_known}
use Rattle.mg_calc.proofs.Rounds.{outcome_has_outputs}
use Rattle.mg_calc.proofs.Settling.{outcome_of_inputs_by}
use Rattle.mg_equations.specs.declared.progress.Progress.{Progress}
use Rattle.mg_equations.specs.declared.solving.Streams.{Streams}
use Rattle.mg_equations.specs.declared.round_nodes.RoundNodes.{RoundNodes}
use Rattle.mg_equations.specs.Code.Growing.{given_streams, IsGivenBy, MayGrow, AreChanged}
use Rattle.mg_equations.specs.Code.Rounds.{numbered_fault}
use Rattle.mg_equations.specs.Code.Progress.{HaveCome, CanGoOn, outcomes}
use Rattle.mg_equations.specs.Code.RoundNodes.{IsBegun, HaveGoneOn}
use Rattle.mg_equations.proofs.Changing.{AreReached, SomeChanges, room, next_extends, next_prefixes, next_many, reached_keep, reached_long, reached_prefixes, reached_further, reached_solution, less_room, told_solution}
use Rattle.mg_equations.proofs.ComeSteps.{AreUnstated, AreGrownTo, all_can, all_come, stays_at}
use Rattle.mg_equations.proofs.DueSteps.{same_streams}
use Rattle.mg_equations.proofs.Places.{GivesEach, StandsAt, IsPart, IsWriter, stands_at, writer_at}
use Rattle.mg_equations.proofs.RoundSteps.{next_streams_are, counts_are, faults_are}

-- A round has been solved: the nodes have gone on as far as its streams let them. The next round changes no streams but those
-- that are due.
pub record IsUnderWay (job : Job) (streams : List (StreamPrefix Plain)) (going : RoundNodes) (due : List ℕ) : Type 0 where
  pub reached : AreReached job streams
  pub come : HaveCome job streams going.nodes.items
  pub begun : IsBegun going
  pub within : All (λ s. s < length job.plan.streams) due
  pub others : (s : ℕ) → s < length streams → Contains due s ⊎ (stream_of streams s ≡ stream_of (next_round job streams) s)

-- the numbers of streams, one more
pub numbers_more : (n : ℕ) → range_with_len 0 n ++ n ∷ [] ≡ range_with_len 0 (n + 1)
numbers_more n = ap (λ (l : List ℕ). l ++ n ∷ []) (sym (map-id (range_with_len 0 n))) ∙ sym (map-range_with_len_more (λ (m : ℕ). m) 0 n n (omega arith)) ∙ map-id (range_with_len 0 (n + 1))

-- at first all streams are due
pub first_way : (job : Job) (streams : List (StreamPrefix Plain)) (going : RoundNodes) (nodes : List Progress) (due : List ℕ) → IsJob job → streams ≡ replicate (length job.plan.streams) empty_prefix → HaveCome job streams nodes → going.nodes.items ≡ nodes → IsBegun going
    → due ≡ range_with_len 0 (length job.plan.streams) → IsUnderWay job streams going due
first_way job streams going nodes due is streams_are come nodes_are begun due_is =
    let n = length job.plan.streams in
    let reached : AreReached job streams = record { number = 0; is = streams_are; first = λ earlier below. absurd (omega (arith, below)) } in
    record {
      reached = reached;
      come = subst (HaveCome job streams) (sym nodes_are) come;
      begun = begun;
      within = subst (λ (l : List ℕ). All (λ s. s < n) l) (sym due_is) (λ k d below.
          (let inside : k < n = omega (arith, below, length-range_with_len 0 n) in
          let at = get_or-range_with_len 0 n k d inside in
          omega (arith, inside, at)));
      others = λ s below. (
          let inside : s < n = (let long = reached_long job streams is reached in omega (arith, below, long)) in
          let at : get_or (range_with_len 0 n) s s ≡ 0 + s = get_or-range_with_len 0 n s s inside in
          inl (subst (λ (l : List ℕ). Contains l s) (sym due_is) (s, omega (arith, inside, length-range_with_len 0 n), omega (arith, at))));
    }

-- What the nodes of a job give.
outcomes_give : (job : Job) (streams : List (StreamPrefix Plain)) → IsJob job → AllByRecursion IsPrefix streams → GivesEach (λ (n : PlanNode). (outcome_of job streams n).outputs) job.plan.nodes job.plan.nodes
outcomes_give job streams is keep = record {
  many = refl;
  each = λ k node other at there.
      (let known = job_known job is in
      let has = outcome_has_outputs job node streams (at_place (λ (n : PlanNode). n.law ≡ Loopback → length n.outputs ≡ 1) job.plan.nodes k node known.loops at) keep in
      ap (λ (n : PlanNode). length (outcome_of job streams n).outputs) (same_Some other node (sym there ∙ at)) ∙ has);
}

nodes_give : (job : Job) (streams : List (StreamPrefix Plain)) (nodes : List Progress) → IsJob job → AllByRecursion IsPrefix streams → HaveCome job streams nodes → GivesEach (λ (p : Progress). p.outcome.outputs.items) job.plan.nodes nodes
nodes_give job streams nodes is keep come = record {
  many = come.many;
  each = λ k node progress at there. ap (λ (o : Outcome). length o.outputs) (come.each k node progress at there).outcome ∙ (outcomes_give job streams is keep).each k node node at at;
}

given_by : (job : Job) (nodes : List Progress) (s : ℕ) (p : Producer) → StandsAt (λ (q : Progress). q.outcome.outputs.items) job.plan.nodes job.inputs.streams nodes s p → GivesEach (λ (q : Progress). q.outcome.outputs.items) job.plan.nodes nodes
    → IsGivenBy job.inputs.streams nodes p (stream_of (given_streams job.inputs.streams nodes) s)
given_by job nodes s (Input input) stands g =
    let inputs = job.inputs.streams in
    let rest = flat_map (λ (q : Progress). q.outcome.outputs.items) nodes in
    ap (slice_get inputs) stands.0 ∙ slice_get-get_or inputs s empty_prefix stands.1 ∙ ap Some (sym (get_or_append_left inputs rest empty_prefix s stands.1))
given_by job nodes s (Node k port) part g =
    let outputs = part.element.outcome.outputs.items in
    let below : port < length outputs = (let long = g.each k part.node part.element part.there part.beside in let within = part.within in omega (arith, long, within)) in
    let there : slice_get outputs port ≡ Some (get_or outputs port empty_prefix) = slice_get-get_or outputs port empty_prefix below in
    let is : stream_of (given_streams job.inputs.streams nodes) s ≡ get_or outputs port empty_prefix = get_or_from_slice_get (given_streams job.inputs.streams nodes) s (get_or outputs port empty_prefix) empty_prefix (part.same ∙ there) in
    (part.element, part.beside, there ∙ ap Some (sym is))

producer_at : (job : Job) (s : ℕ) (stream : PlanStream) → IsJob job → slice_get job.plan.streams s ≡ Some stream → slice_get (producers job.plan) s ≡ Some stream.producer
producer_at job s stream is at = ap (λ l. slice_get l s) (sym is.plan.producers) ∙ slice_get-map (λ (x : PlanStream). x.producer) job.plan.streams s ∙ ap (option_map (λ (x : PlanStream). x.producer)) at

-- the streams that are due may grow
pub may_grow : (job : Job) (streams : List (StreamPrefix Plain)) (going : RoundNodes) (due : List ℕ) (nodes : List Progress) (numbers : List ℕ) → IsJob job → IsUnderWay job streams going due → nodes ≡ going.nodes.items → numbers ≡ due
    → MayGrow job.plan job.inputs.streams nodes numbers streams
may_grow job streams going due nodes numbers is way nodes_are numbers_are =
    let come : HaveCome job streams nodes = subst (HaveCome job streams) (sym nodes_are) way.come in
    let next : given_streams job.inputs.streams nodes ≡ next_round job streams = next_streams_are job streams nodes come in
    let long = reached_long job streams is way.reached in
    subst (λ (l : List ℕ). MayGrow job.plan job.inputs.streams nodes l streams) (sym numbers_are) (record {
      many = long;
      given = λ s stream at.
          (let g = nodes_give job streams nodes is (reached_keep job streams is way.reached) come in
          given_by job nodes s stream.producer (stands_at (λ (q : Progress). q.outcome.outputs.items) job.plan job.inputs.streams nodes s stream.producer is.inputs.streams g (producer_at job s stream is at)) g);
      extended = next_extends job streams (given_streams job.inputs.streams nodes) is way.reached next;
      within = subst (λ (n : ℕ). All (λ s. s < n) due) (sym long) way.within;
      others = λ s below. elim (way.others s below) [ inl c ↦ inl c | inr same ↦ inr (same ∙ ap (λ (ss : List (StreamPrefix Plain)). stream_of ss s) (sym next)) ];
    })

-- A round goes on: the streams have grown, and a list has those that have changed.
pub record IsGoing (job : Job) (before streams : List (StreamPrefix Plain)) (changed : List ℕ) (going : RoundNodes) : Type 0 where
  pub is : IsJob job
  pub unstated : AreUnstated job.plan.nodes
  pub reached : AreReached job before
  pub come : HaveCome job before going.nodes.items
  pub begun : IsBegun going
  pub next : streams ≡ next_round job before
  pub changed_are : AreChanged changed before streams

pub going_is : (job : Job) (before streams : List (StreamPrefix Plain)) (changed due : List ℕ) (going : RoundNodes) (nodes : List Progress) → IsJob job → AreUnstated job.plan.nodes → IsUnderWay job before going due → nodes ≡ going.nodes.items
    → streams ≡ given_streams job.inputs.streams nodes → AreChanged changed before (given_streams job.inputs.streams nodes) → IsGoing job before streams changed going
going_is job before streams changed due going nodes is unstated way nodes_are grown told = record {
  is = is;
  unstated = unstated;
  reached = way.reached;
  come = way.come;
  begun = way.begun;
  next = grown ∙ next_streams_are job before nodes (subst (HaveCome job before) (sym nodes_are) way.come);
  changed_are = subst (AreChanged changed before) (sym grown) told;
}

grown_to : (job : Job) (before streams : List (StreamPrefix Plain)) (changed : List ℕ) (going : RoundNodes) → IsGoing job before streams changed going → AreGrownTo job before streams
grown_to job before streams changed going t = record {
  is = t.is;
  unstated = t.unstated;
  was_many = reached_long job before t.is t.reached;
  many = next_many job before streams t.is t.reached t.next;
  prefixes = reached_prefixes job before t.is t.reached;
  grown = next_prefixes job before streams t.is t.reached t.next;
  extended = next_extends job before streams t.is t.reached t.next;
}

-- whether something has changed
some_changes : (before streams : List (StreamPrefix Plain)) (changed : List ℕ) → AreChanged changed before streams → nat_lt 0 (length changed) ≡ true → SomeChanges before streams
some_changes before streams [] change some = absurd (let many : 0 < 0 = ltb-true 0 0 some in omega (arith, many))
some_changes before streams (s ∷ changed) change some = let first = change.only 0 s (omega arith) in (s, first.0, first.1)

pub going_changes : (job : Job) (before streams : List (StreamPrefix Plain)) (changed read : List ℕ) (going : RoundNodes) (change : Bool) → IsGoing job before streams changed going → read ≡ changed → change ≡ nat_lt 0 (length read) → change ≡ true → SomeChanges before streams
going_changes job before streams changed read going change t same tells holds = some_changes before streams changed t.changed_are (ap (λ (l : List ℕ). nat_lt 0 (length l)) (sym same) ∙ sym tells ∙ holds)

none_changed : (before streams : List (StreamPrefix Plain)) (changed : List ℕ) → AreChanged changed before streams → length before ≡ length streams → nat_lt 0 (length changed) ≡ false → before ≡ streams
none_changed before streams (s ∷ changed) change long none = absurd (let few : suc (length changed) ≤ 0 = ltb-false 0 (suc (length changed)) none in omega (arith, few))
none_changed before streams [] change long none = same_streams before streams long (λ s below. elim (change.all s below) [
  | inl same ↦ same
  | inr c ↦ absurd (let bad = c.1 in omega (arith, bad))
])

pub going_stays : (job : Job) (before streams : List (StreamPrefix Plain)) (changed read : List ℕ) (going : RoundNodes) (change : Bool) → IsGoing job before streams changed going → read ≡ changed → change ≡ nat_lt 0 (length read) → change ≡ false → before ≡ streams
going_stays job before streams changed read going change t same tells not =
    none_changed before streams changed t.changed_are (reached_long job before t.is t.reached ∙ sym (next_many job before streams t.is t.reached t.next))
    (ap (λ (l : List ℕ). nat_lt 0 (length l)) (sym same) ∙ sym tells ∙ not)

-- what holds of a result whatever the stated laws are
pub ok_for_all : {E : Type 0} (P : Laws → Streams → Type 0) (result : Result Streams E) → ((laws : Laws) → IfOk result (P laws)) → IfOk result (λ s. (laws : Laws) → P laws s)
ok_for_all P (Ok s) all = all
ok_for_all P (Err e) all = tt

-- if nothing has changed, the streams are the solution
pub going_solution : {E : Type 0} (job : Job) (before streams : List (StreamPrefix Plain)) (changed : List ℕ) (going : RoundNodes) (result : Result Streams E) → IsGoing job before streams changed going → before ≡ streams
    → IfOk result (λ s. s.prefixes ≡ streams) → IfOk result (λ s. IsSolution job s.prefixes)
going_solution job before streams changed going result t same told = told_solution job streams result told (subst (IsSolution job) same (reached_solution job before streams t.is t.reached t.next same))

pub going_counts : {E : Type 0} (job : Job) (before streams : List (StreamPrefix Plain)) (changed : List ℕ) (going : RoundNodes) (read : List Progress) (result : Result Streams E) → IsGoing job before streams changed going → before ≡ streams → read ≡ going.nodes.items
    → IfOk result (λ s. s.prefixes ≡ streams) → IfOk result (λ s. s.sets ≡ map (λ outcome. outcome.taken) (outcomes read)) → IfOk result (λ s. s.sets ≡ counts job s.prefixes)
going_counts job before streams changed going read (Ok s) t same here prefixes told =
    told ∙ ap (λ (ps : List Progress). map (λ outcome. outcome.taken) (outcomes ps)) here ∙ counts_are job before going.nodes.items t.come ∙ ap (counts job) (same ∙ sym prefixes)
going_counts job before streams changed going read (Err e) t same here prefixes told = tt

pub going_faults : {E : Type 0} (job : Job) (before streams : List (StreamPrefix Plain)) (changed : List ℕ) (going : RoundNodes) (read : List Progress) (result : Result Streams E) → IsGoing job before streams changed going → before ≡ streams → read ≡ going.nodes.items
    → IfOk result (λ s. s.prefixes ≡ streams) → IfOk result (λ s. s.faults ≡ filter_map numbered_fault (enumerate_from 0 (map (λ outcome. outcome.fault) (outcomes read)))) → IfOk result (λ s. s.faults ≡ faults job s.prefixes)
going_faults job before streams changed going read (Ok s) t same here prefixes told =
    told ∙ ap (λ (ps : List Progress). filter_map numbered_fault (enumerate_from 0 (map (λ outcome. outcome.fault) (outcomes ps)))) here ∙ faults_are job before going.nodes.items t.come ∙ ap (faults job) (same ∙ sym prefixes)
going_faults job before streams changed going read (Err e) t same here prefixes told = tt

-- and if something has changed, the nodes go on
pub going_prefixes : (job : Job) (before streams now : List (StreamPrefix Plain)) (changed : List ℕ) (going : RoundNodes) → IsGoing job before streams changed going → now ≡ streams → All IsPrefix now
going_prefixes job before streams now changed going t same = subst (λ (ss : List (StreamPrefix Plain)). All IsPrefix ss) (sym same) (next_prefixes job before streams t.is t.reached t.next)

pub going_many : (job : Job) (before streams now : List (StreamPrefix Plain)) (changed : List ℕ) (going : RoundNodes) → IsGoing job before streams changed going → now ≡ streams → length now ≡ length job.plan.streams
going_many job before streams now changed going t same = ap length same ∙ next_many job before streams t.is t.reached t.next

pub going_known : (job : Job) (before streams : List (StreamPrefix Plain)) (changed read : List ℕ) (going : RoundNodes) → IsGoing job before streams changed going → read ≡ changed → All (λ s. s < length job.plan.streams) read
going_known job before streams changed read going t same =
    let long = reached_long job before t.is t.reached in
    subst (λ (l : List ℕ). All (λ s. s < length job.plan.streams) l) (sym same) (λ k d below. (let only = t.changed_are.only k d below in let first = only.0 in omega (arith, first, long)))

pub going_can : (job : Job) (before streams now : List (StreamPrefix Plain)) (changed : List ℕ) (going : RoundNodes) → IsGoing job before streams changed going → now ≡ streams → (k : ℕ) (node : PlanNode) (progress : Progress) → slice_get job.plan.nodes k ≡ Some node → slice_get going.nodes.items k ≡ Some progress
    → CanGoOn node (inputs_at now node.inputs) progress
going_can job before streams now changed going t same k node progress at there =
    subst (λ (ss : List (StreamPrefix Plain)). CanGoOn node (inputs_at ss node.inputs) progress) (sym same) (all_can job before streams going.nodes.items (grown_to job before streams changed going t) t.come k node progress at there)

-- the streams that aren't due are those of the next round
part_same : (job : Job) (before streams : List (StreamPrefix Plain)) (s k port : ℕ) (node : PlanNode) → slice_get job.plan.nodes k ≡ Some node → outcome_of job before node ≡ outcome_of job streams node
    → IsPart (λ (n : PlanNode). (outcome_of job before n).outputs) job.plan.nodes job.plan.nodes (next_round job before) s k port → IsPart (λ (n : PlanNode). (outcome_of job streams n).outputs) job.plan.nodes job.plan.nodes (next_round job streams) s k port
    → stream_of (next_round job before) s ≡ stream_of (next_round job streams) s
part_same job before streams s k port node at same was is =
    let was_at : slice_get (next_round job before) s ≡ slice_get (outcome_of job before node).outputs port = was.same ∙ ap (λ (n : PlanNode). slice_get (outcome_of job before n).outputs port) (same_Some was.element node (sym was.beside ∙ at)) in
    let is_at : slice_get (next_round job streams) s ≡ slice_get (outcome_of job streams node).outputs port = is.same ∙ ap (λ (n : PlanNode). slice_get (outcome_of job streams n).outputs port) (same_Some is.element node (sym is.beside ∙ at)) in
    sym (unwrap_or-slice_get (next_round job before) s empty_prefix) ∙ ap (λ o. unwrap_or o empty_prefix) (was_at ∙ ap (λ (o : Outcome). slice_get o.outputs port) same ∙ sym is_at) ∙ unwrap_or-slice_get (next_round job streams) s empty_prefix

due_or_same : (job : Job) (before streams : List (StreamPrefix Plain)) (changed due : List ℕ) (nodes now : List Progress) (s : ℕ) (p : Producer) → IsJob job → AreReached job before → AreReached job streams → AreChanged changed before streams
    → HaveGoneOn job.plan streams changed nodes now due → slice_get (producers job.plan) s ≡ Some p → Contains due s ⊎ (stream_of (next_round job before) s ≡ stream_of (next_round job streams) s)
due_or_same job before streams changed due nodes now s (Input input) is was reached change gone_on at =
    let stands = stands_at (λ (n : PlanNode). (outcome_of job before n).outputs) job.plan job.inputs.streams job.plan.nodes s (Input input) is.inputs.streams (outcomes_give job before is (reached_keep job before is was)) at in
    inr (get_or_append_left job.inputs.streams (flat_map (λ (n : PlanNode). (outcome_of job before n).outputs) job.plan.nodes) empty_prefix s stands.1
    ∙ sym (get_or_append_left job.inputs.streams (flat_map (λ (n : PlanNode). (outcome_of job streams n).outputs) job.plan.nodes) empty_prefix s stands.1))
due_or_same job before streams changed due nodes now s (Node k port) is was reached change gone_on at =
    let writer : IsWriter job.plan s k port = writer_at job.plan s k port is.plan at in
    elim (cases_Bool (gone_on.gone k)) [
      | inl holds ↦ inl (gone_on.written k writer.node s writer.there holds writer.writes)
      | inr not ↦
          (let same = stays_at job before streams changed due nodes now k writer.node is (reached_long job before is was) change gone_on writer.there not in
          inr (part_same job before streams s k port writer.node writer.there (outcome_of_inputs_by writer.node.law job writer.node before streams same)
          (stands_at (λ (n : PlanNode). (outcome_of job before n).outputs) job.plan job.inputs.streams job.plan.nodes s (Node k port) is.inputs.streams (outcomes_give job before is (reached_keep job before is was)) at)
          (stands_at (λ (n : PlanNode). (outcome_of job streams n).outputs) job.plan job.inputs.streams job.plan.nodes s (Node k port) is.inputs.streams (outcomes_give job streams is (reached_keep job streams is reached)) at)))
    ]

some_there : {X : Type 0} (xs : List X) (i : ℕ) → i < length xs → (x : X) × (slice_get xs i ≡ Some x)
some_there [] i below = absurd (omega (arith, below))
some_there (x ∷ xs) zero below = (x, refl)
some_there (x ∷ xs) (suc i) below = some_there xs i (omega (arith, below))

pub going_further : (job : Job) (before streams : List (StreamPrefix Plain)) (changed : List ℕ) (going : RoundNodes) → IsGoing job before streams changed going → SomeChanges before streams → AreReached job streams
going_further job before streams changed going t some = reached_further job before streams t.is t.reached t.next some

pub going_less : (job : Job) (before streams : List (StreamPrefix Plain)) (changed : List ℕ) (going : RoundNodes) → IsGoing job before streams changed going → SomeChanges before streams → room streams < room before
going_less job before streams changed going t some = less_room job before streams t.is t.reached t.next some

pub going_way : (job : Job) (before streams now : List (StreamPrefix Plain)) (changed read due : List ℕ) (going then : RoundNodes) → IsGoing job before streams changed going → SomeChanges before streams → now ≡ streams → read ≡ changed → IsBegun then
    → HaveGoneOn job.plan now read going.nodes.items then.nodes.items due → IsUnderWay job streams then due
going_way job before streams now changed read due going then t some now_is read_is begun all =
    let gone_on : HaveGoneOn job.plan streams changed going.nodes.items then.nodes.items due =
    subst (λ (l : List ℕ). HaveGoneOn job.plan streams l going.nodes.items then.nodes.items due) read_is (subst (λ (ss : List (StreamPrefix Plain)). HaveGoneOn job.plan ss read going.nodes.items then.nodes.items due) now_is all) in
    let reached : AreReached job streams = going_further job before streams changed going t some in
    let long = reached_long job streams t.is reached in
    record {
      reached = reached;
      come = all_come job before streams changed due going.nodes.items then.nodes.items (grown_to job before streams changed going t) t.come t.changed_are gone_on;
      begun = begun;
      within = gone_on.within;
      others = λ s below.
          (let stream = some_there job.plan.streams s (omega (arith, below, long)) in
          elim (due_or_same job before streams changed due going.nodes.items then.nodes.items s stream.0.producer t.is t.reached reached t.changed_are gone_on (producer_at job s stream.0 t.is stream.1)) [
            | inl c ↦ inl c
            | inr same ↦ inr (ap (λ (ss : List (StreamPrefix Plain)). stream_of ss s) t.next ∙ same)
          ]);
    }
