-- Feeders that are throttled, as the limits tell it.
use Rattle.std.proofs.Common.{◌≡◌, ◌↔◌, ℕ, ◌<◌, Bool, true, false, not, length, Some, None, option_map, slice_get, ap, sym, refl, subst, ◌∙◌, arith}
use Rattle.std.proofs.lemmas.Option.{same_Some, slice_get_within}
use Rattle.mg_calc.specs.Rules.{Laws}
use Rattle.mg_calc.specs.declared.edge.Edge.{Edge}
use Rattle.mg_calc.specs.declared.plan.Plan.{Plan}
use Rattle.mg_calc.specs.declared.plan_node.PlanNode.{PlanNode}
use Rattle.mg_calc.specs.declared.plan_stream.PlanStream.{PlanStream}
use Rattle.mg_calc.specs.declared.plan_stream.Producer.{Producer}
use Rattle.mg_calc.specs.declared.plan_stream.Producer.TheVariants.{Input}
use Rattle.mg_calc.specs.Plan.{IsValid, Feeder, graph_input, source_node, feeders}
use Rattle.mg_calc.specs.Reaching.{producer_of}
use Rattle.mg_throttle.specs.Throttle.{QueueLimits, AreLimitsOf, IsThrottled}
use Rattle.mg_sched.specs.Views.{NetView}
use Rattle.mg_sched.specs.StandsFor.{StandsForSome}
use Rattle.mg_sched.specs.Acts.{IsHeld, IsHeldSource}
use Rattle.mg_sched.specs.Code.Tables.{IsFeederOf}
use Rattle.mg_sched.proofs.Finding.{valid, of_plan}
use Rattle.mg_sched.proofs.PlanStreams.{producer_there, WrittenBy}
use Rattle.mg_sched.proofs.PlanFeeders.{feeder_of_input, sources_have_feeders}

-- what the limits answer of a feeder
abbrev pub Told : QueueLimits → ℕ → Bool → Type 0
Told limits feeder answer = (plan : Plan) (f : Feeder) → AreLimitsOf plan limits → slice_get (feeders plan) feeder ≡ Some f → (answer ≡ false) ↔ IsThrottled plan limits f

-- the graph input that writes an edge's stream is there
pub input_there : (plan : Plan) (e : Edge) (input : ℕ) → IsValid plan → e.stream < length plan.streams → producer_of plan e.stream ≡ Some (Input input) → input < length plan.inputs
input_there plan e input valid within from =
    let it = producer_there plan valid e.stream within in
    let is : it.0.producer ≡ Input input = same_Some it.0.producer (Input input) (sym (ap (option_map (λ (s : PlanStream). s.producer)) it.1) ∙ from) in
    let w : WrittenBy plan e.stream (Input input) = subst (λ (p : Producer). WrittenBy plan e.stream p) is it.2 in
    let same = w.0 in let less = w.1 in
    omega (arith, same, less)

pub input_fits : {laws : Laws} (net : NetView) (e : Edge) (input : ℕ) → StandsForSome laws net → e.stream < length net.plan.streams → producer_of net.plan e.stream ≡ Some (Input input) → input < net.limits.feeders
input_fits {laws} net e input h within from =
    let there = input_there net.plan e input (valid net h) within from in
    let same = (of_plan net h).marked_feeders in
    let at = slice_get_within (feeders net.plan) input (graph_input input) (feeder_of_input net.plan input there) in
    omega (arith, same, at)

not_true : (b : Bool) → not b ≡ true → b ≡ false
not_true true h = absurd cc
not_true false h = refl

not_false : (b : Bool) → not b ≡ false → b ≡ true
not_false true h = refl
not_false false h = absurd cc

same_input : (a b : ℕ) → Some (Input a) ≡ Some (Input b) → a ≡ b
same_input a b h = cc

-- an edge from a graph input
pub held_input : {laws : Laws} (net : NetView) (e : Edge) (input : ℕ) (answer : Bool) → StandsForSome laws net → e.stream < length net.plan.streams → producer_of net.plan e.stream ≡ Some (Input input) → Told net.limits input answer → not answer ≡ true → IsHeld net e
held_input {laws} net e input answer h within from told is = record {
  input = input;
  from = from;
  throttled = (told net.plan (graph_input input) (of_plan net h) (feeder_of_input net.plan input (input_there net.plan e input (valid net h) within from))).0 (not_true answer is);
}

pub free_input : {laws : Laws} (net : NetView) (e : Edge) (input : ℕ) (answer : Bool) → StandsForSome laws net → e.stream < length net.plan.streams → producer_of net.plan e.stream ≡ Some (Input input) → Told net.limits input answer → not answer ≡ false → ¬ IsHeld net e
free_input {laws} net e input answer h within from told is held =
    let other : input ≡ held.input = same_input input held.input (sym from ∙ held.from) in
    let told_by = told net.plan (graph_input input) (of_plan net h) (feeder_of_input net.plan input (input_there net.plan e input (valid net h) within from)) in
    let no_feed : answer ≡ false = told_by.1 (subst (λ (n : ℕ). IsThrottled net.plan net.limits (graph_input n)) (sym other) held.throttled) in
    absurd (let yes_feed = not_false answer is in cc)

-- Sources.

pub source_fits : {laws : Laws} (net : NetView) (node feeder : ℕ) (planned : PlanNode) → StandsForSome laws net → IsFeederOf net.plan node planned (Some feeder) → feeder < net.limits.feeders
source_fits {laws} net node feeder planned h own =
    let same = (of_plan net h).marked_feeders in
    let at = slice_get_within (feeders net.plan) feeder (source_node node) own.1 in
    omega (arith, same, at)

pub held_source : {laws : Laws} (net : NetView) (node feeder : ℕ) (planned : PlanNode) (answer : Bool) → StandsForSome laws net → slice_get net.plan.nodes node ≡ Some planned → IsFeederOf net.plan node planned (Some feeder) → Told net.limits feeder answer
    → not answer ≡ true → IsHeldSource net node
held_source {laws} net node feeder planned answer h there own told is = record {
  feeds = (sources_have_feeders net.plan node).1 (planned, there, own.0);
  throttled = (told net.plan (source_node node) (of_plan net h) own.1).0 (not_true answer is);
}

pub free_source : {laws : Laws} (net : NetView) (node feeder : ℕ) (planned : PlanNode) (answer : Bool) → StandsForSome laws net → IsFeederOf net.plan node planned (Some feeder) → Told net.limits feeder answer → not answer ≡ false → ¬ IsHeldSource net node
free_source {laws} net node feeder planned answer h own told is held =
    let no_feed : answer ≡ false = (told net.plan (source_node node) (of_plan net h) own.1).1 held.throttled in
    absurd (let yes_feed = not_false answer is in cc)

-- a node with inputs is no source
pub no_source : (net : NetView) (node : ℕ) (planned : PlanNode) → slice_get net.plan.nodes node ≡ Some planned → IsFeederOf net.plan node planned None → ¬ IsHeldSource net node
no_source net node planned there own held =
    let at = (sources_have_feeders net.plan node).0 held.feeds in
    own (ap (λ (n : PlanNode). n.inputs) (same_Some planned at.0 (sym there ∙ at.1)) ∙ at.2)
