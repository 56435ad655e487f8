-- The runs of a job begin at one place: two nets that were made for it and begun are alike.
use Rattle.std.proofs.Common.{◌≡◌, ℕ, zero, suc, ◌+◌, ◌-◌, Bool, true, false, List, [], ◌∷◌, ◌++◌, length, map, get_or, Option, Some, None, option_map, unwrap_or, slice_get, if◌then◌else◌, inl, inr, ap, sym, refl, subst, ◌∙◌, arith}
use Rattle.std.specs.Prelude.{All, Any}
use Rattle.std.proofs.lemmas.Bool.{cases_lt}
use Rattle.std.proofs.lemmas.List.{length-map}
use Rattle.std.proofs.lemmas.Option.{same_Some, slice_get_within}
use Rattle.mg_value.specs.Payload.{Plain}
use Rattle.mg_settled.specs.Prefix.{StreamPrefix}
use Rattle.mg_calc.specs.Rules.{Laws}
use Rattle.mg_calc.specs.declared.inputs.Inputs.{Inputs}
use Rattle.mg_calc.specs.declared.plan.Plan.{Plan}
use Rattle.mg_calc.specs.declared.plan_node.PlanNode.{PlanNode}
use Rattle.mg_calc.specs.Plan.{node_sides}
use Rattle.mg_calc.specs.Told.{BoxTold}
use Rattle.mg_route.specs.HolderView.{HolderView, held_rules}
use Rattle.mg_node.specs.declared.pending.Pending.{Pending}
use Rattle.mg_node.specs.declared.pending.Pending.TheVariants.{Sets, Loop}
use Rattle.mg_node.specs.Views.{IntakeView, EngineView}
use Rattle.mg_node.specs.Begun.{own_contexts, opened_node, HasBegun, IsNew}
use Rattle.mg_node.specs.Claims.{has_ended}
use Rattle.mg_node.specs.Fresh.{context_of, fresh_engine}
use Rattle.mg_node.specs.Intakes.{HoldsNone}
use Rattle.mg_node.specs.Outputs.{kept_whole, input_engine}
use Rattle.mg_node.proofs.Lemmas.{is_new}
use Rattle.mg_policy.specs.Inbox.{Gathered}
use Rattle.mg_throttle.specs.declared.queue.Queue.{Queue}
use Rattle.mg_throttle.specs.Throttle.{QueueLimits, stopped}
use Rattle.mg_sched.specs.Views.{WorkQueueView, NetView}
use Rattle.mg_sched.specs.Acts.{stopped_by}
use Rattle.mg_sched.specs.Begins.{stopped_at, stopped_from}
use Rattle.mg_sched.specs.Made.{job_of, first_calculator}
use Rattle.mg_sched.specs.Runs.{IsBegun}
use Rattle.mg_sched.specs.SameNets.{bare_waits, bare_intake, AreAlike}
use Rattle.mg_sched.specs.StandsFor.{HasSpare, IsNetOf, StandsFor}
use Rattle.mg_sched.proofs.NewBoxes.{handed, first_is}
use Rattle.mg_sched.proofs.Finding.{found}
use Rattle.mg_sched.proofs.SameParts.{lists_same}
use Rattle.mg_sched.proofs.OneClaim.{intake_by}

-- What is known of a net that was begun, and of the net that was made for it.

net_of : {laws : Laws} (plan : Plan) (inputs : Inputs) (boxes : List BoxTold) (net : NetView) → StandsFor (job_of laws plan inputs boxes) net → IsNetOf (job_of laws plan inputs boxes) net
unfolding StandsFor
net_of {laws} plan inputs boxes net stands = stands

-- Engines of nodes.

-- the engine of a node that was begun with this calculator
abbrev begun_engine : Laws → PlanNode → ℕ → HolderView → List (Option Plain) → HolderView → EngineView
begun_engine laws node number told sides now = record (fresh_engine node number told) {
  outputs = map kept_whole (opened_node (held_rules laws told) node sides).outputs;
  idle = own_contexts node ++ context_of node now ∷ [];
  begun = true;
  fault = option_map (λ f. record { node = number; phase = f.phase; cause = f.cause }) (opened_node (held_rules laws told) node sides).fault;
}

begun_one : {laws : Laws} (node : PlanNode) (number : ℕ) (told : HolderView) (sides : List (Option Plain)) (engine other : EngineView) → HasBegun laws node number told sides engine → HasBegun laws node number told sides other → engine ≡ other
begun_one {laws} node number told sides engine other h k =
    let law : h.now.law ≡ k.now.law = h.law ∙ sym k.law in
    let shape : h.now.shape ≡ k.now.shape = h.shape ∙ sym k.shape in
    let state : h.now.state ≡ k.now.state = h.state ∙ sym k.state in
    let log : h.now.log ≡ k.now.log = h.log ∙ sym k.log in
    let handed : h.now.handed ≡ k.now.handed = h.same_handed ∙ sym k.same_handed in
    let now : h.now ≡ k.now = λ i. record { law = law i; shape = shape i; state = state i; log = log i; handed = handed i } in
    h.is ∙ ap (begun_engine laws node number told sides) now ∙ sym k.is

begun_here : {laws : Laws} (plan : Plan) (inputs : Inputs) (boxes : List BoxTold) (net : NetView) (b : IsBegun laws plan inputs boxes net) (number : ℕ) (node : PlanNode) (engine : EngineView) → slice_get plan.nodes number ≡ Some node → slice_get net.engines number ≡ Some engine
    → HasBegun laws node number (first_calculator boxes node) (node_sides plan inputs.sides node) engine
begun_here {laws} plan inputs boxes net b number node engine there at =
    let job = job_of laws plan inputs boxes in
    let made = net_of plan inputs boxes b.made b.is_made.stands in
    let now = net_of plan inputs boxes net b.stands in
    let within = slice_get_within net.engines number engine at in
    let places = b.begins.places in
    let old = found b.made.engines number (omega (arith, within, places)) in
    let nodes = ap (λ (p : Plan). length p.nodes) now.plan in
    let running = b.running in
    let low = slice_get_within plan.nodes number node there in
    let none = b.is_made.begun in
    let is_unbegun = b.is_made.engines number node old.0 there old.1 in
    let new : IsNew node (first_calculator boxes node) = subst (IsNew node) (first_is boxes node) (is_new job number node _ (handed plan inputs boxes number node b.is_made.fits there)) in
    let sides : node_sides b.made.plan b.made.given node ≡ node_sides plan inputs.sides node =
    ap (λ (p : Plan). node_sides p b.made.given node) made.plan ∙ ap (λ (gs : List (Option Plain)). node_sides plan gs node) made.given in
    subst (λ (ss : List (Option Plain)). HasBegun laws node number (first_calculator boxes node) ss engine) sides
    (b.begins.opens number node old.0 engine (omega (arith, none)) (omega (arith, running, nodes, low)) (ap (λ (p : Plan). slice_get p.nodes number) made.plan ∙ there) old.1 at (first_calculator boxes node) new (inl is_unbegun))

-- the engine of a graph input
input_here : {laws : Laws} (plan : Plan) (inputs : Inputs) (boxes : List BoxTold) (net : NetView) (b : IsBegun laws plan inputs boxes net) (input : ℕ) (s : StreamPrefix Plain) (engine : EngineView) → slice_get inputs.streams input ≡ Some s
    → slice_get net.engines (length plan.nodes + input) ≡ Some engine → engine ≡ input_engine input (get_or plan.inputs input 0) s
input_here {laws} plan inputs boxes net b input s engine there at =
    let made = net_of plan inputs boxes b.made b.is_made.stands in
    let nodes = ap (λ (p : Plan). length p.nodes) made.plan in
    b.is_made.input_engines input s engine there (sym (b.begins.others (length plan.nodes + input) (inr (inr (omega (arith, nodes))))) ∙ at)

engines_one : {laws : Laws} (plan : Plan) (inputs : Inputs) (boxes : List BoxTold) (net other : NetView) → IsBegun laws plan inputs boxes net → IsBegun laws plan inputs boxes other → net.engines ≡ other.engines
engines_one {laws} plan inputs boxes net other b c = lists_same net.engines other.engines long each
  where
    now : IsNetOf (job_of laws plan inputs boxes) net
    now = net_of plan inputs boxes net b.stands

    also : IsNetOf (job_of laws plan inputs boxes) other
    also = net_of plan inputs boxes other c.stands

    long : length net.engines ≡ length other.engines
    long = now.engines ∙ ap (λ (p : Plan). length p.nodes + length p.inputs) (now.plan ∙ sym also.plan) ∙ sym also.engines

    each : (place : ℕ) (engine twin : EngineView) → slice_get net.engines place ≡ Some engine → slice_get other.engines place ≡ Some twin → engine ≡ twin
    each place engine twin at at_too = elim (cases_lt place (length plan.nodes)) [
      | inl less ↦
          (let node = found plan.nodes place less in
          begun_one node.0 place (first_calculator boxes node.0) (node_sides plan inputs.sides node.0) engine twin
          (begun_here plan inputs boxes net b place node.0 engine node.1 at) (begun_here plan inputs boxes other c place node.0 twin node.1 at_too))
      | inr past ↦
          (let input = place - length plan.nodes in
          let here : length plan.nodes + input ≡ place = omega (arith, past) in
          let most = slice_get_within net.engines place engine at in
          let count = now.engines in
          let same = ap (λ (p : Plan). length p.nodes + length p.inputs) now.plan in
          let fits = now.is_job.inputs.streams in
          let s = found inputs.streams input (omega (arith, past, most, count, same, fits)) in
          input_here plan inputs boxes net b input s.0 engine s.1 (ap (slice_get net.engines) here ∙ at)
          ∙ sym (input_here plan inputs boxes other c input s.0 twin s.1 (ap (slice_get other.engines) here ∙ at_too)))
    ]

-- Intakes.

fresh_same : (plan : Plan) (consumer : ℕ) (one other : Pending) → HoldsNone plan consumer one → HoldsNone plan consumer other → bare_waits one ≡ bare_waits other
fresh_same plan consumer (Sets a) (Sets b) h k = ap (λ (i : Gathered). bare_waits (Sets i)) (h.1 ∙ sym k.1)
fresh_same plan consumer (Sets a) (Loop b) h k = absurd (h.0 k.0)
fresh_same plan consumer (Loop a) (Sets b) h k = absurd (k.0 h.0)
fresh_same plan consumer (Loop a) (Loop b) h k =
    let gone : a.loop.gone ≡ b.loop.gone = h.1.loop.gone ∙ sym k.1.loop.gone in
    let packets : a.loop.packets ≡ b.loop.packets = h.1.loop.packets ∙ sym k.1.loop.packets in
    let bound : a.loop.bound ≡ b.loop.bound = h.1.loop.bound ∙ sym k.1.loop.bound in
    let main_gone : a.main.gone ≡ b.main.gone = h.1.main.gone ∙ sym k.1.main.gone in
    let main_packets : a.main.packets ≡ b.main.packets = h.1.main.packets ∙ sym k.1.main.packets in
    let main_bound : a.main.bound ≡ b.main.bound = h.1.main.bound ∙ sym k.1.main.bound in
    let previous : a.previous ≡ b.previous = h.1.previous ∙ sym k.1.previous in
    λ i. Loop (record {
      loop = record { gone = gone i; packets = packets i; bound = bound i; spare = 0 };
      main = record { gone = main_gone i; packets = main_packets i; bound = main_bound i; spare = 0 };
      previous = previous i;
    })

bare_at : (intakes : List IntakeView) (i : ℕ) (bare : IntakeView) → slice_get (map bare_intake intakes) i ≡ Some bare → (intake : IntakeView) × (slice_get intakes i ≡ Some intake) × (bare_intake intake ≡ bare)
bare_at [] i bare at = absurd cc
bare_at (x ∷ xs) zero bare at = (x, refl, same_Some (bare_intake x) bare at)
bare_at (x ∷ xs) (suc i) bare at = bare_at xs i bare at

intakes_one : {laws : Laws} (plan : Plan) (inputs : Inputs) (boxes : List BoxTold) (net other : NetView) → IsBegun laws plan inputs boxes net → IsBegun laws plan inputs boxes other → map bare_intake net.intakes ≡ map bare_intake other.intakes
intakes_one {laws} plan inputs boxes net other b c = lists_same (map bare_intake net.intakes) (map bare_intake other.intakes) long each
  where
    now : IsNetOf (job_of laws plan inputs boxes) net
    now = net_of plan inputs boxes net b.stands

    also : IsNetOf (job_of laws plan inputs boxes) other
    also = net_of plan inputs boxes other c.stands

    long : length (map bare_intake net.intakes) ≡ length (map bare_intake other.intakes)
    long = length-map net.intakes bare_intake ∙ now.intakes ∙ ap (λ (p : Plan). length p.nodes + 1) (now.plan ∙ sym also.plan) ∙ sym also.intakes ∙ sym (length-map other.intakes bare_intake)

    each : (place : ℕ) (one two : IntakeView) → slice_get (map bare_intake net.intakes) place ≡ Some one → slice_get (map bare_intake other.intakes) place ≡ Some two → one ≡ two
    each place one two at at_too =
        let intake = bare_at net.intakes place one at in
        let twin = bare_at other.intakes place two at_too in
        let h = b.is_made.fresh place intake.0 (sym (ap (λ (v : NetView). slice_get v.intakes place) b.begins.parts) ∙ intake.1) in
        let k = c.is_made.fresh place twin.0 (sym (ap (λ (v : NetView). slice_get v.intakes place) c.begins.parts) ∙ twin.1) in
        sym intake.2 ∙ intake_by intake.0 twin.0 (h.claimed ∙ sym k.claimed) (fresh_same plan place intake.0.waits twin.0.waits h.holds k.holds) ∙ twin.2

-- Work queues.

work_queues_one : {laws : Laws} (plan : Plan) (inputs : Inputs) (boxes : List BoxTold) (net other : NetView) → IsBegun laws plan inputs boxes net → IsBegun laws plan inputs boxes other → net.work_queues ≡ other.work_queues
work_queues_one {laws} plan inputs boxes net other b c = lists_same net.work_queues other.work_queues long each
  where
    now : IsNetOf (job_of laws plan inputs boxes) net
    now = net_of plan inputs boxes net b.stands

    also : IsNetOf (job_of laws plan inputs boxes) other
    also = net_of plan inputs boxes other c.stands

    long : length net.work_queues ≡ length other.work_queues
    long = now.work_queues ∙ ap (λ (p : Plan). length p.nodes) (now.plan ∙ sym also.plan) ∙ sym also.work_queues

    each : (place : ℕ) (one two : WorkQueueView) → slice_get net.work_queues place ≡ Some one → slice_get other.work_queues place ≡ Some two → one ≡ two
    each place one two at at_too =
        let within = slice_get_within net.work_queues place one at in
        let count = now.work_queues in
        let nodes = ap (λ (p : Plan). length p.nodes) now.plan in
        let node = found plan.nodes place (omega (arith, within, count, nodes)) in
        b.is_made.work_queues place node.0 one node.1 (sym (ap (λ (v : NetView). slice_get v.work_queues place) b.begins.parts) ∙ at)
        ∙ sym (c.is_made.work_queues place node.0 two node.1 (sym (ap (λ (v : NetView). slice_get v.work_queues place) c.begins.parts) ∙ at_too))

-- Limits.

stopped_same : (engines : List EngineView) (number : ℕ) (one other : QueueLimits) → one.queues ≡ other.queues → (stopped_at engines number one).queues ≡ (stopped_at engines number other).queues
stopped_same engines number one other same = by_engine (slice_get engines number)
  where
    by_end : (b : Bool) → (if b then record one { queues = map (stopped number) one.queues } else one).queues ≡ (if b then record other { queues = map (stopped number) other.queues } else other).queues
    by_end true = ap (λ (qs : List Queue). map (stopped number) qs) same
    by_end false = same

    by_engine : (o : Option EngineView) → (unwrap_or (option_map (λ e. stopped_by number e one) o) one).queues ≡ (unwrap_or (option_map (λ e. stopped_by number e other) o) other).queues
    by_engine None = same
    by_engine (Some engine) = by_end (has_ended engine)

stopped_all : (engines : List EngineView) (number count : ℕ) (one other : QueueLimits) → one.queues ≡ other.queues → (stopped_from engines number count one).queues ≡ (stopped_from engines number count other).queues
stopped_all engines number zero one other same = same
stopped_all engines number (suc count) one other same = stopped_all engines (number + 1) count (stopped_at engines number one) (stopped_at engines number other) (stopped_same engines number one other same)

queues_here : {laws : Laws} (plan : Plan) (inputs : Inputs) (boxes : List BoxTold) (net : NetView) (b : IsBegun laws plan inputs boxes net) → net.limits.queues ≡ (stopped_from net.engines 0 (length plan.nodes) b.made.limits).queues
queues_here {laws} plan inputs boxes net b =
    let now = net_of plan inputs boxes net b.stands in
    let none = b.is_made.begun in
    let running = b.running in
    let nodes = ap (λ (p : Plan). length p.nodes) now.plan in
    let all : net.begun - b.made.begun ≡ length plan.nodes = omega (arith, none, running, nodes) in
    ap (λ (l : QueueLimits). l.queues) b.begins.stops
    ∙ ap (λ (n : ℕ). (stopped_from net.engines n (net.begun - b.made.begun) b.made.limits).queues) none
    ∙ ap (λ (n : ℕ). (stopped_from net.engines 0 n b.made.limits).queues) all

queues_one : {laws : Laws} (plan : Plan) (inputs : Inputs) (boxes : List BoxTold) (net other : NetView) → IsBegun laws plan inputs boxes net → IsBegun laws plan inputs boxes other → net.limits.queues ≡ other.limits.queues
queues_one {laws} plan inputs boxes net other b c =
    queues_here plan inputs boxes net b
    ∙ ap (λ (es : List EngineView). (stopped_from es 0 (length plan.nodes) b.made.limits).queues) (engines_one plan inputs boxes net other b c)
    ∙ stopped_all other.engines 0 (length plan.nodes) b.made.limits c.made.limits (b.is_made.limits ∙ sym c.is_made.limits)
    ∙ sym (queues_here plan inputs boxes other c)

-- Calculators that no node uses.

not_any : {X : Type 0} (P : X → Type 0) (xs : List X) → All (λ x. ¬ (P x)) xs → Any P xs → ⊥
not_any {X} P xs all (i, x, within, is, holds) = all i x within (subst P (sym is) holds)

spare_one : {laws : Laws} (plan : Plan) (inputs : Inputs) (boxes : List BoxTold) (one other : List (Option BoxTold)) → HasSpare (job_of laws plan inputs boxes) one → HasSpare (job_of laws plan inputs boxes) other → one ≡ other
spare_one {laws} plan inputs boxes one other h k = lists_same one other (h.count ∙ sym k.count) each
  where
    each : (place : ℕ) (a b : Option BoxTold) → slice_get one place ≡ Some a → slice_get other place ≡ Some b → a ≡ b
    each place None None at at_too = refl
    each place None (Some told) at at_too = absurd (not_any (λ n. n.box_number ≡ Some place) plan.nodes (k.unused place told at_too).0 (h.used place at))
    each place (Some told) None at at_too = absurd (not_any (λ n. n.box_number ≡ Some place) plan.nodes (h.unused place told at).0 (k.used place at_too))
    each place (Some told) (Some also) at at_too = ap Some (same_Some told also (sym (h.unused place told at).1 ∙ (k.unused place also at_too).1))

-- Nets.

pub begun_alike : {laws : Laws} (plan : Plan) (inputs : Inputs) (boxes : List BoxTold) (net other : NetView) → IsBegun laws plan inputs boxes net → IsBegun laws plan inputs boxes other → AreAlike net other
begun_alike {laws} plan inputs boxes net other b c =
    let now = net_of plan inputs boxes net b.stands in
    let also = net_of plan inputs boxes other c.stands in
    record {
      plan = now.plan ∙ sym also.plan;
      given = now.given ∙ sym also.given;
      engines = engines_one plan inputs boxes net other b c;
      intakes = intakes_one plan inputs boxes net other b c;
      work_queues = work_queues_one plan inputs boxes net other b c;
      queues = queues_one plan inputs boxes net other b c;
      spare = spare_one plan inputs boxes net.spare other.spare now.spare also.spare;
      kept = ap (λ (v : NetView). v.kept) b.begins.parts ∙ b.is_made.kept ∙ sym c.is_made.kept ∙ sym (ap (λ (v : NetView). v.kept) c.begins.parts);
      begun = b.running ∙ ap (λ (p : Plan). length p.nodes) (now.plan ∙ sym also.plan) ∙ sym c.running;
      wound = now.not_wound ∙ sym also.not_wound;
    }
