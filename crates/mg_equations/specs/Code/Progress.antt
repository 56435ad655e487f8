-- How a node goes on once its input streams have grown, from what has become of it and from how many packets it has read. The
-- streams are those at its ports.
use Rattle.std.specs.Prelude.{◌≡◌, ℕ, ◌+◌, ◌-◌, ◌^◌, ◌<◌, ◌≤◌, ◌==◌, Bool, true, false, List, [], ◌∷◌, map, drop, length, Some, None, slice_get, slice_index_or}
use Rattle.std.specs.List.{fold}
use Rattle.mg_time.specs.Time.{done}
use Rattle.mg_value.specs.Payload.{Plain}
use Rattle.mg_value.specs.Packet.{Stamped}
use Rattle.mg_settled.specs.Prefix.{StreamPrefix, first_time}
use Rattle.mg_settled.specs.Settled.{settled_sets, reach, port_of, inputs_of}
use Rattle.mg_settled.specs.Left.{without_first, gone_of, AreGone, AreLeft}
use Rattle.mg_settled.specs.Loopback.{replies, StandsBehind, IsPast, last_of, behind_first, AreAnswers}
use Rattle.mg_calc.specs.declared.law.Law.{Law}
use Rattle.mg_calc.specs.declared.law.Law.TheVariants.{Count, SideOnce, Constants, Loopback}
use Rattle.mg_calc.specs.declared.plan_node.PlanNode.{PlanNode}
use Rattle.mg_calc.specs.Shape.{IsOuter}
use Rattle.mg_calc.specs.Outcome.{Outcome, shown, ended}
use Rattle.mg_calc.specs.Equations.{Job, outcome_of}
use Rattle.mg_equations.specs.declared.progress.Progress.{Progress}
use Rattle.mg_equations.specs.Code.Seen.{seen, with_answers}
use Rattle.mg_calc.specs.Law.{table_rules}

-- What is kept of a node whose streams have been read.

-- at each port no more packets are read than its stream has
pub record AreWithin (read : List ℕ) (ss : List (StreamPrefix Plain)) : Type 0 where
  pub ports : length read ≡ length ss
  pub each : (i : ℕ) → i < length ss → slice_index_or read i 0 ≤ length (port_of ss i).packets

-- a node that is shown sets has read the packets that go with all settled ones, and knows how far these reach
pub record HasRead (node : PlanNode) (ss : List (StreamPrefix Plain)) (progress : Progress) : Type 0 where
  pub gone : AreGone node.policy (length (settled_sets node.policy ss)) ss progress.read.items
  pub reached : progress.reached ≡ reach node.policy ss

-- a loopback has read the packets of MAIN that are answered, and of LOOP only packets that no further answer needs
pub record LoopbackHasAnswered (main loop : StreamPrefix Plain) (progress : Progress) : Type 0 where
  pub turns : slice_index_or progress.read.items 1 0 ≡ length (replies main loop)
  pub past : IsPast (last_of None (length (replies main loop)) main.packets) loop (slice_index_or progress.read.items 0 0)

-- a node has gone on as far as the given streams let it
pub record HasCome (job : Job) (streams : List (StreamPrefix Plain)) (node : PlanNode) (progress : Progress) : Type 0 where
  pub outcome : seen progress.outcome ≡ outcome_of job streams node
  pub within : AreWithin progress.read.items (inputs_of streams node.inputs)
  pub sets : IsOuter node.law → HasRead node (inputs_of streams node.inputs) progress
  pub turns : node.law ≡ Loopback → LoopbackHasAnswered (port_of (inputs_of streams node.inputs) 1) (port_of (inputs_of streams node.inputs) 0) progress

-- all nodes of a job have gone on as far as the given streams let them
pub record HaveCome (job : Job) (streams : List (StreamPrefix Plain)) (nodes : List Progress) : Type 0 where
  pub many : length nodes ≡ length job.plan.nodes
  pub each : (k : ℕ) (node : PlanNode) (progress : Progress) → slice_get job.plan.nodes k ≡ Some node → slice_get nodes k ≡ Some progress → HasCome job streams node progress

-- what has become of each of the nodes
abbrev pub outcomes : List Progress → List Outcome
outcomes nodes = map (λ progress. seen progress.outcome) nodes

-- Going on.

-- a node can go on with these streams at its ports: its counts fit them
pub record CanGoOn (node : PlanNode) (ss : List (StreamPrefix Plain)) (progress : Progress) : Type 0 where
  pub within : AreWithin progress.read.items ss
  pub room : IsOuter node.law → progress.outcome.taken + length (settled_sets node.policy (without_first progress.read.items ss)) < 2 ^ 64
  pub output : node.law ≡ Loopback → length progress.outcome.outputs.items ≡ 1

-- a node was shown the settled sets of what was left of its streams, and has read the packets that go with them
pub record IsShownMore (node : PlanNode) (ss : List (StreamPrefix Plain)) (before now : Progress) : Type 0 where
  pub outcome : seen now.outcome
      ≡ ended (table_rules node.law) node.shape.offset (reach node.policy (without_first before.read.items ss))
      (fold (shown (table_rules node.law) node.shape.offset) (seen before.outcome) (settled_sets node.policy (without_first before.read.items ss)))
  pub left : List (StreamPrefix Plain)
  pub are_left : AreLeft node.policy (length (settled_sets node.policy (without_first before.read.items ss))) (without_first before.read.items ss) left
  pub read : now.read.items ≡ gone_of ss left
  pub reached : now.reached ≡ reach node.policy (without_first before.read.items ss)

-- a node was shown further sets. Or, if its sets have reached the end of all times, it stays as it was
abbrev pub ShowsMore : Bool → PlanNode → List (StreamPrefix Plain) → Progress → Progress → Type 0
ShowsMore true node ss before now = now ≡ before
ShowsMore false node ss before now = IsShownMore node ss before now

-- a loopback has answered what was left of MAIN, from what was left of LOOP
pub record AnswersMore (main loop : StreamPrefix Plain) (before now : Progress) : Type 0 where
  pub packets : List (Stamped Plain)
  pub left : StreamPrefix Plain
  pub rest : StreamPrefix Plain
  pub answers : StandsBehind (last_of None (slice_index_or before.read.items 1 0) main.packets) (drop (slice_index_or before.read.items 1 0) main.packets)
      → AreAnswers (last_of None (slice_index_or before.read.items 1 0) main.packets) (behind_first (slice_index_or before.read.items 1 0) main) (behind_first (slice_index_or before.read.items 0 0) loop) packets left rest
  pub outcome : seen now.outcome ≡ with_answers (seen before.outcome) packets (first_time left.packets left.bound) (length main.packets - length left.packets)
  pub read : now.read.items ≡ (length loop.packets - length rest.packets) ∷ (length main.packets - length left.packets) ∷ []

-- a node has gone on, by its law
abbrev pub NodeGoesOn : Law → PlanNode → List (StreamPrefix Plain) → Progress → Progress → Type 0
NodeGoesOn (Count count start step) node ss before now = now ≡ before
NodeGoesOn (SideOnce at) node ss before now = now ≡ before
NodeGoesOn Constants node ss before now = now ≡ before
NodeGoesOn Loopback node ss before now = AnswersMore (port_of ss 1) (port_of ss 0) before now
NodeGoesOn law node ss before now = ShowsMore (before.reached == done) node ss before now
