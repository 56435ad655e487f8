-- What is told of a run, as functions of the solution. These are the faults, the stalled streams, the sets that each node is shown, and
-- the counts. These are also the calls that a calculator has had, and how much work a job is.
use Rattle.std.specs.Prelude.{ℕ, ◌+◌, ◌==◌, not, List, [], ◌∷◌, ◌++◌, map, take, sum_by, Option, Some, None, option_map, filter}
use Rattle.std.specs.List.{filter_map, enumerate_from}
use Rattle.mg_time.specs.Time.{done}
use Rattle.mg_value.specs.Payload.{Plain}
use Rattle.mg_settled.specs.Prefix.{StreamPrefix}
use Rattle.mg_settled.specs.Settled.{TimedSet, settled_sets}
use Rattle.mg_calc.specs.declared.call.Call.{Call}
use Rattle.mg_calc.specs.declared.call.Call.TheVariants.{Begun, Shown, Finished}
use Rattle.mg_calc.specs.declared.node_fault.NodeFault.{NodeFault}
use Rattle.mg_calc.specs.declared.node_fault.Phase.TheVariants.{Open}
use Rattle.mg_calc.specs.declared.plan_node.PlanNode.{PlanNode}
use Rattle.mg_calc.specs.Outcome.{Failure}
use Rattle.mg_calc.specs.Equations.{Job, outcome_of, inputs_of}

-- the entries of a list with their numbers, from 0 on
abbrev pub numbered : {X : Type 0} → List X → List (ℕ × X)
numbered xs = enumerate_from 0 xs

-- the fault of a node, if it has one, with the node's number
abbrev pub fault_of : Job → List (StreamPrefix Plain) → ℕ × PlanNode → Option NodeFault
fault_of job streams entry =
    option_map (λ failure. record { node = entry.0; phase = failure.phase; cause = failure.cause }) (outcome_of job streams entry.1).fault

-- the faults, in node order
abbrev pub faults : Job → List (StreamPrefix Plain) → List NodeFault
faults job streams = filter_map (fault_of job streams) (numbered job.plan.nodes)

-- the numbers of the stalled streams: those that haven't ended
abbrev pub stalled : List (StreamPrefix Plain) → List ℕ
stalled streams = map (λ entry. entry.0) (filter (λ entry. not (entry.1.bound == done)) (numbered streams))

-- the count of a node: how many sets it is shown, how often a source is called, or how many MAIN packets a loopback answers. The set or
-- call that fails is included.
abbrev pub count_of : Job → List (StreamPrefix Plain) → PlanNode → ℕ
count_of job streams node = (outcome_of job streams node).taken

-- the counts of all nodes, in node order
abbrev pub counts : Job → List (StreamPrefix Plain) → List ℕ
counts job streams = map (count_of job streams) job.plan.nodes

-- the sets that a node is shown: its settled sets, up to the one at which it fails
abbrev pub shown_sets : Job → List (StreamPrefix Plain) → PlanNode → List (TimedSet Plain)
shown_sets job streams node = take (count_of job streams node) (settled_sets node.policy (inputs_of streams node))

-- the call of Close, by the fault of the node: there is none if Open failed
abbrev pub last_call : Option Failure → List Call
last_call None = Finished ∷ []
last_call (Some failure) = elim failure.phase [ Open ↦ [] | _ ↦ Finished ∷ [] ]

-- the calls that a calculator has had once its graph has run: Open, a Process for each shown set, and, if Open succeeded, Close
abbrev pub log_of : Job → List (StreamPrefix Plain) → PlanNode → List Call
log_of job streams node =
    (Begun ∷ map (λ e. Shown e.at e.set) (shown_sets job streams node)) ++ last_call (outcome_of job streams node).fault

-- how much work a job is: for each node its count, the sets that may be claimed beyond a fault, and Close
abbrev pub weight : Job → List (StreamPrefix Plain) → ℕ
weight job streams = sum_by (λ node. count_of job streams node + node.in_flight + 1) job.plan.nodes
