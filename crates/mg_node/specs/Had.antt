-- The calls that a user-supplied calculator has had, compared with those that its node has in the solution.
use Rattle.std.specs.Prelude.{◌≡◌, ◌⊎◌, ℕ, suc, ◌≤◌, Bool, true, false, List, Some, [], ◌∷◌, ◌++◌, map, take, if◌then◌else◌, Option, None}
use Rattle.mg_value.specs.Payload.{Plain}
use Rattle.mg_settled.specs.Prefix.{StreamPrefix}
use Rattle.mg_calc.specs.Rules.{Laws}
use Rattle.mg_calc.specs.declared.call.Call.{Call}
use Rattle.mg_calc.specs.declared.call.Call.TheVariants.{Begun, Shown, Finished}
use Rattle.mg_calc.specs.declared.plan_node.PlanNode.{PlanNode}
use Rattle.mg_calc.specs.declared.node_fault.Phase.TheVariants.{Open}
use Rattle.mg_calc.specs.Equations.{Job, outcome_of, rules_at}
use Rattle.mg_calc.specs.Outcome.{Failure}
use Rattle.mg_calc.specs.Meaning.{shown_sets, log_of, count_of}
use Rattle.mg_calc.specs.Plan.{FitsNode}
use Rattle.mg_calc.specs.Told.{BoxTold}
use Rattle.mg_calc.specs.declared.node_fault.Phase.{Phase}
use Rattle.mg_node.specs.Job.{LoggedJob, KeepsFirst, stage, log_after}
use Rattle.mg_node.specs.Lawful.{kept_after}

-- whether a node with this fault, or with none, had its calculator closed: not if Open failed
abbrev pub opens_well : Phase → Bool
opens_well Open = false
opens_well phase = true

abbrev pub had_close : Option Failure → Bool
had_close None = true
had_close (Some failure) = opens_well failure.phase

-- what a node's calculator keeps after its first `shown` sets, and after Close too if `close` is true
abbrev pub state_by : Job → List (StreamPrefix Plain) → PlanNode → ℕ → Bool → List Plain
state_by job solution node shown close =
    if close then kept_after ((rules_at job node).finish (stage job solution node shown).state) (stage job solution node shown).state
    else (stage job solution node shown).state

-- a calculator had all calls that its node's calculator has in a solution, and keeps what these leave
pub record HadCalls {laws : Laws} (job : LoggedJob laws) (solution : List (StreamPrefix Plain)) (node : PlanNode) (told : BoxTold) : Type 0 where
  pub state : told.state ≡ state_by job.job solution node (count_of job.job solution node) (had_close (outcome_of job.job solution node).fault)
  pub log : told.log ≡ log_after job node (log_of job.job solution node)
  pub fits : FitsNode node told.law told.shape

-- the first `count` calls of a node's calculator: Open, and a Process for each set that the node is shown. Close follows them if `close` is
-- true.
abbrev pub front_calls : {laws : Laws} → LoggedJob laws → List (StreamPrefix Plain) → PlanNode → ℕ → Bool → List Call
front_calls {laws} job solution node count close =
    take count (Begun ∷ map (λ e. Shown e.at e.set) (shown_sets job.job solution node)) ++ (if close then Finished ∷ [] else [])

-- a calculator had a prefix of its node's calls, and perhaps Close after them; it had Close only after Open. Before Open it keeps what it
-- kept at the start. From Open on it keeps its node's state after the sets that it was shown. If it had Close, it keeps what Close gives of
-- that state.
pub record HadFront {laws : Laws} (job : LoggedJob laws) (solution : List (StreamPrefix Plain)) (node : PlanNode) (told : BoxTold) : Type 0 where
  pub count : ℕ
  pub close : Bool
  pub opened : close ≡ true → 1 ≤ count
  pub log : told.log ≡ log_after job node (front_calls job solution node count close)
  pub unopened : count ≡ 0 → KeepsFirst job node told.state
  pub state : (shown : ℕ) → count ≡ suc shown → told.state ≡ state_by job.job solution node shown close
  pub fits : FitsNode node told.law told.shape

-- a node fails in Open
pub record FailsToOpen (job : Job) (streams : List (StreamPrefix Plain)) (node : PlanNode) : Type 0 where
  pub failure : Failure
  pub fails : (outcome_of job streams node).fault ≡ Some failure
  pub in_open : failure.phase ≡ Open

-- a calculator isn't left open: it had a prefix of its node's calls with Open, and Close after it. If the node fails in Open, the
-- calculator had no Close.
pub record HadClose {laws : Laws} (job : LoggedJob laws) (solution : List (StreamPrefix Plain)) (node : PlanNode) (told : BoxTold) : Type 0 where
  pub front : HadFront job solution node told
  pub begun : 1 ≤ front.count
  pub closed : ((front.close ≡ true) × ¬ FailsToOpen job.job solution node) ⊎ ((front.close ≡ false) × FailsToOpen job.job solution node)
