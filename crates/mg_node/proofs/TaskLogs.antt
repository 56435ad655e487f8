-- What a work's number and its node's calls are: a set's stands among the sets and in the log, and a source has no sets.
use Rattle.std.proofs.Common.{◌≡◌, ℕ, ◌+◌, ◌<◌, ◌≤◌, false, List, [], ◌∷◌, ◌++◌, length, map, take, append-nil, Option, Some, slice_get, ap, sym, refl, subst, ◌∙◌, arith}
use Rattle.std.proofs.Math.Seq.{take-nil}
use Rattle.std.proofs.lemmas.List.{take_more, map-append}
use Rattle.std.proofs.lemmas.Option.{slice_get_within, get_or_from_slice_get}
use Rattle.mg_value.specs.Payload.{Plain}
use Rattle.mg_value.specs.Packet.{Stamped}
use Rattle.mg_value.specs.declared.policy.Policy.{Policy}
use Rattle.mg_value.specs.declared.policy.Policy.TheVariants.{Default, Mux}
use Rattle.mg_settled.specs.Prefix.{StreamPrefix}
use Rattle.mg_settled.specs.Settled.{TimedSet, settled_sets}
use Rattle.mg_calc.specs.Rules.{Laws}
use Rattle.mg_calc.specs.declared.call.Call.{Call}
use Rattle.mg_calc.specs.declared.call.Call.TheVariants.{Begun, Shown}
use Rattle.mg_calc.specs.declared.law.Law.{Law}
use Rattle.mg_calc.specs.declared.law.Law.TheVariants.{Count, SideOnce, Loopback}
use Rattle.mg_calc.specs.declared.node_fault.Phase.{Phase}
use Rattle.mg_calc.specs.declared.node_fault.Phase.TheVariants.{Open, Call as SourceCall, Process, Close}
use Rattle.mg_calc.specs.declared.plan_node.PlanNode.{PlanNode}
use Rattle.mg_calc.specs.declared.port_kind.PortKind.{PortKind}
use Rattle.mg_calc.specs.Plan.{HasNumbers}
use Rattle.mg_calc.specs.Shape.{IsOuter, IsSource, IsShapeOf, HasInputs}
use Rattle.mg_calc.specs.Equations.{stream_of}
use Rattle.mg_node.specs.Job.{LoggedJob, Solves, sets_of, count_of_all, IsTask, calls_before_by, calls_before}
use Rattle.mg_node.specs.Lawful.{is_close}
use Rattle.mg_node.proofs.ClaimsKeep.{count_calls}
use Rattle.mg_node.proofs.HeldRules.{of_node}
use Rattle.mg_node.proofs.Stages.{outer_count}

-- The logs.

-- each node but a loopback has a call for each set that it was shown
pub shown_calls : (law : Law) (streams : List (StreamPrefix Plain)) (node : PlanNode) (n : ℕ) → (law ≡ Loopback → ⊥) → calls_before_by law streams node n ≡ Begun ∷ map (λ e. Shown e.at e.set) (take n (sets_of streams node))
shown_calls Loopback streams node n never = absurd (never refl)
shown_calls law streams node n never = refl

abbrev pub shown_call : TimedSet Plain → Call
shown_call e = Shown e.at e.set

pub set_logged : (streams : List (StreamPrefix Plain)) (node : PlanNode) (n : ℕ) (e : TimedSet Plain) → IsOuter node.law → slice_get (sets_of streams node) n ≡ Some e → calls_before streams node n ++ Shown e.at e.set ∷ [] ≡ calls_before streams node (n + 1) ++ []
set_logged streams node n e is there =
    let never : node.law ≡ Loopback → ⊥ = λ e. subst IsOuter e is in
    let sets = sets_of streams node in
    let within = slice_get_within sets n e there in
    let next : take (n + 1) sets ≡ take n sets ++ e ∷ [] = take_more sets n e within ∙ ap (λ (x : TimedSet Plain). take n sets ++ x ∷ []) (get_or_from_slice_get sets n e e there) in
    ap (λ (cs : List Call). cs ++ Shown e.at e.set ∷ []) (shown_calls node.law streams node n never)
    ∙ ap (λ (cs : List Call). Begun ∷ cs) (sym (map-append shown_call (take n sets) (e ∷ [])) ∙ ap (map shown_call) (sym next))
    ∙ sym (shown_calls node.law streams node (n + 1) never) ∙ sym (append-nil (calls_before streams node (n + 1)))

-- a source has no sets
no_inputs : (policy : Policy) → settled_sets policy [] ≡ []
no_inputs Default = refl
no_inputs Mux = refl

source_inputs : (law : Law) (ports : List PortKind) → IsSource law → HasInputs law ports → ports ≡ []
source_inputs (Count count start apart) ports is has = has
source_inputs (SideOnce at) ports is has = has
source_inputs law ports is has = absurd is

none_long : {X : Type 0} (xs : List X) → length xs ≡ 0 → xs ≡ []
none_long [] e = refl
none_long (x ∷ xs) e = absurd (omega (arith, e))

pub call_logged : {laws : Laws} (job : LoggedJob laws) (streams : List (StreamPrefix Plain)) (number : ℕ) (node : PlanNode) (n : ℕ) → Solves job streams → slice_get job.job.plan.nodes number ≡ Some node → IsSource node.law → calls_before streams node n ++ [] ≡ calls_before streams node (n + 1) ++ []
call_logged {laws} job streams number node n solves there is =
    let shape : IsShapeOf node.law node.shape = of_node (λ (m : PlanNode). IsShapeOf m.law m.shape) job.job.plan.nodes number node solves.is_job.plan.shapes there in
    let has : HasNumbers node = of_node HasNumbers job.job.plan.nodes number node solves.is_job.plan.ports there in
    let ports : length node.inputs ≡ 0 = has.inputs ∙ ap length (source_inputs node.law node.shape.inputs is shape.inputs) in
    let inputs : node.inputs ≡ [] = none_long node.inputs ports in
    let sets : sets_of streams node ≡ [] = ap (λ (ns : List ℕ). settled_sets node.policy (map (stream_of streams) ns)) inputs ∙ no_inputs node.policy in
    let calls : (k : ℕ) → calls_before streams node k ≡ Begun ∷ [] =
    λ k. shown_calls node.law streams node k (λ e. subst IsSource e is) ∙ ap (λ (es : List (TimedSet Plain)). Begun ∷ map shown_call (take k es)) sets ∙ ap (λ (es : List (TimedSet Plain)). Begun ∷ map shown_call es) (take-nil k) in
    ap (λ (cs : List Call). cs ++ []) (calls n ∙ sym (calls (n + 1)))

-- The number of a work.
pub task_within : {laws : Laws} (job : LoggedJob laws) (streams : List (StreamPrefix Plain)) (node : PlanNode) (n : ℕ) (phase : Phase) (set : List (Option (Stamped Plain))) → is_close phase ≡ false → IsTask job.job streams node n phase set → n < count_of_all streams node
task_within {laws} job streams node n Open set more task = absurd task
task_within {laws} job streams node n Close set more task = absurd cc
task_within {laws} job streams node n (SourceCall call) set more task = (let less = task.2 in let count = count_calls node.law streams node task.0 in omega (arith, less, count))
task_within {laws} job streams node n (Process at) set more task =
    let within = slice_get_within (sets_of streams node) n (record { at = at; set = set }) task.1 in
    let count = outer_count node.law streams node task.0 in
    omega (arith, within, count)

pub task_most : {laws : Laws} (job : LoggedJob laws) (streams : List (StreamPrefix Plain)) (node : PlanNode) (n : ℕ) (phase : Phase) (set : List (Option (Stamped Plain))) → IsTask job.job streams node n phase set → n ≤ count_of_all streams node
task_most {laws} job streams node n Close set task = (let all = task.all in omega (arith, all))
task_most {laws} job streams node n phase set task = (let less = task_within job streams node n phase set refl task in omega (arith, less))
