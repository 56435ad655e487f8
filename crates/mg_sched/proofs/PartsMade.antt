-- The engine of a node, and that of a graph input, at its place.
use Rattle.std.proofs.Common.{◌≡◌, ℕ, ◌+◌, ◌<◌, List, [], length, Some, slice_get, get_or, subst, ap, sym, ◌∙◌, arith}
use Rattle.std.proofs.lemmas.Option.{slice_get_within}
use Rattle.mg_value.specs.Payload.{Plain}
use Rattle.mg_settled.specs.Prefix.{StreamPrefix}
use Rattle.mg_calc.specs.declared.plan.Plan.{Plan}
use Rattle.mg_calc.specs.declared.plan_node.PlanNode.{PlanNode}
use Rattle.mg_node.specs.Views.{EngineView}
use Rattle.mg_node.specs.Fresh.{own_told, fresh_engine}
use Rattle.mg_node.specs.Outputs.{input_engine}
use Rattle.mg_node.proofs.Lemmas.{some_same}
use Rattle.mg_sched.specs.Views.{WorkQueueView}
use Rattle.mg_sched.specs.Code.Made.{IsEngineAt, IsWorkQueueAt}

pub node_engine_at : (plan : Plan) (streams : List (StreamPrefix Plain)) (place number : ℕ) (engine : EngineView) → place ≡ number → number < length plan.nodes
    → ((planned : PlanNode) → slice_get plan.nodes number ≡ Some planned → engine ≡ fresh_engine planned number (own_told planned)) → IsEngineAt plan streams (λ _ node. own_told node) place engine
node_engine_at plan streams place number engine same less fresh = subst (λ (p : ℕ). IsEngineAt plan streams (λ _ node. own_told node) p engine) (sym same) (record {
  node = λ planned there. fresh planned there;
  input = λ input s is at. absurd (omega (arith, less, is));
})

pub input_engine_at : (plan : Plan) (streams : List (StreamPrefix Plain)) (place input : ℕ) (s : StreamPrefix Plain) (engine : EngineView) → place ≡ length plan.nodes + input → slice_get streams input ≡ Some s
    → engine ≡ input_engine input (get_or plan.inputs input 0) s → IsEngineAt plan streams (λ _ node. own_told node) place engine
input_engine_at plan streams place input s engine same there is = record {
  node = λ planned at. (let less = slice_get_within plan.nodes place planned at in absurd (omega (arith, less, same)));
  input = λ other t place_is at.
      let one : input ≡ other = omega (arith, same, place_is) in
      let there_too : slice_get streams other ≡ Some s = subst (λ (n : ℕ). slice_get streams n ≡ Some s) one there in
      is ∙ ap (λ (n : ℕ). input_engine n (get_or plan.inputs n 0) s) one ∙ ap (input_engine other (get_or plan.inputs other 0)) (some_same _ s t there_too at);
}

pub work_queue_at : (plan : Plan) (place number : ℕ) (node : PlanNode) (work_queue : WorkQueueView) → place ≡ number → slice_get plan.nodes number ≡ Some node → work_queue ≡ record { room = node.in_flight; works = [] } → IsWorkQueueAt plan place work_queue
work_queue_at plan place number node work_queue same there is = subst (λ (p : ℕ). IsWorkQueueAt plan p work_queue) (sym same) (λ planned at. is ∙ ap (λ (n : PlanNode). record { room = n.in_flight; works = [] }) (some_same _ node planned there at))
