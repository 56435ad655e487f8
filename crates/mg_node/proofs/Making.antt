-- How the engine of a node is made.
use Rattle.std.proofs.Common.{◌≡◌, ℕ, ◌-◌, ◌<◌, List, [], ◌∷◌, ◌++◌, length, replicate, Option, Some, None, false, slice_get, get_or, inl, ap, sym, ◌∙◌}
use Rattle.mg_value.specs.Payload.{Plain}
use Rattle.mg_value.specs.Packet.{Stamped}
use Rattle.mg_stream.specs.Pool.{Backlog, empty_backlog}
use Rattle.mg_calc.specs.Rules.{Laws}
use Rattle.mg_calc.specs.declared.plan_node.PlanNode.{PlanNode}
use Rattle.mg_route.specs.HolderView.{HolderView}
use Rattle.mg_calc.proofs.Earlier.{get_or_some}
use Rattle.mg_node.specs.declared.role.Role.{Role}
use Rattle.mg_node.specs.Views.{ContextView, EntryView, EngineView}
use Rattle.mg_node.specs.Job.{role_of, LoggedJob}
use Rattle.mg_node.specs.Fresh.{own_told, context_of, contexts_of, fresh_engine}
use Rattle.mg_node.specs.Begun.{IsHanded, LawfulUnbegun}

-- what is read of a list at a place is there
pub read_at : {X : Type 0} (xs ys : List X) (i : ℕ) (x : X) → xs ≡ ys → i < length ys → x ≡ get_or xs i x → slice_get ys i ≡ Some x
read_at {X} xs ys i x same less is = get_or_some ys i x less (sym (is ∙ ap (λ (zs : List X). get_or zs i x) same))

-- two values of the same option are the same
pub some_same : {X : Type 0} (o : Option X) (x y : X) → o ≡ Some x → o ≡ Some y → x ≡ y
some_same {X} o x y a b = (let same : Some x ≡ Some y = sym a ∙ b in cc)

-- the engine of such parts
abbrev pub engine_of : PlanNode → ℕ → Role → ℕ → ℕ → List (Backlog Plain) → List EntryView → List ContextView → EngineView
engine_of node number role first inputs outputs window idle = record {
  role = role;
  node = number;
  first = first;
  offset = node.shape.offset;
  in_flight = node.in_flight;
  inputs = inputs;
  outputs = outputs;
  laid = 0;
  claimed = 0;
  window = window;
  idle = idle;
  begun = false;
  closed = false;
  fault = None;
}

-- the contexts: those of the node's own calculators, and the one of the given calculator
pub contexts_made : (node : PlanNode) (told : HolderView) (count : ℕ) (own idle : List ContextView) (context : ContextView) (set : List (Option (Stamped Plain))) (ports : ℕ) → count ≡ node.in_flight - 1
    → own ≡ replicate count (context_of node (own_told node)) → set ≡ replicate ports None → ports ≡ length node.inputs → context ≡ record { told = told; set = set } → idle ≡ own ++ context ∷ [] → idle ≡ contexts_of node told
contexts_made node told count own idle context set ports counted own_is set_is ports_is context_is idle_is =
    let nothing : Option (Stamped Plain) = None in
    let whole : context ≡ context_of node told = context_is ∙ (λ i. record { told = told; set = (set_is ∙ ap (λ (n : ℕ). replicate n nothing) ports_is) i }) in
    idle_is ∙ ap (λ (bs : List ContextView). bs ++ context ∷ []) (own_is ∙ ap (λ (n : ℕ). replicate n (context_of node (own_told node))) counted)
    ∙ ap (λ (b : ContextView). replicate (node.in_flight - 1) (context_of node (own_told node)) ++ b ∷ []) whole

pub engine_made : (node planned : PlanNode) (number : ℕ) (told : HolderView) (role : Role) (first inputs outs : ℕ) (outputs : List (Backlog Plain)) (window : List EntryView) (idle : List ContextView) → node ≡ planned
    → role ≡ role_of node.law → first ≡ get_or node.outputs 0 0 → inputs ≡ length node.inputs → outs ≡ length node.outputs → outputs ≡ replicate outs empty_backlog → window ≡ [] → idle ≡ contexts_of node told
    → engine_of node number role first inputs outputs window idle ≡ fresh_engine planned number told
engine_made node planned number told role first inputs outs outputs window idle same role_is first_is inputs_is outs_is outputs_is window_is idle_is =
    let made : engine_of node number role first inputs outputs window idle ≡ fresh_engine node number told =
    (λ i. engine_of node number (role_is i) (first_is i) (inputs_is i) ((outputs_is ∙ ap (λ (n : ℕ). replicate n (empty_backlog {X = Plain})) outs_is) i) (window_is i) (idle_is i)) in
    made ∙ ap (λ (n : PlanNode). fresh_engine n number told) same

-- for each job that has its calculator, a fresh engine is lawful and isn't begun
pub fresh_unbegun : {laws : Laws} (job : LoggedJob laws) (number : ℕ) (node : PlanNode) (told : HolderView) (view : EngineView) → IsHanded job number node told → view ≡ fresh_engine node number told → LawfulUnbegun job number view
unfolding LawfulUnbegun
fresh_unbegun {laws} job number node told view handed is = record { node = node; told = told; handed = handed; unbegun = inl is }
