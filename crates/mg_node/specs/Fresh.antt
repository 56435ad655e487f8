-- How the engine of a node is made: nothing is laid and nothing is claimed. The engine is given one calculator. If several sets may be
-- worked on at once, the node's law and shape give the other calculators, and these keep nothing.
use Rattle.std.specs.Prelude.{ℕ, ◌-◌, List, [], ◌∷◌, ◌++◌, length, replicate, None, false, slice_index_or}
use Rattle.mg_stream.specs.Pool.{empty_backlog}
use Rattle.mg_calc.specs.declared.plan_node.PlanNode.{PlanNode}
use Rattle.mg_route.specs.HolderView.{HolderView}
use Rattle.mg_node.specs.Views.{ContextView, EngineView}
use Rattle.mg_node.specs.Job.{role_of}

-- a calculator that the node makes itself, before it is opened; it isn't user-supplied
abbrev pub own_told : PlanNode → HolderView
own_told node = record { law = node.law; shape = node.shape; state = []; log = None; handed = false }

-- a context that was not worked at: its set is empty
abbrev pub context_of : PlanNode → HolderView → ContextView
context_of node told = record { told = told; set = replicate (length node.inputs) None }

-- the contexts of a node: as many as works may be claimed, the last one with the given calculator
abbrev pub contexts_of : PlanNode → HolderView → List ContextView
contexts_of node told = replicate (node.in_flight - 1) (context_of node (own_told node)) ++ context_of node told ∷ []

-- the engine of a node, by its number and its calculator, before it is begun
abbrev pub fresh_engine : PlanNode → ℕ → HolderView → EngineView
fresh_engine node number told = record {
  role = role_of node.law;
  node = number;
  first = slice_index_or node.outputs 0 0;
  offset = node.shape.offset;
  in_flight = node.in_flight;
  inputs = length node.inputs;
  outputs = replicate (length node.outputs) empty_backlog;
  laid = 0;
  claimed = 0;
  window = [];
  idle = contexts_of node told;
  begun = false;
  closed = false;
  fault = None;
}
