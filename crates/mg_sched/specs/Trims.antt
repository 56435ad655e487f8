-- How a net gives up packets. Of each stream it gives up the first packets that the ports of all its edges have got. Of a stream without
-- edges it gives up all packets that are laid. Of a stream that is kept it gives up nothing. Nothing else changes.
use Rattle.std.specs.Prelude.{◌≡◌, ◌≢◌, ◌==◌, ℕ, ◌+◌, Bool, true, false, List, length, map, filter, min, Some, slice_get, slice_index_or, option_map, unwrap_or, if◌then◌else◌}
use Rattle.std.specs.List.{fold}
use Rattle.mg_value.specs.Payload.{Plain}
use Rattle.mg_stream.specs.Queue.{count_of}
use Rattle.mg_stream.specs.Pool.{Backlog}
use Rattle.mg_calc.specs.declared.edge.Edge.{Edge}
use Rattle.mg_node.specs.Views.{IntakeView, EngineView}
use Rattle.mg_node.specs.Ports.{port_queue}
use Rattle.mg_node.specs.Outputs.{without_first}
use Rattle.mg_sched.specs.Views.{NetView}

-- how many packets came along an edge
abbrev pub came_along : List IntakeView → Edge → ℕ
came_along intakes e = unwrap_or (option_map (λ i. count_of (port_queue i.waits e.port)) (slice_get intakes e.node)) 0

-- how many packets came along each edge of a stream
abbrev pub came_of : List IntakeView → List Edge → ℕ → List ℕ
came_of intakes edges stream = map (came_along intakes) (filter (λ e. e.stream == stream) edges)

-- how many first packets of a stream have come along all its edges: if it has no edge, all that are laid at its output
abbrev pub got_by_all : NetView → ℕ → Backlog Plain → ℕ
got_by_all net stream output = fold min (output.gone + length output.packets) (came_of net.intakes net.plan.edges stream)

-- a stream is kept: nothing that is laid of it is given up
abbrev pub is_kept : NetView → ℕ → Bool
is_kept net stream = slice_index_or net.kept stream false

-- how many first packets of a stream are given up
abbrev pub goes_of : NetView → ℕ → Backlog Plain → ℕ
goes_of net stream output = if is_kept net stream then 0 else got_by_all net stream output

-- each output of an engine has given up that many first packets, or as many as it had before if these were more. Nothing else of the engine
-- changes
pub record TrimsEngine (net : NetView) (engine engine_now : EngineView) : Type 0 where
  pub rest : engine_now ≡ record engine { outputs = engine_now.outputs }
  pub count : length engine_now.outputs ≡ length engine.outputs
  pub outputs : (port : ℕ) (output output_now : Backlog Plain) → slice_get engine.outputs port ≡ Some output → slice_get engine_now.outputs port ≡ Some output_now
      → output_now ≡ without_first (goes_of net (engine.first + port) output) output

-- each engine of a net has given up packets at its outputs, and nothing else of the net changes
pub record Trims (before now : NetView) : Type 0 where
  pub parts : now ≡ record before { engines = now.engines }
  pub places : length now.engines ≡ length before.engines
  pub engines : (place : ℕ) (engine engine_now : EngineView) → slice_get before.engines place ≡ Some engine → slice_get now.engines place ≡ Some engine_now → TrimsEngine before engine engine_now

-- From now on nothing of a stream is given up, and nothing else changes.
pub record Keeps (stream : ℕ) (before now : NetView) : Type 0 where
  pub parts : now ≡ record before { kept = now.kept }
  pub kept : is_kept now stream ≡ true
  pub others : (other : ℕ) → other ≢ stream → is_kept now other ≡ is_kept before other
