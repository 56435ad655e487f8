-- How far an engine's outputs are raised by what waits at its node: nothing that is laid later stands below.
use Rattle.std.specs.Prelude.{ℕ, ℤ, Bool, true, false, nat_lt, max, min, List, [], ◌∷◌, map, Option, Some, None, if◌then◌else◌}
use Rattle.mg_time.specs.Time.{shift}
use Rattle.mg_value.specs.Payload.{Plain}
use Rattle.mg_stream.specs.Pool.{Backlog}
use Rattle.mg_calc.specs.declared.node_fault.Phase.{Phase}
use Rattle.mg_calc.specs.declared.node_fault.Phase.TheVariants.{Process}
use Rattle.mg_node.specs.declared.role.Role.{Role}
use Rattle.mg_node.specs.declared.role.Role.TheVariants.{Loop}
use Rattle.mg_node.specs.declared.pending.Pending.{Pending}
use Rattle.mg_node.specs.Views.{EntryView, EngineView}
use Rattle.mg_node.specs.Ports.{horizon_of}
use Rattle.mg_node.specs.Windows.{has_ended}

-- the lesser of a time and the time of a phase, if the phase has a set
abbrev pub until_phase : Phase → ℕ → ℕ
until_phase (Process at) t = min at t
until_phase phase t = t

-- the lesser of a time and the time of the first set that is claimed and not laid, if there is one. The sets of a window are in order.
abbrev pub until_claimed : List EntryView → ℕ → ℕ
until_claimed [] t = t
until_claimed (entry ∷ entries) t = until_phase entry.phase t

-- the bound to which a time t raises the outputs of a node. At a loopback this bound is t itself, and at a node with an offset it is t
-- moved by the offset. Every other node has no such bound.
abbrev pub raised_by : Role → Option ℤ → ℕ → Option ℕ
raised_by Loop offset t = Some t
raised_by role None t = None
raised_by role (Some offset) t = Some (shift t offset)

-- whether what waits never raises the outputs of a node
abbrev pub never_raised : Role → Option ℤ → Bool
never_raised Loop offset = false
never_raised role None = true
never_raised role (Some offset) = false

-- the bound to which an engine raises its outputs by what waits at its node, if it raises them
abbrev pub advance_bound : EngineView → Pending → Option ℕ
advance_bound engine waits =
    if has_ended engine then None else raised_by engine.role engine.offset (until_claimed engine.window (horizon_of waits))

-- an output raised to a bound, if there is one
abbrev pub raised_output : Option ℕ → Backlog Plain → Backlog Plain
raised_output None output = output
raised_output (Some bound) output = record output { bound = max output.bound bound }

-- whether a bound is higher than the bound of at least one output
abbrev pub any_moved : ℕ → List (Backlog Plain) → Bool
any_moved bound [] = false
any_moved bound (output ∷ outputs) = if nat_lt output.bound bound then true else any_moved bound outputs

-- whether a bound, if there is one, is higher than the bound of at least one output
abbrev pub any_moved_by : Option ℕ → List (Backlog Plain) → Bool
any_moved_by None outputs = false
any_moved_by (Some bound) outputs = any_moved bound outputs

-- an engine with its outputs raised as far as what waits at its node tells
abbrev pub advanced : EngineView → Pending → EngineView
advanced engine waits = record engine { outputs = map (raised_output (advance_bound engine waits)) engine.outputs }

-- whether what waits at its node raises at least one output of an engine
abbrev pub is_advanced : EngineView → Pending → Bool
is_advanced engine waits = any_moved_by (advance_bound engine waits) engine.outputs
