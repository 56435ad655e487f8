use Rattle.std.proofs.Common.{◌≡◌, ◌++◌, map, drop, slice_get}
use Rattle.std.specs.List.{filter_map}
use Rattle.mg_trace.specs.Job.{input_names}
use Rattle.mg_trace.proofs.job_text.names_of.Given as goal

-- the names so far stand before those of the inputs that are left
abbrev pub invariant-loop-input : goal.invariant-loop-input
invariant-loop-input l = input_names l.plan ≡ l.names.items ++ map (λ s. s.name) (filter_map (slice_get l.plan.streams) (drop l.input l.plan.inputs))
