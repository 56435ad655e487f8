-- What an engine has laid at its outputs.
use Rattle.std.specs.Prelude.{ℕ, ◌+◌, ◌-◌, [], ◌∷◌, length, drop, max, None, true, false, slice_index_or, sum_by}
use Rattle.mg_value.specs.Payload.{Plain}
use Rattle.mg_settled.specs.Prefix.{StreamPrefix}
use Rattle.mg_stream.specs.Queue.{Waiting}
use Rattle.mg_stream.specs.Pool.{Backlog, empty_backlog, queue_of}
use Rattle.mg_node.specs.declared.role.Role.TheVariants.{Input}
use Rattle.mg_node.specs.Views.{EngineView}

-- what was laid at an output, as a queue: the packets that are kept, how many were given up, and the bound
abbrev pub laid_at : EngineView → ℕ → Waiting Plain
laid_at engine output = queue_of 0 (slice_index_or engine.outputs output empty_backlog)

-- how many packets were laid at an output, those that were given up included
abbrev pub count_at : EngineView → ℕ → ℕ
count_at engine output = (slice_index_or engine.outputs output empty_backlog).gone + length (slice_index_or engine.outputs output empty_backlog).packets

-- how many packets are kept at an engine's outputs
abbrev pub packets_kept : EngineView → ℕ
packets_kept engine = sum_by (λ b. length b.packets) engine.outputs

-- an output with its first `got` packets given up, or as many as before, if those are more
abbrev pub without_first : ℕ → Backlog Plain → Backlog Plain
without_first got output = record { gone = max output.gone got; packets = drop (got - output.gone) output.packets; bound = output.bound }

-- a prefix as an output that keeps all packets
abbrev pub kept_whole : StreamPrefix Plain → Backlog Plain
kept_whole s = record { gone = 0; packets = s.packets; bound = s.bound }

-- the engine of a graph input, by its number, the number of its stream, and the prefix that is known of that
abbrev pub input_engine : ℕ → ℕ → StreamPrefix Plain → EngineView
input_engine input stream s = record {
  role = Input;
  node = input;
  first = stream;
  offset = None;
  in_flight = 0;
  inputs = 0;
  outputs = kept_whole s ∷ [];
  laid = 0;
  claimed = 0;
  window = [];
  idle = [];
  begun = true;
  closed = false;
  fault = None;
}
