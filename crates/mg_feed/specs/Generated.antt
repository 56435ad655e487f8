-- The packets that are made for a graph's inputs, to try it without a file.
use Rattle.std.specs.Prelude.{ℕ, zero, suc, ◌+◌, ◌*◌, ◌/◌, ◌%◌, ◌^◌, ◌==◌, List, map, replicate, length, pos, decimal, codes, Option, Some, slice_index_or}
use Rattle.mg_value.specs.declared.kind.Kind.{Kind}
use Rattle.mg_value.specs.declared.kind.Kind.TheVariants.{Any, Flag, Int, Text, Items as KindItems, Record}
use Rattle.mg_value.specs.Plain.{Plain, flag, int, text, items, entries, item, no_items, entry, no_entries}
use Rattle.mg_value.specs.Packet.{Stamped}
use Rattle.mg_settled.specs.Prefix.{StreamPrefix, empty_prefix, appended, closed}
use Rattle.mg_feed.specs.Accepted.{stepped}

-- the value of a packet, by the stream's kind: `i` is the packet's number, and `round` how many packets came before it to its input
abbrev pub generated_value : Kind → ℕ → ℕ → Plain
generated_value Any i round = int (pos i)
generated_value Flag i round = flag (round % 2 == 0)
generated_value Int i round = int (pos i)
generated_value Text i round = text (decimal i)
generated_value KindItems i round = items (item (int (pos i)) no_items)
generated_value Record i round = entries (entry (codes "n") (int (pos i)) no_entries)

-- Packet i of the packets for k inputs goes to the input i mod k, at the timestamp 10 * (i div k).
abbrev pub generated_packet : List Kind → ℕ → Stamped Plain
generated_packet kinds i = record {
  at = 10 * (i / length kinds) + 2 ^ 63;
  value = generated_value (slice_index_or kinds (i % length kinds) Any) i (i / length kinds);
}

-- the streams with so many packets, from packet 0 on
abbrev pub generated_streams : List Kind → ℕ → List (StreamPrefix Plain)
generated_streams kinds zero = replicate (length kinds) empty_prefix
generated_streams kinds (suc i) = stepped (i % length kinds) (λ s. appended s (generated_packet kinds i)) (generated_streams kinds i)

-- the streams that are made: so many packets, and each stream is closed after its own
abbrev pub generated : List Kind → ℕ → List (StreamPrefix Plain)
generated kinds number = map closed (generated_streams kinds number)

-- the side packets that are made, each the number 1
abbrev pub generated_sides : ℕ → List (Option Plain)
generated_sides sides = replicate sides (Some (int (pos 1)))
