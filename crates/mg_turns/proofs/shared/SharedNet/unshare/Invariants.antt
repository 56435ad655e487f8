use Rattle.std.proofs.Common.{◌≡◌, ℕ, ◌<◌, ◌≤◌, false, get_or, length, vec_capacity}
use Rattle.std.specs.Mem.Slots.{slots_filled, slots_len, slots_items}
use Rattle.std.specs.Mem.Slots.Ownership.{Filled}
use Rattle.std.proofs.Common.{Some}
use mathlib.Core.Option.{some}
use lib.ListN.{get_elem?}
use Rattle.mg_turns.specs.Parts.{at}
use Rattle.mg_turns.specs.Ends.{with_parts}
use Rattle.mg_turns.specs.Calls.{key_of}
use Rattle.mg_turns.proofs.shared.SharedNet.unshare.Given as goal

abbrev pub invariant-loop-i : goal.invariant-loop-i
invariant-loop-i g l = record {
  filled : Filled (slots_filled l.closed.slots) l.i (slots_len l.closed.slots);
  emptied : (k : ℕ) → k < l.i → get_or (slots_filled l.closed.slots) k false ≡ false;
  items : slots_items l.closed.slots ≡ slots_items l.initial.closed.slots;
  len : slots_len l.closed.slots ≡ l.size;
  room : l.size ≤ vec_capacity l.parts;
  count : length l.parts.items ≡ l.i;
  each : (k : ℕ) → k < l.i → get_elem? (slots_items l.initial.closed.slots) k ≡ some (Some (at (with_parts (key_of l.fn.self) l.parts.items) k));
}
