use Rattle.std.proofs.Common.{◌≡◌, ◌+◌, ◌*◌, map, take}
use Rattle.mg_value.specs.Plain.{depth, items_of, items_depth, entries_of, entries_depth}
use Rattle.mg_value.specs.Payload.{plain, plain_entry}
use Rattle.mg_batch.proofs.copying.+copying.Given as goal

abbrev pub decreases-copied : goal.decreases-copied
decreases-copied l = 2 * depth (plain l.payload.now)

abbrev pub decreases-copied_items : goal.decreases-copied_items
decreases-copied_items l = 2 * items_depth (items_of l.payloads.now) + 1

abbrev pub decreases-copied_entries : goal.decreases-copied_entries
decreases-copied_entries l = 2 * entries_depth (entries_of l.entries.now) + 1

-- The payloads or entries copied so far are the first of the list.
abbrev pub invariant-copied_items-loop-payload : goal.invariant-copied_items-loop-payload
invariant-copied_items-loop-payload l = map plain l.copies.items ≡ map plain (take l.payload-index l.payload-items)

abbrev pub invariant-copied_entries-loop-entry : goal.invariant-copied_entries-loop-entry
invariant-copied_entries-loop-entry l = map plain_entry l.copies.items ≡ map plain_entry (take l.entry-index l.entry-items)
