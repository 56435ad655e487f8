use Rattle.std.proofs.Common.{◌+◌, ◌*◌, ◌<◌, map, take}
use Rattle.mg_value.specs.Plain.{items_of, items_depth, entries_of, entries_depth}
use Rattle.mg_value.specs.Payload.{plain, plain_entry}
use Rattle.mg_batch.proofs.nesting.+nesting.Given as goal

abbrev pub decreases-nests : goal.decreases-nests
decreases-nests l = 2 * l.levels

abbrev pub decreases-items_nest : goal.decreases-items_nest
decreases-items_nest l = 2 * l.levels + 1

abbrev pub decreases-entries_nest : goal.decreases-entries_nest
decreases-entries_nest l = 2 * l.levels + 1

-- The first payloads or entries nest less than `levels` deep.
abbrev pub invariant-items_nest-loop-payload : goal.invariant-items_nest-loop-payload
invariant-items_nest-loop-payload l = items_depth (items_of (map plain (take l.payload-index l.payloads))) < l.levels

abbrev pub invariant-entries_nest-loop-entry : goal.invariant-entries_nest-loop-entry
invariant-entries_nest-loop-entry l = entries_depth (entries_of (map plain_entry (take l.entry-index l.entries))) < l.levels
