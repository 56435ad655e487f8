use Rattle.std.proofs.Common.{◌≡◌, ◌+◌, ◌*◌, map, take}
use Rattle.serde_json.specs.View.{view, members_view}
use Rattle.mg_value.specs.Plain.{depth, items_of, items_depth, entries_of, entries_depth, ItemsFit, EntriesFit}
use Rattle.mg_value.specs.Payload.{plain, plain_entry}
use Rattle.mg_json.specs.Json.{json_members}
use Rattle.mg_json.proofs.JsonLists.{payload_said}
use Rattle.mg_json.proofs.json.+writing.Given as goal

abbrev pub decreases-write : goal.decreases-write
decreases-write l = 2 * depth (plain l.payload.now)

abbrev pub decreases-write_items : goal.decreases-write_items
decreases-write_items l = 2 * items_depth (items_of l.payloads.now) + 1

abbrev pub decreases-write_entries : goal.decreases-write_entries
decreases-write_entries l = 2 * entries_depth (entries_of l.entries.now) + 1

abbrev pub invariant-write_items-loop-payload : goal.invariant-write_items-loop-payload
invariant-write_items-loop-payload l =
    (map view l.values.items ≡ map payload_said (take l.payload-index l.payload-items))
    × ItemsFit (items_of (map plain (take l.payload-index l.payload-items)))

abbrev pub invariant-write_entries-loop-entry : goal.invariant-write_entries-loop-entry
invariant-write_entries-loop-entry l =
    (members_view l.members.entries ≡ json_members (entries_of (map plain_entry (take l.entry-index l.entry-items))))
    × EntriesFit (entries_of (map plain_entry (take l.entry-index l.entry-items)))
