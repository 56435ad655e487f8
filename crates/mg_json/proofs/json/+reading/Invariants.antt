use Rattle.std.proofs.Common.{◌≡◌, ◌≤◌, ◌+◌, List, ◌++◌, map, take, drop}
use Rattle.serde_json.specs.View.{view, items_view, members_view}
use Rattle.mg_json.specs.Json.{items_faults, members_faults}
use Rattle.mg_json.proofs.JsonLists.{Member, member_said, entry_said, payload_said}
use Rattle.mg_json.proofs.json.+reading.Given as goal

abbrev pub invariant-read_items-loop-value : goal.invariant-read_items-loop-value
invariant-read_items-loop-value l =
    (l.depth ≤ 16) × (map payload_said l.payloads.items ≡ map view (take l.value-index l.values))
    × (items_faults (l.depth + 1) (items_view l.values) ≡ items_faults (l.depth + 1) (items_view (drop l.value-index l.values)))

abbrev pub invariant-read_entries-loop-name : goal.invariant-read_entries-loop-name
invariant-read_entries-loop-name l =
    (l.depth ≤ 16) × (done : List Member) × (l.members.entries ≡ done ++ l.name-iterator)
    × (map entry_said l.entries.items ≡ map member_said done)
    × (members_faults (l.depth + 1) (members_view l.members.entries) ≡ members_faults (l.depth + 1) (members_view l.name-iterator))
