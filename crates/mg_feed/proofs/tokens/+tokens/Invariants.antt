use Rattle.std.proofs.Common.{◌≡◌, ℕ, ◌+◌, ◌*◌, ◌≤◌, length}
use Rattle.json.specs.Json.{items, members, value, parse_map}
use Rattle.serde_json.specs.Data.{no_members}
use Rattle.serde_json.specs.Read.{of_items, converted}
use Rattle.serde_json.specs.View.{members_view}
use Rattle.mg_feed.proofs.JsonParts.{members_behind, items_before}
use Rattle.mg_feed.proofs.tokens.+tokens.Given as goal

abbrev pub decreases-value_by_tokens : goal.decreases-value_by_tokens
decreases-value_by_tokens l = 4 * l.depth + 2

abbrev pub decreases-array_by : goal.decreases-array_by
decreases-array_by l = 4 * l.depth + 1

abbrev pub decreases-object_by : goal.decreases-object_by
decreases-object_by l = 4 * l.depth + 1

abbrev pub decreases-items_by : goal.decreases-items_by
decreases-items_by l = 4 * l.depth + 3

abbrev pub decreases-members_by : goal.decreases-members_by
decreases-members_by l = 4 * l.depth + 3

-- the items so far, with the items read from what is left, are the items read from all
abbrev pub invariant-items_by-items : goal.invariant-items_by-items
invariant-items_by-items l =
    (n : ℕ) × (length l.reader ≤ n)
    × (converted of_items (items (value l.depth) (length l.initial.reader) l.initial.reader) ≡ parse_map (items_before l.found.items) (converted of_items (items (value l.depth) n l.reader)))
    × (length l.reader ≤ length l.initial.reader)

abbrev pub decreases-items_by-items : goal.decreases-items_by-items
decreases-items_by-items l = length l.reader

abbrev pub invariant-members_by-members : goal.invariant-members_by-members
invariant-members_by-members l =
    (n : ℕ) × (length l.reader ≤ n)
    × (converted (members_behind no_members) (members (value l.depth) (length l.initial.reader) l.initial.reader) ≡ converted (members_behind (members_view l.found.entries)) (members (value l.depth) n l.reader))
    × (length l.reader ≤ length l.initial.reader)

abbrev pub decreases-members_by-members : goal.decreases-members_by-members
decreases-members_by-members l = length l.reader
