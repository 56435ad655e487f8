-- The payload that a JSON value says.
use Rattle.std.specs.Prelude.{ℤ, pos, Bool, true, false}
use Rattle.serde_json.specs.Data as json
use Rattle.mg_value.specs.declared.kind.Kind.{Kind}
use Rattle.mg_value.specs.declared.kind.Kind.TheVariants.{Any, Flag, Int, Text, Items as KindItems, Record}
use Rattle.mg_value.specs.Plain.{Plain, flag, int, text, items, entries, Items, no_items, item, Entries, no_entries, entry}

-- the number that a JSON number is, if it is whole
abbrev pub whole : json.Num → ℤ
whole (json.unsigned n) = pos n
whole (json.negative z) = z
whole (json.float x) = pos 0

-- The payload of a JSON value. If the value has a fault (`first_fault` of mg_json), it says no payload. What stands here for `null`
-- and for a fraction counts for nothing.
abbrev mutual
  pub plain_of : json.Data → Plain
  plain_of json.null = flag false
  plain_of (json.boolean b) = flag b
  plain_of (json.number n) = int (whole n)
  plain_of (json.string s) = text s
  plain_of (json.array ds) = items (plain_items ds)
  plain_of (json.object ms) = entries (plain_entries ms)

  pub plain_items : json.Items → Items
  plain_items json.no_items = no_items
  plain_items (json.item d ds) = item (plain_of d) (plain_items ds)

  pub plain_entries : json.Members → Entries
  plain_entries json.no_members = no_entries
  plain_entries (json.member k d ms) = entry k (plain_of d) (plain_entries ms)

-- whether a stream of a kind takes a payload. A stream of the kind Any takes each payload, and any other stream those of its kind
abbrev pub takes : Kind → Plain → Bool
takes Any p = true
takes Flag (flag b) = true
takes Int (int n) = true
takes Text (text s) = true
takes KindItems (items is) = true
takes Record (entries es) = true
takes kind p = false
