-- Payloads, after the page Packets of the MediaPipe framework: a packet's value never changes, and its copies share
-- it. Definitions see a payload as a plain tree.
use Rattle.std.specs.Prelude.{List, map}
use Rattle.std.specs.List.Sorted.{IsStrictlySortedBy}
use Rattle.std.specs.Ordering.{nat_cmp}
use Rattle.std.specs.Cmp.Lexicographic.{slice_cmp}
use Rattle.mg_value.specs.declared.payload.Payload.{Payload}
use Rattle.mg_value.specs.declared.payload.Payload.TheVariants.{Flag, Int, Text, Items, Record}
use Rattle.mg_value.specs.declared.record_list.Entry.{Entry}
use Rattle.mg_value.specs.Plain.{PlainEntry, items_of, entries_of}
pub use Rattle.mg_value.specs.Plain.{Plain, flag, int, text, items, entries}

-- the plain tree of a payload
abbrev pub plain : Payload → Plain
plain (Flag b) = flag b
plain (Int number) = int number
plain (Text bytes) = text bytes
plain (Items list) = items (items_of list)
plain (Record list) = entries (entries_of list)

-- an entry of a record, with the plain tree of its payload
abbrev pub plain_entry : Entry → PlainEntry
plain_entry e = record { key = e.key; value = plain e.value }

-- the keys of a record ascend in byte order, each above the one before it
abbrev pub KeysAscend : List PlainEntry → Type 0
KeysAscend es = IsStrictlySortedBy (slice_cmp nat_cmp) (map (λ e. e.key) es)
