-- What lies inside a list or a record of payloads nests less deep.
use Rattle.std.specs.Prelude.{◌≤◌, max, List, [], ◌∷◌, map}
use Rattle.std.proofs.Common.{arith}
use denote.Param.Weighed.{most}
use Rattle.mg_value.specs.declared.payload.Payload.{Payload}
use Rattle.mg_value.specs.declared.payload.Payload.TheVariants.{Flag, Int, Text, Items, Record}
use Rattle.mg_value.specs.declared.record_list.Entry.{Entry}
use Rattle.mg_value.specs.declared.payload_list.PayloadList.TheDeep.{deep-Payload, deep-Entry}
use Rattle.mg_value.specs.Plain.{depth, items_of, items_depth, entries_of, entries_depth}
use Rattle.mg_value.specs.Payload.{plain, plain_entry}

pub deep_le-depth : (p : Payload) → deep-Payload p ≤ depth (plain p)
deep_le-depth (Flag b) = omega arith
deep_le-depth (Int n) = omega arith
deep_le-depth (Text s) = omega arith
deep_le-depth (Items list) = omega arith
deep_le-depth (Record list) = omega arith

pub entry_le-depth : (e : Entry) → deep-Entry e ≤ depth (plain e.value)
entry_le-depth e = omega (arith, deep_le-depth e.value)

pub items_fall : (ps : List Payload) → max (most deep-Payload ps) 0 ≤ items_depth (items_of (map plain ps))
items_fall [] = omega arith
items_fall (p ∷ ps) = omega (arith, deep_le-depth p, items_fall ps)

pub entries_fall : (es : List Entry) → max (most deep-Entry es) 0 ≤ entries_depth (entries_of (map plain_entry es))
entries_fall [] = omega arith
entries_fall (e ∷ es) = omega (arith, entry_le-depth e, entries_fall es)
