-- The text of a list, item by item.
use Rattle.std.proofs.Common.{◌≡◌, ℕ, List, ◌∷◌, ◌++◌, Bool, true, map, append_assoc}
use Rattle.serde_json.specs.Written.{compact_text, items_text, comma_if}
use Rattle.mg_value.specs.declared.payload.Payload.{Payload}
use Rattle.mg_value.specs.Plain.{items_of}
use Rattle.mg_value.specs.Payload.{plain}
use Rattle.mg_json.specs.Json.{json_of, json_items}

-- the rest of a list's text, with these items and the closing bracket; `later` says whether items stand before it
abbrev pub left_text : Bool → List Payload → List ℕ
left_text later ps = items_text later (json_items (items_of (map plain ps)))

-- an item put after a comma, or after the bracket
pub item_put : (t t1 t2 : List ℕ) (later : Bool) (p : Payload) (ps : List Payload) → t1 ≡ t ++ comma_if later → t2 ≡ t1 ++ compact_text (json_of (plain p))
    → t ++ left_text later (p ∷ ps) ≡ t2 ++ left_text true ps
item_put t t1 t2 later p ps comma item = rw (item, comma) (simp append_assoc)
