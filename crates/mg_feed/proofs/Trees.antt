-- JSON values from their tokens: a token that is a value by itself, an array and an object that began, and a whole text.
use Rattle.std.proofs.Common.{◌≡◌, ◌-◌, ◌<◌, ℕ, List, [], ◌∷◌, length, Some, option_map, ap, ◌∙◌}
use Rattle.std.specs.Str.{IsUtf8}
use Rattle.json.specs.Token.{Token, begin_object, end_object, begin_array, end_array, key, string, number, boolean, null, bad}
use Rattle.json.specs.Lex.{tokens}
use Rattle.json.specs.Json.{value, items, members, parse_map}
use Rattle.json.proofs.Grammar.{value_is, value-begin_array, value-begin_object}
use Rattle.serde_json.specs.Data.{Data, Items, Members, no_members, array, object}
use Rattle.serde_json.specs.Read.{of_json, of_items, converted, max_depth}
use Rattle.mg_feed.specs.Form.{json_value}
use Rattle.mg_feed.specs.Code.PacketLines.{scalar_of}
use Rattle.mg_feed.proofs.Json.{json_value-read}
use Rattle.mg_feed.proofs.JsonParts.{members_behind, array_of, object_of, whole_read}

pub scalar_read : (depth : ℕ) (t : Token) (r : List Token) (v : Data) → scalar_of t ≡ Some v → converted of_json (value depth (t ∷ r)) ≡ Some (v, r)
scalar_read depth begin_object r v is = absurd (cc)
scalar_read depth end_object r v is = absurd (cc)
scalar_read depth begin_array r v is = absurd (cc)
scalar_read depth end_array r v is = absurd (cc)
scalar_read depth (key s) r v is = absurd (cc)
scalar_read depth (string s) r v is = ap (converted of_json) (value_is depth (string s ∷ r)) ∙ ap (option_map (λ d. (d, r))) is
scalar_read depth (number s) r v is = ap (converted of_json) (value_is depth (number s ∷ r)) ∙ ap (option_map (λ d. (d, r))) is
scalar_read depth (boolean b) r v is = ap (converted of_json) (value_is depth (boolean b ∷ r)) ∙ ap (option_map (λ d. (d, r))) is
scalar_read depth null r v is = ap (converted of_json) (value_is depth (null ∷ r)) ∙ ap (option_map (λ d. (d, r))) is
scalar_read depth bad r v is = absurd (cc)

pub array_read : (depth : ℕ) (ts r : List Token) (ds : Items) → 0 < depth → converted of_items (items (value (depth - 1)) (length ts) ts) ≡ Some (ds, r)
    → converted of_json (value depth (begin_array ∷ ts)) ≡ Some (array ds, r)
array_read depth ts r ds some is =
    ap (converted of_json) (value-begin_array depth ts some) ∙ array_of (items (value (depth - 1)) (length ts) ts) ∙ ap (parse_map array) is

pub object_read : (depth : ℕ) (ts r : List Token) (ms : Members) → 0 < depth
    → converted (members_behind no_members) (members (value (depth - 1)) (length ts) ts) ≡ Some (ms, r)
    → converted of_json (value depth (begin_object ∷ ts)) ≡ Some (object ms, r)
object_read depth ts r ms some is =
    ap (converted of_json) (value-begin_object depth ts some) ∙ object_of (members (value (depth - 1)) (length ts) ts) ∙ ap (parse_map object) is

pub text_read : (text : List ℕ) (d : Data) → IsUtf8 text → converted of_json (value max_depth (tokens text)) ≡ Some (d, []) → json_value text ≡ Some d
text_read text d utf8 is = json_value-read text d utf8 (whole_read (value max_depth (tokens text)) d is)
