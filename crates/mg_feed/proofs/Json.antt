-- The JSON value of a text, from what `serde_json` answers.
use Rattle.std.proofs.Common.{◌≡◌, ℕ, List, Bool, true, false, Option, Some, None, if◌then◌else◌, refl}
use Rattle.std.specs.Str.{IsUtf8, is_utf8}
use Rattle.std.proofs.lemmas.Str.{is_utf8-from_IsUtf8, IsUtf8-from_is_utf8}
use Rattle.serde_json.specs.Data.{Data}
use Rattle.serde_json.specs.Read.{read}
use Rattle.mg_feed.specs.Form.{json_value}

pub json_value-read : (text : List ℕ) (d : Data) → IsUtf8 text → read text ≡ Some d → json_value text ≡ Some d
unfolding json_value
json_value-read text d utf8 is = rw (is_utf8-from_IsUtf8 text utf8) is

refused_by : (b : Bool) (r : Option Data) → (b ≡ true → r ≡ None) → (if b then r else None) ≡ None
refused_by false r none = refl
refused_by true r none = none refl

pub json_value-refused : (text : List ℕ) → (IsUtf8 text → read text ≡ None) → json_value text ≡ None
unfolding json_value
json_value-refused text none = refused_by (is_utf8 text) (read text) (λ yes. none (IsUtf8-from_is_utf8 text yes))
