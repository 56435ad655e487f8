-- The payload that a JSON value says, from the value that says a payload.
use Rattle.std.proofs.Common.{◌≡◌, ℤ, pos, negsuc, refl, ap}
use Rattle.mg_value.specs.Plain.{Plain, flag, int, text, items, entries, Items, no_items, item, Entries, no_entries, entry}
use Rattle.mg_json.specs.Json.{json_of, json_items, json_members}
use Rattle.serde_json.specs.Find.{of_integer}
use Rattle.mg_feed.specs.Value.{whole, plain_of, plain_items, plain_entries}

whole-of : (z : ℤ) → whole (of_integer z) ≡ z
whole-of (pos n) = refl
whole-of (negsuc n) = refl

mutual
  pub plain_of-json : (p : Plain) → plain_of (json_of p) ≡ p
  plain_of-json (flag b) = refl
  plain_of-json (int n) = ap int (whole-of n)
  plain_of-json (text s) = refl
  plain_of-json (items is) = ap items (plain_items-json is)
  plain_of-json (entries es) = ap entries (plain_entries-json es)

  plain_items-json : (is : Items) → plain_items (json_items is) ≡ is
  plain_items-json no_items = refl
  plain_items-json (item p ps) = λ i. item (plain_of-json p i) (plain_items-json ps i)

  plain_entries-json : (es : Entries) → plain_entries (json_members es) ≡ es
  plain_entries-json no_entries = refl
  plain_entries-json (entry k p es) = λ i. entry k (plain_of-json p i) (plain_entries-json es i)
