-- Lists of payloads beside the JSON values that say them.
use Rattle.std.proofs.Common.{◌≡◌, ℕ, ◌+◌, ◌<◌, List, [], ◌∷◌, ◌++◌, map, take, length, get_or, String, Global, string_bytes, string_cmp, refl, sym, ap, ap₂, ◌∙◌, subst}
use Rattle.std.proofs.lemmas.List.{map-append}
use Rattle.std.proofs.lemmas.Grind.{take_at_read}
use Rattle.std.specs.Cmp.Lexicographic.{slice_cmp}
use Rattle.std.specs.Ordering.{nat_cmp}
use Rattle.std.specs.declared.cmp.Ordering.TheVariants.{Less}
use Rattle.std.specs.List.{AllByRecursion}
use Rattle.std.specs.List.Sorted.{IsStrictlySortedBy}
use Rattle.std.specs.Map.{keys_of}
use Rattle.serde_json.specs.Data as json
use Rattle.serde_json.specs.View.{view, items_of as json_list, items_view, members_view}
use Rattle.serde_json.specs.declared.value.Value.{Value}
use Rattle.mg_value.specs.declared.payload.Payload.{Payload}
use Rattle.mg_value.specs.declared.record_list.Entry.{Entry}
use Rattle.mg_value.specs.Plain.{items_of, entries_of}
use Rattle.mg_value.specs.Payload.{plain, plain_entry, KeysAscend}
use Rattle.mg_json.specs.Json.{json_of, json_items, json_members}

-- a member of an object: its name and its value
abbrev pub Member : Type 0
Member = String Global × Value

-- a member, and an entry, as a key and the JSON value there
abbrev pub member_said : Member → List ℕ × json.Data
member_said m = (string_bytes m.0, view m.1)

abbrev pub entry_said : Entry → List ℕ × json.Data
entry_said e = (e.key, json_of (plain e.value))

abbrev pub payload_said : Payload → json.Data
payload_said p = json_of (plain p)

-- ---- the items of a value

json_items-map : (ps : List Payload) → json_items (items_of (map plain ps)) ≡ json_list (map payload_said ps)
json_items-map [] = refl
json_items-map (p ∷ ps) = ap (json.item (payload_said p)) (json_items-map ps)

pub items_are : (ps : List Payload) (vs : List Value) → map payload_said ps ≡ map view vs → json_items (items_of (map plain ps)) ≡ items_view vs
items_are ps vs e = json_items-map ps ∙ ap json_list e

-- ---- the members of an object

abbrev members_said : List (List ℕ × json.Data) → json.Members
members_said [] = json.no_members
members_said (m ∷ ms) = json.member m.0 m.1 (members_said ms)

json_members-map : (es : List Entry) → json_members (entries_of (map plain_entry es)) ≡ members_said (map entry_said es)
json_members-map [] = refl
json_members-map (e ∷ es) = ap (json.member e.key (json_of (plain e.value))) (json_members-map es)

members_view-map : (ms : List Member) → members_said (map member_said ms) ≡ members_view ms
members_view-map [] = refl
members_view-map (m ∷ ms) = ap (json.member (string_bytes m.0) (view m.1)) (members_view-map ms)

pub members_are : (es : List Entry) (ms : List Member) → map entry_said es ≡ map member_said ms → json_members (entries_of (map plain_entry es)) ≡ members_view ms
members_are es ms e = json_members-map es ∙ ap members_said e ∙ members_view-map ms

-- ---- the keys of a record

abbrev first_parts : List (List ℕ × json.Data) → List (List ℕ)
first_parts xs = map (λ x. x.0) xs

keys-map : (es : List Entry) → map (λ e. e.key) (map plain_entry es) ≡ first_parts (map entry_said es)
keys-map [] = refl
keys-map (e ∷ es) = ap (λ ks. e.key ∷ ks) (keys-map es)

names-map : (ms : List Member) → first_parts (map member_said ms) ≡ map string_bytes (keys_of ms)
names-map [] = refl
names-map (m ∷ ms) = ap (λ ks. string_bytes m.0 ∷ ks) (names-map ms)

above_by_bytes : (k : String Global) (ks : List (String Global)) → AllByRecursion (λ l. string_cmp k l ≡ Less) ks → AllByRecursion (λ l. slice_cmp nat_cmp (string_bytes k) l ≡ Less) (map string_bytes ks)
above_by_bytes k [] h = tt
above_by_bytes k (l ∷ ks) h = (h.0, above_by_bytes k ks h.1)

sorted_by_bytes : (ks : List (String Global)) → IsStrictlySortedBy string_cmp ks → IsStrictlySortedBy (slice_cmp nat_cmp) (map string_bytes ks)
unfolding IsStrictlySortedBy
sorted_by_bytes [] h = tt
sorted_by_bytes (k ∷ ks) h = (above_by_bytes k ks h.0, sorted_by_bytes ks h.1)

-- entries that say the members of an object have its keys, in their order
pub keys_ascend : (es : List Entry) (ms : List Member) → map entry_said es ≡ map member_said ms → IsStrictlySortedBy string_cmp (keys_of ms) → KeysAscend (map plain_entry es)
keys_ascend es ms e h =
    subst (IsStrictlySortedBy (slice_cmp nat_cmp)) (sym (keys-map es ∙ ap first_parts e ∙ names-map ms)) (sorted_by_bytes (keys_of ms) h)

-- with one more JSON value a list says one more payload
pub one_more : (ps : List Payload) (i : ℕ) (p : Payload) (before after : List Value) (v : Value) → i < length ps → p ≡ get_or ps i p → map view before ≡ map payload_said (take i ps)
    → after ≡ before ++ v ∷ [] → view v ≡ payload_said p → map view after ≡ map payload_said (take (i + 1) ps)
one_more ps i p before after v within is said pushed value =
    ap (map view) pushed ∙ map-append view before (v ∷ []) ∙ ap₂ (λ xs y. xs ++ y ∷ []) said (value ∙ ap payload_said is)
    ∙ sym (ap (map payload_said) ((take_at_read ps i p within).1) ∙ map-append payload_said (take i ps) (get_or ps i p ∷ []))
