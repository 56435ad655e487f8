-- What objects say, from what `serde_json` answers.
use Rattle.std.proofs.Common.{◌≡◌, List, [], ◌∷◌, length, Some, refl, ap, arith, String}
use Rattle.std.specs.declared.alloc.Global.{Global}
use Rattle.serde_json.specs.Data.{Data, null, boolean, number, string, array, object, Members}
use Rattle.serde_json.specs.Find.{as_object}
use Rattle.serde_json.specs.View.{members_view}
use Rattle.serde_json.specs.declared.value.Value.{Value}
use Rattle.mg_feed.specs.Form.{packets, count, member_count, listed, packets_form}

-- as many as the entries of the map
pub count-members_view : (entries : List (String Global × Value)) → count (members_view entries) ≡ length entries
count-members_view [] = refl
count-members_view (e ∷ es) = omega (arith, count-members_view es)

pub member_count-as_object : (d : Data) (ms : Members) → Some ms ≡ as_object d → count ms ≡ member_count d
member_count-as_object null ms is = cc
member_count-as_object (boolean b) ms is = cc
member_count-as_object (number n) ms is = cc
member_count-as_object (string s) ms is = cc
member_count-as_object (array ds) ms is = cc
member_count-as_object (object ms') ms is = let e : ms ≡ ms' = cc in ap count e

-- an object of packets that names a stream
pub packets_form-some : (d : Data) (entries : List (String Global × Value)) → (length entries ≡ 0 → ⊥)
    → packets_form (Some d) (Some (members_view entries)) ≡ Some (packets d (listed (members_view entries)))
packets_form-some d [] some = absurd (some refl)
packets_form-some d (e ∷ es) some = refl
