-- What a usual packet line says, from its tokens.
use Rattle.std.proofs.Common.{◌≡◌, ◌-◌, ℕ, List, [], ◌∷◌, length, Option, Some, codes, option_and_then, ap, ◌∙◌, refl, arith}
use Rattle.std.specs.Str.{IsUtf8}
use Rattle.json.specs.Token.{Token, end_object, key, string, number}
use Rattle.json.specs.Lex.{tokens}
use Rattle.json.specs.Json.{value, members}
use Rattle.serde_json.specs.Data.{Data, Members, no_members, member, object, string as text_data, put}
use Rattle.serde_json.specs.Read.{of_json, converted, max_depth}
use Rattle.mg_feed.specs.Form.{packets, form_of, json_value}
use Rattle.mg_feed.specs.Code.PacketLines.{number_written, value_at, packet_line_tokens, IsPacketLine}
use Rattle.mg_feed.proofs.JsonParts.{members_behind, member_read, members_over}
use Rattle.mg_feed.proofs.Trees.{scalar_read, object_read, text_read}

-- the members of the object that a packet line is
abbrev usual_members : List ℕ → Data → Data → Members
usual_members name time v = member (codes "stream") (text_data name) (member (codes "ts") time (member (codes "value") v no_members))

-- what the members that come next give, after others
abbrev members_read : Members → ℕ → List Token → Option (Members × List Token)
members_read old n ts = converted (members_behind old) (members (value 126) n ts)

read_packet_line : (name s : List ℕ) (rest : List Token) (time v : Data) → number_written s ≡ Some time → value_at rest ≡ Some (v, end_object ∷ [])
    → converted of_json (value max_depth (packet_line_tokens name s rest)) ≡ Some (object (usual_members name time v), [])
read_packet_line name s rest time v timed valued =
    let timed_rest = key (codes "value") ∷ rest in
    let named_rest = key (codes "ts") ∷ number s ∷ timed_rest in
    let all = key (codes "stream") ∷ string name ∷ named_rest in
    let n : ℕ = length all in
    let named = put (codes "stream") (text_data name) no_members in
    let placed = put (codes "ts") time named in
    let first : members_read no_members n all ≡ members_read named (n - 1) named_rest =
    member_read (value 126) no_members n (codes "stream") all (string name ∷ named_rest) named_rest (text_data name) (omega arith) refl
    (scalar_read 126 (string name) named_rest (text_data name) refl) in
    let second : members_read named (n - 1) named_rest ≡ members_read placed (n - 1 - 1) timed_rest =
    member_read (value 126) named (n - 1) (codes "ts") named_rest (number s ∷ timed_rest) timed_rest time (omega arith) refl
    (scalar_read 126 (number s) timed_rest time timed) in
    let third : members_read placed (n - 1 - 1) timed_rest ≡ members_read (put (codes "value") v placed) (n - 1 - 1 - 1) (end_object ∷ []) =
    member_read (value 126) placed (n - 1 - 1) (codes "value") timed_rest rest (end_object ∷ []) v (omega arith) refl valued in
    let over : members_read (put (codes "value") v placed) (n - 1 - 1 - 1) (end_object ∷ []) ≡ Some (usual_members name time v, []) =
    members_over (value 126) (put (codes "value") v placed) (n - 1 - 1 - 1) (end_object ∷ []) [] (omega arith) refl in
    object_read max_depth all [] (usual_members name time v) (omega arith) (first ∙ second ∙ third ∙ over)

form-usual_members : (name : List ℕ) (time v : Data) → form_of (object (usual_members name time v)) ≡ Some (packets time (record { name = name; value = v } ∷ []))
form-usual_members name time v = refl

pub form-packet_line : (text name : List ℕ) (time v : Data) → IsUtf8 text → IsPacketLine (tokens text) name time v
    → option_and_then form_of (json_value text) ≡ Some (packets time (record { name = name; value = v } ∷ []))
form-packet_line text name time v utf8 is =
    let said : json_value text ≡ Some (object (usual_members name time v)) =
    text_read text (object (usual_members name time v)) utf8 (ap (λ ts. converted of_json (value max_depth ts)) is.2 ∙ read_packet_line name is.0 is.1 time v is.3 is.4) in
    ap (option_and_then form_of) said ∙ form-usual_members name time v
