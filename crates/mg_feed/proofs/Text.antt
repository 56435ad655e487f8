-- The output's lines, byte for byte.
use Rattle.std.proofs.Common.{◌≡◌, ℕ, List, ◌++◌, codes, refl, ap, ◌∙◌, append_assoc}
use Rattle.serde_json.specs.Data.{string}
use Rattle.serde_json.specs.Written.{compact_text}
use Rattle.serde_json.proofs.OnLiterals.{serde_json_on_literals}
use Rattle.mg_time.specs.Time.{pre_stream, post_stream}
use Rattle.mg_value.specs.Payload.{Plain}
use Rattle.mg_value.specs.Packet.{Stamped}
use Rattle.mg_json.specs.Json.{json_of}
use Rattle.mg_feed.specs.Output.{line_text, time_data}
use Rattle.mg_feed.specs.Code.LineHead.{line_head, line_tail}

pub text-pre_stream : compact_text (string (codes "PreStream")) ≡ codes "\"PreStream\""
unfolding serde_json_on_literals
text-pre_stream = refl

pub text-post_stream : compact_text (string (codes "PostStream")) ≡ codes "\"PostStream\""
unfolding serde_json_on_literals
text-post_stream = refl

pub line_text-parts : (name : List ℕ) (p : Stamped Plain) → line_text name p ≡ line_head name ++ line_tail p
unfolding line_text line_head line_tail serde_json_on_literals
line_text-parts name p = simp append_assoc

-- the head, piece by piece
pub pieces_are_head : (name t1 t2 t3 : List ℕ) → t1 ≡ codes "{\"stream\":" → t2 ≡ t1 ++ compact_text (string name) → t3 ≡ t2 ++ codes ",\"ts\":" → t3 ≡ line_head name
unfolding line_head
pieces_are_head name t1 t2 t3 e1 e2 e3 = rw (e3, e2, e1) (simp append_assoc)

-- the pieces of a line, one after another at the end of a text
pub pieces_are_line : (t h t1 t2 t3 t4 t5 : List ℕ) (at : ℕ) (value : Plain)
    → t1 ≡ t ++ h → t2 ≡ t1 ++ compact_text (time_data at) → t3 ≡ t2 ++ codes ",\"value\":"
    → t4 ≡ t3 ++ compact_text (json_of value) → t5 ≡ t4 ++ codes "}\n" → t5 ≡ t ++ (h ++ line_tail (record { at = at; value = value }))
unfolding line_tail
pieces_are_line t h t1 t2 t3 t4 t5 at value e1 e2 e3 e4 e5 = rw (e5, e4, e3, e2, e1) (simp append_assoc)

pub time-pre_stream : (at : ℕ) → at ≡ pre_stream → compact_text (time_data at) ≡ codes "\"PreStream\""
time-pre_stream at is = ap (λ t. compact_text (time_data t)) is ∙ text-pre_stream

pub time-post_stream : (at : ℕ) → at ≡ post_stream → compact_text (time_data at) ≡ codes "\"PostStream\""
time-post_stream at is = ap (λ t. compact_text (time_data t)) is ∙ text-post_stream
