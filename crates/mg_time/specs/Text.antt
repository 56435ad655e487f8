-- The texts of timestamps, as packet lines and graph reports have them.
use Rattle.std.specs.Prelude.{◌≡◌, ◌⊎◌, ℕ, List, codes, ◌==◌, if◌then◌else◌}
use Rattle.std.specs.Fmt.{signed_decimal}
use Rattle.mg_time.specs.Time.{raw_of, IsRange, unset, unstarted, pre_stream, post_stream, one_over_post_stream, done}

-- A text spells a time that a packet may carry: it is one of two names, or the number of a time of the range. A number is
-- written in decimal as std's `signed_decimal` has it, so it has one spelling. It has no zero before its digits. It has a minus
-- sign if it is negative, and else no sign.
abbrev pub Spells : List ℕ → ℕ → Type 0
Spells text t =
    ((text ≡ codes "PreStream") × (t ≡ pre_stream))
    ⊎ ((text ≡ codes "PostStream") × (t ≡ post_stream))
    ⊎ (IsRange t × (text ≡ signed_decimal (raw_of t)))

-- The text of any time: the number of a time of the range, and the name of every other.
abbrev pub time_text : ℕ → List ℕ
time_text t =
    if t == unset then codes "Unset"
    else (if t == unstarted then codes "Unstarted"
    else (if t == pre_stream then codes "PreStream"
    else (if t == post_stream then codes "PostStream"
    else (if t == one_over_post_stream then codes "OneOverPostStream"
    else (if t == done then codes "Done"
    else signed_decimal (raw_of t))))))
