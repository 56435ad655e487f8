-- A summary worked by hand: three sets of three outputs. One has numbers, one of them negative, one has a text, which counts as
-- nothing, and one has no packet.
use Rattle.std.proofs.Common.{◌≡◌, ◌+◌, ◌^◌, ℕ, pos, negsuc, List, [], ◌∷◌, Option, None, Some, codes, refl}
use Rattle.std.specs.Fmt.{digits}
use Rattle.mg_value.specs.Payload.{Plain, int, text}
use Rattle.mg_value.specs.Packet.{Stamped}
use Rattle.mg_settled.specs.Settled.{TimedSet}
use Rattle.mg_answer.specs.Summary.{summary_text}

-- a packet at a number's time, and a set
abbrev packet : ℕ → Plain → Option (Stamped Plain)
packet number value = Some (record { at = number + 2 ^ 63; value = value })

abbrev set_at : ℕ → List (Option (Stamped Plain)) → TimedSet Plain
set_at number places = record { at = number + 2 ^ 63; set = places }

abbrev three_sets : List (TimedSet Plain)
three_sets =
    set_at 0 (packet 0 (int (pos 5)) ∷ None ∷ None ∷ [])
    ∷ set_at 10 (packet 10 (int (negsuc 11)) ∷ packet 10 (text (codes "7")) ∷ None ∷ [])
    ∷ set_at 20 (packet 20 (int (pos 4)) ∷ None ∷ None ∷ [])
    ∷ []

pub worked : summary_text (codes "total" ∷ codes "name" ∷ codes "none" ∷ []) three_sets
    ≡ codes "total packets=3 first=0 last=20 sum=-3\nname packets=1 first=10 last=10 sum=0\nnone packets=0 first=- last=- sum=0\n"
unfolding digits
worked = refl
