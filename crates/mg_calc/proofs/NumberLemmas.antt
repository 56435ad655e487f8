-- Sums of the numbers of a set, one place more at a time.
use Rattle.std.proofs.Common.{◌≡◌, ℕ, ◌+◌, ◌<◌, ℤ, pos, ◌+ℤ◌, List, ◌∷◌, [], ◌++◌, Option, None, map, take, length, get_or, refl}
use Rattle.std.proofs.lemmas.Option.{unwrap_or-slice_get}
use Rattle.std.proofs.lemmas.List.{take_more, map-append}
use Rattle.std.specs.List.{fold}
use Rattle.mg_value.specs.Plain.{Plain}
use Rattle.mg_value.specs.Packet.{Stamped}
use Rattle.mg_calc.specs.Values.{place_at, number_at, total}

fold-last : (a : ℤ) (ns : List ℤ) (n : ℤ) → fold ◌+ℤ◌ a (ns ++ n ∷ []) ≡ fold ◌+ℤ◌ a ns +ℤ n
fold-last a [] n = refl
fold-last a (m ∷ ns) n = fold-last (a +ℤ m) ns n

pub total-take-more : (i : ℕ) (set : List (Option (Stamped Plain))) → i < length set
    → total (take (i + 1) set) ≡ total (take i set) +ℤ number_at (place_at set i)
total-take-more i set below =
    rw (take_more set i None below, map-append number_at (take i set) (get_or set i None ∷ []), unwrap_or-slice_get set i None)
    (fold-last (pos 0) (map number_at (take i set)) (number_at (get_or set i None)))
