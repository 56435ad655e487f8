-- How many packets parts hold, if each part tells at most the greatest number.
use Rattle.std.proofs.Common.{◌≡◌, ℕ, ◌+◌, ◌<◌, List, length, min, take, get_or, sum_by, arith}
use Rattle.std.proofs.lemmas.List.Sums.{sum_by_more}

pub part_more : {X : Type 0} (f : X → ℕ) (xs : List X) (i : ℕ) (d : X) (held more now top : ℕ) → i < length xs → more ≡ min (f (get_or xs i d)) top → held ≡ min (sum_by f (take i xs)) top → now ≡ min (held + more) top
    → now ≡ min (sum_by f (take (i + 1) xs)) top
part_more {X} f xs i d held more now top there more_is held_is now_is = omega (arith, more_is, held_is, now_is, sum_by_more f xs i d there)
