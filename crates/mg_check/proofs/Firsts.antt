-- The first that passes, in what is left of a list.
use Rattle.std.proofs.Common.{ℕ, ◌+◌, ◌<◌, ◌≡◌, List, Bool, true, false, Some, length, drop, get_or, map, ap, ◌∙◌}
use Rattle.std.specs.Prelude.{position, find}
use Rattle.std.specs.List.{position_from}
use Rattle.std.proofs.lemmas.Bool.{cond-true, cond-false}
use Rattle.std.proofs.lemmas.Iterator.Adapters.{position_from-zero}
use Rattle.mg_kinds.proofs.Lists.{left}

pub place_begins : {X : Type 0} (p : X → Bool) (xs : List X) → position p xs ≡ position_from p 0 xs
place_begins p xs = position_from-zero p xs

pub found_here : {X Y : Type 0} (p : Y → Bool) (f : X → Y) (xs : List X) (i : ℕ) (x : X) → i < length xs → x ≡ get_or xs i x → p (f x) ≡ true → find p (map f (drop i xs)) ≡ Some (f x)
found_here p f xs i x inside here passes = ap (find p) (left f xs i x inside here) ∙ cond-true (p (f x)) (Some (f x)) (find p (map f (drop (i + 1) xs))) passes

pub found_later : {X Y : Type 0} (p : Y → Bool) (f : X → Y) (xs : List X) (i : ℕ) (x : X) → i < length xs → x ≡ get_or xs i x → p (f x) ≡ false
    → find p (map f (drop i xs)) ≡ find p (map f (drop (i + 1) xs))
found_later p f xs i x inside here fails = ap (find p) (left f xs i x inside here) ∙ cond-false (p (f x)) (Some (f x)) (find p (map f (drop (i + 1) xs))) fails
