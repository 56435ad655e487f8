-- How many packets are held, summed up until the greatest number.
use Rattle.std.proofs.Common.{◌≡◌, ℕ, ◌+◌, ◌<◌, ◌≤◌, List, [], ◌∷◌, length, map, min, take, get_or, sum_by, refl, ap, sym, ◌∙◌, arith}
use Rattle.std.proofs.lemmas.List.{take_all}
use Rattle.std.proofs.lemmas.List.Sums.{sum_by_more, sum_by-cons}
use Rattle.mg_value.specs.Payload.{Plain}
use Rattle.mg_stream.specs.Queue.{Waiting}
use Rattle.mg_stream.specs.Pool.{Backlog, backlog_of}

module _ {X : Type 0} (f : X → ℕ) where
  pub held_more : (xs : List X) (i : ℕ) (d : X) (held more now top : ℕ) → i < length xs → more ≡ f (get_or xs i d) → held ≡ min (sum_by f (take i xs)) top → now ≡ min (held + more) top → now ≡ min (sum_by f (take (i + 1) xs)) top
  held_more xs i d held more now top there more_is held_is now_is = omega (arith, more_is, held_is, now_is, sum_by_more f xs i d there)

  pub held_all : (xs : List X) (i held top : ℕ) → length xs ≤ i → held ≡ min (sum_by f (take i xs)) top → held ≡ min (sum_by f xs) top
  held_all xs i held top end held_is = held_is ∙ ap (λ (ys : List X). min (sum_by f ys) top) (take_all i xs end)

-- a queue holds as many packets as contracts see of it
pub held_seen : (qs : List (Waiting Plain)) → sum_by (λ b. length b.packets) (map backlog_of qs) ≡ sum_by (λ q. length q.packets) qs
held_seen [] = refl
held_seen (q ∷ qs) =
    sum_by-cons (λ (b : Backlog Plain). length b.packets) (backlog_of q) (map backlog_of qs) ∙ ap (λ (n : ℕ). length q.packets + n) (held_seen qs) ∙ sym (sum_by-cons (λ (r : Waiting Plain). length r.packets) q qs)
