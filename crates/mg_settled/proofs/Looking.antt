-- The earliest time and the least bound, port by port.
use Rattle.std.proofs.Common.{◌≡◌, ℕ, ◌+◌, ◌<◌, min, List, [], ◌∷◌, ◌++◌, take, length, get_or, ap, sym, ◌∙◌, arith}
use Rattle.std.proofs.lemmas.List.{take_more}
use Rattle.mg_time.specs.Time.{done}
use Rattle.mg_settled.specs.Prefix.{StreamPrefix, first_time}
use Rattle.mg_settled.specs.Settled.{low}
use Rattle.mg_settled.specs.FirstSet.{earliest}

low-push : {X : Type 0} (ss : List (StreamPrefix X)) (s : StreamPrefix X) → low (ss ++ s ∷ []) ≡ min (low ss) s.bound
low-push [] s = omega arith
low-push (t ∷ ss) s = omega (arith, low-push ss s)

earliest-push : {X : Type 0} (ss : List (StreamPrefix X)) (s : StreamPrefix X) → earliest (ss ++ s ∷ []) ≡ min (earliest ss) (first_time s.packets done)
earliest-push [] s = omega arith
earliest-push (t ∷ ss) s = omega (arith, earliest-push ss s)

more : {X : Type 0} (ss : List (StreamPrefix X)) (i : ℕ) (s : StreamPrefix X) → i < length ss → s ≡ get_or ss i s → take (i + 1) ss ≡ take i ss ++ s ∷ []
more {X} ss i s lt is = take_more ss i s lt ∙ ap (λ (r : StreamPrefix X). take i ss ++ r ∷ []) (sym is)

-- with one port more
pub low-more : {X : Type 0} (ss : List (StreamPrefix X)) (i : ℕ) (s : StreamPrefix X) (l : ℕ) → i < length ss → s ≡ get_or ss i s → l ≡ low (take i ss) → min l s.bound ≡ low (take (i + 1) ss)
low-more {X} ss i s l lt is so = ap (λ (n : ℕ). min n s.bound) so ∙ sym (low-push (take i ss) s) ∙ ap (λ (rs : List (StreamPrefix X)). low rs) (sym (more ss i s lt is))

pub earliest-more : {X : Type 0} (ss : List (StreamPrefix X)) (i : ℕ) (s : StreamPrefix X) (e : ℕ) → i < length ss → s ≡ get_or ss i s → e ≡ earliest (take i ss) → min e (first_time s.packets done) ≡ earliest (take (i + 1) ss)
earliest-more {X} ss i s e lt is so = ap (λ (n : ℕ). min n (first_time s.packets done)) so ∙ sym (earliest-push (take i ss) s) ∙ ap (λ (rs : List (StreamPrefix X)). earliest rs) (sym (more ss i s lt is))
