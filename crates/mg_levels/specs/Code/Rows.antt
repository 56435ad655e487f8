-- Hands at all levels.
use Rattle.std.specs.Prelude.{ℕ, List, [], ◌∷◌, map}
use Rattle.mg_levels.specs.Balance.{total}
use Rattle.mg_levels.specs.Hands.{HandView, hand_view, joined}
use Rattle.mg_levels.specs.Places.{times_of}
use Rattle.mg_levels.specs.declared.hand.Hand.{Hand}

-- what each hand has done at its level
abbrev pub views_in : List Hand → List HandView
views_in hands = map hand_view hands

-- the portion of each hand
abbrev pub portions_in : List Hand → List ℕ
portions_in hands = map (λ (h : Hand). h.pass.me.0.client.portion) hands

-- each hand with the other one at its level taken in; a hand past the others stays
abbrev pub joined_all : List HandView → List HandView → List HandView
joined_all [] ys = []
joined_all (x ∷ xs) [] = x ∷ xs
joined_all (x ∷ xs) (y ∷ ys) = joined x y ∷ joined_all xs ys

-- how often some hands together put a node in
abbrev pub total_put : List ℕ → ℕ → List HandView → ℕ
total_put order node hands = total (λ (h : HandView). times_of order node h.put) hands

-- how often some hands together took a node out
abbrev pub total_taken : List ℕ → ℕ → List HandView → ℕ
total_taken order node hands = total (λ (h : HandView). times_of order node h.taken) hands
