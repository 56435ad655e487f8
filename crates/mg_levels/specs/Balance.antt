-- The rule of a level: what was put in is what was taken out and what is there, however it is weighed.
use Rattle.std.specs.Prelude.{◌≡◌, ℕ, ◌+◌, ◌-◌, List, [], ◌∷◌, ◌++◌}
use mathlib.Core.Option.{some}
use lib.ListN.{get_elem?}
use Rattle.mg_levels.specs.declared.share.Share.{Share}

-- what a thread has of a level: its portion, and the places that it put in and took out
abbrev pub share : ℕ → List ℕ → List ℕ → Share
share portion put taken = record { portion = portion; put = put; taken = taken }

-- the whole portion of a level, 2^32: the portions of all threads add up to it
abbrev pub whole : ℕ
whole = 4294967296

-- a share after one more place was put in
abbrev pub with_put : Share → ℕ → Share
with_put v place = share v.portion (v.put ++ place ∷ []) v.taken

-- a share after one more place was taken out
abbrev pub with_taken : Share → ℕ → Share
with_taken v place = share v.portion v.put (v.taken ++ place ∷ [])

-- a share after an amount of its portion was handed over
abbrev pub kept_of : ℕ → Share → Share
kept_of amount v = share (v.portion - amount) v.put v.taken

-- two shares as one
abbrev pub both : Share → Share → Share
both v w = share (v.portion + w.portion) (v.put ++ w.put) (v.taken ++ w.taken)

-- the weights of the members of a list, added up
abbrev pub weigh : (ℕ → ℕ) → List ℕ → ℕ
weigh h [] = 0
weigh h (x ∷ xs) = h x + weigh h xs

-- the values of a function at the members of a list, added up
abbrev pub total : {A : Type 0} → (A → ℕ) → List A → ℕ
total f [] = 0
total f (x ∷ xs) = f x + total f xs

-- a share without a portion has put in and taken out nothing
abbrev pub IdleIsEmpty : List Share → Type 0
IdleIsEmpty views = (number : ℕ) (v : Share) → get_elem? views number ≡ some v → v.portion ≡ 0 → (v.put ≡ []) × (v.taken ≡ [])

-- a level that holds these places keeps the rule, by the shares of all threads
pub record Balanced (places : List ℕ) (views : List Share) : Type 0 where
  pub portions : total (λ (v : Share). v.portion) views ≡ whole
  pub even : (h : ℕ → ℕ) → total (λ (v : Share). weigh h v.put) views ≡ total (λ (v : Share). weigh h v.taken) views + weigh h places
  pub idle : IdleIsEmpty views

-- a share with the whole portion knows what the level holds: what it put in and didn't take out
abbrev pub Knows : Share → List ℕ → Type 0
Knows v places = v.portion ≡ whole → (h : ℕ → ℕ) → weigh h v.put ≡ weigh h v.taken + weigh h places
