-- At which times the packets go when some sets are claimed.
use Rattle.std.proofs.Common.{◌≡◌, ℕ, ◌<◌, ◌≤◌, true, false, ◌||◌, inl, inr, List, [], ◌∷◌, ◌++◌, refl, arith, leb, leb-true, le-leb}
use Rattle.std.specs.List.{list_any}
use Rattle.std.proofs.lemmas.Bool.{cases_Bool, or_left, or_right, false_from_ne_true}
use Rattle.std.proofs.lemmas.List.Folds.{list_any-append}
use Rattle.mg_value.specs.declared.policy.Policy.{Policy}
use Rattle.mg_value.specs.declared.policy.Policy.TheVariants.{Default, Mux}
use Rattle.mg_settled.specs.Left.{goes}
use Rattle.mg_settled.proofs.Times.{In, is_among-In, In-is_among}

-- a set stands at such a time or above
upto_from : (t : ℕ) (ts : List ℕ) → list_any (λ u. leb t u) ts ≡ true → (u : ℕ) × In u ts × (t ≤ u)
upto_from t [] e = absurd cc
upto_from t (u ∷ us) e = elim (cases_Bool (leb t u)) [
  | inl le ↦ (u, inl refl, leb-true t u le)
  | inr above ↦ (let rest = upto_from t us (rw above at e) in (rest.0, inr rest.1, rest.2))
]

upto_here : (t : ℕ) (ts : List ℕ) → In t ts → list_any (λ u. leb t u) ts ≡ true
upto_here t [] i = absurd i
upto_here t (u ∷ us) i = elim i [
  | inl e ↦ or_left _ _ (le-leb t u (omega (arith, e)))
  | inr j ↦ or_right _ _ (upto_here t us j)
]

pub goes-upto : (policy : Policy) (ts : List ℕ) (t : ℕ) → goes policy ts t ≡ true → (u : ℕ) × In u ts × (t ≤ u)
goes-upto Default ts t e = (t, is_among-In t ts e, omega arith)
goes-upto Mux ts t e = upto_from t ts e

-- the packets of a set go
pub goes-here : (policy : Policy) (ts : List ℕ) (t : ℕ) → In t ts → goes policy ts t ≡ true
goes-here Default ts t i = In-is_among t ts i
goes-here Mux ts t i = upto_here t ts i

-- those above all sets stay
pub goes-above : (policy : Policy) (ts : List ℕ) (t : ℕ) → ((u : ℕ) → In u ts → u < t) → goes policy ts t ≡ false
goes-above policy ts t above = false_from_ne_true (goes policy ts t) (λ e. (let at = goes-upto policy ts t e in let below = above at.0 at.1 in let le = at.2 in omega (arith, below, le)))

pub goes-none : (policy : Policy) (t : ℕ) → goes policy [] t ≡ false
goes-none Default t = refl
goes-none Mux t = refl

pub goes-append : (policy : Policy) (ts us : List ℕ) (t : ℕ) → goes policy (ts ++ us) t ≡ (goes policy ts t || goes policy us t)
goes-append Default ts us t = list_any-append _ ts us
goes-append Mux ts us t = list_any-append _ ts us
