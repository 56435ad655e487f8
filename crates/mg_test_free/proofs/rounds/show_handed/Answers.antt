use Rattle.std.proofs.Common.{◌≡◌, ℕ, zero, suc, [], ◌∷◌, Some, slice_get, refl, arith}
use Rattle.std.proofs.lemmas.Option.{same_Some, none-some}
use Rattle.mg_test_free.proofs.rounds.show_handed.Goals as goal

-- the one place of a list of one
only : (i n : ℕ) → slice_get (zero ∷ []) i ≡ Some n → (i ≡ 0)
only zero n at = refl
only (suc i) n at = absurd (none-some n at)

first : (i n : ℕ) → slice_get (zero ∷ []) i ≡ Some n → 0 ≡ n
first zero n at = same_Some 0 n at
first (suc i) n at = absurd (none-some n at)

pub hand_on-requires-clause-rising : goal.hand_on-requires-clause-rising
hand_on-requires-clause-rising c = λ i j n m less a b. absurd (let last = only j m b in omega (arith, less, last))

pub hand_on-requires-clause-within : goal.hand_on-requires-clause-within
hand_on-requires-clause-within c = λ i n at. (let is = first i n at in let one = c.if-len-ne1.false in let long = c.len.ensures in omega (arith, is, one, long))
