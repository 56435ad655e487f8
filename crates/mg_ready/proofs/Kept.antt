-- A set of nodes whose node at a place goes out.
use Rattle.std.proofs.Common.{◌≡◌, ℕ, ◌+◌, ◌<◌, cond, Bool, true, false, List, length, get_or, slice_index, slice_set, ◌∙◌, sym, ap, subst, arith, get_or-set_same}
use Rattle.std.proofs.lemmas.Bool.{false≢true}
use Rattle.std.specs.List.{count_by}
use Rattle.std.proofs.lemmas.List.Sums.{sum_by-set}
use Rattle.mg_ready.specs.Ready.{IsIn}

pub IsIn-out : (order : List ℕ) (is_in after : List Bool) (p node : ℕ) → ((q : ℕ) → q < length order → slice_index order q ≡ node → q ≡ p) → p < length is_in
    → after ≡ slice_set is_in p false → ¬ IsIn (record { order = order; is_in = after }) node
IsIn-out order is_in after p node only inside is_after (q, has) =
    let out : get_or after p false ≡ false = rw is_after (get_or-set_same is_in p false false inside) in
    false≢true (sym out ∙ subst (λ k. get_or after k false ≡ true) (only q has.within has.node_at) has.there)

-- once a place is taken out, fewer are in
pub count_by-out : (is_in after : List Bool) (p : ℕ) → p < length is_in → get_or is_in p false ≡ true → after ≡ slice_set is_in p false
    → count_by (λ b. b) after < count_by (λ b. b) is_in
count_by-out is_in after p inside there is_after =
    let step : count_by (λ b. b) (slice_set is_in p false) + cond {A = ℕ} (get_or is_in p false) 1 0 ≡ count_by (λ b. b) is_in + 0 = sum_by-set (λ b. cond {A = ℕ} b 1 0) is_in p false false inside in
    let one : cond {A = ℕ} (get_or is_in p false) 1 0 ≡ 1 = ap (λ b. cond {A = ℕ} b 1 0) there in
    let lost : count_by (λ b. b) (slice_set is_in p false) < count_by (λ b. b) is_in = omega (arith, step, one) in
    subst (λ l. count_by (λ b. b) l < count_by (λ b. b) is_in) (sym is_after) lost
