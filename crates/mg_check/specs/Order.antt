-- The topological order. First come the nodes without inputs, in their order. Then, again and again, comes the node of
-- the least number among those that wait for no node that isn't taken yet.
use Rattle.std.specs.Prelude.{ℕ, zero, suc, List, [], ◌∷◌, ◌++◌, Bool, not, ◌&&◌, ◌||◌, ◌==◌, Option, None, Some, find, filter, ◌<◌}
use Rattle.std.specs.List.{list_any, list_all}
use Rattle.mg_calc.specs.Plan.{numbers}
use Rattle.mg_check.specs.declared.ordering.Link.{Link}

-- whether a number is among numbers
abbrev pub is_among : List ℕ → ℕ → Bool
is_among ns n = list_any (λ m. n == m) ns

-- whether a node isn't taken, and all nodes whose streams it reads by links are taken
abbrev pub is_next : List Link → List ℕ → ℕ → Bool
is_next links taken n = not (is_among taken n) && list_all (λ link. not (link.to == n) || is_among taken link.from) links

-- the nodes that are taken, or what goes on with one more node if there is a next one
abbrev pub then_next : List ℕ → (ℕ → List ℕ) → Option ℕ → List ℕ
then_next taken go_on None = taken
then_next taken go_on (Some n) = go_on n

-- the nodes that are taken, followed by at most so many more, one after the other
abbrev pub taken_on : ℕ → ℕ → List Link → List ℕ → List ℕ
taken_on zero count links taken = taken
taken_on (suc more) count links taken = then_next taken (λ n. taken_on more count links (taken ++ n ∷ [])) (find (is_next links taken) (numbers count))

-- the order of so many nodes; the sources are the nodes without inputs
abbrev pub order_of : ℕ → List ℕ → List Link → List ℕ
order_of count sources links = taken_on count count links sources

-- the nodes that the order leaves out
abbrev pub left_out : ℕ → List ℕ → List ℕ
left_out count order = filter (λ n. not (is_among order n)) (numbers count)

-- The link is between two of so many nodes.
pub record IsBetween (count : ℕ) (link : Link) : Type 0 where
  pub from : link.from < count
  pub to : link.to < count
