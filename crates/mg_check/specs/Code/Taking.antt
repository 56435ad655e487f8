-- What the code keeps while it makes the topological order.
use Rattle.std.specs.Prelude.{◌≡◌, ℕ, ◌+◌, ◌<◌, List, [], Bool, true, false, not, ◌&&◌, ◌==◌, length, map, filter, slice_index, slice_index_or, count_by}
use Rattle.std.specs.BTreeSet.{BTreeSet, contains}
use Rattle.std.specs.Ordering.{nat_cmp}
use Rattle.mg_check.specs.declared.ordering.Link.{Link}
use Rattle.mg_check.specs.Order.{is_among}

-- whether a place is marked; a place past the end isn't
abbrev pub is_marked : List Bool → ℕ → Bool
is_marked marks n = slice_index_or marks n false

-- There are so many places, and exactly those at the numbers are marked.
pub record HasMarks (count : ℕ) (ns : List ℕ) (marks : List Bool) : Type 0 where
  pub len : length marks ≡ count
  pub marked : (n : ℕ) → n < count → is_marked marks n ≡ is_among ns n

-- the nodes that read what a node writes, once for each link
abbrev pub readers_of : List Link → ℕ → List ℕ
readers_of links n = map (λ link. link.to) (filter (λ link. link.from == n) links)

-- There is a row for each of so many nodes, which has its readers.
pub record HasReaders (count : ℕ) (links : List Link) (found : List (List ℕ)) : Type 0 where
  pub len : length found ≡ count
  pub rows : (n : ℕ) → n < count → slice_index_or found n [] ≡ readers_of links n

-- whether a node waits for a link: it reads by it, and the node that writes isn't taken
abbrev pub waits_for : (ℕ → Bool) → ℕ → Link → Bool
waits_for taken n link = link.to == n && not (taken link.from)

-- The counts are, for each of so many nodes, how many links it waits for.
pub record HasWaits (count : ℕ) (links : List Link) (taken : ℕ → Bool) (waiting : List ℕ) : Type 0 where
  pub len : length waiting ≡ count
  pub told : (n : ℕ) → n < count → slice_index waiting n ≡ count_by (waits_for taken n) links

-- The new counts are the old ones, less the times that each node stands among the readers.
pub record HasReleased (readers old new : List ℕ) : Type 0 where
  pub len : length new ≡ length old
  pub told : (n : ℕ) → n < length old → slice_index new n + count_by (λ m. m == n) readers ≡ slice_index old n

-- whether a node isn't taken and waits for none
abbrev pub may_be_taken : List Bool → List ℕ → ℕ → Bool
may_be_taken taken waiting n = not (is_marked taken n) && slice_index waiting n == 0

-- The set has exactly those numbers below a bound that pass a test.
pub record HasPassing (bound : ℕ) (passes : ℕ → Bool) (set : BTreeSet ℕ) : Type 0 where
  pub below : (n : ℕ) → contains nat_cmp set n ≡ true → n < bound
  pub passing : (n : ℕ) → n < bound → contains nat_cmp set n ≡ passes n

-- The marks, the counts and the set are those of an order so far. The marks say which nodes are taken, and the counts
-- how many links each node waits for. The set has the nodes that may be taken next.
pub record IsAfter (count : ℕ) (links : List Link) (order : List ℕ) (taken : List Bool) (waiting : List ℕ) (ready : BTreeSet ℕ) : Type 0 where
  pub marks : HasMarks count order taken
  pub waits : HasWaits count links (is_among order) waiting
  pub free : HasPassing count (may_be_taken taken waiting) ready
