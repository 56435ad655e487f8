-- Cycles: nodes that can come in no order, since each of them reads what one of them writes.
use Rattle.std.specs.Prelude.{ℕ, zero, suc, ◌≡◌, ◌==◌, ◌&&◌, Bool, List, filter, All, Contains}
use Rattle.std.specs.List.{list_any}
use Rattle.std.specs.List.Sorted.{IsStrictlyIncreasing}
use Rattle.mg_calc.specs.Plan.{numbers}
use Rattle.mg_check.specs.Order.{is_among}
use Rattle.mg_check.specs.declared.ordering.Link.{Link}

-- The node reads what one of these nodes writes, over an edge that isn't back.
pub record IsFedBy (links : List Link) (ns : List ℕ) (n : ℕ) : Type 0 where
  pub link : Link
  pub is : Contains links link
  pub to : link.to ≡ n
  pub from : Contains ns link.from

-- Each node of a set reads what a node of the set writes.
abbrev pub FeedsItself : List Link → List ℕ → Type 0
FeedsItself links ns = All (IsFedBy links ns) ns

-- The set is the largest that feeds itself, and its nodes are in the order of their numbers.
pub record IsLargestCycle (links : List Link) (ns : List ℕ) : Type 0 where
  pub ascending : IsStrictlyIncreasing ns
  pub feeds : FeedsItself links ns
  pub largest : (ms : List ℕ) → FeedsItself links ms → All (Contains ns) ms

-- whether a node reads what one of these nodes writes
abbrev pub is_fed_by : List Link → List ℕ → ℕ → Bool
is_fed_by links ns n = list_any (λ link. link.to == n && is_among ns link.from) links

-- What is left of a set after so many rounds. Each round drops the nodes that read nothing from a node that is left.
abbrev pub left_after : ℕ → List Link → List ℕ → List ℕ
left_after zero links ns = ns
left_after (suc more) links ns = left_after more links (filter (is_fed_by links ns) ns)

-- The largest set of so many nodes that feeds itself. It is what is left of all nodes when a round drops none. That is
-- so at the latest after as many rounds as there are nodes.
abbrev pub largest_cycle : ℕ → List Link → List ℕ
largest_cycle count links = left_after count links (numbers count)
