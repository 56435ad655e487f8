-- How limits are kept: for each feeder a count of the full queues that it reaches.
use Rattle.std.specs.Prelude.{◌≡◌, ℕ, ◌+◌, ◌^◌, ◌<◌, ◌&&◌, ◌==◌, Bool, true, false, List, length, All, slice_index, slice_index_or, take, ◌≤◌, count_by}
use Rattle.std.specs.List.{list_any}
use Rattle.std.specs.List.Sorted.{IsNonDecreasingBy}
use Rattle.mg_calc.specs.Plan.{HasEachOnce}
use Rattle.mg_ready.specs.Ready.{ReadyNodes, IsIn}
use Rattle.mg_throttle.specs.declared.queue.Queue.{Queue}
use Rattle.mg_throttle.specs.Throttle.{is_full, is_reached, stopped, relaxed}

-- a queue presses on a feeder: it is full, and the feeder reaches its node
abbrev pub presses : List (List Bool) → ℕ → Queue → Bool
presses rows feeder q = is_full q && is_reached rows feeder q.node

-- the count of each feeder is how many queues press on it
abbrev pub AreCounted : List Queue → List (List Bool) → List ℕ → Type 0
AreCounted queues rows counts = (f : ℕ) → f < length counts → slice_index counts f ≡ count_by (presses rows f) queues

-- a queue is one of a node, and full
abbrev pub is_full_at : ℕ → Queue → Bool
is_full_at node q = is_full q && (q.node == node)

-- queues stand in the order of their consumers
abbrev pub AreByNode : List Queue → Type 0
AreByNode queues = IsNonDecreasingBy (λ q. q.node) queues

-- of the first `k` queues those of a node have stopped, and `full` of them were full
pub record StopsTo (node k : ℕ) (old now : List Queue) (full : ℕ) : Type 0 where
  pub len : length now ≡ length old
  pub done : (j : ℕ) (d : Queue) → j < k → j < length old → slice_index_or now j d ≡ stopped node (slice_index_or old j d)
  pub rest : (j : ℕ) (d : Queue) → k ≤ j → slice_index_or now j d ≡ slice_index_or old j d
  pub counted : full ≡ count_by (is_full_at node) (take k old)

-- queues, the feeders that reach their nodes, and the counts of the feeders fit together
pub record IsKept (queues : List Queue) (rows : List (List Bool)) (counts : List ℕ) : Type 0 where
  pub few : length queues < 2 ^ 32
  pub by_node : AreByNode queues
  pub nodes : All (λ q. q.counts ≡ true → q.node < length rows) queues
  pub lengths : All (λ q. q.waiting + 1 < 2 ^ 64) queues
  pub marks : All (λ row. length row ≡ length counts) rows
  pub counted : AreCounted queues rows counts

-- each full queue is among those that are listed
pub record AreListed (queues : List Queue) (listed : ReadyNodes) : Type 0 where
  pub numbers : HasEachOnce (length queues) listed.order
  pub full : (k : ℕ) (d : Queue) → k < length queues → is_full (slice_index_or queues k d) ≡ true → IsIn listed k

-- the queues that aren't listed any more are relaxed, and the others are as they were; `any` says whether one of the relaxed ones was full
pub record RelaxesTo (old now : List Queue) (first listed : ReadyNodes) (any : Bool) : Type 0 where
  pub len : length now ≡ length old
  pub order : listed.order ≡ first.order
  pub waits : (k : ℕ) (d : Queue) → IsIn listed k → slice_index_or now k d ≡ slice_index_or old k d
  pub done : (k : ℕ) (d : Queue) → k < length old → ¬ IsIn listed k → slice_index_or now k d ≡ relaxed (slice_index_or old k d)
  pub some : any ≡ true → list_any is_full old ≡ true
  pub none : any ≡ false → (k : ℕ) (d : Queue) → k < length old → ¬ IsIn listed k → is_full (slice_index_or old k d) ≡ false
