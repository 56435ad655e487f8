-- How a work leaves a work queue.
use Rattle.std.specs.Prelude.{◌≡◌, ℕ, List, ◌∷◌, ◌++◌, length}
use Rattle.mg_node.specs.Views.{WorkView}
use Rattle.mg_sched.specs.Views.{WorkQueueView}

-- the work of this number is taken from its place among the others
pub record TakesFrom (number place : ℕ) (work : WorkView) (before now : WorkQueueView) : Type 0 where
  pub front : List WorkView
  pub back : List WorkView
  pub place_is : length front ≡ place
  pub works : before.works ≡ front ++ work ∷ back
  pub number_is : work.number ≡ number
  pub left : now ≡ record before { works = front ++ back }
