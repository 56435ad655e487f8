-- The numbers of the words. With n nodes, the intake of node i has the word 2i and its engine the word 2i + 1. The intake of the
-- collector has 2n, and the engine of graph input j has 2n + 1 + j.
use Rattle.std.specs.Prelude.{ℕ, ◌+◌, ◌-◌, ◌*◌, ◌/◌, ◌%◌, ◌==◌, nat_lt, if◌then◌else◌}
use Rattle.mg_node.specs.Lawful.{Owner, of_node, of_input}

-- the owner of a word: the intake of a consumer, or the engine of a node or of a graph input
pub data Whose : Type 0 where
  intake_of : ℕ → Whose
  engine_of : Owner → Whose

-- the word of a part, in a plan of this many nodes
abbrev pub word_at : ℕ → Whose → ℕ
word_at nodes (intake_of consumer) = 2 * consumer
word_at nodes (engine_of (of_node node)) = 2 * node + 1
word_at nodes (engine_of (of_input input)) = 2 * nodes + 1 + input

-- the owner of a word, in a plan of this many nodes
abbrev pub whose : ℕ → ℕ → Whose
whose nodes word =
    if nat_lt (2 * nodes) word then engine_of (of_input (word - (2 * nodes + 1)))
    else if word % 2 == 0 then intake_of (word / 2) else engine_of (of_node (word / 2))
