-- What a seat knows, in numbers. It may have several sights of a word; of each number the greatest counts.
use Rattle.std.specs.Prelude.{◌≡◌, ℕ, ◌+◌, ◌*◌, ◌≤◌, ◌==◌, max, cond, List, [], ◌∷◌, Option, Some, None}
use Rattle.mg_stream.specs.Queue.{count_of}
use Rattle.mg_node.specs.Views.{IntakeView, EngineView}
use Rattle.mg_node.specs.Ports.{port_queue}
use Rattle.mg_node.specs.Outputs.{laid_at}
use Rattle.mg_turns.specs.Parts.{PartView, arrived_in}
use Rattle.mg_turns.specs.Turns.{Sight}
use Rattle.mg_turns.specs.declared.view.View.{View}

-- the bound of a port of an intake, and 0 without an intake
abbrev pub bound_by : Option IntakeView → ℕ → ℕ
bound_by None port = 0
bound_by (Some i) port = (port_queue i.waits port).bound

-- the bound of a port of a part
abbrev pub bound_in : PartView → ℕ → ℕ
bound_in p port = bound_by p.intake port

-- how many packets an engine laid at an output, and 0 without an engine
abbrev pub packets_laid_by : Option EngineView → ℕ → ℕ
packets_laid_by None output = 0
packets_laid_by (Some e) output = count_of (laid_at e output)

-- how many packets a part laid at an output
abbrev pub laid_in : PartView → ℕ → ℕ
laid_in p output = packets_laid_by p.engine output

-- the bound of an engine's output, and 0 without an engine
abbrev pub laid_bound_by : Option EngineView → ℕ → ℕ
laid_bound_by None output = 0
laid_bound_by (Some e) output = (laid_at e output).bound

-- the bound of a part's output
abbrev pub laid_bound_in : PartView → ℕ → ℕ
laid_bound_in p output = laid_bound_by p.engine output

-- how many sets, calls or answers an engine laid, and 0 without an engine
abbrev pub sets_laid_by : Option EngineView → ℕ
sets_laid_by None = 0
sets_laid_by (Some e) = e.laid

-- how many sets, calls or answers a part laid
abbrev pub sets_in : PartView → ℕ
sets_in p = sets_laid_by p.engine

-- the greatest value of a number over a seat's sights of a word, and 0 if it has none
abbrev pub most_seen : (PartView → ℕ) → ℕ → List Sight → ℕ
most_seen number word [] = 0
most_seen number word (x ∷ xs) = max (cond (x.word == word) (number x.part) 0) (most_seen number word xs)

-- how many packets came to a port, as far as a seat knows
abbrev pub known_came : View → ℕ → ℕ → ℕ
known_came v consumer port = most_seen (λ p. arrived_in p port) (2 * consumer) v.seen

-- the bound of a port, as far as a seat knows
abbrev pub known_bound : View → ℕ → ℕ → ℕ
known_bound v consumer port = most_seen (λ p. bound_in p port) (2 * consumer) v.seen

-- how many packets were laid at an output of the engine of a word, as far as a seat knows
abbrev pub known_laid : View → ℕ → ℕ → ℕ
known_laid v word output = most_seen (λ p. laid_in p output) word v.seen

-- the bound of an output of the engine of a word, as far as a seat knows
abbrev pub known_laid_bound : View → ℕ → ℕ → ℕ
known_laid_bound v word output = most_seen (λ p. laid_bound_in p output) word v.seen

-- how many sets, calls or answers of a node were laid, as far as a seat knows
abbrev pub known_sets : View → ℕ → ℕ
known_sets v node = most_seen sets_in (2 * node + 1) v.seen

-- what one view knows another knows too, number by number
abbrev pub KnowsToo : View → View → Type 0
KnowsToo v w = (number : PartView → ℕ) (word : ℕ) → most_seen number word v.seen ≤ most_seen number word w.seen

-- what every call that needs turns keeps: the seat's net, its portion, how often it was split, and all that it knows
pub record Keeps (v w : View) : Type 0 where
  pub key : w.key ≡ v.key
  pub portion : w.portion ≡ v.portion
  pub splits : w.splits ≡ v.splits
  pub knows : KnowsToo v w
