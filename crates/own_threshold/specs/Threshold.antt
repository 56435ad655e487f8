-- A threshold: at each number it emits whether the last n numbers, this one included, were all above a limit. At the beginning there are
-- fewer, and then it looks at those that came. Its state is how many numbers in a row were above the limit, n at most.
use Rattle.std.specs.Prelude.{ℕ, ℤ, pos, ◌+◌, ◌==◌, nat_lt, int_lt, false, List, [], ◌∷◌, Some, None, Ok, Err, codes, if◌then◌else◌}
use Rattle.mg_value.specs.Plain.{Plain, flag, int, items, item, no_items}
use Rattle.mg_value.specs.declared.kind.Kind.TheVariants.{Flag, Int}
use Rattle.mg_calc.specs.Answer.{Answer, emission_of}
use Rattle.mg_calc.specs.Law.{with_packet}
use Rattle.mg_calc.specs.Rules.{Rules, no_rules}
use Rattle.mg_calc.specs.Shape.{untagged}
use Rattle.mg_calc.specs.State.{state_of, count_in}
use Rattle.mg_calc.specs.Told.{CalculatorTold}
use Rattle.mg_calc.specs.Values.{stored}
use Rattle.mg_calc.specs.declared.cause.Cause.TheVariants.{WrongKind}
use Rattle.mg_calc.specs.declared.shape.Shape.{Shape}

-- The law.

-- how many numbers in a row are above the limit, n at most, once one more has come
abbrev pub row_with : ℕ → ℤ → ℕ → ℤ → ℕ
row_with n limit row number = if int_lt limit number then (if nat_lt row n then row + 1 else n) else 0

-- the answer to a payload at t: whether the row is n long, as a flag at t; WrongKind where the payload isn't a number
abbrev pub answer_to : ℕ → ℤ → List Plain → ℕ → Plain → Answer
answer_to n limit state t (int number) =
    let row = row_with n limit (count_in state) number
    in Ok (state_of (pos row), emission_of (Some (record { at = t; value = flag (row == n) }) ∷ []))
answer_to n limit state t _ = Err WrongKind

-- the rules of a threshold. Before the first number the row is n long, so that only a number that came can break it
abbrev pub threshold : ℕ → ℤ → Rules
threshold n limit = record {
  opening = λ sides. Ok (state_of (pos n), []);
  step = λ state t set. with_packet (λ p. answer_to n limit state t p.value) state set;
  finish = λ state. Ok (state, []);
}

-- Its parameters, as a law has them.

-- n and the limit, each in a place of its own
abbrev pub parameters_of : ℕ → ℤ → List Plain
parameters_of n limit = stored (Some (int (pos n))) ∷ stored (Some (int limit)) ∷ []

-- the rules of the threshold with these parameters
abbrev pub threshold_of : List Plain → Rules
threshold_of (items (item (int (pos n)) no_items) ∷ items (item (int limit) no_items) ∷ []) = threshold n limit
threshold_of parameters = no_rules

-- What it looks like, and what it tells.

-- one input of whole numbers, and one output of flags. A flag stands at the time of its set, so the offset is 0
abbrev pub threshold_shape : Shape
threshold_shape = record {
  name = codes "ThresholdCalculator";
  inputs = untagged 1 Int;
  outputs = untagged 1 Flag;
  sides = [];
  offset = Some (pos 0);
  stateless = false;
}

-- what a threshold tells of itself, with its row so far. It keeps no log
abbrev pub threshold_told : ℕ → ℤ → ℕ → CalculatorTold
threshold_told n limit row = record { rules = threshold n limit; shape = threshold_shape; state = state_of (pos row); log = None }
