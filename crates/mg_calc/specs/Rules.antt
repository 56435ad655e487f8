-- What a calculator computes, as three functions of plain data. Nothing is asked of them: an emission is judged when it is laid.
use Rattle.std.specs.Prelude.{ℕ, List, [], Option, Ok}
use Rattle.mg_value.specs.Plain.{Plain}
use Rattle.mg_value.specs.Packet.{Stamped}
use Rattle.mg_calc.specs.Answer.{Answer}

-- the rules of a calculator: its answers when it is opened with its side packets, is shown a set at a time, and is closed
pub record Rules : Type 0 where
  pub opening : List (Option Plain) → Answer
  pub step : List Plain → ℕ → List (Option (Stamped Plain)) → Answer
  pub finish : List Plain → Answer

-- the calculators of their authors' own that a program has: the rules of each, by its number among them and its parameters
abbrev pub Laws : Type 0
Laws = ℕ → List Plain → Rules

-- the rules that emit nothing and keep their state
abbrev pub no_rules : Rules
no_rules = record { opening = λ sides. Ok ([], []); step = λ state t set. Ok (state, []); finish = λ state. Ok (state, []) }

-- the laws of a program that has no calculators of their authors' own
abbrev pub no_laws : Laws
no_laws number parameters = no_rules
