-- The turns of a seat, and what it saw of parts.
use Rattle.std.specs.Prelude.{ℕ, List, Option}
use Rattle.std.specs.Coded.{Coded, code_by, coded×, coded_ℕ, coded_list, coded_option}
use Rattle.std.specs.Prelude.{refl}
use Rattle.mg_node.specs.Views.{WorkView}
use Rattle.mg_node.specs.Codes.{work_code}
use Rattle.mg_turns.specs.Parts.{PartView, part_code}

-- a turn of a seat: its word, half of what that was when the turn was taken, and the part as the seat noted it
pub record Turn : Type 0 where
  pub word : ℕ
  pub tally : ℕ
  pub note : PartView

-- a sight: a word, and its part as a seat saw it
pub record Sight : Type 0 where
  pub word : ℕ
  pub part : PartView

abbrev pub turn_code : Coded Turn
turn_code = code_by (ℕ × (ℕ × PartView)) (coded× coded_ℕ (coded× coded_ℕ part_code)) (λ t. (t.word, (t.tally, t.note))) (λ p. record { word = p.0; tally = p.1.0; note = p.1.1 }) (λ _. refl)

abbrev pub sight_code : Coded Sight
sight_code = code_by (ℕ × PartView) (coded× coded_ℕ part_code) (λ t. (t.word, t.part)) (λ p. record { word = p.0; part = p.1 }) (λ _. refl)

abbrev pub turns_code : Coded (List Turn)
turns_code = coded_list turn_code

abbrev pub sights_code : Coded (List Sight)
sights_code = coded_list sight_code

abbrev pub held_code : Coded (Option WorkView)
held_code = coded_option work_code
