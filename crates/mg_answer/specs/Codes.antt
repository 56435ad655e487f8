-- How the logic stores what writes a text in blocks.
use Rattle.std.specs.Prelude.{ℕ, Bool, List, refl}
use Rattle.std.specs.Coded.{Coded, code_by, coded×, coded_ℕ, coded_bool, coded_list}
use Rattle.mg_answer.specs.Put.{BlockView}

abbrev pub block_code : Coded BlockView
block_code = code_by (List ℕ × Bool) (coded× (coded_list coded_ℕ) coded_bool) (λ b. (b.kept, b.failed)) (λ p. record { kept = p.0; failed = p.1 }) (λ _. refl)
