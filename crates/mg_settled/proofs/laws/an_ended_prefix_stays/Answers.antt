use Rattle.std.proofs.Common.{◌≡◌}
use Rattle.std.proofs.lemmas.List.Elements.{recursion_from_All}
use Rattle.mg_time.specs.Time.{done}
use Rattle.mg_settled.specs.Prefix.{IsPrefix}
use Rattle.mg_settled.proofs.Extending.{ended_stays, all_ended_stay}
use Rattle.mg_settled.proofs.laws.an_ended_prefix_stays.Goals as goal

pub returns-clause-one : goal.returns-clause-one
returns-clause-one c = λ s t end h e. ended_stays s t end h e

pub returns-clause-list : goal.returns-clause-list
returns-clause-list c = λ ss ts ends h e. all_ended_stay ss ts (recursion_from_All (λ s. s.bound ≡ done) ss ends) (recursion_from_All IsPrefix ts h) e
