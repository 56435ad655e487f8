use Rattle.std.proofs.lemmas.List.Elements.{recursion_from_All}
use Rattle.mg_settled.specs.Prefix.{IsPrefix}
use Rattle.mg_calc.proofs.Rounds.{equations_follow}
use Rattle.mg_calc.proofs.Jobs.{job_known}
use Rattle.mg_calc.proofs.laws.equations_are_monotone.Goals as goal

pub returns : goal.returns
returns c = λ job streams more is first second e. equations_follow job streams more (job_known job is) (recursion_from_All IsPrefix streams first) (recursion_from_All IsPrefix more second) e
