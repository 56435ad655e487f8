use Rattle.std.proofs.Common.{◌≡◌, ◌⊎◌, ◌<◌, List, sym, subst}
use Rattle.mg_free.specs.Rounds.{Taken}
use Rattle.mg_free.specs.Turns.{AreLawfulSoFar, taken_by_all}
use Rattle.mg_free.proofs.Turning.{turns_rise, turns_lawful}
use Rattle.mg_free.proofs.TurnEnds.{all_lawful_later, all_short, all_rest_lawful}
use Rattle.mg_free.proofs.laws.rounds_take_what_there_is.Goals as goal

pub returns-clause-rises : goal.returns-clause-rises
returns-clause-rises c = λ laws split inputs before after long round.
    subst (λ (t : List Taken). (t ≡ before) ⊎ (taken_by_all before < taken_by_all t)) (sym round.turns) (turns_rise round.streams split.free before long)

pub returns-clause-lawful : goal.returns-clause-lawful
returns-clause-lawful c = λ laws split inputs before after round lawful.
    subst (λ (t : List Taken). AreLawfulSoFar round.streams split.free t) (sym round.turns) (turns_lawful round.streams split.free before lawful)

pub returns-clause-grows : goal.returns-clause-grows
returns-clause-grows c = all_lawful_later

pub returns-clause-most : goal.returns-clause-most
returns-clause-most c = all_short

pub returns-clause-rest : goal.returns-clause-rest
returns-clause-rest c = λ laws split inputs takens round lawful. all_rest_lawful round.streams split.free takens (sym round.turns) lawful
