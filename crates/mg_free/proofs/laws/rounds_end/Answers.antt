use Rattle.mg_free.specs.Core.{split_of}
use Rattle.mg_free.specs.Rounds.{none_taken}
use Rattle.mg_free.proofs.CoreFits.{core_fits, batches_fit}
use Rattle.mg_free.proofs.UnderWay.{all_rounds_come, begins_under_way}
use Rattle.mg_free.proofs.RoundsEnd.{all_rounds_end, all_rounds_one}
use Rattle.mg_free.proofs.laws.rounds_end.Goals as goal

pub returns-clause-ends : goal.returns-clause-ends
returns-clause-ends c = λ laws plan inputs later valid fit batches.
    let fits = core_fits plan inputs valid fit in
    all_rounds_end laws (split_of plan) inputs later (none_taken (split_of plan)) fits (batches_fit plan inputs later valid batches) (begins_under_way laws (split_of plan) inputs fits)

pub returns-clause-one : goal.returns-clause-one
returns-clause-one c = all_rounds_one

pub returns-clause-come : goal.returns-clause-come
returns-clause-come c = λ laws plan inputs later last valid fit batches rounds.
    let fits = core_fits plan inputs valid fit in
    all_rounds_come laws (split_of plan) inputs later (none_taken (split_of plan)) last fits (batches_fit plan inputs later valid batches) (begins_under_way laws (split_of plan) inputs fits) rounds
