use Rattle.std.proofs.Common.{[], ◌∷◌}
use Rattle.mg_batch.proofs.LoopLaw.{loop_law}
use Rattle.mg_batch.proofs.laws.lists_come_out_as_lists_of_images.Goals as goal

pub returns-clause-chain : goal.returns-clause-chain
returns-clause-chain c = λ job streams clones lists out begin end inner is_job solution. loop_law job streams is_job solution clones lists out begin end inner

pub returns-clause-one : goal.returns-clause-one
returns-clause-one c = λ job streams clones lists out begin node end is_job solution. loop_law job streams is_job solution clones lists out begin end (node ∷ [])
