use Rattle.mg_batch.proofs.LoopLaw.{some_law}
use Rattle.mg_batch.proofs.laws.lists_of_some_images_come_out.Goals as goal

pub returns : goal.returns
returns c = λ job streams clones lists out always_end begin end inner is_job solution. some_law job streams is_job solution clones lists out always_end begin end inner
