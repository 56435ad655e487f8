use Rattle.mg_batch.proofs.LoopLaw.{end_law}
use Rattle.mg_batch.proofs.laws.the_end_of_a_batch_settles_its_time.Goals as goal

pub returns : goal.returns
returns c = λ job streams node empty_as_bound out k set told is_job solution. end_law job streams is_job solution empty_as_bound node out k set told
