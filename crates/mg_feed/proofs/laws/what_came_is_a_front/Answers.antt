use Rattle.mg_feed.proofs.Coming.{came-front}
use Rattle.mg_feed.proofs.laws.what_came_is_a_front.Goals as goal

pub returns : goal.returns
returns c = λ past rest lines gone f came fits. came-front past rest lines gone f came fits
