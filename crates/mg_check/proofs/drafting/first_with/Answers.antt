use Rattle.mg_check.specs.Code.Judged.{is_wrong}
use Rattle.mg_check.proofs.Firsts.{place_begins}
use Rattle.mg_check.proofs.drafting.first_with.Goals as goal

pub loop-place-init : goal.loop-place-init
loop-place-init c = place_begins (is_wrong c.args.wrong) c.args.wrongs.now
