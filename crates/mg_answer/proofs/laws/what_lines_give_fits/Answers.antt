use Rattle.std.proofs.Common.{refl}
use Rattle.mg_feed.specs.Graph.{inputs_of}
use Rattle.mg_answer.specs.Answer.{inputs_by}
use Rattle.mg_answer.proofs.Fitting.{inputs-fit}
use Rattle.mg_answer.proofs.laws.what_lines_give_fits.Goals as goal

pub returns : goal.returns
returns c = λ plan read valid good. inputs-fit plan read (inputs_by (inputs_of plan) read) valid good refl
