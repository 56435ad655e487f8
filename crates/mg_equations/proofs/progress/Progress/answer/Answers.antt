use Rattle.std.proofs.Common.{subst, sym}
use Rattle.mg_settled.specs.Prefix.{IsPrefix}
use Rattle.mg_settled.proofs.Lemmas.{drop_is_prefix}
use Rattle.mg_equations.proofs.progress.Progress.answer.Goals as goal

pub take_answers-requires-clause-main : goal.take_answers-requires-clause-main
take_answers-requires-clause-main c = subst IsPrefix (sym c.rest-turns.ensures) (drop_is_prefix _ c.args.main.now c.requires.main)

pub take_answers-requires-clause-back : goal.take_answers-requires-clause-back
take_answers-requires-clause-back c = subst IsPrefix (sym c.rest-heard.ensures) (drop_is_prefix _ c.args.back.now c.requires.back)
