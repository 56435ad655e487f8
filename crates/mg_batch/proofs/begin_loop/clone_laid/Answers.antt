use Rattle.std.proofs.Common.{ap, ◌∙◌}
use Rattle.mg_calc.specs.Batch.{last_inner, laid_up_to}
use Rattle.mg_batch.proofs.begin_loop.clone_laid.Goals as goal

pub returns : goal.returns
returns c =
    let last = last_inner c.args.span.now.first c.args.count in
    c.in_ok-laid_up_to.ensures last c.requires.span ∙ ap (laid_up_to last) c.in_ok-packets.ensures
