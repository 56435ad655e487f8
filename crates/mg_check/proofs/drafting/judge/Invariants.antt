use Rattle.std.proofs.Common.{take}
use Rattle.mg_check.specs.Code.Choices.{choices_view}
use Rattle.mg_check.specs.Code.Judged.{AreJudged}
use Rattle.mg_check.proofs.drafting.judge.Given as goal

abbrev pub invariant-loop-choice : goal.invariant-loop-choice
invariant-loop-choice l = AreJudged l.node_drafts l.outers (choices_view (take l.choice-index l.choices))
