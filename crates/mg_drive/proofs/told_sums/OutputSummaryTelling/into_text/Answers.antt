use Rattle.mg_drive.proofs.Tellings.{sums_text}
use Rattle.mg_drive.proofs.told_sums.OutputSummaryTelling.into_text.Goals as goal

pub returns : goal.returns
returns c = λ plan first now sets h. sums_text c.args.self c.in_ok-text.text plan first now sets c.in_ok-text.ensures h
