use Rattle.mg_drive.proofs.told_lines.OutputTextTelling.into_text.Goals as goal

pub returns : goal.returns
returns c = λ plan first now sets h. h.put
