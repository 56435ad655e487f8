use Rattle.mg_run.proofs.way.live_action.Goals as goal

pub returns-in-Run-clause-valid : goal.returns-in-Run-clause-valid
returns-in-Run-clause-valid c = λ outers valid fit. (c.as_asked.ensures.valid_with_free valid, c.as_asked.ensures.fit outers fit)

pub returns-in-Generate-clause-valid : goal.returns-in-Generate-clause-valid
returns-in-Generate-clause-valid c = λ outers valid fit. (c.as_asked-in-Generate.ensures.valid_with_free valid, c.as_asked-in-Generate.ensures.fit outers fit)
