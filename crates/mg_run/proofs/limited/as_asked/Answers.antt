use Rattle.mg_run.proofs.limited.as_asked.Goals as goal

pub returns-clause-valid_with_free : goal.returns-clause-valid_with_free
returns-clause-valid_with_free c = λ valid. c.with_workers.ensures.valid_with_free (c.limited.ensures.valid_with_free valid)
