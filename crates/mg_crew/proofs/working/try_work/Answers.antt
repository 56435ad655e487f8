use Rattle.mg_crew.proofs.working.try_work.Goals as goal

pub returns-in-Steps : goal.returns-in-Steps
returns-in-Steps g c = record { stays = c.run_in_steps.ensures; placed = c.requires.at_work.placed }

pub returns-in-Together : goal.returns-in-Together
returns-in-Together g c = record { stays = c.run.ensures; placed = c.requires.at_work.placed }
