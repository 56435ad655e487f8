use Rattle.mg_crew.proofs.Levelled.{at_work_still, works_on}
use Rattle.mg_crew.proofs.serving.work.Goals as goal

pub work_at-came-requires-clause-at_work : goal.work_at-came-requires-clause-at_work
work_at-came-requires-clause-at_work g c = record { shared = c.requires.at_work.shared; fits = c.requires.at_work.fits; placed = c.tell_others.ensures.place }

pub note_worked-requires-clause-at_work : goal.note_worked-requires-clause-at_work
note_worked-requires-clause-at_work g c = record { shared = c.work_at-came.ensures.stays.shared; fits = c.requires.at_work.fits; placed = c.note_turns.ensures.place }

pub returns : goal.returns
returns g c = works_on _ _ _ _ _ _ _ (record { stays = c.work_at-came.ensures.stays; placed = c.note_turns.ensures.place }) c.note_worked.ensures
