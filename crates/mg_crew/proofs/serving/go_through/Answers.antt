use Rattle.mg_crew.proofs.Sharing.{stays_on}
use Rattle.mg_crew.proofs.serving.go_through.Goals as goal

pub bring_laid-brought-requires-clause-at_work : goal.bring_laid-brought-requires-clause-at_work
bring_laid-brought-requires-clause-at_work g c = record { shared = c.raise-raised.ensures.shared; fits = c.requires.at_work.fits; placed = c.call_waiting.ensures.place }

pub returns : goal.returns
returns g c = record {
  stays = stays_on _ _ _ _ (stays_on _ _ _ _ c.work-worked.ensures.stays c.raise-raised.ensures) c.bring_laid-brought.ensures.stays;
  placed = c.bring_laid-brought.ensures.placed;
}
