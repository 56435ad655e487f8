use Rattle.mg_crew.proofs.Levelled.{tools_for, first_place}
use Rattle.mg_crew.proofs.Sharing.{stays_itself}
use Rattle.mg_crew.proofs.running.run_shared.Goals as goal

pub crew-seat-requires-clause-at_work : goal.crew-seat-requires-clause-at_work
crew-seat-requires-clause-at_work g c κs within = record {
  shared = c.requires.shared;
  fits = tools_for c.args.net.now c.args.plan.now c.in-Ok.tools c.requires.plan c.in-Ok.ensures.levels c.in-Ok.ensures.places c.in-Ok.ensures.consumers c.in-Ok.ensures.edges c.in-Ok.ensures.sources;
  placed = first_place c.in-Ok.tools.levels c.new.result c.in-Ok.place c.new.ensures.0 c.new.ensures.1 c.in-Ok.ensures.place.0;
}

pub returns-in-Err : goal.returns-in-Err
returns-in-Err g c = stays_itself c.args.net.now c.args.seat c.requires.shared
