use Rattle.mg_feed.proofs.ChangingPlaces.{places_changed}
use Rattle.mg_feed.proofs.laws.lines_of_different_streams_may_change_places.Goals as goal

pub returns : goal.returns
returns c = places_changed
