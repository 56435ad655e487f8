use Rattle.std.proofs.Common.{ap, ◌∙◌}
use Rattle.std.specs.Option.{option_to_list}
use Rattle.mg_route.proofs.PlaceLemmas.{laid-is}
use Rattle.mg_route.proofs.emissions.entry.Goals as goal

pub returns : goal.returns
returns g c = laid-is c.in_ok-entry.entry (g.P.Places.place c.args.from.now c.args.at c.args.i) (c.in_ok-entry.ensures.packets ∙ ap option_to_list c.in_ok-packet.ensures) c.in_ok-entry.ensures.bound
