use Rattle.std.proofs.Common.{get_or, arith}
use Rattle.mg_subgraph.proofs.Flags.{listed_at0}
use Rattle.mg_subgraph.proofs.links.Found.add_all.Goals as goal

pub add-requires : goal.add-requires
add-requires c =
    let i = c.loop-place.place-index in
    let inside = c.requires (get_or c.args.places.now i 0) (listed_at0 c.args.places.now i c.loop-place-test.true) in
    omega (arith, c.loop-place.invariant.len)
