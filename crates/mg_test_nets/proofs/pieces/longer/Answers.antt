use Rattle.std.proofs.Common.{rules, ◌≡◌, length, All}
use Rattle.mg_settled.specs.Prefix.{IsPrefix}
use Rattle.mg_test_nets.proofs.pieces.longer.Goals as goal

pub returns : goal.returns
returns c =
    let pieces : length c.args.piece.now.streams ≡ length c.args.before.now.streams = search rules in
    let prefixes : All IsPrefix c.in_ok-streams.streams = search rules in
    record { sides = c.in_ok-sides.ensures; pieces = pieces; count = c.in_ok-streams.ensures.count; each = c.in_ok-streams.ensures.each; prefixes = prefixes }
