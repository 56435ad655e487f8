use Rattle.std.proofs.Common.{arith}
use Rattle.mg_drive.proofs.Looking.{some_stands, as_many_streams, bound_seen}
use Rattle.mg_drive.proofs.looked.LookedStreams.bound.Goals as goal

pub bound-requires : goal.bound-requires
bound-requires g c = record {
  stream = (let many = as_many_streams (g.N.Driven.net c.args.self.now.net.now) c.requires.0 c.requires.1 in let less = c.requires.2 in omega (arith, many, less));
  stands = some_stands (g.N.Driven.net c.args.self.now.net.now) c.requires.0 c.requires.1;
}

pub returns : goal.returns
returns g c = λ streams are.
    bound_seen (g.N.Driven.net c.args.self.now.net.now) streams c.args.stream c.bound.result are
    (let many = as_many_streams (g.N.Driven.net c.args.self.now.net.now) streams are in let all = as_many_streams (g.N.Driven.net c.args.self.now.net.now) c.requires.0 c.requires.1 in let less = c.requires.2 in omega (arith, many, all, less)) c.bound.ensures
