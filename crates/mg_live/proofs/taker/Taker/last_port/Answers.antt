use Rattle.std.proofs.Common.{ap, arith}
use Rattle.std.proofs.lemmas.List.{length-map}
use Rattle.mg_calc.specs.Equations.{stream_of}
use Rattle.mg_free.specs.Rounds.{last_of}
use Rattle.mg_live.proofs.LastWaits.{all_below, last_here, last_below}
use Rattle.mg_live.proofs.taker.Taker.last_port.Goals as goal

pub ports-init : goal.ports-init
ports-init g c = record {
  within = (let long = c.len-port.ensures in omega (arith, long));
  same = λ ss taken are has.
      ap last_of (all_below ss c.args.free.now taken c.len-port.result (let long = c.len-port.ensures in let many = length-map c.args.free.now.inputs (stream_of ss) in omega (arith, long, many)));
}

pub returns-then-is_some : goal.returns-then-is_some
returns-then-is_some g c = λ ss taken are has.
    last_here ss c.args.free.now taken c.ports.port c.next_at.result c.is_some.result c.ports-test.true c.ports.invariant.within (c.next_at.ensures ss taken are has) c.is_some.ensures c.if-is_some.true (c.ports.invariant.same ss taken are has)

pub ports-preserved : goal.ports-preserved
ports-preserved g c = record {
  within = (let within = c.ports.invariant.within in omega (arith, within));
  same = λ ss taken are has.
      last_below ss c.args.free.now taken c.ports.port c.next_at.result c.is_some.result c.ports-test.true c.ports.invariant.within (c.next_at.ensures ss taken are has) c.is_some.ensures c.if-is_some.false (c.ports.invariant.same ss taken are has);
}
