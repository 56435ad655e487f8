use Rattle.std.proofs.Common.{◌++◌, map, arith}
use Rattle.mg_value.specs.declared.kind.Kind.TheVariants.{Any}
use Rattle.mg_check.proofs.Filling.{any_moved}
use Rattle.mg_check.proofs.meeting.add_any.Goals as goal

pub loop-preserved : goal.loop-preserved
loop-preserved c =
    any_moved c.push.new.self.items c.loop.out.items (c.args.out.now.items ++ map (λ p. Any) c.args.ports.now) c.args.ports.now c.loop.counter (omega (arith, c.loop-test.true, c.len-end.ensures)) c.in_ok-push.ensures.items c.loop.invariant
