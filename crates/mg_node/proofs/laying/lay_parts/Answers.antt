use Rattle.std.proofs.Common.{◌≡◌, length, ◌∙◌, arith}
use Rattle.mg_node.proofs.LayingBehind.{part_may, part_put, part_left, part_comes}
use Rattle.mg_node.proofs.laying.lay_parts.Goals as goal

pub lay_at-requires : goal.lay_at-requires
lay_at-requires c = λ le.
    let count : c.len.result ≡ length c.pop.new.self.items = omega (arith, c.len.ensures, c.pop.new.self.ok.0) in
    part_may c.loop-laid.outputs c.loop-laid.parts.items c.pop.new.self.items c.in-Some.laid c.len.result c.in-Some.ensures.items count c.loop-laid.invariant.may le

pub loop-laid-preserved : goal.loop-laid-preserved
loop-laid-preserved c =
    let kept = c.loop-laid.invariant in
    let count : c.len.result ≡ length c.pop.new.self.items = omega (arith, c.len.ensures, c.pop.new.self.ok.0) in
    record {
      same = part_put c.loop-laid.outputs c.lay_at.new.outputs c.loop-laid.parts.items c.pop.new.self.items c.in-Some.laid c.len.result c.in-Some.ensures.items count c.lay_at.ensures.laid ∙ kept.same;
      may = part_left c.loop-laid.outputs c.lay_at.new.outputs c.loop-laid.parts.items c.pop.new.self.items c.in-Some.laid c.len.result c.in-Some.ensures.items count c.lay_at.ensures.laid kept.may;
      comes = λ whole stand.
          part_comes c.loop-laid.outputs c.lay_at.new.outputs c.loop-laid.parts.items c.pop.new.self.items c.in-Some.laid c.len.result _ c.in-Some.ensures.items count c.lay_at.ensures.laid kept.may c.lay_at.ensures.timed (kept.comes whole stand);
    }
