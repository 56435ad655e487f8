use Rattle.std.proofs.Common.{refl, sym, ◌∙◌, arith}
use Rattle.mg_node.proofs.FrontSteps.{way_begins, way_stops}
use Rattle.mg_node.proofs.fronts.lay_front.Goals as goal

pub loop-offset-init : goal.loop-offset-init
loop-offset-init g c = record {
  way = way_begins c.args.offset c.args.outputs.now c.args.window.now.items c.args.idle.now.items;
  stands = c.requires.stands;
  room = c.requires.room;
  few = omega arith;
  count = omega arith;
  contexts = refl;
  idle = refl;
  window = refl;
}

pub returns-then-has_stopped-clause-front : goal.returns-then-has_stopped-clause-front
returns-then-has_stopped-clause-front g c =
    way_stops c.args.offset c.args.node c.args.outputs.now c.loop-offset.outputs c.lay_first-end.new.outputs c.args.window.now.items c.loop-offset.window.items c.lay_first-end.new.window.items c.args.idle.now.items c.loop-offset.idle.items c.lay_first-end.new.idle.items
    c.lay_first-end.result _ c.loop-offset.laid c.loop-offset.invariant.way c.lay_first-end.ensures.first (sym c.has_stopped.ensures ∙ c.if-has_stopped.true) refl refl refl
