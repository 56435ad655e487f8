use Rattle.std.proofs.Common.{◌≡◌, ◌+◌, ◌-◌, ◌*◌, ◌/◌, ◌<◌, ◌≤◌, min, refl, ◌∙◌, subst, arith}
use Rattle.std.specs.Int.{div_ceil}
use Rattle.mg_levels.specs.Code.Making.{AreMade}
use Rattle.mg_levels.proofs.LevelsMade.{one_level_more, none_made, rounded, some_nodes, at_most}
use Rattle.mg_levels.proofs.making.make_levels.Goals as goal

pub make_level-requires-clause-nodes : goal.make_level-requires-clause-nodes
make_level-requires-clause-nodes c =
    let test : c.loop-level.level < div_ceil c.args.nodes 32 = subst (λ n. c.loop-level.level < n) c.div_ceil-level-end.ensures c.loop-level-test.true in
    let size : c.min.result ≡ min (c.args.nodes - 32 * c.loop-level.level) 32 = c.min.ensures in
    some_nodes c.args.nodes c.loop-level.level c.min.result test size

pub make_level-requires-clause-room : goal.make_level-requires-clause-room
make_level-requires-clause-room c =
    let test : c.loop-level.level < div_ceil c.args.nodes 32 = subst (λ n. c.loop-level.level < n) c.div_ceil-level-end.ensures c.loop-level-test.true in
    let few : c.args.nodes < 4294967296 = c.ranges.nodes.fits in
    let room : c.loop-level.made.room ≤ 128 * c.loop-level.level = c.loop-level.invariant.1 in
    let end : div_ceil c.args.nodes 32 ≡ (c.args.nodes + 31) / 32 = rounded c.args.nodes in
    omega (arith, test, few, room, end)

pub loop-level-init : goal.loop-level-init
loop-level-init c = (none_made c.args.nodes _ c.new.ensures.items c.new-2.ensures.items refl, omega arith)

pub loop-level-preserved : goal.loop-level-preserved
loop-level-preserved c =
    let step = c.in_ok-make_level.ensures in
    let a = step.room in
    let few : c.min.result ≤ 32 = at_most c.args.nodes c.loop-level.level c.min.result c.min.ensures in
    let room : c.loop-level.made.room ≤ 128 * c.loop-level.level = c.loop-level.invariant.1 in
    (one_level_more c.args.nodes c.loop-level.level c.min.result c.loop-level.made c.make_level.new.made c.loop-level.invariant.0 step c.min.ensures, omega (arith, a, few, room))

pub returns : goal.returns
returns c =
    let over = c.loop-level-test.false in
    let within = c.loop-level.auto.level-end in
    let end : c.div_ceil-level-end.result ≡ (c.args.nodes + 31) / 32 = c.div_ceil-level-end.ensures ∙ rounded c.args.nodes in
    subst (λ n. AreMade c.args.nodes n c.loop-level.made) (omega (arith, over, within, end)) c.loop-level.invariant.0
