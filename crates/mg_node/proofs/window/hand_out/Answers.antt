use Rattle.std.proofs.Common.{arith}
use Rattle.mg_node.proofs.Unrun.{unrun_within, unrun_at, hands_out}
use Rattle.mg_node.proofs.window.hand_out.Goals as goal

pub index_mut-requires : goal.index_mut-requires
index_mut-requires g c = omega (arith, unrun_within c.args.window.now.items _ c.requires, c.args.window.now.ok.0)

pub hand_out-requires : goal.hand_out-requires
hand_out-requires g c = unrun_at c.args.window.now.items _ _ c.requires c.index_mut.ensures.value

pub returns-clause-hands : goal.returns-clause-hands
returns-clause-hands g c = hands_out c.args.window.now.items _ _ _ _ c.requires c.index_mut.ensures.value c.hand_out.ensures.work c.hand_out.ensures.left
