use Rattle.std.proofs.Common.{◌∙◌, arith}
use Rattle.mg_node.proofs.Delivering.{may_come}
use Rattle.mg_node.proofs.Bringing.{brought_more, brought_same, some_left, none_left, next_missing}
use Rattle.mg_node.proofs.delivery.bring_all.Goals as goal

pub overflow_add-first : goal.overflow_add-first
overflow_add-first c = (let few = c.first_missing-first.ensures.few in let within = c.loop-packets.invariant.brought.within in omega (arith, few, within))

pub returns-in_default-clause-brought : goal.returns-in_default-clause-brought
returns-in_default-clause-brought c = (
  c.loop-packets.invariant.brought,
  none_left _ _ _ _ _ _ c.loop-packets.invariant.brought c.loop-packets.invariant.most (next_missing _ _ _ _ _ _ _ _ c.loop-packets.invariant.brought c.first_missing-first.ensures.first c.from.ensures c.in_default.ensures),
)

pub bring-requires-clause-may_come : goal.bring-requires-clause-may_come
bring-requires-clause-may_come c = may_come _ _ _ c.loop-packets.invariant.brought.of_one (next_missing _ _ _ _ _ _ _ _ c.loop-packets.invariant.brought c.first_missing-first.ensures.first c.from.ensures c.in-Some.ensures)

pub returns-in_default-bring-clause-brought : goal.returns-in_default-bring-clause-brought
returns-in_default-bring-clause-brought c = (
  brought_same _ _ _ _ _ _ _ c.loop-packets.invariant.brought c.in_default-bring.ensures.came,
  some_left _ _ _ _ _ _ _ c.loop-packets.invariant.brought c.loop-packets-test.true
      (next_missing _ _ _ _ _ _ _ _ c.loop-packets.invariant.brought c.first_missing-first.ensures.first c.from.ensures c.in-Some.ensures),
)

pub loop-packets-preserved : goal.loop-packets-preserved
loop-packets-preserved c = record {
  brought = brought_more _ _ _ _ _ _ _ _ c.loop-packets.invariant.brought
      (next_missing _ _ _ _ _ _ _ _ c.loop-packets.invariant.brought c.first_missing-first.ensures.first c.from.ensures c.in-Some.ensures) c.in-Ok.ensures.came;
  most = omega arith;
  claimed = c.in-Ok.ensures.claimed ∙ c.loop-packets.invariant.claimed;
  still = (λ none. absurd (omega (arith, none)));
}
