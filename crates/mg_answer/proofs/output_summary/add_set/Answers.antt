use Rattle.std.proofs.Common.{◌<◌, length, sym, ap, ◌∙◌, subst, arith, length-set}
use Rattle.std.proofs.lemmas.List.Elements.{All-from_recursion}
use Rattle.mg_answer.specs.Code.Adding.{IsWithin}
use Rattle.mg_answer.proofs.AddingSets.{added-at, added-all, set-step, added-step}
use Rattle.mg_answer.proofs.output_summary.add_set.Goals as goal

pub add-requires-clause-within : goal.add-requires-clause-within
add-requires-clause-within c =
    let there : c.loop-port.port < length c.loop-port.totals.items = omega (arith, c.loop-port-test.true, ap length c.as_slice-port-end.ensures.value, c.loop-port.invariant.ports) in
    subst (IsWithin c.args.sets) (sym c.index_mut.ensures.value)
    (added-at c.args.sets c.loop-port.port c.loop-port.totals.items _ c.loop-port.invariant.within there)

pub loop-port-preserved : goal.loop-port-preserved
loop-port-preserved c =
    let there : c.loop-port.port < length c.loop-port.totals.items = omega (arith, c.loop-port-test.true, ap length c.as_slice-port-end.ensures.value, c.loop-port.invariant.ports) in
    record {
      left = set-step c.args.totals.now.items c.loop-port.totals.items c.args.set.now c.loop-port.port _ c.index_mut.result.now c.add.new.self _ there
          c.loop-port.invariant.left c.index_mut.ensures.value c.add.ensures.total c.get.ensures;
      ports = length-set c.loop-port.totals.items c.loop-port.port c.add.new.self ∙ c.loop-port.invariant.ports;
      within = added-step c.args.sets c.loop-port.port c.loop-port.totals.items c.add.new.self c.loop-port.invariant.within there c.add.ensures.within;
    }

pub returns-clause-within : goal.returns-clause-within
returns-clause-within c =
    All-from_recursion (IsWithin _) c.loop-port.totals.items (added-all c.args.sets c.loop-port.port c.loop-port.totals.items c.loop-port.invariant.within
    (omega (arith, c.loop-port-test.false, ap length c.as_slice-port-end.ensures.value, c.loop-port.invariant.ports)))
