use Rattle.mg_nets.proofs.Driving.{still_driven}
use Rattle.mg_test_nets.proofs.CarriedParts.{some_parts, still_parts, still_some}
use Rattle.mg_test_nets.proofs.driving.part_and_join.Goals as goal

pub carry-requires : goal.carry-requires
carry-requires c = let s = c.requires.stands in some_parts s.job _ _ _ _ _ c.plan.ensures (c.apart-parts.ensures.parts s.job s.stands)

pub put_together-net-requires : goal.put_together-net-requires
put_together-net-requires c =
    let s = c.requires.stands in
    still_some s.job _ _ _ _ (still_parts s.job _ _ _ _ _ _ c.plan.ensures c.carry.ensures (c.apart-parts.ensures.parts s.job s.stands))

pub returns : goal.returns
returns c =
    still_driven c.args.driver.plan c.args.driver.inputs c.args.driver.net _ c.requires c.put_together-net.ensures.running
    (λ job stands. c.put_together-net.ensures.stands job (still_parts job _ _ _ _ _ _ c.plan.ensures c.carry.ensures (c.apart-parts.ensures.parts job stands)))
