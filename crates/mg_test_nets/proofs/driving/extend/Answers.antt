use Rattle.mg_test_nets.proofs.Growing.{may_go_on, gone_on}
use Rattle.mg_test_nets.proofs.driving.extend.Goals as goal

pub extend-requires : goal.extend-requires
extend-requires c = record {
  may = may_go_on c.args.driver.now.plan c.args.driver.now.inputs c.args.piece.now _ c.args.driver.now.net c.requires c.in_ok-inputs.ensures;
}

pub returns : goal.returns
returns c =
    gone_on c.args.driver.now.plan c.args.driver.now.inputs c.args.piece.now _ c.args.driver.now.net _ c.requires c.in_ok-inputs.ensures c.in_ok-extend.ensures.extends c.in_ok-extend.ensures.stands
