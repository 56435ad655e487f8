use Rattle.std.proofs.Common.{◌≡◌, Some, length, slice_get, refl, subst, arith}
use Rattle.std.proofs.lemmas.Option.{slice_get_read, slice_get_within}
use Rattle.mg_calc.specs.declared.plan_node.PlanNode.{PlanNode}
use Rattle.mg_sched.specs.Views.{NetView}
use Rattle.mg_sched.specs.Code.Tables.{IsFeederOf}
use Rattle.mg_sched.proofs.net.Net.own_feeder.Goals as goal

pub returns : goal.returns
returns g c =
    subst (λ (v : NetView). (planned : PlanNode) → slice_get v.plan.nodes c.args.node ≡ Some planned → IsFeederOf v.plan c.args.node planned c.index.result.now) c.self.view_is
    (λ planned there.
    (let within = slice_get_within c.self.inside.plan.nodes c.args.node planned there in
    let count = c.self.invariant.0.count in
    c.self.invariant.0.feeders c.args.node planned c.index.result.now there
    (slice_get_read c.self.inside.own_feeders.items (length c.self.inside.own_feeders.items) c.args.node c.index.result.now refl (omega (arith, within, count)) c.index.ensures)))
