use Rattle.std.proofs.Common.{◌<◌, sym, subst}
use Rattle.mg_sched.specs.Views.{NetView}
use Rattle.mg_sched.proofs.Finding.{found}
use Rattle.mg_sched.proofs.Holding.{Told, source_fits, held_source, free_source, no_source}
use Rattle.mg_sched.proofs.net.Net.is_held_source.Goals as goal

pub may_feed-requires : goal.may_feed-requires
may_feed-requires g c =
    let at = found c.args.self.now.plan.nodes c.args.node c.requires.there in
    subst (λ (v : NetView). c.in-Some.feeder < v.limits.feeders) (sym c.self.view_is) (source_fits c.args.self.now c.args.node c.in-Some.feeder at.0 c.requires.stands (c.in-Some.ensures at.0 at.1))

pub returns-in-Some-clause-held : goal.returns-in-Some-clause-held
returns-in-Some-clause-held g c =
    let at = found c.args.self.now.plan.nodes c.args.node c.requires.there in
    held_source c.args.self.now c.args.node c.in-Some.feeder at.0 c.may_feed.result c.requires.stands at.1 (c.in-Some.ensures at.0 at.1) (subst (λ (v : NetView). Told v.limits c.in-Some.feeder c.may_feed.result) c.self.view_is c.may_feed.ensures)

pub returns-in-Some-clause-not_held : goal.returns-in-Some-clause-not_held
returns-in-Some-clause-not_held g c =
    let at = found c.args.self.now.plan.nodes c.args.node c.requires.there in
    free_source c.args.self.now c.args.node c.in-Some.feeder at.0 c.may_feed.result c.requires.stands (c.in-Some.ensures at.0 at.1) (subst (λ (v : NetView). Told v.limits c.in-Some.feeder c.may_feed.result) c.self.view_is c.may_feed.ensures)

pub returns-in-None-clause-not_held : goal.returns-in-None-clause-not_held
returns-in-None-clause-not_held g c = λ _.
    (let at = found c.args.self.now.plan.nodes c.args.node c.requires.there in
    no_source c.args.self.now c.args.node at.0 at.1 (c.in-None.ensures at.0 at.1))
