use Rattle.std.proofs.Common.{◌<◌, sym, subst}
use Rattle.mg_sched.specs.Views.{NetView}
use Rattle.mg_sched.proofs.Holding.{Told, input_fits, held_input, free_input}
use Rattle.mg_sched.proofs.net.Net.is_held.Goals as goal

pub may_feed-requires : goal.may_feed-requires
may_feed-requires g c = subst (λ (v : NetView). c.in-Input.input < v.limits.feeders) (sym c.self.view_is) (input_fits c.args.self.now c.args.edge c.in-Input.input c.requires.stands c.requires.stream c.in-Input.ensures)

pub returns-in-Input-clause-held : goal.returns-in-Input-clause-held
returns-in-Input-clause-held g c =
    held_input c.args.self.now c.args.edge c.in-Input.input c.may_feed.result c.requires.stands c.requires.stream c.in-Input.ensures (subst (λ (v : NetView). Told v.limits c.in-Input.input c.may_feed.result) c.self.view_is c.may_feed.ensures)

pub returns-in-Input-clause-not_held : goal.returns-in-Input-clause-not_held
returns-in-Input-clause-not_held g c =
    free_input c.args.self.now c.args.edge c.in-Input.input c.may_feed.result c.requires.stands c.requires.stream c.in-Input.ensures (subst (λ (v : NetView). Told v.limits c.in-Input.input c.may_feed.result) c.self.view_is c.may_feed.ensures)
