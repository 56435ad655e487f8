use Rattle.std.proofs.Common.{ap, ◌∙◌, map}
use Rattle.std.specs.List.{list_any}
use Rattle.mg_throttle.specs.Throttle.{is_full, relaxed}
use Rattle.mg_sched.specs.Views.{NetView}
use Rattle.mg_sched.specs.Places.{with_limits}
use Rattle.mg_sched.proofs.Hearing.{relaxed_by}
use Rattle.mg_sched.proofs.net.Net.relax.Goals as goal

pub returns : goal.returns
returns g c =
    relaxed_by c.relax.result c.done_if.result c.args.self.now _ c.relax.new.self
    (c.relax.ensures.any ∙ ap (λ (v : NetView). list_any is_full v.limits.queues) c.self.view_is) c.done_if.ensures
    (ap (λ (v : NetView). with_limits v c.relax.new.self) c.self.view_is)
    (c.relax.ensures.relaxed ∙ ap (λ (v : NetView). record v.limits { queues = map relaxed v.limits.queues }) c.self.view_is)
    (λ none. c.relax.ensures.none none ∙ ap (λ (v : NetView). v.limits) c.self.view_is)
